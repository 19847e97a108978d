-- The questions of a call as its code asks them, one by one. Assumes nothing.
use mathlib.Core.Path.{◌≡◌, refl, sym, ap, ◌∙◌}
use mathlib.Core.Bool.{Bool, true, false}
use mathlib.Core.List.{List, ◌++◌}
use mathlib.Core.Logic.{◌⊎◌, inl, inr}
use Prim.Native.Nat.{ℕ, ◌≤◌, ◌<◌}
use native.Mathlib.Omega.{arith}
use lib.ListN.{length}
use borrow.Author.Tests.{le-leb, lt-leb}
use Rattle.word.specs.Choice.{choose◌then◌else◌}
use Rattle.codec.specs.Number.{over}
use Rattle.machine.specs.Machine.{Machine, MOST_MEMORY, Memory, memory_of, state_of}
use Rattle.machine.specs.Questions.{Accepted, ask_machine, read_by, well_formed}
use Rattle.machine.specs.Refusal.{number_of}
use Rattle.machine.specs.declared.refusal.Refusal.{Refusal}
use Rattle.machine.specs.declared.refusal.Refusal.TheVariants as refusal
use Rattle.machine.proofs.Tests.{Passed, no_more, ◌also◌}
use Rattle.machine.proofs.Formed.{formed_true, stacked_depth}
use Rattle.image.specs.Image.{image_bytes, question2, read_where, read_image, write_image}
use Rattle.image.proofs.Image.{accepted_formed, room_enough}
use Rattle.emulator.specs.Run.{Call, answers, call_answers, first_no, Start, asked_by, ask, asked, Reply, RefusedWith, RunEnd, run_end, end_of, result_from, outcome, run_call}
use Rattle.emulator.specs.Questions.{AllYes}
use Rattle.emulator.proofs.Questions.{none_passed, first_among, asked_no, asked_yes, said, of_image, read_says}
use Rattle.emulator.proofs.Closed.{result_formed}
use Rattle.emulator.proofs.Answers.{call_refused, call_started}

-- a refusal has a number
pub refused : (why : Refusal) → number_of why ≡ 0 → ⊥
refused refusal.MemoryTooLong e = omega arith
refused refusal.NotAnImage e = omega arith
refused refusal.NumberUnfit e = omega arith
refused refusal.ModeUnfit e = omega arith
refused refusal.StackUnfit e = omega arith
refused refusal.RequestUnfit e = omega arith
refused refusal.LimitTooLarge e = omega arith
refused refusal.BufferTooShort e = omega arith
refused refusal.PartOfWord e = omega arith
refused refusal.TextTooShort e = omega arith
refused refusal.FormUnknown e = omega arith
refused refusal.OperandUnfit e = omega arith
refused refusal.StartUnfit e = omega arith
refused refusal.MapTooShort e = omega arith

-- where 2 to 5 are yes, those after them decide
past_five : (image : List ℕ) (cs : List Bool) → Passed (of_image image) → first_no 2 (of_image image ++ cs) ≡ first_no 6 cs
unfolding first_no choose◌then◌else◌
past_five image cs (two also three also four also five also no_more) = rw (two, three, four, five)

module _ (p cells image requests : List ℕ) (limit : ℕ) (buffer : List ℕ) where
  abbrev call : Call
  call = record { requests = requests; limit = limit; buffer = buffer }

  abbrev of_call : List Bool
  of_call = call_answers requests limit (length buffer)

  -- a call whose first no has a number is refused with it
  refuses : (n : ℕ) (m : Machine) → (n ≡ 0 → ⊥) → asked p image (memory_of cells) call ≡ asked_by n m
      → outcome (RefusedWith n) buffer (memory_of cells) ≡ run_call p image (memory_of cells) call
  refuses n m z e = sym (call_refused p image (memory_of cells) call n (e ∙ asked_no n m z))

  -- 1
  pub sizes_no : (MOST_MEMORY < length p) ⊎ (length p ≤ MOST_MEMORY × MOST_MEMORY < length cells)
      → outcome (RefusedWith 1) buffer (memory_of cells) ≡ run_call p image (memory_of cells) call
  unfolding asked ask answers first_no choose◌then◌else◌
  sizes_no (inl h) = refuses 1 (said image) (λ z. omega arith) (rw (lt-leb (length p) MOST_MEMORY h))
  sizes_no (inr h) = refuses 1 (said image) (λ z. omega arith) (rw (le-leb (length p) MOST_MEMORY h.0, lt-leb (length cells) MOST_MEMORY h.1))

  module _ (a : length p ≤ MOST_MEMORY) (b : length cells ≤ MOST_MEMORY) where
    past_sizes : asked p image (memory_of cells) call ≡ asked_by (first_no 2 (of_image image ++ of_call)) (said image)
    unfolding asked ask answers first_no choose◌then◌else◌
    past_sizes = rw (le-leb (length p) MOST_MEMORY a, le-leb (length cells) MOST_MEMORY b)

    -- 2
    pub sections_no : question2 image ≡ false → outcome (RefusedWith 2) buffer (memory_of cells) ≡ run_call p image (memory_of cells) call
    unfolding first_no choose◌then◌else◌
    sections_no e = refuses 2 (said image) (λ z. omega arith) (past_sizes ∙ rw e)

    -- where 2 to 5 are yes, 6 to 8 decide
    pub past_accepted : (m : Machine) → read_image image ≡ Accepted m → asked p image (memory_of cells) call ≡ asked_by (first_no 6 of_call) m
    unfolding read_by
    past_accepted m e =
        let r = read_says image 0 m (sym e) in
        past_sizes ∙ rw (past_five image of_call (none_passed 1 (of_image image) (sym r.0)), sym (r.1 refl))

    module _ (m : Machine) (q : question2 image ≡ true) (same : m ≡ said image) where
      read_as : (n : ℕ) → read_by n m ≡ ask_machine m → read_by n m ≡ read_image image
      unfolding read_where choose◌then◌else◌
      read_as n e = e ∙ rw (q, same)

      -- 3 to 5
      pub machine_no : (why : Refusal) → read_by (number_of why) m ≡ ask_machine m
          → outcome (RefusedWith (number_of why)) buffer (memory_of cells) ≡ run_call p image (memory_of cells) call
      machine_no why e =
          let n = number_of why in
          let k : n ≡ first_no 2 (of_image image) = (read_says image n m (read_as n e)).0 in
          let f : first_no 2 (of_image image ++ of_call) ≡ n = first_among 2 (of_image image) of_call (λ y. refused why (k ∙ y)) ∙ sym k in
          refuses n (said image) (refused why) (past_sizes ∙ ap (λ (x : ℕ). asked_by x (said image)) f)

      module _ (e : read_by 0 m ≡ ask_machine m) where
        past_machine : asked p image (memory_of cells) call ≡ asked_by (first_no 6 of_call) m
        unfolding read_by
        past_machine = past_accepted m (sym (read_as 0 e))

        -- 6 to 8
        pub call_no : (why : Refusal) → number_of why ≡ first_no 6 of_call
            → outcome (RefusedWith (number_of why)) buffer (memory_of cells) ≡ run_call p image (memory_of cells) call
        call_no why f = refuses (number_of why) m (refused why) (past_machine ∙ ap (λ (x : ℕ). asked_by x m) (sym f))

        -- none: the call starts with the machine
        module _ (f : 0 ≡ first_no 6 of_call) where
          started : asked p image (memory_of cells) call ≡ Start m
          unfolding asked_by
          started = past_machine ∙ ap (λ (x : ℕ). asked_by x m) (sym f)

          yes : AllYes p image (memory_of cells) call m
          yes = asked_yes p image (memory_of cells) call m started

          pub run_formed : well_formed m ≡ true
          run_formed = formed_true (accepted_formed image m yes.read)

          -- the answer of its steps, and the machine and the memory after them
          module _ (r : Reply) (m₁ : Machine) (d₁ : Memory) (s : run_end r (state_of m₁ d₁) ≡ end_of (result_from p requests limit 0 (state_of m (memory_of cells)))) where
            -- there is room for its image
            pub run_fits : image_bytes (length m₁.stack) ≤ length buffer
            run_fits =
                let formed = result_formed p requests limit (state_of m (memory_of cells)) (accepted_formed image m yes.read) in
                let left : m₁ ≡ (result_from p requests limit 0 (state_of m (memory_of cells))).after.machine = ap (λ (e : RunEnd). e.after.machine) s in
                room_enough (rw left (stacked_depth formed.stack)) yes.room

            pub run_ran : (after : List ℕ) → after ≡ over (write_image m₁) buffer → outcome r after d₁ ≡ run_call p image (memory_of cells) call
            run_ran after w =
                rw w (ap (λ (e : RunEnd). outcome e.answer (over (write_image e.after.machine) buffer) e.after.memory) s)
                ∙ sym (call_started p image (memory_of cells) call m started)
