-- Images of the earlier layout carried over. Assumes nothing.
use mathlib.Core.Path.{◌≡◌, refl, sym, ap, ◌∙◌}
use mathlib.Core.Bool.{true, false}
use mathlib.Core.List.{List}
use Prim.Native.Nat.{ℕ, zero, suc, ◌≤◌, ◌<◌}
use native.Mathlib.Omega.{arith}
use lib.ListN.{length}
use lib.Dec.{leb, lit≤}
use borrow.Author.Tests.{leb-true, leb-false}
use Rattle.word.specs.Choice.{choose◌then◌else◌}
use Rattle.word.proofs.Tests.{either}
use Rattle.codec.specs.Number.{numbers_of, over}
use Rattle.machine.specs.Machine.{Machine}
use Rattle.machine.specs.Words.{SOURCES, ZEROS}
use Rattle.machine.specs.Questions.{Accepted, ask_machine, read_by}
use Rattle.machine.specs.Refusal.{number_of}
use Rattle.machine.specs.declared.refusal.Refusal.{Refusal}
use Rattle.image.specs.Image.{LONGEST, read_where}
use Rattle.image.specs.Earlier.{earlier_in, earlier2, read_earlier}
use Rattle.image.proofs.Sections.{depth_machine_with}
use Rattle.image.proofs.Image.{earlier_sections, earlier_extended}
use Rattle.emulator.specs.Outcome.{image_outcome, image_call}
use Rattle.emulator.specs.Run.{first_no}
use Rattle.emulator.specs.CarryOver.{carried_by, carry_over_call, earlier_answers, CarriedAs, not_read, no_room, written, CarryAnswers, Carried}
use Rattle.emulator.proofs.Outcomes.{room_none, room_there}
use Rattle.emulator.proofs.Asked.{refused}
use Rattle.emulator.proofs.Questions.{of_read, read_first, first_after, number_first}

-- ---- the call as its code asks it

module _ (image buffer : List ℕ) where
  -- 2
  pub carried_2 : earlier2 image ≡ false → image_outcome 2 buffer ≡ carry_over_call image buffer
  unfolding carry_over_call carried_by read_where choose◌then◌else◌
  carried_2 e = rw e

  carried_accepted : (m : Machine) → Accepted m ≡ read_earlier image → image_call m buffer ≡ carry_over_call image buffer
  unfolding carry_over_call carried_by
  carried_accepted m e = rw (← e)

  -- 3 to 5, of the machine that was read
  module _ (m : Machine) (q : earlier2 image ≡ true) (same : m ≡ earlier_in (numbers_of image)) where
    read_as : (n : ℕ) → read_by n m ≡ ask_machine m → read_by n m ≡ read_earlier image
    unfolding read_where choose◌then◌else◌
    read_as n e = e ∙ rw (q, same)

    pub carried_no : (why : Refusal) → read_by (number_of why) m ≡ ask_machine m → image_outcome (number_of why) buffer ≡ carry_over_call image buffer
    unfolding carry_over_call carried_by read_by
    carried_no why e = go (number_of why) (refused why) e
      where
        go : (n : ℕ) → (n ≡ 0 → ⊥) → read_by n m ≡ ask_machine m → image_outcome n buffer ≡ carry_over_call image buffer
        go zero z e = absurd (z refl)
        go (suc n) z e = rw (← read_as (suc n) e)

    module _ (e : read_by 0 m ≡ ask_machine m) where
      pub carried_yes : image_call m buffer ≡ carry_over_call image buffer
      unfolding read_by
      carried_yes = carried_accepted m (read_as 0 e)

      -- its image fits a buffer for the longest
      pub carried_deep : length m.stack ≤ SOURCES
      unfolding earlier_in
      carried_deep = rw same (omega (arith, (earlier_sections image q).deep, depth_machine_with ZEROS (numbers_of image)))

-- ---- what it answers

-- where nothing of 2 to 5 is answered no, 8 decides
room_asked : (image buffer : List ℕ) (m : Machine) → read_earlier image ≡ Accepted m → CarriedAs image buffer (image_call m buffer)
room_asked image buffer m e =
    either (leb LONGEST (length buffer))
    (λ h. let l : LONGEST ≤ length buffer = leb-true LONGEST (length buffer) h in rw (← room_there m buffer l) (written m e l))
    (λ h. let l : length buffer < LONGEST = leb-false LONGEST (length buffer) h in rw (← room_none m buffer l) (no_room m e l))

pub carry_answers : CarryAnswers
unfolding carry_over_call carried_by read_by first_no choose◌then◌else◌
carry_answers image buffer = rw (read_first (earlier2 image) m) (go (first_no 2 (of_read (earlier2 image) m)) refl)
  where
    m : Machine
    m = earlier_in (numbers_of image)

    go : (k : ℕ) → first_no 2 (of_read (earlier2 image) m) ≡ k → CarriedAs image buffer (carried_by (read_by k m) buffer)
    go zero e = room_asked image buffer m (read_first (earlier2 image) m ∙ ap (λ (k : ℕ). read_by k m) e)
    go (suc x) e =
        let r = first_after 1 (of_read (earlier2 image) m) x e in
        not_read (suc x) (omega (arith, r.1)) (omega (arith, r.1, r.2)) (number_first (earlier_answers image) (lit≤ tt) (suc x) e (omega arith))

pub carried : Carried
unfolding read_by
carried image buffer m b e h =
    let x = earlier_extended image m b e in (
      sym (carried_accepted image buffer m (sym e)) ∙ sym (room_there m buffer h) ∙ ap (λ (l : List ℕ). image_outcome 0 (over l buffer)) x.bytes,
      x,
    )
