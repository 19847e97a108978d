-- Laws of the report. Assumes nothing.
use mathlib.Core.Path.{◌≡◌, sym, ap, ◌∙◌}
use mathlib.Core.Logic.{inl}
use mathlib.Core.List.{List, [], ◌++◌}
use Prim.Native.Nat.{ℕ, ◌≤◌, ◌<◌}
use native.Mathlib.Omega.{arith}
use lib.ListN.{length, take, drop, replicate, get_or-append}
use lib.Seq.{length-take-le, take_all}
use lib.Dec.{leb, lit≤}
use borrow.Author.Tests.{leb-true, leb-false, lt-leb}
use Rattle.word.specs.Choice.{choose◌then◌else◌}
use Rattle.word.proofs.Tests.{either}
use Rattle.codec.specs.Number.{numbers_of, over}
use Rattle.codec.proofs.Laws.{numbers_of_bytes_of, numbers_of_append}
use Rattle.machine.specs.Machine.{Machine, Memory}
use Rattle.machine.specs.Control.{reset}
use Rattle.machine.specs.Questions.{all_below}
use Rattle.image.specs.Image.{image_numbers, write_image, POSITION_AT, LONGEST, machine_in}
use Rattle.machine.proofs.Formed.{WellFormed, formed_counts, reset_formed}
use Rattle.image.proofs.Sections.{machine_in_image_numbers, length_image_numbers}
use Rattle.image.proofs.Image.{image_length, image_numbers_below, reset_accepted}
use Rattle.emulator.specs.Run.{MOST_STEPS, first_no, asked_by, Reply, RefusedWith, Outcome, outcome, run_call, state_with, result_from}
use Rattle.emulator.specs.Questions.{AllYes, Questions}
use Rattle.emulator.proofs.Questions.{questions}
use Rattle.emulator.proofs.Asked.{sizes_no, past_accepted}
use Rattle.emulator.proofs.Closed.{result_formed}
use Rattle.emulator.proofs.Answers.{call_refused, call_started}
use Rattle.console.specs.Digits.{digit_of, digits_of, places_from}
use Rattle.console.specs.Limit.{bad_limit, limit_number}
use Rattle.console.specs.Line.{ran_text, refusal_text}
use Rattle.std.specs.Option.{unwrap_or}
use Rattle.console.proofs.Limits.{limit_front}
use Rattle.runner.proofs.Buffers.{pc_at}
use Rattle.runner.specs.Report.{zero_memory, pc_of, answer_text, call_of, outcome_of, report_of}
use Rattle.runner.specs.Reports.{ReportLong, ReportUnlimited, ReportRan, ReportFronts}

-- ---- the report is that of a run call

-- what a run call from reset answers and leaves is what is reported
pub report_is : (code text image : List ℕ) (limit : ℕ) (a : Reply) (buffer : List ℕ) (memory : Memory) → image ≡ write_image reset → limit ≡ limit_number text
    → outcome a buffer memory ≡ run_call code image zero_memory (record { requests = []; limit = limit; buffer = replicate LONGEST 0 })
    → answer_text a buffer ≡ report_of code text
unfolding call_of outcome_of report_of
report_is code text image limit a buffer memory i l e =
    let o : outcome a buffer memory ≡ outcome_of code text = e ∙ rw (i, l) in
    ap (λ (x : Outcome). answer_text x.answer x.buffer) o

-- limit.txt counts by the limit that it says
report_by_limit : (code text other : List ℕ) → limit_number text ≡ limit_number other → report_of code text ≡ report_of code other
unfolding call_of outcome_of report_of
report_by_limit code text other e = rw e

-- ---- refusals

report_refused : (code text : List ℕ) (n : ℕ) → outcome (RefusedWith n) (replicate LONGEST 0) zero_memory ≡ run_call code (write_image reset) zero_memory (call_of text)
    → report_of code text ≡ refusal_text n
unfolding report_of outcome_of answer_text
report_refused code text n e = ap (λ (o : Outcome). answer_text o.answer o.buffer) (sym e)

pub report_long : ReportLong
unfolding ReportLong call_of refusal_text digits_of digit_of places_from
report_long code text h =
    report_refused code text 1 (sizes_no code zero_memory.cells (write_image reset) [] (limit_number text) (replicate LONGEST 0) (inl h))

pub report_unlimited : ReportUnlimited
unfolding ReportUnlimited call_of first_no asked_by all_below choose◌then◌else◌ refusal_text digits_of digit_of places_from
report_unlimited code text h l =
    let a = past_accepted code zero_memory.cells (write_image reset) [] (limit_number text) (replicate LONGEST 0) h (lit≤ tt) reset reset_accepted in
    report_refused code text 7 (sym (call_refused code (write_image reset) zero_memory (call_of text) 7 (a ∙ rw (lt-leb (limit_number text) MOST_STEPS l))))

-- ---- a call that runs

module _ (m : Machine) (s : List ℕ) (f : WellFormed m) where
  abbrev further : List ℕ
  further = numbers_of (drop (length (write_image m)) s)

  numbers_front : numbers_of (over (write_image m) s) ≡ image_numbers m ++ further
  unfolding write_image
  numbers_front =
      numbers_of_append (write_image m) (drop (length (write_image m)) s) (omega (arith, image_length (formed_counts f)))
      ∙ ap (λ l. l ++ further) (numbers_of_bytes_of (image_numbers m) (image_numbers_below f))

  pc_of_image : pc_of (over (write_image m) s) ≡ m.position.pc
  unfolding pc_of
  pc_of_image =
      let c = formed_counts f in
      ap (λ l. (machine_in l).position.pc) numbers_front
      ∙ pc_at (image_numbers m ++ further)
      ∙ get_or-append (image_numbers m) further 0 POSITION_AT (omega (arith, length_image_numbers m c))
      ∙ sym (pc_at (image_numbers m))
      ∙ ap (λ (x : Machine). x.position.pc) (machine_in_image_numbers m c)

all_yes : (code text : List ℕ) → length code ≤ 65536 → limit_number text ≤ 1000000 → AllYes code (write_image reset) zero_memory (call_of text) reset
unfolding call_of
all_yes code text h l = record { program_size = h; data_size = lit≤ tt; read = reset_accepted; requests = λ i. lit≤ tt; limit = l; room = lit≤ tt }

pub report_ran : ReportRan
unfolding ReportRan report_of outcome_of call_of answer_text Questions
report_ran code text h l =
    let e = result_from code [] (limit_number text) 0 (state_with reset zero_memory) in
    let a = (questions code (write_image reset) zero_memory (call_of text) reset).1 (all_yes code text h l) in
    let o = call_started code (write_image reset) zero_memory (call_of text) reset a in
    ap (λ (x : Outcome). answer_text x.answer x.buffer) o
    ∙ ap (ran_text e.steps e.ending) (pc_of_image e.after.machine (replicate LONGEST 0) (result_formed code [] (limit_number text) (state_with reset zero_memory) reset_formed))

-- ---- the bytes that are read

pub report_fronts : ReportFronts
unfolding ReportFronts ReportLong
report_fronts code text =
    either (leb (length code) 65536)
    (λ e. ap (λ (x : List ℕ). report_of x (take 16 text)) (take_all 65537 code (omega (arith, leb-true (length code) 65536 e))) ∙ report_by_limit code (take 16 text) text (ap (λ o. unwrap_or o bad_limit) (limit_front text 16 (lit≤ tt))))
    (λ e.
    let m : 65536 < length code = leb-false (length code) 65536 e in
    report_long (take 65537 code) (take 16 text) (omega (arith, length-take-le 65537 code m)) ∙ sym (report_long code text m))
