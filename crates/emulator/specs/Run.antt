-- A run call (Manual 9.3), and lists of run calls on one machine (Manual 10.1). Assumes nothing.
use Rattle.std.specs.Prelude.{Bool, ◌&&◌, List, [], ◌∷◌, ◌++◌, ℕ, zero, suc, length, get_or, leb, Result, Ok, Err}
use Rattle.word.specs.Choice.{choose◌then◌else◌}
use Rattle.codec.specs.Number.{numbers_of, over}
use Rattle.machine.specs.Machine.{Machine, MOST_MEMORY, Memory, State}
use Rattle.machine.specs.Questions.{all_below, question3, question4, question5}
use Rattle.image.specs.Image.{LONGEST, machine_in, question2, write_image}
use Rattle.machine.specs.Apply.{Transition, stop_number}
use Rattle.step.specs.Step.{is_stop, step}
use Rattle.machine.specs.Fault.{number_of_stop}
use Rattle.machine.specs.Refusal.{number_of}
use Rattle.machine.specs.declared.refusal.Refusal.{Refusal}
use Rattle.emulator.specs.declared.Ran.{Ran}
use Rattle.emulator.specs.declared.Ending.{Ending}
use Rattle.emulator.specs.declared.Ending.TheVariants.{Limit, Stopped}

-- what each call of a list has of its own: requests, step limit and image buffer
pub record Call : Type 0 where
  pub requests : List ℕ  -- one number for each step; steps past the list have none
  pub limit : ℕ
  pub buffer : List ℕ

-- ---- the steps of a call

-- at most `limit` steps, or the steps before a stop and the stop; `done` steps of the call came before
unfoldable pub run_by : (next : State → (requests : ℕ) → Transition) (requests : List ℕ) (limit done : ℕ) → State → List Transition
run_by next requests zero done s = []
run_by next requests (suc limit) done s =
    let t = next s (get_or requests done 0) in
    let ts = run_by next requests limit (suc done) t.after in
    t ∷ (choose is_stop t.kind then [] else ts)

-- of a program
unfoldable pub run : (program requests : List ℕ) (limit done : ℕ) → State → List Transition
run program = run_by (step program)

-- steps done; the ending, 0 where the limit is reached, or the stop's number; the state that is left
pub record RunResult : Type 0 where
  pub steps : ℕ
  pub ending : ℕ
  pub after : State

-- where transitions lead: a stop is not a step
unfoldable pub result_of : (done : ℕ) → State → List Transition → RunResult
result_of done s [] = record { steps = done; ending = 0; after = s }
result_of done s (t ∷ ts) =
    let rest = result_of (suc done) t.after ts in
    choose is_stop t.kind then record { steps = done; ending = stop_number t.kind; after = t.after } else rest

-- how a call ends that has done `done` steps and may do `left` more
unfoldable pub result_from : (program requests : List ℕ) (left done : ℕ) → State → RunResult
result_from program requests left done s = result_of done s (run program requests left done s)

-- ---- the questions, asked in order: the first no decides (Manual 9.1, 9.2)

-- the largest step limit
abbrev pub MOST_STEPS : ℕ
MOST_STEPS = 1000000

-- the answers to the eight questions, in order; cells is the number of data cells, room the bytes of the image buffer
unfoldable pub answers : (programBytes cells : ℕ) (image requests : List ℕ) (limit room : ℕ) → List Bool
answers programBytes cells image requests limit room =
    let m = machine_in (numbers_of image) in
    (leb programBytes MOST_MEMORY && leb cells MOST_MEMORY) ∷  -- 1
    question2 image ∷
    question3 m ∷
    question4 m ∷
    question5 m ∷
    all_below 0x1000 requests ∷  -- 6
    leb limit MOST_STEPS ∷  -- 7
    leb LONGEST room ∷  -- 8
    []

-- those to 6 to 8 alone
abbrev pub call_answers : (requests : List ℕ) (limit room : ℕ) → List Bool
call_answers requests limit room = all_below 0x1000 requests ∷ leb limit MOST_STEPS ∷ leb LONGEST room ∷ []

-- the number of the first no, the questions being numbered from n on; 0 where there is none
unfoldable pub first_no : (n : ℕ) → List Bool → ℕ
first_no n [] = 0
first_no n (a ∷ rest) = choose a then first_no (suc n) rest else n

-- that number, or the machine that the call starts with
pub data Asked : Type 0 where
  No : ℕ → Asked
  Start : Machine → Asked

-- what the first no says of a machine that was read: 0 starts with it
unfoldable pub asked_by : (no : ℕ) → Machine → Asked
asked_by zero m = Start m
asked_by (suc n) m = No (suc n)

unfoldable pub ask : (programBytes cells : ℕ) (image requests : List ℕ) (limit room : ℕ) → Asked
ask programBytes cells image requests limit room = asked_by (first_no 1 (answers programBytes cells image requests limit room)) (machine_in (numbers_of image))

-- the same of a call
unfoldable pub asked : (program image : List ℕ) → Memory → Call → Asked
asked program image memory c = ask (length program) (length memory.cells) image c.requests c.limit (length c.buffer)

-- ---- the call

-- what a call answers, in numbers
pub data Reply : Type 0 where
  RefusedWith : (number : ℕ) → Reply  -- that of the first no, 1 to 8
  RanFor : (steps ending : ℕ) → Reply  -- the ending is 0 where the limit is reached, or the stop's number

-- the number of what ended the steps: 0 for the limit, or the stop's
abbrev pub ending_number : Ending → ℕ
ending_number Limit = 0
ending_number (Stopped stop) = number_of_stop stop

-- the same by the steps that were done, and by a function's answer
abbrev pub reply_to : Ran → Reply
reply_to ran = RanFor ran.steps (ending_number ran.ending)

abbrev pub reply_of : Result Ran Refusal → Reply
reply_of (Ok ran) = reply_to ran
reply_of (Err why) = RefusedWith (number_of why)

-- the answer that the steps of a call give, and the state that they leave
pub record RunEnd : Type 0 where
  pub answer : Reply
  pub after : State

abbrev pub run_end : Reply → State → RunEnd
run_end answer after = record { answer = answer; after = after }

abbrev pub end_of : RunResult → RunEnd
end_of e = run_end (RanFor e.steps e.ending) e.after

-- the answer, and the caller's buffer and memory after the call
pub record Outcome : Type 0 where
  pub answer : Reply
  pub buffer : List ℕ
  pub memory : Memory

abbrev pub outcome : Reply → (buffer : List ℕ) → Memory → Outcome
outcome answer buffer memory = record { answer = answer; buffer = buffer; memory = memory }

-- the same with what a list of calls goes on with
pub record Called : Type 0 where
  pub outcome : Outcome
  pub image : List ℕ  -- the image that the call left; after a refusal, the one that it got
  pub transitions : List Transition

abbrev pub state_with : Machine → Memory → State
state_with m memory = record { machine = m; memory = memory }

-- a refusal changes none of the caller's memory; otherwise the image is at the buffer's front, and the bytes behind it keep their values
unfoldable pub called_by : (program image : List ℕ) → Memory → Call → Asked → Called
called_by program image memory c (No n) = record { outcome = outcome (RefusedWith n) c.buffer memory; image = image; transitions = [] }
called_by program image memory c (Start m) =
    let s = state_with m memory in
    let e = result_from program c.requests c.limit 0 s in
    let left = write_image e.after.machine in
    record {
      outcome = outcome (RanFor e.steps e.ending) (over left c.buffer) e.after.memory;
      image = left;
      transitions = run program c.requests c.limit 0 s;
    }

unfoldable pub called : (program image : List ℕ) → Memory → Call → Called
called program image memory c = called_by program image memory c (asked program image memory c)

-- what the run call gives
unfoldable pub run_call : (program image : List ℕ) → Memory → Call → Outcome
run_call program image memory c = (called program image memory c).outcome

-- ---- lists of calls

-- the transitions, steps and stops, of the calls of a list, in order; each later call gets the same program, and the image and the memory that the one
-- before it left
unfoldable pub transitions : (program image : List ℕ) → Memory → List Call → List Transition
transitions program image memory [] = []
transitions program image memory (c ∷ cs) =
    let d = called program image memory c in
    d.transitions ++ transitions program d.image d.outcome.memory cs

-- to unfold all of these
unfoldable pub running : Unit {0}
unfolding run_by run result_of result_from answers first_no asked_by ask asked called_by called run_call transitions
running = tt
