-- What a call leaves: of lists of calls on one machine, and of one call's answer and buffer (Manual 9.3). Assumes nothing.
use Rattle.std.specs.Prelude.{◌≡◌, true, List, [], ◌∷◌, ℕ, suc, ◌≤◌, ◌<◌, length, get_or}
use Rattle.std.proofs.Math.ListN.{get_elem?}
use Rattle.word.specs.Flags.{is_among}
use Rattle.machine.specs.Machine.{Machine, Memory, State}
use Rattle.machine.specs.Questions.{Accepted}
use Rattle.image.specs.Image.{read_image}
use Rattle.machine.specs.Kind.{STOPS}
use Rattle.machine.specs.Apply.{Transition}
use Rattle.step.specs.Step.{is_stop, step}
use Rattle.emulator.specs.Run.{Call, No, Start, asked, RefusedWith, RanFor, state_with, Called, called, transitions}

-- the state after all of these
unfoldable pub final : State → List Transition → State
final s [] = s
final s (t ∷ ts) = final t.after ts

-- each transition is a step, or a stop, of the state after the one before it
unfoldable pub Steps : (program : List ℕ) → State → List Transition → Type 0
Steps program s [] = Unit {0}
Steps program s (t ∷ ts) = (requests : ℕ) × (t ≡ step program s requests) × Steps program t.after ts

-- a stop is not a step: everything, requests included, is as before it (Manual 4.10)
unfoldable pub StopChangesNothing : Type 0
StopChangesNothing = (program : List ℕ) (s : State) (requests : ℕ) → is_stop (step program s requests).kind ≡ true → (step program s requests).after ≡ s

-- a call leaves what its last transition left: its image is one for which questions 2 to 5 are all yes, and says the machine after that transition;
-- the data memory is the one after it
pub record Left (start : State) (d : Called) : Type 0 where
  pub machine : read_image d.image ≡ Accepted (final start d.transitions).machine
  pub memory : d.outcome.memory ≡ (final start d.transitions).memory

-- of every call, refused or not, on an image for which questions 2 to 5 are all yes
unfoldable pub Closure : Type 0
Closure =
    (program image : List ℕ) (memory : Memory) (c : Call) (m : Machine) → read_image image ≡ Accepted m
    → Left (state_with m memory) (called program image memory c)

-- the transitions of a list of calls, refused ones anywhere in it, are steps and stops of one machine
unfoldable pub Continuity : Type 0
Continuity =
    (program image : List ℕ) (memory : Memory) (calls : List Call) (m : Machine) → read_image image ≡ Accepted m
    → Steps program (state_with m memory) (transitions program image memory calls)

-- ---- the answer and the caller's memory

-- a refused call answers the number of the first no, does no step, and changes none of the caller's memory (Manual 9.1)
pub record Unchanged (image : List ℕ) (memory : Memory) (c : Call) (n : ℕ) (d : Called) : Type 0 where
  pub least : 1 ≤ n
  pub most : n ≤ 8
  pub answer : d.outcome.answer ≡ RefusedWith n
  pub same_buffer : d.outcome.buffer ≡ c.buffer
  pub same_memory : d.outcome.memory ≡ memory
  pub same_image : d.image ≡ image
  pub no_steps : d.transitions ≡ []

unfoldable pub Refusals : Type 0
Refusals =
    (program image : List ℕ) (memory : Memory) (c : Call) (n : ℕ) → asked program image memory c ≡ No n
    → Unchanged image memory c n (called program image memory c)

-- the image is at the buffer's front, and the bytes behind it keep their values
pub record Written (image before after : List ℕ) : Type 0 where
  pub size : length after ≡ length before
  pub front : (i : ℕ) → i < length image → get_elem? after i ≡ get_elem? image i
  pub further : (i : ℕ) → length image ≤ i → get_elem? after i ≡ get_elem? before i

-- steps done and ending, 0 where the limit is reached, or the stop's number (Manual 4.10), of so many transitions: the last one is the stop, if there
-- is one
pub data Ended (limit steps ending count : ℕ) : Type 0 where
  limit_reached : steps ≡ limit → count ≡ limit → ending ≡ 0 → Ended limit steps ending count
  stopped : steps < limit → count ≡ suc steps → is_among ending STOPS ≡ true → Ended limit steps ending count

-- the answer's numbers, the image in the buffer; and that image and the data memory are those after the last of the call's steps
pub record RanAs (program : List ℕ) (start : State) (c : Call) (d : Called) : Type 0 where
  pub steps : ℕ
  pub ending : ℕ
  pub answer : d.outcome.answer ≡ RanFor steps ending
  pub ended : Ended c.limit steps ending (length d.transitions)
  pub written : Written d.image c.buffer d.outcome.buffer
  pub stepped : Steps program start d.transitions
  pub left : Left start d

-- of every call that is not refused
unfoldable pub Completed : Type 0
Completed =
    (program image : List ℕ) (memory : Memory) (c : Call) (m : Machine) → asked program image memory c ≡ Start m
    → RanAs program (state_with m memory) c (called program image memory c)

-- with limit 0 no step is done, and the image is the same
pub record NoStep (image : List ℕ) (memory : Memory) (d : Called) : Type 0 where
  pub no_steps : d.transitions ≡ []
  pub same_image : d.image ≡ image
  pub same_memory : d.outcome.memory ≡ memory

unfoldable pub LimitZero : Type 0
LimitZero =
    (program image : List ℕ) (memory : Memory) (c : Call) (m : Machine) → ((i : ℕ) → get_or image i 0 < 256) → asked program image memory c ≡ Start m
    → c.limit ≡ 0 → NoStep image memory (called program image memory c)

-- to unfold all of these
unfoldable pub closing : Unit {0}
unfolding final Steps StopChangesNothing Closure Continuity Refusals Completed LimitZero
closing = tt
