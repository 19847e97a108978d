-- Which calls are refused, with which number, and which are not (Manual 9.1, 9.2). Assumes nothing.
use Rattle.std.specs.Prelude.{◌≡◌, Bool, true, false, ◌↔◌, List, ℕ, ◌-◌, ◌≤◌, ◌<◌, length, get_or}
use Rattle.machine.specs.Machine.{Machine, MOST_MEMORY, Memory}
use Rattle.machine.specs.Questions.{Accepted}
use Rattle.image.specs.Image.{LONGEST, read_image}
use Rattle.emulator.specs.Run.{Call, MOST_STEPS, answers, No, Start, asked}

-- the answer to question n, from 1 on
abbrev pub answer_to : (n : ℕ) → List Bool → Bool
answer_to n given = get_or given (n - 1) true

-- question n, of 1 to 8, is the first that is answered no
pub record FirstNoAt (given : List Bool) (n : ℕ) : Type 0 where
  pub least : 1 ≤ n
  pub most : n ≤ 8
  pub before : (k : ℕ) → 1 ≤ k → k < n → answer_to k given ≡ true
  pub no : answer_to n given ≡ false

-- a call is refused with n just where that is so
unfoldable pub FirstNo : Type 0
FirstNo =
    (program image : List ℕ) (memory : Memory) (c : Call) (n : ℕ)
    → (asked program image memory c ≡ No n) ↔ FirstNoAt (answers (length program) (length memory.cells) image c.requests c.limit (length c.buffer)) n

-- the eight questions are all answered yes
pub record AllYes (program image : List ℕ) (memory : Memory) (c : Call) (m : Machine) : Type 0 where
  pub program_size : length program ≤ MOST_MEMORY
  pub data_size : length memory.cells ≤ MOST_MEMORY
  pub read : read_image image ≡ Accepted m  -- 2 to 5
  pub requests : (i : ℕ) → get_or c.requests i 0 ≤ 0xFFF
  pub limit : c.limit ≤ MOST_STEPS
  pub room : LONGEST ≤ length c.buffer

-- just such a call is not refused
unfoldable pub Questions : Type 0
Questions = (program image : List ℕ) (memory : Memory) (c : Call) (m : Machine) → (asked program image memory c ≡ Start m) ↔ AllYes program image memory c m

-- to unfold both
unfoldable pub asking : Unit {0}
unfolding FirstNo Questions
asking = tt
