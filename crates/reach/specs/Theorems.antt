-- What is proved of reachable code: the statements, each with the rule that it says (Manual 13). Assumes nothing.
use Rattle.std.specs.Prelude.{◌≡◌, ◌≢◌, ◌↔◌, Bool, not, ◌&&◌, ◌||◌, List, ℕ, ◌+◌, ◌%◌, ◌≤◌, ◌<◌, eqb, length, get_or, drop}
use Rattle.word.specs.Choice.{choose◌then◌else◌}
use Rattle.isa.specs.declared.width.Width.{Width}
use Rattle.isa.specs.Operation.{operation_of, properties}
use Rattle.isa.specs.Theorems.{between}
use Rattle.isa.specs.Decode.{word_bytes}
use Rattle.machine.specs.Machine.{MOST_MEMORY}
use Rattle.reach.specs.Successors.{falls_through, has_target, resume_words, slot_words, successors}
use Rattle.reach.specs.Reachable.{Reachable}
use Rattle.reach.specs.Search.{searched}
use Rattle.reach.specs.Call.{mapped, reach_call}

-- ---- the operations, all at once

-- a word leads to the next one, by the operations' numbers: never after jmp and jal (36, 37), retu and reti (49, 50), swm and trap (54, 55), and after
-- jmpr, jalr and scall (38, 39, 48) where they have a condition
abbrev pub falls_through_by : (conditional : Bool) (n : ℕ) → Bool
falls_through_by conditional n = not ((between 36 37 n || between 49 50 n) || between 54 55 n) && (conditional || not (between 38 39 n || eqb n 48))

abbrev pub FallsThroughIs : Type 0
FallsThroughIs = (conditional : Bool) (n : ℕ) → falls_through (properties (operation_of n)).flow conditional ≡ falls_through_by conditional n

-- jmp, jal and the branches (40 to 47) lead to their target
abbrev pub TargetIs : Type 0
TargetIs = (n : ℕ) → has_target (properties (operation_of n)).flow ≡ between 36 37 n || between 40 47 n

-- jal and jalr lead to the word after the slot, scall to the word after its nop, a swm that keeps the width to the word three later
abbrev pub resume_by : (keeps : Bool) (n : ℕ) → ℕ
resume_by keeps n = choose (eqb n 37 || eqb n 39) || eqb n 48 then 2 else choose eqb n 54 && keeps then 3 else 0

abbrev pub ResumptionIs : Type 0
ResumptionIs = (keeps : Bool) (n : ℕ) → resume_words (properties (operation_of n)).flow keeps ≡ resume_by keeps n

-- jmp, jal, jmpr and jalr (36 to 39), scall and retu lead to the next word as a slot, swm to the next two, reti to the next three
abbrev pub slots_by : (n : ℕ) → ℕ
slots_by n = choose between 36 39 n || between 48 49 n then 1 else choose eqb n 54 then 2 else choose eqb n 50 then 3 else 0

abbrev pub SlotsAre : Type 0
SlotsAre = (n : ℕ) → slot_words (properties (operation_of n)).flow (properties (operation_of n)).nops ≡ slots_by n

-- ---- a call

-- an address of an aligned word wholly in a program of `size` bytes
pub record WholeWord (width : Width) (size b : ℕ) : Type 0 where
  pub aligned : b % word_bytes width ≡ 0
  pub wholly : b + word_bytes width ≤ size

-- what a call that is not refused has been given
pub record Mappable (width : Width) (program : List ℕ) (start : ℕ) (map : List ℕ) : Type 0 where
  pub size : length program ≤ MOST_MEMORY
  pub room : length program ≤ length map
  pub word : WholeWord width (length program) start

-- what it leaves: 1 at the address of each word that is reached and of no other, 0 elsewhere over the program's length; later bytes keep their values
pub record Exact (width : Width) (program : List ℕ) (start : ℕ) (before after : List ℕ) : Type 0 where
  pub size : length after ≡ length before
  pub reached : (b : ℕ) → b < length program → (get_or after b 0 ≡ 1) ↔ Reachable width program start b
  pub elsewhere : (b : ℕ) → b < length program → (Reachable width program start b → ⊥) → get_or after b 0 ≡ 0
  pub beyond : drop (length program) after ≡ drop (length program) before

abbrev pub Exactly : Type 0
Exactly = (width : Width) (program : List ℕ) (start : ℕ) (map : List ℕ) → (reach_call width program start map).answer ≡ 0
    → Mappable width program start map × Exact width program start map (reach_call width program start map).map

-- a refusal changes no lent memory
abbrev pub RefusedKeeps : Type 0
RefusedKeeps = (width : Width) (program : List ℕ) (start : ℕ) (map : List ℕ) → (reach_call width program start map).answer ≢ 0 → (reach_call width program start map).map ≡ map

-- 1 refuses a program longer than program memory; then 28 a map shorter than the program; then 27 a start that is misaligned or whose word is absent;
-- every other call is answered 0
pub record Asked (width : Width) (program : List ℕ) (start : ℕ) (map : List ℕ) : Type 0 where
  pub too_long : MOST_MEMORY < length program → reach_call width program start map ≡ mapped 1 map
  pub too_short : length program ≤ MOST_MEMORY → length map < length program → reach_call width program start map ≡ mapped 28 map
  pub misaligned : length program ≤ MOST_MEMORY → length program ≤ length map → start % word_bytes width ≢ 0 → reach_call width program start map ≡ mapped 27 map
  pub absent : length program ≤ MOST_MEMORY → length program ≤ length map → length program < start + word_bytes width
      → reach_call width program start map ≡ mapped 27 map
  pub others : Mappable width program start map → (reach_call width program start map).answer ≡ 0

abbrev pub AskedInOrder : Type 0
AskedInOrder = (width : Width) (program : List ℕ) (start : ℕ) (map : List ℕ) → Asked width program start map

-- ---- what is reached

-- only aligned words that lie wholly in the program are reached
abbrev pub ReachableWords : Type 0
ReachableWords = (width : Width) (program : List ℕ) (start b : ℕ) → WholeWord width (length program) start
    → Reachable width program start b → WholeWord width (length program) b

-- the definition's search follows each word at most once: those found are all different, and no more than the program has bytes
pub record Once (size : ℕ) (found : List ℕ) : Type 0 where
  pub different : (j k : ℕ) → j < k → k < length found → get_or found j 0 ≢ get_or found k 0
  pub few : length found ≤ size

abbrev pub FollowedOnce : Type 0
FollowedOnce = (width : Width) (program : List ℕ) (start : ℕ) → WholeWord width (length program) start
    → Once (length program) (searched (successors width program) (length program) start).found
