-- The call that maps what can be reached (Manual 13). Assumes nothing.
use Rattle.std.specs.Prelude.{not, List, ℕ, leb, length}
use Rattle.word.specs.Choice.{choose◌then◌else◌}
use Rattle.codec.specs.Number.{over}
use Rattle.isa.specs.declared.width.Width.{Width}
use Rattle.machine.specs.Machine.{MOST_MEMORY}
use Rattle.reach.specs.Successors.{is_word, successors, slots}
use Rattle.reach.specs.Search.{searched, with_slots}

-- a byte for each of the program's, 1 at the address of each word that is reached and 0 elsewhere: Theorems' `Exactly` says that it is so
unfoldable pub reached_map : Width → (program : List ℕ) (start : ℕ) → List ℕ
reached_map width program start = with_slots (slots width program) (length program) (searched (successors width program) (length program) start).marks

-- the answer, 0 or the number of the refusal, and the lent map after the call
pub record Mapped : Type 0 where
  pub answer : ℕ
  pub map : List ℕ

abbrev pub mapped : (answer : ℕ) (map : List ℕ) → Mapped
mapped answer map = record { answer = answer; map = map }

-- 1 refuses a program longer than program memory, then 28 a map shorter than the program, then 27 a start that is misaligned or whose word is absent;
-- a refusal leaves the map as it was, and bytes of the map past the program's length keep their values
unfoldable pub reach_call : Width → (program : List ℕ) (start : ℕ) (map : List ℕ) → Mapped
reach_call width program start map =
    choose not (leb (length program) MOST_MEMORY) then mapped 1 map
    else choose not (leb (length program) (length map)) then mapped 28 map
    else choose not (is_word width (length program) start) then mapped 27 map
    else mapped 0 (over (reached_map width program start) map)

-- to unfold all of these
unfoldable pub call_reach : Unit {0}
unfolding reached_map reach_call
call_reach = tt
