-- The call: its questions, and what it writes. Assumes nothing.
use mathlib.Core.Path.{◌≡◌, ◌∙◌}
use mathlib.Core.Bool.{true, false}
use mathlib.Core.List.{List}
use Prim.Native.Nat.{ℕ, ◌≤◌, ◌<◌}
use lib.ListN.{length}
use borrow.Author.Tests.{le-leb, lt-leb}
use Rattle.word.specs.Choice.{choose◌then◌else◌}
use Rattle.codec.specs.Number.{over}
use Rattle.isa.specs.declared.width.Width.{Width}
use Rattle.machine.specs.Machine.{MOST_MEMORY}
use Rattle.reach.specs.Successors.{is_word, slots}
use Rattle.reach.specs.Call.{reached_map, mapped, reach_call}
use Rattle.reach.proofs.Marks.{slots_length}
use Rattle.reach.proofs.ProgramSearch.{sound}

-- what is written is as long as the program
pub map_length : (width : Width) (program : List ℕ) (start : ℕ) → is_word width (length program) start ≡ true → length (reached_map width program start) ≡ length program
unfolding reached_map
map_length width program start word = slots_length (slots width program) (length program) _ ∙ (sound width program start word).length_marks

-- ---- the questions

module _ (width : Width) (program : List ℕ) (start : ℕ) (map : List ℕ) where
  pub too_long_law : MOST_MEMORY < length program → mapped 1 map ≡ reach_call width program start map
  unfolding reach_call choose◌then◌else◌
  too_long_law h = rw (lt-leb (length program) MOST_MEMORY h)

  module _ (size : length program ≤ MOST_MEMORY) where
    pub too_short_law : length map < length program → mapped 28 map ≡ reach_call width program start map
    unfolding reach_call choose◌then◌else◌
    too_short_law h = rw (le-leb (length program) MOST_MEMORY size, lt-leb (length program) (length map) h)

    module _ (room : length program ≤ length map) where
      pub no_start : is_word width (length program) start ≡ false → mapped 27 map ≡ reach_call width program start map
      unfolding reach_call choose◌then◌else◌
      no_start e = rw (le-leb (length program) MOST_MEMORY size, le-leb (length program) (length map) room, e)

      pub mappable : is_word width (length program) start ≡ true → mapped 0 (over (reached_map width program start) map) ≡ reach_call width program start map
      unfolding reach_call choose◌then◌else◌
      mappable e = rw (le-leb (length program) MOST_MEMORY size, le-leb (length program) (length map) room, e)
