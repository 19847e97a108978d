-- `listing::put_lines` meets its contract: each turn of the loop writes one line more. Assumes nothing.
use mathlib.Core.Path.{◌≡◌}
use Prim.Native.Nat.{◌*◌}
use Rattle.codec.specs.Number.{put_at, over}
use Rattle.listing.specs.Listing.{lines_from, words_in}
use Rattle.listing.proofs.Calls.{lines_at}
use Rattle.listing.proofs.put_lines.Given as goal

abbrev pub invariant-loop-n : goal.invariant-loop-n
invariant-loop-n l = put_at l.text (48 * l.n) (lines_at l.width l.program l.n) ≡ over (lines_from l.width l.program 0 (words_in l.width l.program)) l.initial.text
