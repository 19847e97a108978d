-- Each turn of the loop writes one digit more, the lowest of those that are left. Assumes nothing.
use Rattle.std.proofs.Common.{◌≡◌}
use Rattle.codec.specs.Number.{put_at}
use Rattle.console.specs.Digits.{digits_of}
use Rattle.console.proofs.put_digits.Given as goal

abbrev pub invariant-loop-i : goal.invariant-loop-i
invariant-loop-i l = put_at l.line l.at (digits_of l.base l.i l.rest) ≡ put_at l.initial.line l.at (digits_of l.base l.count l.n)
