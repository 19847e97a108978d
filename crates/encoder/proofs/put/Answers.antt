-- `encoder::put` meets its contract: 1 shifted by less than the width is a power of 2, and nothing is shifted out. Assumes nothing.
use native.Mathlib.Nat.{mod-lt}
use native.Mathlib.Omega.{arith}
use lib.Pow.{pow_pos, shl_exact}
use Rattle.word.proofs.Integers.{one_shifted}
use Rattle.encoder.proofs.put.Goals as goal

pub nonzero_rem-result : goal.nonzero_rem-result
nonzero_rem-result c = rw (one_shifted 32 c.args.width c.requires.1) (pow_pos c.args.width)

pub returns : goal.returns
returns c =
    let a = c.args in
    rw (one_shifted 32 a.width c.requires.1) (shl_exact a.width a.place 32 (mod-lt a.n (pow_pos a.width)) (omega arith))
