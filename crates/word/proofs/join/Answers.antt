use Rattle.std.proofs.Common.{◌%◌, ◌^◌, arith, mod-lt, pow_pos}
use Rattle.std.proofs.lemmas.Nat.{or_shifted, shl_whole}
use Rattle.word.specs.Arithmetic.{join_of}
use Rattle.word.proofs.Bitwise.{masked}
use Rattle.word.proofs.join.Goals as goal

pub returns : goal.returns
unfolding join_of
returns c =
    let k = c.args.k in
    rw (
      masked c.args.a k (omega arith),
      masked c.args.b k (omega arith),
      shl_whole (c.args.a % 2 ^ k) k k 32 (mod-lt c.args.a (pow_pos k)) (omega arith),
    )
    (or_shifted (c.args.a % 2 ^ k) k (c.args.b % 2 ^ k) (mod-lt c.args.b (pow_pos k)))
