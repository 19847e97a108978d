-- `read_numbers`: all that are read are the bytes' numbers, and those behind them stay. Assumes nothing.
use Rattle.std.proofs.Common.{◌≡◌, ◌/◌, length, take, ◌∙◌, arith, length-take-le}
use Rattle.codec.proofs.Laws.{read_all, length_numbers_of}
use Rattle.codec.proofs.read_numbers.Goals as goal

pub returns : goal.returns
returns c =
    let s = c.args.bytes.now in
    let t = c.args.numbers.now in
    let front : length (take (length s / 4) t) ≡ length s / 4 = length-take-le (length s / 4) t c.requires in
    let all = read_all s c.loop-i.number-items (c.loop-i.auto.number-items ∙ front) (λ k h. c.loop-i.invariant k (omega arith)) in
    cc (length_numbers_of s)
