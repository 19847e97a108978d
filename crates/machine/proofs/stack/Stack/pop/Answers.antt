-- `pop` meets its contract: the entries below the last are the rest. Assumes nothing.
use Rattle.std.proofs.Common.{sym, ap, ◌∙◌, arith, length}
use Rattle.machine.specs.Stack.{popped}
use Rattle.machine.proofs.Entries.{popped_last}
use Rattle.machine.proofs.stack.Stack.pop.Goals as goal

pub returns-clause-rest : goal.returns-clause-rest
returns-clause-rest c =
    let i = c.self.inside in
    sym (popped_last i.depth i.entries (record { source = 0; address = 0; psr = 0; c0 = 0 }) c.len-depth.result (c.len-depth.ensures.entries ∙ ap length (sym c.self.view_is)) (omega arith) (omega (arith, c.self.invariant, c.len-depth.ensures.within)))
    ∙ ap popped c.self.view_is
