-- `top` meets its contract: the last entry is the top. Assumes nothing.
use Rattle.std.proofs.Common.{sym, ap, ◌∙◌, arith, length}
use Rattle.machine.specs.Top.{top_of}
use Rattle.machine.proofs.Entries.{top_last}
use Rattle.machine.proofs.stack.Stack.top.Goals as goal

pub returns-else-depth-eq0 : goal.returns-else-depth-eq0
returns-else-depth-eq0 c =
    let i = c.self.inside in
    sym (top_last i.depth i.entries (record { source = 0; address = 0; psr = 0; c0 = 0 }) c.len-depth.result (c.len-depth.ensures.entries ∙ ap length (sym c.self.view_is)) (omega arith) (omega (arith, c.self.invariant, c.len-depth.ensures.within)))
    ∙ ap top_of c.self.view_is
