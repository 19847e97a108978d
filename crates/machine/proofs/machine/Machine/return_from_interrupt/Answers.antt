-- `return_from_interrupt` meets its contract: INT_SERV shows the stack. Assumes nothing.
use Rattle.std.proofs.Common.{◌∙◌, ◌≡◌, ap, sym, length, rules}
use Rattle.machine.specs.Machine.{Machine}
use Rattle.machine.proofs.Pushed.{shown_served}
use Rattle.machine.proofs.machine.Machine.return_from_interrupt.Goals as goal

pub pop-requires-clause-flags : goal.pop-requires-clause-flags
pop-requires-clause-flags c =
    let sized : length c.self.inside.control ≡ 45 = search rules in
    shown_served c.args.self.now (ap (λ (m : Machine). length m.control) (sym c.self.view_is) ∙ sized) c.requires
