-- `push` meets its contract: INT_SERV has one flag more. Assumes nothing.
use Rattle.std.proofs.Common.{◌∷◌, ◌∙◌, ap, sym}
use Rattle.word.specs.Flags.{with_flag}
use Rattle.machine.specs.Machine.{Machine}
use Rattle.machine.specs.Stack.{service_flags}
use Rattle.machine.proofs.Pushed.{push_shown}
use Rattle.machine.proofs.machine.Machine.push.Goals as goal

pub show-requires : goal.show-requires
show-requires c =
    c.with_flag-flags.ensures
    ∙ ap (with_flag c.args.entry.source) c.control.ensures
    ∙ push_shown c.args.entry c.args.self.now.stack _ c.requires.flags
    ∙ ap (λ es. service_flags (c.args.entry ∷ es)) (ap (λ (m : Machine). m.stack) (sym c.self.view_is))
    ∙ ap service_flags (sym c.push.ensures)
