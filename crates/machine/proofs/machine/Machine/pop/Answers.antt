-- `pop` meets its contract: INT_SERV has one flag less. Assumes nothing.
use Rattle.std.proofs.Common.{◌∙◌, ap, sym}
use Rattle.machine.specs.Machine.{Machine}
use Rattle.machine.specs.Control.{control_at, INT_SERV}
use Rattle.machine.specs.Stack.{popped, service_flags}
use Rattle.machine.specs.Top.{flags_left, top_of}
use Rattle.machine.proofs.Pushed.{pop_shown}
use Rattle.machine.proofs.machine.Machine.pop.Goals as goal

pub show-requires : goal.show-requires
show-requires c =
    c.flags_left-flags.ensures
    ∙ ap (λ n. flags_left n c.pop-top.result) c.control-served.ensures
    ∙ ap (flags_left (control_at c.args.self.now INT_SERV)) c.pop-top.ensures.top
    ∙ ap (λ es. flags_left (control_at c.args.self.now INT_SERV) (top_of es)) (ap (λ (m : Machine). m.stack) c.self.view_is)
    ∙ pop_shown c.args.self.now.stack _ c.requires.sources c.requires.flags
    ∙ ap (λ es. service_flags (popped es)) (ap (λ (m : Machine). m.stack) (sym c.self.view_is))
    ∙ ap service_flags (sym c.pop-top.ensures.rest)
