-- `store_top` meets its contract: the flags in service stay. Assumes nothing.
use Rattle.std.proofs.Common.{◌∷◌, ◌∙◌, ap, sym, ◌≡◌, length, rules}
use Rattle.machine.specs.Machine.{Machine}
use Rattle.machine.specs.Stack.{popped, service_flags, return_stored}
use Rattle.machine.specs.Top.{top_of}
use Rattle.machine.proofs.Pushed.{shown_served, stored_flags}
use Rattle.machine.proofs.machine.Machine.store_top.Goals as goal

pub show-requires : goal.show-requires
show-requires c =
    let sized : length c.self.inside.control ≡ 45 = search rules in
    c.control-flags.ensures
    ∙ shown_served c.args.self.now (ap (λ (m : Machine). length m.control) (sym c.self.view_is) ∙ sized) c.requires
    ∙ stored_flags c.args.offset c.args.x c.args.self.now.stack _ (ap top_of (ap (λ (m : Machine). m.stack) (sym c.self.view_is)) ∙ sym c.top.ensures ∙ c.in-Some.is)
    ∙ ap (λ es. service_flags (return_stored c.args.offset c.args.x c.in-Some.entry ∷ popped es)) (ap (λ (m : Machine). m.stack) (sym c.self.view_is))
    ∙ ap service_flags (ap (λ e. e ∷ popped c.self.inside.stack) (sym c.return_stored-stored.ensures) ∙ sym c.replace_top.ensures)
