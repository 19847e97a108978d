-- `stack_fits` meets its contract: sources are all different exactly when their flags, those of INT_SERV, have as many ones as the stack has entries. Assumes nothing.
use Rattle.std.proofs.Common.{◌≡◌, ◌≢◌, sym, ap, ◌∙◌, Bool, true, false, List, reverse, ◌<◌, ◌^◌, rules}
use Rattle.std.specs.List.{list_all}
use Rattle.word.proofs.Bitwise.{ones_is}
use Rattle.machine.specs.Machine.{Machine}
use Rattle.machine.specs.Control.{control_at, INT_SERV}
use Rattle.machine.specs.Stack.{service_flags}
use Rattle.machine.specs.EntryTests.{source_fits}
use Rattle.machine.specs.declared.stack.Entry.{Entry}
use Rattle.machine.proofs.Asked.{all_reversed, service_small, sources_refused, service_refused, service_counted}
use Rattle.machine.proofs.machine.Machine.stack_fits.Goals as goal

-- what is found of the entries in their order holds of the stack
turned : (l es : List Entry) (b : Bool) → reverse l ≡ es → list_all source_fits l ≡ b → list_all source_fits es ≡ b
turned l es b s e = ap (list_all source_fits) (sym s) ∙ all_reversed source_fits l ∙ e

pub returns-then-not-sources_fit : goal.returns-then-not-sources_fit
returns-then-not-sources_fit c =
    let s = c.entries-entries.ensures ∙ ap (λ (m : Machine). m.stack) c.self.view_is in
    let no : c.sources_fit.result ≡ false = search (rules, c.if-not-sources_fit.true) in
    sources_refused _ (turned c.entries-entries.result.now _ false s (sym c.sources_fit.ensures ∙ no))

pub returns-then-served-service_flags : goal.returns-then-served-service_flags
returns-then-served-service_flags c =
    let s = c.entries-entries.ensures ∙ ap (λ (m : Machine). m.stack) c.self.view_is in
    let other : control_at c.args.self.now INT_SERV ≢ service_flags c.args.self.now.stack =
    λ e. c.if-served-service_flags.true (c.control-served.ensures ∙ e ∙ ap service_flags (sym s) ∙ sym c.service_flags.ensures) in
    service_refused _ other

pub returns : goal.returns
returns c =
    let m = c.args.self.now in
    let s = c.entries-entries.ensures ∙ ap (λ (m : Machine). m.stack) c.self.view_is in
    let yes : c.sources_fit.result ≡ true = search (rules, c.if-not-sources_fit.false) in
    let small = turned c.entries-entries.result.now m.stack true s (sym c.sources_fit.ensures ∙ yes) in
    let served : control_at m INT_SERV ≡ service_flags m.stack = sym c.control-served.ensures ∙ c.if-served-service_flags.false ∙ c.service_flags.ensures ∙ ap service_flags s in
    let twelve : c.control-served.result < 2 ^ 12 = rw (c.control-served.ensures, served) (service_small m.stack small) in
    rw (c.control-3.ensures, c.control-2.ensures, c.control.ensures, c.shown_top-top.ensures, c.depth.ensures, ones_is 12 c.control-served.result twelve, c.control-served.ensures)
    (service_counted m small served)
