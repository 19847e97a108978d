-- `put_stack` meets its contract: one entry more is written, and all are the stack. Assumes nothing.
use Rattle.std.proofs.Common.{rules, arith, ◌∙◌, ◌≡◌, ◌≤◌, length, ap, sym}
use Rattle.std.proofs.lemmas.List.{length-reverse}
use Rattle.machine.specs.Words.{SOURCES}
use Rattle.machine.specs.declared.stack.Entry.{Entry}
use Rattle.machine.proofs.Filled.{write_more, depth_kept, stack_written}
use Rattle.machine.proofs.words.put_stack.Goals as goal

pub loop-i-preserved : goal.loop-i-preserved
loop-i-preserved c =
    let w = c.loop-i.words in
    let es = c.entries-entries.result.now in
    let none : Entry = record { source = 0; address = 0; psr = 0; c0 = 0 } in
    let i = c.loop-i.invariant in
    let size : c.len.result ≡ length es = c.len.ensures.entries ∙ ap length (sym c.entries-entries.ensures) ∙ length-reverse es in
    let few : length es ≤ SOURCES = omega (arith, size, c.len.ensures.within) in
    (search rules, depth_kept w es c.loop-i.i none i.0 few c.loop-i-test.true ∙ i.1, write_more w es c.loop-i.i none i.0 few c.loop-i-test.true i.2)

pub returns-clause-stack : goal.returns-clause-stack
returns-clause-stack c =
    let es = c.entries-entries.result.now in
    let end : length es ≡ c.loop-i.i = omega (arith, c.loop-i-test.false, c.loop-i.auto.i-end) in
    stack_written c.loop-i.words es c.args.stack.now c.loop-i.i (c.loop-i.invariant.1 ∙ end) (sym end) c.loop-i.invariant.2 c.entries-entries.ensures
