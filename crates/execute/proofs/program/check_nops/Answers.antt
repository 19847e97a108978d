-- `program::check_nops` meets its contract: one pass more, by what comes of its word. Assumes nothing.
use Rattle.std.proofs.Common.{rules, ◌≡◌, refl, ◌+◌, ◌-◌, arith}
use Rattle.execute.specs.View.{found_then, nops_from}
use Rattle.execute.proofs.Attempts.{failed_then}
use Rattle.execute.proofs.NopChecks.{nops_on}
use Rattle.execute.proofs.program.check_nops.Goals as goal

pub returns-in_err-check_nop : goal.returns-in_err-check_nop
returns-in_err-check_nop c memory =
    rw (c.loop-k.invariant memory, nops_on _ _ c.loop-k.k c.args.count (omega arith), ← (c.in_err-check_nop.ensures memory)) (search (rules, failed_then))

pub loop-k-preserved : goal.loop-k-preserved
unfolding found_then
loop-k-preserved c memory =
    rw (c.loop-k.invariant memory, nops_on _ _ c.loop-k.k c.args.count (omega arith), ← (c.in_ok-check_nop.ensures memory)) refl

pub returns : goal.returns
unfolding nops_from
returns c memory =
    let none : c.args.count + 1 - c.loop-k.k ≡ 0 = omega arith in
    rw (c.loop-k.invariant memory, none) refl
