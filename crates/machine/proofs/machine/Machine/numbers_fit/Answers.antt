-- `numbers_fit` meets its contract: the registers of both sets are words. Assumes nothing.
use Rattle.machine.specs.Machine.{Machine}
use Rattle.machine.proofs.Asked.{numbers_words}
use Rattle.machine.proofs.machine.Machine.numbers_fit.Goals as goal

pub returns : goal.returns
returns c =
    let i = c.self.inside in
    let m : Machine = record { set1 = i.set1; set2 = i.set2; conditions = i.conditions; control = i.control; position = i.position; stack = i.stack; dividers = i.dividers } in
    rw (
      c.all_below-dividers.ensures,
      c.ranges_fit-entries.ensures,
      c.position_fits-position.ensures,
      c.all_held-control.ensures,
      c.all_below-conditions.ensures,
      c.psr-status.ensures,
      ← c.self.view_is,
    )
    (numbers_words m c.entries-list.result.now c.entries-list.ensures c.are_words.ensures c.are_words-2.ensures)
