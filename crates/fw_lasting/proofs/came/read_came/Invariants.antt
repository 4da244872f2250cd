use Rattle.fw_lasting.specs.Reading.{IsReadBefore}
use Rattle.fw_lasting.proofs.came.read_came.Given as goal

abbrev pub invariant-loop-place : goal.invariant-loop-place
invariant-loop-place g l =
    let before = g.K.Store.view l.fn.store in
    let after = g.K.Store.view l.store in
    IsReadBefore l.flow l.place before.records after.records before.faults after.faults l.batches l.arrivals.opened.items l.arrivals.came.items
