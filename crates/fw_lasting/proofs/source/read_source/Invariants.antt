use Rattle.fw_lasting.specs.Reading.{IsReading}
use Rattle.fw_lasting.proofs.source.read_source.Given as goal

abbrev pub invariant-loop-count : goal.invariant-loop-count
invariant-loop-count g l =
    let before = g.K.Store.view l.fn.store in
    let after = g.K.Store.view l.store in
    IsReading l.source before.records after.records before.faults after.faults l.count l.fn.batches l.batches
