use Rattle.std.proofs.Common.{◌≡◌, ◌+◌}
use Rattle.std.specs.Prelude.{IsSome}
use Rattle.fw_keep.specs.Catalogue.{AreAscending, ids_of}
use Rattle.fw_keep.specs.Stored.{IsStored}
use Rattle.fw_engine.specs.Engine.{flow_of, keep_of}
use Rattle.fw_run.specs.Tallies.{AreOfSteps}
use Rattle.fw_run.proofs.ItemPrintLaws.{IsAutoSoFar}
use Rattle.fw_run.proofs.perform.perform_auto.Given as goal

-- each step so far was the first that was enabled, and they were counted and their lines printed
abbrev pub invariant-loop : goal.invariant-loop
invariant-loop g l = record {
  stored : IsStored (keep_of l.engine) (g.K.Store.view l.store).records;
  in_order : AreAscending (ids_of (keep_of l.engine).entries);
  shared : (keep_of l.engine).shared ≡ (keep_of l.fn.engine).shared;
  told_before : IsSome (g.K.Store.view l.store).records → IsSome (g.K.Store.view l.fn.store).records;
  flow : flow_of l.engine ≡ flow_of l.fn.engine;
  faults : (g.K.Store.view l.store).faults ≡ (g.K.Store.view l.fn.store).faults;
  of_steps : AreOfSteps l.tally;
  counted : l.tally.steps ≡ l.fn.tally.steps + l.counter;
  none : l.tally.faults ≡ l.fn.tally.faults;
  auto : IsAutoSoFar l.fn.engine l.engine (g.K.Store.view l.fn.store).records (g.K.Store.view l.store).records l.counter l.fn.tally l.tally (g.O.Sink.view l.fn.out) (g.O.Sink.view l.out);
}
