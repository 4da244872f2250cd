use Rattle.std.proofs.Common.{◌≡◌, ◌+◌, ◌≤◌, false, take}
use Rattle.std.specs.Prelude.{IsSome}
use Rattle.fw_flow.specs.Dataflow.{System}
use Rattle.fw_schedule.specs.Schedule.{step_count}
use Rattle.fw_keep.specs.Catalogue.{AreAscending, ids_of}
use Rattle.fw_keep.specs.Stored.{IsStored}
use Rattle.fw_engine.specs.Engine.{flow_of, keep_of, StandsFor}
use Rattle.fw_run.proofs.StandingLaws.{StandsBehind}
use Rattle.fw_run.specs.Enduring.{Point, RoseBy}
use Rattle.fw_run.specs.Tallies.{AreOfSteps}
use Rattle.fw_run.specs.Through.{AreTaken}
use Rattle.fw_command.specs.Manner.{course_in}
use Rattle.fw_run.proofs.through.take_items.Given as goal

-- what was written is the lines of the items so far, as far as it is known what comes of them; of their steps there are no more than
-- they ask for, and the store failed as often as is counted
abbrev pub invariant-loop-item : goal.invariant-loop-item
invariant-loop-item g l = record {
  stored : IsStored (keep_of l.engine) (g.K.Store.view l.store).records;
  in_order : AreAscending (ids_of (keep_of l.engine).entries);
  alone : (keep_of l.engine).shared ≡ false;
  told_before : IsSome (g.K.Store.view l.store).records → IsSome (g.K.Store.view l.fn.store).records;
  flow : flow_of l.engine ≡ flow_of l.fn.engine;
  of_steps : AreOfSteps l.tally;
  few : l.tally.steps ≤ l.fn.tally.steps + step_count (take l.item-index l.items);
  none : l.course.goes_on ≡ false → l.tally.faults ≡ 0;
  rose_by : RoseBy (g.K.Store.view l.fn.store).faults (g.K.Store.view l.store).faults l.tally.faults;
  taken : (sys : System) (from : Point) → from.counts ≡ l.fn.tally → StandsFor sys l.fn.engine (g.K.Store.view l.fn.store).records from.state
      → AreTaken (course_in l.course) (IsSome (g.K.Store.view l.store).records) sys from l.items l.item-index l.tally
      (StandsBehind sys l.engine (g.K.Store.view l.store).records) (g.O.Sink.view l.fn.out) (g.O.Sink.view l.out);
}
