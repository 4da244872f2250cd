use Rattle.std.proofs.Common.{◌≡◌}
use Rattle.std.specs.Prelude.{IsSome}
use Rattle.fw_engine.specs.Engine.{flow_of}
use Rattle.fw_session.specs.Story.{Story}
use Rattle.fw_live.specs.Relies.{GoesOnPrinting}
use Rattle.fw_live.proofs.TakingLaws.{HasTaken}
use Rattle.fw_live.proofs.taking.take_auto.Given as goal

-- each step so far was the first that was enabled, and they were printed and counted
abbrev pub invariant-loop : goal.invariant-loop
invariant-loop g l = record {
  flow : flow_of (g.S.Living.engine_of l.session) ≡ flow_of (g.S.Living.engine_of l.fn.session);
  told_before : IsSome (g.S.Living.records l.session) → IsSome (g.S.Living.records l.fn.session);
  texts : g.S.Living.digests_of l.session ≡ g.S.Living.digests_of l.fn.session;
  left : (story : Story) → g.S.Living.at l.fn.session story → g.S.Living.may_restart l.fn.session → IsSome (g.S.Living.records l.session)
      → g.S.Living.may_restart l.session;
  faults : g.S.Living.fault_count l.session ≡ g.S.Living.fault_count l.fn.session;
  taken : (story : Story) → g.S.Living.at l.fn.session story
      → GoesOnPrinting (flow_of (g.S.Living.engine_of l.fn.session)) (HasTaken (flow_of (g.S.Living.engine_of l.fn.session)) story l.counter)
      (record { bytes = l.fn.into.items; counts = l.fn.counts }) (record { bytes = l.into.items; counts = l.counts })
      (g.S.Living.at l.session);
}
