use Rattle.std.proofs.Common.{◌≡◌, false}
use Rattle.fw_progress.specs.Trace.{HaveLists}
use Rattle.fw_recover.specs.CutTraces.{AreTracesCut}
use Rattle.fw_recover.proofs.rebuild.cut_traces.Given as goal

abbrev pub invariant-loop-place : goal.invariant-loop-place
invariant-loop-place l = record {
  cut : AreTracesCut l.flow l.entries l.choice l.place l.initial.traces l.traces;
  live : l.traces.refused ≡ false;
  lists : HaveLists l.flow l.traces;
}
