use Rattle.std.proofs.Common.{◌≡◌, ◌≢◌, ℕ, List, ◌++◌, length, take}
use Rattle.std.specs.List.{AllByRecursion}
use Rattle.fw_flow.specs.declared.event.Message.{Message}
use Rattle.fw_record.specs.declared.logged.Logged.{Logged}
use Rattle.fw_rollback.specs.Edges.{on_edge}
use Rattle.fw_record.specs.Log.{logged_on}
use Rattle.fw_rollback.specs.Restored.{log_of}
use Rattle.fw_rollback.proofs.logging.log_recorded.Given as goal

abbrev pub invariant-loop-logged : goal.invariant-loop-logged
invariant-loop-logged l = record {
  logged : (e : ℕ) (ms : List Message) → on_edge l.initial.logs e ≡ log_of l.flow l.low e ms
      → on_edge l.logs e ≡ log_of l.flow l.low e (logged_on e (take l.logged-index l.recorded) ++ ms);
  others : (e : ℕ) → AllByRecursion (λ (d : Logged). d.edge ≢ e) l.recorded → on_edge l.logs e ≡ on_edge l.initial.logs e;
  each : length l.logs ≡ length l.initial.logs;
}
