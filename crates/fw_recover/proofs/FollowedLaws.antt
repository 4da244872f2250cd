-- Parts that are restored and what follows them make one recovery.
use Rattle.std.proofs.Common.{◌≡◌, length, Option, sym, subst}
use Rattle.fw_flow.specs.declared.choice.Choice.{Choice}
use Rattle.fw_flow.specs.Dataflow.{Dataflow}
use Rattle.fw_keep.specs.Stored.{Records}
use Rattle.fw_rollback.specs.declared.parts.Parts.{Parts}
use Rattle.fw_rollback.specs.Restored.{AreOfFlow, Restores}
use Rattle.fw_running.specs.declared.running.Running.{Running}
use Rattle.fw_recover.specs.CutProgress.{AreAtReceivers, IsProgressCut}
use Rattle.fw_recover.specs.CutTraces.{AreTracesCut}
use Rattle.fw_running.specs.Places.{HasAllPlaces}
use Rattle.fw_recover.specs.Recovered.{IsFollowed}
use Rattle.fw_running.specs.Shaped.{IsShaped}
use Rattle.fw_recover.proofs.RecoverLaws.{IsRecovered}
use Rattle.fw_recover.proofs.RecoveredShapeLaws.{DoPartsFit, at-receivers, parts-fit, recovered-shaped, restored-fit}

-- an engine whose parts were restored, and whose rest followed, is recovered
pub followed-recovered : (choice : Choice) (records : Option Records) (old new : Running) (parts : Parts) → Restores old.flow choice records old.parts parts
    → IsFollowed choice (record old { parts = parts }) new → new.flow ≡ old.flow → new.parts ≡ parts → IsRecovered choice records old new
followed-recovered choice records old new parts r f flow same = record {
  flow = flow;
  restores = subst (Restores old.flow choice records old.parts) (sym same) r;
  traces = subst (λ (x : Parts). AreTracesCut old.flow x.keep.entries choice (length old.flow.nodes) old.traces new.traces) (sym same) f.traces;
  progress = subst (λ (x : Parts). IsProgressCut old.flow choice x.queues old.progress new.progress) (sym same) f.progress;
  epochs = f.epochs;
  failed = f.failed;
  lost = f.lost;
}

-- the queues that are restored have messages at stamps of their receivers
pub queues-at_receivers : (choice : Choice) (records : Option Records) (old : Running) (parts : Parts) → IsShaped old → Restores old.flow choice records old.parts parts
    → AreOfFlow old.flow parts → AreAtReceivers old.flow parts.queues
queues-at_receivers choice records old parts s r each =
    at-receivers old.flow parts.queues (restored-fit old.flow choice records old.parts parts s.well_formed r each (parts-fit old s)).queues

-- what is kept has its shape then
pub followed-shaped : (choice : Choice) (records : Option Records) (old new : Running) (parts : Parts) → IsShaped old → Restores old.flow choice records old.parts parts
    → AreOfFlow old.flow parts → IsFollowed choice (record old { parts = parts }) new → new.flow ≡ old.flow → new.parts ≡ parts
    → IsShaped new
followed-shaped choice records old new parts s r each f flow same =
    let fit = restored-fit old.flow choice records old.parts parts s.well_formed r each (parts-fit old s) in
    recovered-shaped choice records old new s (followed-recovered choice records old new parts r f flow same)
    (subst (λ x. DoPartsFit x new.parts) (sym flow) (subst (DoPartsFit old.flow) (sym same) fit))
    (subst (λ (x : Dataflow). length new.lost.items ≡ length x.nodes) (sym flow) f.lost_each)
    (subst (λ x. HasAllPlaces x new.ready) (sym flow) f.ready)
    f.places
