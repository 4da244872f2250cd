-- What a held run keeps from move to move.
use Rattle.std.proofs.Common.{◌≡◌, inl, inr, ℕ, ◌^◌, ◌<◌, IsSome, Result, Ok, Err, ap}
use Rattle.std.specs.Prelude.{IsErrOf}
use Rattle.fw_outside.specs.Outside.{SinkView, StoreView}
use Rattle.fw_flow.specs.Dataflow.{Dataflow}
use Rattle.fw_keep.specs.Catalogue.{KeepState}
use Rattle.fw_running.specs.declared.fault.EngineFault.TheVariants as engine
use Rattle.fw_hold.specs.declared.fault.HoldFault.{HoldFault}
use Rattle.fw_hold.specs.declared.fault.HoldFault.TheVariants.{Out, Engine, DamagedRoot, ForeignRoot}
use Rattle.fw_hold.specs.Faults.{IsOfRoot}
use Rattle.fw_hold.specs.declared.place.SchedulePlace.{SchedulePlace}
use Rattle.fw_hold.specs.Engine.{EntriesAreThere, Standings}
use Rattle.fw_hold.specs.Going.{HasRoomIn, HaveSameCounts, HoldsFound}
use Rattle.fw_hold.specs.Kept.{Found, HeldTexts}
use Rattle.fw_hold.specs.Moves.{KeptPoint}
use Rattle.fw_hold.specs.Starting.{HasBegun, IsForeignIn, IsToldForeign}

-- The run has begun, and went on so far: nothing has failed, and where the store tells its records it stands where its moves led.
pub record IsGoing {E K O : Type 0} (view : K → StoreView) (sink : O → SinkView) (Stand : Standings E) (keep_of : E → KeepState) (flow_of : E → Dataflow) (texts : HeldTexts)
    (first : K) (out : O) (running : E) (place : SchedulePlace) (store : K) (written : O) : Type 0 where
  pub stored : EntriesAreThere (keep_of running) (view store).records
  pub room : HasRoomIn texts.items place (keep_of running).next
  pub begun : (starts : ℕ) (found : Found) (kept : KeptPoint) → starts < 2 ^ 61 → HoldsFound texts starts (view first).records found kept → IsSome (view store).records
      → HasBegun Stand keep_of flow_of texts starts found kept (view store).records (sink out) (sink written) running place
  pub not_foreign : IsForeignIn texts.digests (view first).records → IsSome (view store).records → ⊥
  pub counts : HaveSameCounts (sink out) (sink written)
  pub told_before : IsSome (view store).records → IsSome (view first).records
  pub faults : (view store).faults ≡ (view first).faults

-- ---- faults, whatever the value

abbrev fault_in : {T : Type 0} → HoldFault → Result T HoldFault → HoldFault
fault_in other (Ok value) = other
fault_in other (Err fault) = fault

pub not_told : {T : Type 0} (value : T) → IsToldForeign (Ok value) → ⊥
not_told value (inl e) = absurd (cc)
not_told value (inr (inl e)) = absurd (cc)
not_told value (inr (inr e)) = absurd (cc)

pub err_alike : (S T : Type 0) (fault other : HoldFault) → IsErrOf {T = S} (Err fault) other → IsErrOf {T = T} (Err fault) other
err_alike S T fault other e = ap Err (ap (fault_in fault) e)

pub foreign_alike : (S T : Type 0) (fault : HoldFault) → IsToldForeign {T = S} (Err fault) → IsToldForeign {T = T} (Err fault)
foreign_alike S T fault (inl e) = inl (err_alike S T fault ForeignRoot e)
foreign_alike S T fault (inr (inl e)) = inr (inl (err_alike S T fault (Engine engine.StoreFault) e))
foreign_alike S T fault (inr (inr e)) = inr (inr (err_alike S T fault (Engine engine.NoMemory) e))

pub root_alike : (S T : Type 0) (fault : HoldFault) → IsOfRoot {T = T} (Err fault) → IsOfRoot {T = S} (Err fault)
root_alike S T (Out fault) r = r
root_alike S T (Engine fault) r = r
root_alike S T (DamagedRoot id) r = r
root_alike S T ForeignRoot r = r
