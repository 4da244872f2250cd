-- Why a held run ends before all was done.
use Rattle.std.specs.Prelude.{ℕ, Option, Some, None, Result, Ok, Err}
use Rattle.fw_outside.specs.declared.fault.OutFault.{OutFault}
use Rattle.fw_outside.specs.declared.fault.OutFault.TheVariants as output
use Rattle.fw_outside.specs.Outside.{one_more}
use Rattle.fw_running.specs.declared.fault.EngineFault.TheVariants as engine
use Rattle.fw_hold.specs.declared.fault.HoldFault.{HoldFault}
use Rattle.fw_hold.specs.declared.fault.HoldFault.TheVariants.{Out, Engine, DamagedRoot, ForeignRoot}

-- the fault of a call of the store
abbrev pub of_store : OutFault → HoldFault
of_store output.Failed = Engine engine.StoreFault
of_store output.NoMemory = Engine engine.NoMemory

-- how often a store has failed after an answer of this kind: once more where it failed, and else as often as before
abbrev pub faults_after_hold : {T : Type 0} → Result T HoldFault → ℕ → ℕ
faults_after_hold (Ok value) count = count
faults_after_hold (Err (Out fault)) count = count
faults_after_hold (Err (Engine engine.StoreFault)) count = one_more count
faults_after_hold (Err (Engine (engine.Damaged id))) count = count
faults_after_hold (Err (Engine engine.NoMemory)) count = count
faults_after_hold (Err (DamagedRoot id)) count = count
faults_after_hold (Err ForeignRoot) count = count

-- where there is a fault, it is one of the store or of a root there
abbrev pub IsOfStore : {T : Type 0} → Result T HoldFault → Type 0
IsOfStore (Ok value) = Unit {0}
IsOfStore (Err (Out fault)) = ⊥
IsOfStore (Err (Engine engine.StoreFault)) = Unit {0}
IsOfStore (Err (Engine (engine.Damaged id))) = ⊥
IsOfStore (Err (Engine engine.NoMemory)) = Unit {0}
IsOfStore (Err (DamagedRoot id)) = Unit {0}
IsOfStore (Err ForeignRoot) = ⊥

-- where the answer is that there is none, P holds
abbrev pub OnOkNone : {T F : Type 0} → Result (Option T) F → Type 0 → Type 0
OnOkNone (Ok None) P = P
OnOkNone (Ok (Some value)) P = Unit {0}
OnOkNone (Err fault) P = Unit {0}

-- the fault is one of the root that a start found
abbrev pub IsOfRoot : {T : Type 0} → Result T HoldFault → Type 0
IsOfRoot (Ok value) = ⊥
IsOfRoot (Err (Out fault)) = ⊥
IsOfRoot (Err (Engine fault)) = ⊥
IsOfRoot (Err (DamagedRoot id)) = Unit {0}
IsOfRoot (Err ForeignRoot) = Unit {0}

-- the fault is not one of the output
abbrev pub IsNotOut : {T : Type 0} → Result T HoldFault → Type 0
IsNotOut (Ok value) = Unit {0}
IsNotOut (Err (Out fault)) = ⊥
IsNotOut (Err (Engine fault)) = Unit {0}
IsNotOut (Err (DamagedRoot id)) = Unit {0}
IsNotOut (Err ForeignRoot) = Unit {0}
