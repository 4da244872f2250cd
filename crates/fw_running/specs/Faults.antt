-- Why a step is not taken.
use Rattle.std.specs.Prelude.{ℕ, Bool, true, false, Result, Ok, Err}
use Rattle.fw_outside.specs.Outside.{one_more}
use Rattle.fw_keep.specs.declared.fault.KeepFault.{KeepFault}
use Rattle.fw_keep.specs.declared.fault.KeepFault.TheVariants as keep
use Rattle.fw_running.specs.declared.fault.EngineFault.{EngineFault}
use Rattle.fw_running.specs.declared.fault.EngineFault.TheVariants as fault

-- what the engine answers where the catalogue answers this
abbrev pub fault_of : KeepFault → EngineFault
fault_of keep.StoreFault = fault.StoreFault
fault_of (keep.Damaged id bytes) = fault.Damaged id
fault_of keep.NoMemory = fault.NoMemory

-- whether memory was refused
abbrev pub is_refusal : {T : Type 0} → Result T EngineFault → Bool
is_refusal (Ok x) = false
is_refusal (Err fault.StoreFault) = false
is_refusal (Err (fault.Damaged id)) = false
is_refusal (Err fault.NoMemory) = true

-- how often a store has failed after a step that answered so: once more where it failed, and else as often as before
abbrev pub faults_after_step : {T : Type 0} → Result T EngineFault → ℕ → ℕ
faults_after_step (Ok x) count = count
faults_after_step (Err fault.StoreFault) count = one_more count
faults_after_step (Err (fault.Damaged id)) count = count
faults_after_step (Err fault.NoMemory) count = count
