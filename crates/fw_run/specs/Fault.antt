-- Why a command ends before all was printed.
use Rattle.std.specs.Prelude.{ℕ, Result, Ok, Err}
use Rattle.fw_outside.specs.declared.fault.OutFault.TheVariants as output
use Rattle.fw_outside.specs.Outside.{one_more}
use Rattle.fw_running.specs.declared.fault.EngineFault.TheVariants as engine
use Rattle.fw_run.specs.declared.fault.RunFault.{RunFault}
use Rattle.fw_run.specs.declared.fault.RunFault.TheVariants.{Out, Engine}
use Rattle.fw_run.specs.declared.status.Status.{Status}
use Rattle.fw_run.specs.declared.status.Status.TheVariants.{WriteFault, StoreFault, Damaged, NoMemory}

-- the status that tells the fault
abbrev pub status_of : RunFault → Status
status_of (Out output.Failed) = WriteFault
status_of (Out output.NoMemory) = NoMemory
status_of (Engine engine.StoreFault) = StoreFault
status_of (Engine (engine.Damaged id)) = Damaged id
status_of (Engine engine.NoMemory) = NoMemory

-- how often a store has failed after an answer of this kind: once more where it failed, and else as often as before
abbrev pub faults_after_run : {T : Type 0} → Result T RunFault → ℕ → ℕ
faults_after_run (Ok value) count = count
faults_after_run (Err (Out fault)) count = count
faults_after_run (Err (Engine engine.StoreFault)) count = one_more count
faults_after_run (Err (Engine (engine.Damaged id))) count = count
faults_after_run (Err (Engine engine.NoMemory)) count = count
