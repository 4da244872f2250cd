-- How a store's count of faults goes with the answers of the catalogue.
use Rattle.std.specs.Prelude.{ℕ, Result, Ok, Err}
use Rattle.fw_outside.specs.Outside.{one_more}
use Rattle.fw_keep.specs.declared.fault.KeepFault.{KeepFault}
use Rattle.fw_keep.specs.declared.fault.KeepFault.TheVariants as fault

-- how often a store has failed after a call that answered so: once more where it failed, and else as often as before
abbrev pub keep_faults_after : {T : Type 0} → Result T KeepFault → ℕ → ℕ
keep_faults_after (Ok x) count = count
keep_faults_after (Err fault.StoreFault) count = one_more count
keep_faults_after (Err (fault.Damaged id bytes)) count = count
keep_faults_after (Err fault.NoMemory) count = count
