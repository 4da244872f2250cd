-- How often the store failed in lines that were answered, and how often that was told.
use Rattle.std.specs.Prelude.{◌≡◌, ℕ, ◌+◌, ◌-◌, ◌^◌, ◌≤◌, min, max, Result, Ok, Err}
use Rattle.fw_running.specs.declared.fault.EngineFault.{EngineFault}
use Rattle.fw_running.specs.declared.fault.EngineFault.TheVariants as fault

-- a count with so many more; it stays at the end of its type, and where it is above
abbrev pub more_by : ℕ → ℕ → ℕ
more_by more count = max count (min (count + more) (2 ^ 64 - 1))

-- how often the store failed in steps that ended so
abbrev pub failed_times : {T : Type 0} → Result T EngineFault → ℕ
failed_times (Ok x) = 0
failed_times (Err fault.StoreFault) = 1
failed_times (Err (fault.Damaged id)) = 0
failed_times (Err fault.NoMemory) = 0

-- So often the store failed, and as often that was told.
pub record TellsFaults (told told2 failed failed2 : ℕ) : Type 0 where
  pub more : ℕ
  pub tells : told2 ≡ more_by more told
  pub fails : failed2 ≡ more_by more failed

-- the same of a line by what came of it: one that was not answered told nothing
abbrev pub FaultsBy : {T E : Type 0} → Result T E → ℕ → ℕ → ℕ → ℕ → Type 0
FaultsBy (Ok x) told told2 failed failed2 = TellsFaults told told2 failed failed2
FaultsBy (Err fault) told told2 failed failed2 = failed ≤ failed2
