-- Which status tells which fault.
use Rattle.std.proofs.Common.{◌≡◌, ℕ, refl, ap}
use Rattle.fw_outside.specs.declared.fault.OutFault.TheVariants as output
use Rattle.fw_running.specs.declared.fault.EngineFault.TheVariants as engine
use Rattle.fw_run.specs.declared.fault.RunFault.{RunFault}
use Rattle.fw_run.specs.declared.fault.RunFault.TheVariants.{Out, Engine}
use Rattle.fw_run.specs.declared.status.Status.{Status}
use Rattle.fw_run.specs.declared.status.Status.TheVariants.{WriteFault, StoreFault, Damaged}
use Rattle.fw_run.specs.Fault.{status_of}

-- the fault of a status
pub write_of : (f : RunFault) → status_of f ≡ WriteFault → f ≡ Out output.Failed
write_of (Out output.Failed) e = refl
write_of (Out output.NoMemory) e = absurd (cc)
write_of (Engine engine.StoreFault) e = absurd (cc)
write_of (Engine (engine.Damaged id)) e = absurd (cc)
write_of (Engine engine.NoMemory) e = absurd (cc)

pub store_of : (f : RunFault) → status_of f ≡ StoreFault → f ≡ Engine engine.StoreFault
store_of (Out output.Failed) e = absurd (cc)
store_of (Out output.NoMemory) e = absurd (cc)
store_of (Engine engine.StoreFault) e = refl
store_of (Engine (engine.Damaged id)) e = absurd (cc)
store_of (Engine engine.NoMemory) e = absurd (cc)

pub damage_of : (f : RunFault) (id : ℕ) → status_of f ≡ Damaged id → f ≡ Engine (engine.Damaged id)
damage_of (Out output.Failed) id e = absurd (cc)
damage_of (Out output.NoMemory) id e = absurd (cc)
damage_of (Engine engine.StoreFault) id e = absurd (cc)
damage_of (Engine (engine.Damaged other)) id e = ap (λ n. Engine (engine.Damaged n)) (ap id_in e)
  where
    id_in : Status → ℕ
    id_in (Damaged n) = n
    id_in status = other
damage_of (Engine engine.NoMemory) id e = absurd (cc)
