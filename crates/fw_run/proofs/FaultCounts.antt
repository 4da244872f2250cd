-- How often a store failed, over several calls.
use Rattle.std.proofs.Common.{◌≡◌, inl, inr, ℕ, zero, suc, ◌+◌, ◌-◌, ◌^◌, ◌≤◌, Result, Ok, Err, refl, sym, ◌∙◌, ap, subst, arith}
use Rattle.std.proofs.lemmas.Bool.{cases_lt}
use Rattle.std.specs.Prelude.{OnOk}
use Rattle.std.specs.Result.{IsErrOf}
use Rattle.fw_outside.specs.Outside.{one_more}
use Rattle.fw_running.specs.declared.fault.EngineFault.{EngineFault}
use Rattle.fw_running.specs.declared.fault.EngineFault.TheVariants as fault
use Rattle.fw_running.specs.Faults as engine
use Rattle.fw_run.specs.declared.fault.RunFault.{RunFault}
use Rattle.fw_run.specs.declared.fault.RunFault.TheVariants as stop
use Rattle.fw_run.specs.Enduring.{with_faults, RoseBy, RoseByFaults, RoseOrFull, StaysOrRose}
use Rattle.fw_run.specs.Fault.{faults_after_run}

-- ---- counts

-- so many faults, and so many more
with_more : (count n k : ℕ) → with_faults k (with_faults n count) ≡ with_faults (n + k) count
with_more count n zero = let same : n ≡ n + zero = omega arith in ap (λ (m : ℕ). with_faults m count) same
with_more count n (suc k) =
    let same : suc (n + k) ≡ n + suc k = omega arith in
    ap one_more (with_more count n k) ∙ ap (λ (m : ℕ). with_faults m count) same

-- no fault makes a count fall
pub never_falls-one : (count : ℕ) → count ≤ one_more count
never_falls-one count = omega arith

never_falls-many : (times count : ℕ) → count ≤ with_faults times count
never_falls-many zero count = omega arith
never_falls-many (suc times) count = omega (arith, never_falls-many times count, never_falls-one (with_faults times count))

pub never_falls-store : (before after : ℕ) → StaysOrRose before after → before ≤ after
never_falls-store before after r = subst (λ (n : ℕ). before ≤ n) (sym r.1) (never_falls-many r.0 before)

-- and one makes it rise, if it is not at its end
rose_or_full : (times count : ℕ) → 1 ≤ times → RoseOrFull count (with_faults times count)
rose_or_full zero count some = absurd (omega (arith, some))
rose_or_full (suc times) count some = elim (cases_lt count (2 ^ 64 - 1)) [
  | inl less ↦ inl (omega (arith, less, never_falls-many times count))
  | inr full ↦ inr full
]

pub rose_by : (before after : ℕ) → RoseByFaults before after → RoseOrFull before after
rose_by before after r = subst (RoseOrFull before) (sym r.2) (rose_or_full r.0 before r.1)

pub rose_more : (a b c n k : ℕ) → RoseBy a b n → RoseBy b c k → RoseBy a c (n + k)
rose_more a b c n k e f = f ∙ ap (with_faults k) e ∙ with_more a n k

-- a count that stayed or rose, and then again
pub rises_more : (a b c : ℕ) → StaysOrRose a b → StaysOrRose b c → StaysOrRose a c
rises_more a b c r s = (r.0 + s.0, rose_more a b c r.0 s.0 r.1 s.1)

-- ---- answers

-- how often a store failed is told by the answer
pub none_after : {T : Type 0} (answer : Result T RunFault) (before after : ℕ) → after ≡ faults_after_run answer before → OnOk answer (after ≡ before)
none_after (Ok value) before after e = e
none_after (Err fault) before after e = tt

pub some_after : {T : Type 0} (answer : Result T RunFault) (before after : ℕ) → after ≡ faults_after_run answer before → IsErrOf answer (stop.Engine fault.StoreFault)
    → RoseByFaults before after
some_after {T} answer before after e is = (1, omega arith, e ∙ ap (λ (r : Result T RunFault). faults_after_run r before) is)

pub rises_after : {T : Type 0} (answer : Result T RunFault) (before after : ℕ) → after ≡ faults_after_run answer before → StaysOrRose before after
rises_after (Ok value) before after e = (0, e)
rises_after (Err (stop.Out f)) before after e = (0, e)
rises_after (Err (stop.Engine fault.StoreFault)) before after e = (1, e)
rises_after (Err (stop.Engine (fault.Damaged id))) before after e = (0, e)
rises_after (Err (stop.Engine fault.NoMemory)) before after e = (0, e)

-- a fault that is not one of the store
pub stays_after : (T : Type 0) (f : RunFault) (before after : ℕ) → (f ≡ stop.Engine fault.StoreFault → ⊥) → after ≡ faults_after_run {T = T} (Err f) before → RoseBy before after 0
stays_after T (stop.Out f) before after other e = e
stays_after T (stop.Engine fault.StoreFault) before after other e = absurd (other refl)
stays_after T (stop.Engine (fault.Damaged id)) before after other e = e
stays_after T (stop.Engine fault.NoMemory) before after other e = e

-- a fault of the engine is told as it was
pub told_after : (A B : Type 0) (f : EngineFault) (before after : ℕ) → after ≡ engine.faults_after_step {T = A} (Err f) before → after ≡ faults_after_run {T = B} (Err (stop.Engine f)) before
told_after A B fault.StoreFault before after e = e
told_after A B (fault.Damaged id) before after e = e
told_after A B fault.NoMemory before after e = e

-- and a fault of a run with another value
pub passed_after : (A B : Type 0) (f : RunFault) (before after : ℕ) → after ≡ faults_after_run {T = A} (Err f) before → after ≡ faults_after_run {T = B} (Err f) before
passed_after A B (stop.Out f) before after e = e
passed_after A B (stop.Engine fault.StoreFault) before after e = e
passed_after A B (stop.Engine (fault.Damaged id)) before after e = e
passed_after A B (stop.Engine fault.NoMemory) before after e = e
