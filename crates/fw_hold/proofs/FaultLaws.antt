-- Faults that are passed on.
use Rattle.std.proofs.Common.{◌≡◌, inl, inr, ℕ, List, [], Result, Ok, Err, refl, sym, ap, subst, ◌∙◌}
use Rattle.std.specs.Prelude.{IsErrOf}
use Rattle.fw_outside.specs.Outside.{SinkView}
use Rattle.fw_command.specs.Writing.{IsRefusedBy, IsWritten, faults_by}
use Rattle.fw_running.specs.declared.fault.EngineFault.{EngineFault}
use Rattle.fw_running.specs.declared.fault.EngineFault.TheVariants as engine
use Rattle.fw_running.specs.Faults.{faults_after_step}
use Rattle.fw_hold.specs.declared.fault.HoldFault.{HoldFault}
use Rattle.fw_hold.specs.declared.fault.HoldFault.TheVariants.{Out, Engine, DamagedRoot, ForeignRoot}
use Rattle.fw_hold.specs.Faults.{IsNotOut, IsOfRoot, IsOfStore, faults_after_hold}
use Rattle.fw_hold.specs.Going.{CountsOut, HaveSameCounts, TellsLines, WritesUpTo}
use Rattle.fw_hold.specs.Starting.{IsToldForeign, TellsOpening}
use Rattle.fw_hold.proofs.EndLaws.{IsOfPut}
use Rattle.fw_hold.proofs.MakingLaws.{IsUndamaged, cut_lines}

abbrev fault_in : {T : Type 0} → HoldFault → Result T HoldFault → HoldFault
fault_in other (Ok value) = other
fault_in other (Err fault) = fault

-- a damaged root is told on
pub damage_passed : (S T : Type 0) (fault : HoldFault) (at : ℕ) → IsErrOf {T = S} (Err fault) (DamagedRoot at) → IsErrOf {T = T} (Err fault) (DamagedRoot at)
damage_passed S T fault at e = ap Err (ap (fault_in fault) e)

-- ---- a put

-- a fault of the store that tells no damaged root is one of a put
pub of_put : (T : Type 0) (fault : HoldFault) → IsOfStore {T = T} (Err fault) → ((id : ℕ) → IsErrOf {T = T} (Err fault) (DamagedRoot id) → ⊥) → IsOfPut fault
of_put T (Out fault) only sound = absurd only
of_put T (Engine engine.StoreFault) only sound = tt
of_put T (Engine (engine.Damaged id)) only sound = absurd only
of_put T (Engine engine.NoMemory) only sound = tt
of_put T (DamagedRoot id) only sound = absurd (sound id refl)
of_put T ForeignRoot only sound = absurd only

-- it is none of a root
pub put_no_root : (T : Type 0) (fault : HoldFault) → IsOfPut fault → IsOfRoot {T = T} (Err fault) → ⊥
put_no_root T (Out fault) is of_root = absurd is
put_no_root T (Engine fault) is of_root = of_root
put_no_root T (DamagedRoot id) is of_root = is
put_no_root T ForeignRoot is of_root = is

-- ---- the engine

pub undamaged_is : (T : Type 0) (fault : EngineFault) → ((id : ℕ) → IsErrOf {T = T} (Err fault) (engine.Damaged id) → ⊥) → IsUndamaged fault
undamaged_is T engine.StoreFault sound = tt
undamaged_is T (engine.Damaged id) sound = absurd (sound id refl)
undamaged_is T engine.NoMemory sound = tt

-- how often the store failed
pub step_faults : (S T : Type 0) (fault : EngineFault) (count : ℕ) → faults_after_step {T = S} (Err fault) count ≡ faults_after_hold {T = T} (Err (Engine fault)) count
step_faults S T engine.StoreFault count = refl
step_faults S T (engine.Damaged id) count = refl
step_faults S T engine.NoMemory count = refl

-- all lines were written, and then the engine failed
pub wrote_all : (T : Type 0) (text lines : List ℕ) (fault : EngineFault) (before after : SinkView) → IsUndamaged fault → IsWritten text before after
    → WritesUpTo {T = T} text lines (Err (Engine fault)) before after
wrote_all T text lines engine.StoreFault before after is w = w
wrote_all T text lines (engine.Damaged id) before after is w = is
wrote_all T text lines engine.NoMemory before after is w = w

-- ---- damage

-- of the engine's fault
pub damage_in : (S T : Type 0) (fault : EngineFault) (id : ℕ) → IsErrOf {T = T} (Err (Engine fault)) (Engine (engine.Damaged id)) → IsErrOf {T = S} (Err fault) (engine.Damaged id)
damage_in S T engine.StoreFault id e = absurd (cc)
damage_in S T (engine.Damaged at) id e = let same : at ≡ id = cc in ap (λ n. Err (engine.Damaged n)) same
damage_in S T engine.NoMemory id e = absurd (cc)

-- want of memory is none, nor a root's fault
pub memory_undamaged : (T : Type 0) (id : ℕ) → IsErrOf {T = T} (Err (Engine engine.NoMemory)) (Engine (engine.Damaged id)) → ⊥
memory_undamaged T id e = absurd (cc)

pub memory_no_root : (T : Type 0) (id : ℕ) → IsErrOf {T = T} (Err (Engine engine.NoMemory)) (DamagedRoot id) → ⊥
memory_no_root T id e = absurd (cc)

pub memory_not_foreign : (T : Type 0) → IsErrOf {T = T} (Err (Engine engine.NoMemory)) ForeignRoot → ⊥
memory_not_foreign T e = absurd (cc)

-- a fault of the store or of a root there is no damage of a record, nor a root of other texts
pub store_undamaged : (S T : Type 0) (fault : HoldFault) → IsOfStore {T = S} (Err fault) → (id : ℕ) → IsErrOf {T = T} (Err fault) (Engine (engine.Damaged id)) → ⊥
store_undamaged S T fault only id e = subst (λ f. IsOfStore {T = S} (Err f)) (ap (fault_in fault) e) only

pub store_not_foreign : (S T : Type 0) (fault : HoldFault) → IsOfStore {T = S} (Err fault) → IsErrOf {T = T} (Err fault) ForeignRoot → ⊥
store_not_foreign S T fault only e = subst (λ f. IsOfStore {T = S} (Err f)) (ap (fault_in fault) e) only

-- nor is one of the output
pub tells_undamaged : (S T : Type 0) (lines : List ℕ) (fault : HoldFault) (before after : SinkView) → TellsLines {T = S} lines (Err fault) before after → (id : ℕ)
    → IsErrOf {T = T} (Err fault) (Engine (engine.Damaged id)) → ⊥
tells_undamaged S T lines fault before after t id e = subst (λ f. TellsLines {T = S} lines (Err f) before after) (ap (fault_in fault) e) t

pub opening_undamaged : (S T : Type 0) (text : List ℕ) (fault : HoldFault) (before after : SinkView) → TellsOpening {T = S} text (Err fault) before after → (id : ℕ)
    → IsErrOf {T = T} (Err fault) (Engine (engine.Damaged id)) → ⊥
opening_undamaged S T text fault before after t id e = subst (λ f. TellsOpening {T = S} text (Err f) before after) (ap (fault_in fault) e) t

-- a root's fault is one of a root
pub of_damaged_root : (T : Type 0) (result : Result T HoldFault) (id : ℕ) → IsErrOf result (DamagedRoot id) → IsOfRoot result
of_damaged_root T result id e = subst (λ (r : Result T HoldFault). IsOfRoot r) (sym e) tt

pub of_foreign_root : (T : Type 0) (result : Result T HoldFault) → IsErrOf result ForeignRoot → IsOfRoot result
of_foreign_root T result e = subst (λ (r : Result T HoldFault). IsOfRoot r) (sym e) tt

-- want of memory is answered of a root that is spelled: so one that is damaged is the spelling of none
pub damaged_no_root : (T : Type 0) (fault : HoldFault) (id : ℕ) → fault ≡ Engine engine.NoMemory → IsErrOf {T = T} (Err fault) (DamagedRoot id) → ⊥
damaged_no_root T fault id memory e = let is : fault ≡ DamagedRoot id = ap (fault_in fault) e in absurd (cc)

-- ---- the output

-- lines were cut off
pub wrote_first : (S T : Type 0) (lines : List ℕ) (fault : HoldFault) (before after : SinkView) → TellsLines {T = S} lines (Err fault) before after
    → WritesUpTo {T = T} lines lines (Err fault) before after
wrote_first S T lines (Out fault) before after t = ([], refl, cut_lines lines fault before after t)
wrote_first S T lines (Engine fault) before after t = absurd t
wrote_first S T lines (DamagedRoot id) before after t = t
wrote_first S T lines ForeignRoot before after t = t

pub tells_counts : (S T : Type 0) (lines : List ℕ) (fault : HoldFault) (before after : SinkView) → TellsLines {T = S} lines (Err fault) before after
    → CountsOut {T = T} (Err fault) before after
tells_counts S T lines (Out fault) before after t = (t.faults, t.refusals)
tells_counts S T lines (Engine fault) before after t = absurd t
tells_counts S T lines (DamagedRoot id) before after t = absurd t
tells_counts S T lines ForeignRoot before after t = absurd t

pub tells_no_root : (S T : Type 0) (lines : List ℕ) (fault : HoldFault) (before after : SinkView) → TellsLines {T = S} lines (Err fault) before after → IsOfRoot {T = T} (Err fault) → ⊥
tells_no_root S T lines (Out fault) before after t of_root = of_root
tells_no_root S T lines (Engine fault) before after t of_root = of_root
tells_no_root S T lines (DamagedRoot id) before after t of_root = t
tells_no_root S T lines ForeignRoot before after t of_root = t

-- the store did not fail
pub tells_faults : (S T : Type 0) (lines : List ℕ) (fault : HoldFault) (before after : SinkView) (count : ℕ) → TellsLines {T = S} lines (Err fault) before after
    → count ≡ faults_after_hold {T = T} (Err fault) count
tells_faults S T lines (Out fault) before after count t = refl
tells_faults S T lines (Engine fault) before after count t = absurd t
tells_faults S T lines (DamagedRoot id) before after count t = refl
tells_faults S T lines ForeignRoot before after count t = refl

-- ---- whatever the value

pub hold_faults : (S T : Type 0) (fault : HoldFault) (count : ℕ) → faults_after_hold {T = S} (Err fault) count ≡ faults_after_hold {T = T} (Err fault) count
hold_faults S T (Out fault) count = refl
hold_faults S T (Engine engine.StoreFault) count = refl
hold_faults S T (Engine (engine.Damaged id)) count = refl
hold_faults S T (Engine engine.NoMemory) count = refl
hold_faults S T (DamagedRoot id) count = refl
hold_faults S T ForeignRoot count = refl

pub no_root_passed : (S T : Type 0) (fault : HoldFault) → (IsOfRoot {T = S} (Err fault) → ⊥) → IsOfRoot {T = T} (Err fault) → ⊥
no_root_passed S T (Out fault) sound r = r
no_root_passed S T (Engine fault) sound r = r
no_root_passed S T (DamagedRoot id) sound r = sound tt
no_root_passed S T ForeignRoot sound r = sound tt

-- counts behind counts that are the same
pub counts_well : (before mid after : SinkView) → HaveSameCounts before mid → HaveSameCounts mid after → HaveSameCounts before after
counts_well before mid after one other = record { faults = other.faults ∙ one.faults; refusals = other.refusals ∙ one.refusals }

pub counts_on : (S T : Type 0) (fault : HoldFault) (before mid after : SinkView) → HaveSameCounts before mid → CountsOut {T = S} (Err fault) mid after → CountsOut {T = T} (Err fault) before after
counts_on S T (Out fault) before mid after one c =
    (subst (λ n. after.faults ≡ faults_by fault n) one.faults c.0, subst (λ n. IsRefusedBy fault n after.refusals) one.refusals c.1)
counts_on S T (Engine fault) before mid after one c = counts_well before mid after one c
counts_on S T (DamagedRoot id) before mid after one c = counts_well before mid after one c
counts_on S T ForeignRoot before mid after one c = counts_well before mid after one c

-- where the output is not at fault its counts stay
pub counts_stay : (S T : Type 0) (fault : HoldFault) (view : SinkView) → IsNotOut {T = S} (Err fault) → CountsOut {T = T} (Err fault) view view
counts_stay S T (Out fault) view is = absurd is
counts_stay S T (Engine fault) view is = record { faults = refl; refusals = refl }
counts_stay S T (DamagedRoot id) view is = record { faults = refl; refusals = refl }
counts_stay S T ForeignRoot view is = record { faults = refl; refusals = refl }

pub store_not_out : (T : Type 0) (fault : HoldFault) → IsOfStore {T = T} (Err fault) → IsNotOut {T = T} (Err fault)
store_not_out T (Out fault) is = is
store_not_out T (Engine fault) is = tt
store_not_out T (DamagedRoot id) is = tt
store_not_out T ForeignRoot is = tt

-- a fault of the store that is none of a root is told where the root is one of other texts
pub store_foreign : (T : Type 0) (fault : HoldFault) → IsOfPut fault → IsToldForeign {T = T} (Err fault)
store_foreign T (Out fault) is = absurd is
store_foreign T (Engine engine.StoreFault) is = inr (inl refl)
store_foreign T (Engine (engine.Damaged id)) is = absurd is
store_foreign T (Engine engine.NoMemory) is = inr (inr refl)
store_foreign T (DamagedRoot id) is = absurd is
store_foreign T ForeignRoot is = absurd is

-- a root of other texts is told on
pub foreign_passed : (S T : Type 0) (fault : HoldFault) → IsErrOf {T = S} (Err fault) ForeignRoot → IsToldForeign {T = T} (Err fault)
foreign_passed S T fault e = inl (ap Err (ap (fault_in fault) e))
