-- What an engine that starts again answers, by what was read of its records.
use Rattle.std.proofs.Common.{◌≡◌, ℕ, true, List, Option, Err, sym, ap, subst, ◌∙◌}
use Rattle.fw_flow.specs.Dataflow.{Dataflow, System, system_of}
use Rattle.fw_flow.specs.WellFormed.{IsWellFormedSystem}
use Rattle.fw_model.specs.Machine.{Machine}
use Rattle.fw_model.specs.Reached.{IsReached}
use Rattle.fw_model.proofs.RestoringLaws.{full-declared}
use Rattle.fw_keep.specs.declared.fault.KeepFault.{KeepFault}
use Rattle.fw_keep.specs.declared.fault.KeepFault.TheVariants as keep
use Rattle.fw_keep.specs.Catalogue.{KeepState}
use Rattle.fw_keep.specs.Faults.{keep_faults_after}
use Rattle.fw_keep.specs.Stored.{IsStored, Records}
use Rattle.fw_regain.specs.Down.{down}
use Rattle.fw_regain.specs.RootOf.{IsRootOf}
use Rattle.fw_regain.proofs.DownLaws.{down-reached}
use Rattle.fw_regain.proofs.RootLaws.{down-same_roots}
use Rattle.fw_root.specs.declared.root.Root.{Root}
use Rattle.fw_root.specs.OfFlow.{Given}
use Rattle.fw_root.specs.Sound.{IsRootFor}
use Rattle.fw_running.specs.declared.running.Running.{Running}
use Rattle.fw_running.specs.Faults.{fault_of, faults_after_step}
use Rattle.fw_running.specs.Held.{StandsHeld}
use Rattle.fw_resume.specs.Catalogue.{AreNamesFor, GivesKept, HoldsKept, IsNamedState, TellsDamage}
use Rattle.fw_resume.specs.Named.{AreNamed}
use Rattle.fw_resume.specs.Resumed.{AreEntriesLeft, IsResumedBy, IsRootStateOf, KnowsPast, Resumes, TellsDamaged}
use Rattle.fw_resume.proofs.DownKeptLaws.{holds-left}
use Rattle.fw_resume.proofs.ResumeLaws.{resumed_stands}

pub names_for : (flow : Dataflow) (batches : Given) (root : Root) → IsRootFor flow batches root → AreNamesFor flow root
names_for flow batches root r = record { next_id = r.next_id; writes = r.writes; others = r.others }

-- ---- faults of the catalogue

pub damage_tells : (flow : Dataflow) (root : Root) (given : Option (ℕ × List ℕ)) (why : KeepFault) → TellsDamage {T = KeepState} flow root given (Err why)
    → TellsDamaged flow root given (Err (fault_of why))
damage_tells flow root given keep.StoreFault d = tt
damage_tells flow root given (keep.Damaged id bytes) d = d
damage_tells flow root given keep.NoMemory d = tt

pub fault_resumes : (sys : System) (state : Machine) (records : Option Records) (why : KeepFault) → GivesKept sys state records (Err why) → Resumes sys state records (Err (fault_of why))
fault_resumes sys state records keep.StoreFault d = tt
fault_resumes sys state records (keep.Damaged id bytes) d = d
fault_resumes sys state records keep.NoMemory d = tt

pub faults_go : (why : KeepFault) (before after : ℕ) → after ≡ keep_faults_after {T = KeepState} (Err why) before
    → after ≡ faults_after_step {T = Running} (Err (fault_of why)) before
faults_go keep.StoreFault before after e = e
faults_go (keep.Damaged id bytes) before after e = e
faults_go keep.NoMemory before after e = e

-- ---- where every node is failed

pub named_down : (sys : System) (flow : Dataflow) (root : Root) (records : Option Records) (state : Machine) → sys.flow ≡ flow → IsWellFormedSystem sys → IsReached sys state
    → IsRootOf sys state root → AreNamed sys (down sys state) root records → IsNamedState flow root records sys (down sys state)
named_down sys flow root records state e w r o a = record {
  of_flow = e;
  well_formed = w;
  reached = down-reached sys state r;
  of_state = (down-same_roots sys state root).0 o;
  named = a;
}

-- ---- what is held

pub resumed_held : (flow : Dataflow) (batches : Given) (root : Root) (kept : KeepState) (running : Running) (records : Option Records) (state : Machine)
    → let sys = system_of flow batches in IsWellFormedSystem sys → IsReached sys state → IsRootOf sys state root → IsResumedBy flow batches root kept running
    → HoldsKept sys (down sys state) records kept
    → ((s : Machine) → IsRootStateOf flow batches root s → AreEntriesLeft sys s kept.entries → KnowsPast sys s running)
    → StandsHeld sys running records (down sys state)
resumed_held flow batches root kept running records state w r o f h knows =
    let sys : System = system_of flow batches in
    let left = holds-left sys state records kept h in
    let past = knows state (record { well_formed = w; reached = r; of_state = o }) left.entries in
    resumed_stands flow batches root kept running records state w r o f past.progress left.entries left.bases left.stored past.traces
    (λ p k. past.lost p (full-declared flow p k) k)

-- ---- what is kept

-- a catalogue that is stored, and may hold what others put, is that where it is among the parts
pub kept_stored : (flow : Dataflow) (batches : Given) (root : Root) (kept : KeepState) (running : Running) (records : Option Records)
    → IsResumedBy flow batches root kept running → IsStored kept records → IsStored running.parts.keep records
kept_stored flow batches root kept running records f = subst (λ (k : KeepState). IsStored k records) (sym f.parts.keep)

pub kept_shared : (flow : Dataflow) (batches : Given) (root : Root) (kept : KeepState) (running : Running) → IsResumedBy flow batches root kept running → kept.shared ≡ true
    → running.parts.keep.shared ≡ true
kept_shared flow batches root kept running f e = ap (λ (k : KeepState). k.shared) f.parts.keep ∙ e

pub kept_next : (flow : Dataflow) (batches : Given) (root : Root) (kept : KeepState) (running : Running) → IsResumedBy flow batches root kept running → kept.next ≡ root.next_id
    → running.parts.keep.next ≡ root.next_id
kept_next flow batches root kept running f e = ap (λ (k : KeepState). k.next) f.parts.keep ∙ e
