-- What the parts tell is what a root tells; and what that is of a state.
use Rattle.std.proofs.Common.{◌≡◌, ℕ, ◌<◌, true, List, filter, length, map, Option, sym, ap, subst, ◌∙◌, arith}
use Rattle.std.specs.List.{AllByRecursion, AllZip}
use Rattle.fw_lemmas.proofs.Each.{each-weaker}
use Rattle.fw_flow.specs.Dataflow.{Dataflow, System, kind_of, system_of}
use Rattle.fw_model.specs.Machine.{Machine}
use Rattle.fw_keep.specs.declared.entry.Entry.{Entry}
use Rattle.fw_keep.specs.Stored.{Records}
use Rattle.fw_progress.specs.declared.counts.Counts.{Counts}
use Rattle.fw_progress.specs.Counts.{AreCounts}
use Rattle.fw_regain.specs.Down.{down}
use Rattle.fw_root.specs.OfFlow.{Given, nodes_as, plays}
use Rattle.fw_root.specs.Sound.{IsRootFor}
use Rattle.fw_root.specs.declared.of_flow.Role.TheVariants as role
use Rattle.fw_root.specs.declared.root.Root.{Root}
use Rattle.fw_running.specs.declared.running.Running.{Running}
use Rattle.fw_running.specs.Kept.{output_of, source_of}
use Rattle.fw_running.specs.Shaped.{IsShaped}
use Rattle.fw_running.specs.Stands.{Stands}
use Rattle.fw_resume.specs.Counted.{AreOwedOf, ArePendingOf}
use Rattle.fw_resume.specs.Fronts.{AreFrontsTold}
use Rattle.fw_resume.specs.Named.{AreNamed}
use Rattle.fw_resume.specs.Names.{AreOthers, name_of}
use Rattle.fw_resume.specs.Resumable.{IsResumable}
use Rattle.fw_resume.specs.RootTold.{IsToldBy}
use Rattle.fw_resume.specs.Sends.{AreSendsTold}
use Rattle.fw_resume.proofs.NamedLaws.{named}
use Rattle.fw_resume.proofs.RootLaws.{each-as, is_root}
use Rattle.fw_resume.proofs.StayLaws.{all_under}

-- the records hold the writes that a root names, where it tells what an engine keeps that stands for a state
pub told-named : (sys : System) (records : Option Records) (state : Machine) (running : Running) (root : Root) → Stands sys running records state → IsToldBy running root
    → AreNamed sys (down sys state) root records
told-named sys records state running root s t =
    named sys records state running.parts.keep.entries root s.apart.well_formed s.apart.reached s.apart.entries s.apart.bases s.apart.stored t.ids.writes

-- each sequence has a table
pub all_there : (flow : Dataflow) (kept counts : Counts) (ps : List ℕ) → AreCounts flow kept → counts ≡ kept → ps ≡ nodes_as flow role.ByCount
    → AllByRecursion (λ p. p < length counts.sent.items) ps
all_there flow kept counts ps a c e =
    let n : length counts.sent.items ≡ length flow.nodes = ap (λ (x : Counts). length x.sent.items) c ∙ a.sent_each in
    subst (AllByRecursion (λ p. p < length counts.sent.items)) (sym e)
    (each-weaker (λ p. (p < length flow.nodes) × (plays role.ByCount (kind_of flow p) ≡ true)) (λ p. p < length counts.sent.items) (nodes_as flow role.ByCount)
    (λ p k. let l = k.0 in omega (arith, l, n)) (each-as flow role.ByCount))

-- a root with these parts tells what the engine keeps
pub told_by : (running : Running) (root : Root) (inputs outputs sequences : List ℕ) (entries : List Entry) (counts : Counts) → inputs ≡ nodes_as running.flow role.Input
    → outputs ≡ nodes_as running.flow role.Output → sequences ≡ nodes_as running.flow role.ByCount → entries ≡ running.parts.keep.entries → counts ≡ running.progress.counts
    → root.next_id ≡ running.parts.keep.next → root.injected ≡ map (λ (s : ℕ). (source_of running s).injected) inputs
    → root.bounds ≡ map (λ (o : ℕ). (output_of running o).bound) outputs → AreFrontsTold running (length running.flow.nodes) root.fronts
    → root.writes ≡ map name_of (filter (λ (e : Entry). e.acknowledged) entries) → AreOthers running.parts.keep root.others
    → ArePendingOf running.progress.counts (length running.flow.edges) root.pending → AreOwedOf running.progress.counts (length running.flow.nodes) root.owed
    → AllZip (AreSendsTold counts) sequences root.sends → IsToldBy running root
told_by running root inputs outputs sequences entries counts is os qs es cs next injected bounds fronts writes others pending owed sends = record {
  ids = record {
    next = next;
    writes = writes ∙ ap (λ (xs : List Entry). map name_of (filter (λ (e : Entry). e.acknowledged) xs)) es;
    others = others;
  };
  injected = injected ∙ ap (map (λ (s : ℕ). (source_of running s).injected)) is;
  bounds = bounds ∙ ap (map (λ (o : ℕ). (output_of running o).bound)) os;
  fronts = fronts;
  pending = pending;
  owed = owed;
  sends = subst (λ (x : Counts). AllZip (AreSendsTold x) (nodes_as running.flow role.ByCount) root.sends) cs
      (subst (λ (ps : List ℕ). AllZip (AreSendsTold counts) ps root.sends) qs sends);
}

-- an engine can start again from a root that tells what was kept, and that is one of the flow and its batches
pub resumable : (batches : Given) (records : Option Records) (state : Machine) (running : Running) (root : Root) → IsShaped running
    → Stands (system_of running.flow batches) running records state → IsToldBy running root → IsRootFor running.flow batches root
    → IsResumable running.flow batches state root records
resumable batches records state running root shaped s t sound =
    let sys : System = system_of running.flow batches in
    let named = told-named sys records state running root s t in record {
      well_formed = s.apart.well_formed;
      reached = s.apart.reached;
      of_flow = sound;
      of_state = is_root sys records state running root shaped s t;
      named = named;
      there = all_under sys (down sys state) root records named;
    }
