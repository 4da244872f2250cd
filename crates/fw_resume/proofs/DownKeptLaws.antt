-- What stands for the writes of a state that are kept stands for what is left where every node is failed.
use Rattle.std.proofs.Common.{◌≡◌, false, not, Option, refl, sym, subst}
use Rattle.fw_lemmas.proofs.Each.{each-weaker}
use Rattle.fw_lemmas.proofs.Filters.{filter-same_on}
use Rattle.fw_flow.specs.declared.step.Step.TheVariants.{Fail}
use Rattle.fw_flow.specs.Dataflow.{System, node_ids}
use Rattle.fw_flow.specs.WellFormed.{IsWellFormedSystem}
use Rattle.fw_model.specs.Choice.{kept, is_counted}
use Rattle.fw_model.specs.Machine.{Machine, Stage, in_flight, acknowledged, collected, Write}
use Rattle.fw_model.specs.Reached.{IsReached}
use Rattle.fw_model.specs.Steps.{Outcome, did, idle, StepsTo, is_in_flight}
use Rattle.fw_model.specs.Writes.{is_collected, not_collected}
use Rattle.fw_keep.specs.Catalogue.{KeepState}
use Rattle.fw_keep.specs.Stored.{Records}
use Rattle.fw_policy.specs.Entries.{AreEntriesOf, uncollected}
use Rattle.fw_stands.specs.Entries.{AreBasesOf}
use Rattle.fw_stands.specs.Written.{AreStored}
use Rattle.fw_stands.proofs.EntrySteps.{entries-stay, left-stay, records-stay}
use Rattle.fw_regain.specs.Down.{down}
use Rattle.fw_regain.proofs.DownLaws.{are-down, go-down}
use Rattle.fw_resume.specs.Catalogue.{HoldsKept}
use Rattle.fw_resume.specs.Names.{kept_writes}
use Rattle.fw_resume.proofs.KeptWriteLaws.{kept-of_down}

landed-alike : (far : Stage) → is_in_flight far ≡ false → is_counted kept far ≡ not (is_collected far)
landed-alike in_flight k = absurd cc
landed-alike acknowledged k = refl
landed-alike collected k = refl

-- where every node is failed what is kept is what was not collected
pub kept-is_left : (sys : System) (state : Machine) → kept_writes (down sys state) ≡ uncollected (down sys state)
kept-is_left sys state =
    filter-same_on (λ (x : Write). is_counted kept x.stage) not_collected (down sys state).writes
    (each-weaker (λ (x : Write). is_in_flight x.stage ≡ false) (λ (x : Write). is_counted kept x.stage ≡ not_collected x) (down sys state).writes
    (λ x k. landed-alike x.stage k) (are-down sys state).lost)

-- The entries stand for what was not collected, each on the base of its write and with its record.
pub record HoldsLeft (sys : System) (state : Machine) (records : Option Records) (keep : KeepState) : Type 0 where
  pub entries : AreEntriesOf sys state keep.entries (uncollected state)
  pub bases : AreBasesOf keep.entries keep.entries (uncollected state)
  pub stored : AreStored sys state records keep.entries (uncollected state)

-- a catalogue that holds what is kept there holds what is left
pub holds-left : (sys : System) (state : Machine) (records : Option Records) (keep : KeepState) → HoldsKept sys (down sys state) records keep
    → HoldsLeft sys (down sys state) records keep
holds-left sys state records keep h =
    let is = kept-is_left sys state in
    record {
      entries = subst (AreEntriesOf sys (down sys state) keep.entries) is h.entries;
      bases = subst (AreBasesOf keep.entries keep.entries) is h.bases;
      stored = subst (AreStored sys (down sys state) records keep.entries) is h.stored;
    }

-- and so does one that holds what is kept in the state before
pub holds-left_down : (sys : System) → IsWellFormedSystem sys → (state : Machine) → IsReached sys state → (records : Option Records) (keep : KeepState)
    → HoldsKept sys state records keep → HoldsLeft sys (down sys state) records keep
holds-left_down sys w state r records keep h = by (go-down sys state r).0 (go-down sys state r).1
  where
    is : kept_writes state ≡ uncollected (down sys state)
    is = sym (kept-of_down sys state)

    same : (next : Machine) → next ≡ state → kept_writes state ≡ uncollected next → HoldsLeft sys next records keep
    same next e k = subst (λ m. kept_writes state ≡ uncollected m → HoldsLeft sys m records keep) (sym e) (λ left. record {
      entries = subst (AreEntriesOf sys state keep.entries) left h.entries;
      bases = subst (AreBasesOf keep.entries keep.entries) left h.bases;
      stored = subst (AreStored sys state records keep.entries) left h.stored;
    }) k

    by : (outcome : Outcome) → StepsTo sys state (Fail (node_ids sys.flow)) (down sys state) outcome → HoldsLeft sys (down sys state) records keep
    by idle s = same (down sys state) s.1 is
    by (did effect) s =
        let stays = left-stay sys w state r (Fail (node_ids sys.flow)) (down sys state) effect s in
        record {
          entries = entries-stay sys state (down sys state) keep.entries (uncollected (down sys state)) stays (subst (AreEntriesOf sys state keep.entries) is h.entries);
          bases = subst (AreBasesOf keep.entries keep.entries) is h.bases;
          stored = records-stay sys state (down sys state) records keep.entries (uncollected (down sys state)) stays
              (subst (AreStored sys state records keep.entries) is h.stored);
        }
