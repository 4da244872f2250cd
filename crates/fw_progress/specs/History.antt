-- When progress stands for a history.
use Rattle.std.specs.Prelude.{◌≡◌, ℕ, ◌<◌, Bool, true, false, List, ◌∷◌, [], length, map}
use Rattle.std.specs.List.{AllByRecursion}
use Rattle.fw_time.specs.Stamp.{Stamp, same}
use Rattle.fw_bag.specs.declared.rec.Rec.{Rec}
use Rattle.fw_frontier.specs.Front.{Front}
use Rattle.fw_flow.specs.Counting.{how_many}
use Rattle.fw_flow.specs.declared.event.Event.{Event}
use Rattle.fw_flow.specs.declared.event.Message.{Message}
use Rattle.fw_flow.specs.Dataflow.{Dataflow, System, kind_of, batches_of, HasEpochs}
use Rattle.fw_flow.specs.NodeFunction.{event_node, sends}
use Rattle.fw_flow.specs.Projection.{events_at, IsSentTable}
use Rattle.fw_flow.specs.SentTable.{EpochsAscend}
use Rattle.fw_model.specs.History.{pending_messages, is_owed_notice, was_notified, injected_count, IsAdmissible, IsComplete, IsLegal}
use Rattle.fw_model.specs.LawsOfProgress.{IsStuck}
use Rattle.fw_model.specs.Machine.{family_of}
use Rattle.fw_model.specs.Sending.{SendsByCount}
use Rattle.fw_progress.specs.declared.counts.Counts.{Counts}
use Rattle.fw_progress.specs.declared.growth.Growth.{Growth}
use Rattle.fw_progress.specs.Counts.{pending_of, owed_of, batches_in, injected_in, sent_of, is_in}
use Rattle.fw_progress.specs.Growths.{AreGrowths}
use Rattle.fw_progress.specs.Progress.{Standing}
use Rattle.fw_progress.specs.Tally.{times_in, has_one}

-- how many of the messages are at a stamp
abbrev pub count_at : Stamp → List Message → ℕ
count_at t ms = how_many (λ (m : Message). same t m.at) ms

-- The counts are those of a history: what is pending on each edge, what each node is owed, what each input injected, and what each
-- sequence sent in the epochs of which it was notified.
pub record IsCountOf (sys : System) (h : List Event) (counts : Counts) : Type 0 where
  pub pending : (e : ℕ) → e < length sys.flow.edges → (t : Stamp) → times_in t (pending_of counts e) ≡ count_at t (pending_messages sys h e)
  pub owed : (p : ℕ) → p < length sys.flow.nodes → (t : Stamp) → has_one t (owed_of counts p) ≡ is_owed_notice sys h p t
  pub batches : (p : ℕ) → p < length sys.flow.nodes → batches_in counts p ≡ length (batches_of sys p)
  pub injected : (p : ℕ) → p < length sys.flow.nodes → injected_in counts p ≡ injected_count p h
  pub sent : (p : ℕ) → p < length sys.flow.nodes → SendsByCount (kind_of sys.flow p) → IsSentTable sys h p (sent_of counts p)
  pub in_order : (p : ℕ) → p < length sys.flow.nodes → SendsByCount (kind_of sys.flow p) → EpochsAscend (sent_of counts p)
  pub epochs : (p : ℕ) → p < length sys.flow.nodes → SendsByCount (kind_of sys.flow p)
      → AllByRecursion (λ entry. was_notified p (entry.0 ∷ []) h ≡ true) (sent_of counts p)

-- The kept frontiers are admissible after a history, and those of the nodes that do not wait can not be widened.
pub record AreKeptAdmissible (sys : System) (h : List Event) (kept : List Front) (work : List ℕ) : Type 0 where
  pub admissible : IsAdmissible sys h (family_of sys.flow kept)
  pub stuck : (p : ℕ) → p < length sys.flow.nodes → is_in work p ≡ false → IsStuck sys h (family_of sys.flow kept) p

-- progress stands for a history
pub record StandsForHistory (sys : System) (h : List Event) (now : Standing) : Type 0 where
  pub counts : IsCountOf sys h now.counts
  pub kept : AreKeptAdmissible sys h now.kept now.work

-- the recs that an event makes its node send, with their stamps
abbrev pub recs_sent : System → List Event → Event → List (Stamp × Rec)
recs_sent sys h v = map (λ (m : Message). (m.at, m.rec)) (sends sys (event_node sys.flow v) (events_at sys.flow (event_node sys.flow v) h) v)

-- the lists have the same recs at the same stamps, in whatever order
abbrev pub AreSameRecs : List (Stamp × Rec) → List (Stamp × Rec) → Type 0
AreSameRecs xs ys = (test : Stamp × Rec → Bool) → how_many test xs ≡ how_many test ys

-- progress follows an event at which its node sends these recs: it stands for the history that goes on with the event, where it
-- stood for that before
abbrev pub FollowsEvent : Dataflow → Event → List (Stamp × Rec) → Standing → Standing → Type 0
FollowsEvent flow v sent old new =
    (sys : System) (h : List Event) → sys.flow ≡ flow → HasEpochs sys → IsLegal sys (v ∷ h) → AreSameRecs (recs_sent sys h v) sent
    → StandsForHistory sys h old → StandsForHistory sys (v ∷ h) new

-- Nothing is counted or settled anew, the kept frontiers only grew, and stay where no node waited, no node waits, and the kept
-- frontiers are complete after each history for which progress stood.
pub record IsFresh (flow : Dataflow) (old new : Standing) : Type 0 where
  pub counts : new.counts ≡ old.counts
  pub settled : new.settled ≡ old.settled
  pub growths : List Growth
  pub grown : AreGrowths flow old.kept growths new.kept
  pub none_waits : new.work ≡ []
  pub still : old.work ≡ [] → new.kept ≡ old.kept
  pub ready : new.refused ≡ false
  pub complete : (sys : System) (h : List Event) → sys.flow ≡ flow → StandsForHistory sys h old → StandsForHistory sys h new × IsComplete sys h (family_of flow new.kept)
