-- What contracts see of progress.
use Rattle.std.specs.Prelude.{◌≡◌, ◌≢◌, ℕ, ◌+◌, ◌-◌, ◌<◌, ◌^◌, Bool, true, false, ◌&&◌, nat_lt, ◌==◌, List, [], ◌∷◌, ◌++◌, Option, filter, length, map, slice_index_or, slice_set, if◌then◌else◌}
use Rattle.std.specs.List.{AllByRecursion}
use Rattle.fw_time.specs.Stamp.{Stamp, same, in_domain}
use Rattle.fw_bag.specs.declared.rec.Rec.{Rec}
use Rattle.fw_frontier.specs.Front.{Front}
use Rattle.fw_flow.specs.Counting.{how_many}
use Rattle.fw_flow.specs.declared.key_part.KeyPart.{KeyPart}
use Rattle.fw_flow.specs.Dataflow.{Dataflow, kind_of, sender, receiver, bounds_of, is_notified_kind, is_sequence_kind}
use Rattle.fw_flow.specs.KeyParts.{is_of_part_if, part_of}
use Rattle.fw_flow.specs.SentTable.{EpochsAscend}
use Rattle.fw_model.specs.Machine.{AreCanonical}
use Rattle.fw_model.specs.Sending.{SendsByCount}
use Rattle.fw_progress.specs.declared.counts.Counts.{Counts}
use Rattle.fw_progress.specs.Counts.{AreCounts, AreNodes, batches_in, injected_in}
use Rattle.fw_progress.specs.Tally.{times_in, IsTallyOf, HasOneMore, HasOneLess, HasNoMore}

-- The counts; for each node what is settled and its kept frontier; the nodes that wait to be widened; and whether memory was
-- refused.
pub record Standing : Type 0 where
  pub counts : Counts
  pub settled : List Front
  pub kept : List Front
  pub work : List ℕ
  pub refused : Bool

-- There is a canonical front for each node.
pub record AreFrontsOf (flow : Dataflow) (fronts : List Front) : Type 0 where
  pub one_each : length fronts ≡ length flow.nodes
  pub canonical : AreCanonical flow fronts

-- all of it is of the flow
pub record IsOfFlow (flow : Dataflow) (now : Standing) : Type 0 where
  pub counts : AreCounts flow now.counts
  pub settled_each : length now.settled ≡ length flow.nodes
  pub settled : AreCanonical flow now.settled
  pub kept_each : length now.kept ≡ length flow.nodes
  pub kept : AreCanonical flow now.kept
  pub nodes : AreNodes flow now.work

-- the same, unless memory was refused
abbrev pub IsProgressOf : Dataflow → Standing → Type 0
IsProgressOf flow now = now.refused ≡ false → IsOfFlow flow now

-- in a list one place is changed so
pub record ChangesAt {A : Type 0} (i : ℕ) (d : A) (R : A → A → Type 0) (old new : List A) : Type 0 where
  pub one_each : length new ≡ length old
  pub here : R (slice_index_or old i d) (slice_index_or new i d)
  pub others : (k : ℕ) → k ≢ i → slice_index_or new k d ≡ slice_index_or old k d

-- each of the stamps can be sent by the node
abbrev pub CanSend : Dataflow → ℕ → List Stamp → Type 0
CanSend flow p stamps =
    (e : ℕ) → e < length flow.edges → sender flow e ≡ p → AllByRecursion (λ s. in_domain (bounds_of flow (receiver flow e)) s ≡ true) stamps

-- the stamps of recs that are sent
abbrev pub stamps_of_recs : List (Stamp × Rec) → List Stamp
stamps_of_recs sent = map (λ s. s.0) sent

-- those of the recs whose keys are of a part, where there is one
abbrev pub stamps_of_part : Option KeyPart → List (Stamp × Rec) → List Stamp
stamps_of_part part sent = map (λ s. s.0) (filter (λ s. is_of_part_if part s.1.key) sent)

-- those of the recs that an edge carries
abbrev pub stamps_on : Dataflow → ℕ → List (Stamp × Rec) → List Stamp
stamps_on flow e sent = stamps_of_part (part_of flow (receiver flow e)) sent

-- A node sends these recs: on each of its out-edges a message for each that the edge carries is pending more.
pub record ArePendingMore (flow : Dataflow) (p : ℕ) (sent : List (Stamp × Rec)) (old new : List (List (Stamp × ℕ))) : Type 0 where
  pub one_each : length new ≡ length old
  pub times : (e : ℕ) → e < length flow.edges → (t : Stamp)
      → times_in t (slice_index_or new e []) ≡ times_in t (slice_index_or old e []) + (if sender flow e == p then how_many (same t) (stamps_on flow e sent) else 0)
  pub domain : CanSend flow p (stamps_of_recs sent) → ((e : ℕ) → e < length flow.edges → IsTallyOf (bounds_of flow (receiver flow e)) (slice_index_or old e []))
      → (e : ℕ) → e < length flow.edges → IsTallyOf (bounds_of flow (receiver flow e)) (slice_index_or new e [])

-- one batch more is injected, if the number fits 64 bits
abbrev pub IsOneBatchMore : ℕ → ℕ → Type 0
IsOneBatchMore old new = old + 1 < 2 ^ 64 → new ≡ old + 1

-- so many messages were sent in an epoch, if the epochs of the table are in order and none of them is greater
abbrev pub IsSentMore : ℕ → ℕ → List (ℕ × ℕ) → List (ℕ × ℕ) → Type 0
IsSentMore epoch count old new = ((n : ℕ) → EpochsAscend (old ++ (epoch, n) ∷ [])) → new ≡ old ++ (epoch, count) ∷ []

-- A message at a stamp is delivered on an edge, and its receiver sends these recs: one less is pending there, the receiver is
-- owed a notification if it waits for them, and what it sends is pending.
pub record DeliversOne (flow : Dataflow) (e : ℕ) (at : Stamp) (sent : List (Stamp × Rec)) (old new : Counts) : Type 0 where
  pub between : List (List (Stamp × ℕ))
  pub taken : ChangesAt e [] (HasOneLess at) old.pending.items between
  pub sends : ArePendingMore flow (receiver flow e) sent between new.pending.items
  pub owes : is_notified_kind (kind_of flow (receiver flow e)) ≡ true → ChangesAt (receiver flow e) [] (HasOneMore at) old.owed.items new.owed.items
  pub owes_none : is_notified_kind (kind_of flow (receiver flow e)) ≡ false → new.owed.items ≡ old.owed.items
  pub batches : new.batches.items ≡ old.batches.items
  pub injected : new.injected.items ≡ old.injected.items
  pub counted : new.sent.items ≡ old.sent.items

-- A node is notified of a stamp, and sends these recs: it is owed no notification of it any more, what it sends is pending, and
-- counts for a sequence.
pub record IsNotified (flow : Dataflow) (p : ℕ) (at : Stamp) (sent : List (Stamp × Rec)) (old new : Counts) : Type 0 where
  pub paid : ChangesAt p [] (HasNoMore at) old.owed.items new.owed.items
  pub sends : ArePendingMore flow p sent old.pending.items new.pending.items
  pub batches : new.batches.items ≡ old.batches.items
  pub injected : new.injected.items ≡ old.injected.items
  pub tables : length new.sent.items ≡ length old.sent.items
  pub counted : SendsByCount (kind_of flow p) → (x : ℕ) → at ≡ x ∷ [] → ChangesAt p [] (IsSentMore x (length sent)) old.sent.items new.sent.items
  pub counted_none : is_sequence_kind (kind_of flow p) ≡ false → new.sent.items ≡ old.sent.items

-- A node injects its next batch, and sends these recs.
pub record IsInjected (flow : Dataflow) (p : ℕ) (sent : List (Stamp × Rec)) (old new : Counts) : Type 0 where
  pub next : ChangesAt p 0 IsOneBatchMore old.injected.items new.injected.items
  pub sends : ArePendingMore flow p sent old.pending.items new.pending.items
  pub owed : new.owed.items ≡ old.owed.items
  pub batches : new.batches.items ≡ old.batches.items
  pub counted : new.sent.items ≡ old.sent.items

-- whether one batch more of a node can be counted: it injected fewer than it has, and there can be one more
abbrev pub can_have_more : Counts → ℕ → Bool
can_have_more counts p = nat_lt (injected_in counts p) (batches_in counts p) && nat_lt (batches_in counts p) (2 ^ 64 - 1)

-- A node has one batch more.
pub record HasBatchMore (p : ℕ) (old new : Counts) : Type 0 where
  pub batches : new.batches.items ≡ slice_set old.batches.items p (batches_in old p + 1)
  pub injected : new.injected.items ≡ old.injected.items
  pub pending : new.pending.items ≡ old.pending.items
  pub owed : new.owed.items ≡ old.owed.items
  pub counted : new.sent.items ≡ old.sent.items

-- A node has one batch more, and the rest is as it was.
pub record CountsBatch (p : ℕ) (old new : Standing) : Type 0 where
  pub counts : HasBatchMore p old.counts new.counts
  pub settled : new.settled ≡ old.settled
  pub kept : new.kept ≡ old.kept
  pub work : new.work ≡ old.work
  pub refused : new.refused ≡ old.refused
