-- Where what an engine keeps is only known to have its shape, it has it.
use Rattle.std.proofs.Common.{◌≡◌, ℕ, zero, suc, ◌<◌, Bool, true, false, List, [], ◌∷◌, length, get_or, ap, ◌⊎◌, inl, inr, arith}
use Rattle.std.specs.Prelude.{Option, Some, None, IfSome}
use Rattle.std.specs.List.{AllByRecursion, Contains}
use Rattle.std.proofs.Math.Logic.{∥∥₁_elim, ∥∥₁_map}
use Rattle.std.proofs.Props.{props}
use Rattle.std.proofs.lemmas.Bool.{cases_eq}
use Rattle.fw_time.specs.Stamp.{Stamp, in_domain}
use Rattle.fw_time.specs.declared.stamp.Bounds.{Bounds}
use Rattle.fw_frontier.specs.Front.{Front, IsCanonical}
use Rattle.fw_flow.specs.declared.event.Message.{Message}
use Rattle.fw_flow.specs.declared.choice.OfEdge.{OfEdge}
use Rattle.fw_flow.specs.declared.choice.Recorded.{Recorded}
use Rattle.fw_flow.specs.Dataflow.{Dataflow, bounds_of, receiver, sender}
use Rattle.fw_flow.specs.WellFormed.{IsWellFormed}
use Rattle.fw_model.specs.Machine.{AreCanonical, front_of}
use Rattle.fw_model.specs.Offers.{AreFrontsOfEdges, IsRecordOf}
use Rattle.fw_keep.specs.declared.entry.Entry.{Entry}
use Rattle.fw_keep.specs.declared.entry.Written.{Written}
use Rattle.fw_keep.specs.declared.entry.Written.TheVariants as written
use Rattle.fw_node.specs.declared.node.Node.{Node}
use Rattle.fw_node.specs.NodeOf.{IsNodeOf}
use Rattle.fw_progress.specs.declared.counts.Counts.{Counts}
use Rattle.fw_progress.specs.Counts.{AreCounts, owed_of, pending_of}
use Rattle.fw_progress.specs.Progress.{IsOfFlow, Standing}
use Rattle.fw_progress.specs.Tally.{AreCountsPositive, IsTallyOf}
use Rattle.fw_progress.specs.declared.traces.Traces.{Traces}
use Rattle.fw_progress.specs.Trace.{HaveLists}
use Rattle.fw_progress.specs.Traces.{AreOf}
use Rattle.fw_rollback.specs.declared.parts.Parts.{Parts}
use Rattle.fw_rollback.specs.Restored.{AreOfFlow}
use Rattle.fw_running.specs.declared.running.Running.{Running}
use Rattle.fw_running.specs.Kept.{log_at, queue_at, table_of}
use Rattle.fw_running.specs.ReadyState.{ReadyState}
use Rattle.fw_running.specs.Shaped.{HasOneEach, IsOnEdge, IsReady, IsShaped, IsWrittenOf}

-- that it is known gives a proof
abbrev pub IsStable : Type 0 → Type 0
IsStable P = ∥ P ∥₁ → P

-- ---- equations and tests

bool-stable : (a b : Bool) → IsStable (a ≡ b)
bool-stable a b t = ∥∥₁_elim t (Prim.hlevel props) (λ e. e)

pub nat-stable : (a b : ℕ) → IsStable (a ≡ b)
nat-stable a b t = ∥∥₁_elim t (Prim.hlevel props) (λ e. e)

lt-stable : (a b : ℕ) → IsStable (a < b)
lt-stable a b t = ∥∥₁_elim t (Prim.hlevel props) (λ e. e)

list-stable : (a b : List ℕ) → IsStable (a ≡ b)
list-stable a b t = ∥∥₁_elim t (Prim.hlevel props) (λ e. e)

bounds-stable : (a b : Bounds) → IsStable (a ≡ b)
bounds-stable a b t =
    let g : a.greatest ≡ b.greatest = list-stable a.greatest b.greatest (∥∥₁_map t (ap (λ (x : Bounds). x.greatest))) in
    let s : a.sides ≡ b.sides = bool-stable a.sides b.sides (∥∥₁_map t (ap (λ (x : Bounds). x.sides))) in
    λ i. record { greatest = g i; sides = s i }

-- ---- lists

all-stable : {A : Type 0} (P : A → Type 0) → ((a : A) → IsStable (P a)) → (xs : List A) → IsStable (AllByRecursion P xs)
all-stable {A} P s [] t = tt
all-stable {A} P s (x ∷ xs) t = (s x (∥∥₁_map t (λ h. h.0)), all-stable P s xs (∥∥₁_map t (λ h. h.1)))

-- whether a number is in a list can be seen
in-or_not : (xs : List ℕ) (x : ℕ) → Contains xs x ⊎ (Contains xs x → ⊥)
in-or_not [] x = inr (λ c. let l = c.1 in absurd (omega (arith, l)))
in-or_not (y ∷ ys) x = by (cases_eq y x) (in-or_not ys x)
  where
    by : (y ≡ x) ⊎ (y ≡ x → ⊥) → Contains ys x ⊎ (Contains ys x → ⊥) → Contains (y ∷ ys) x ⊎ (Contains (y ∷ ys) x → ⊥)
    by (inl e) other = inl (0, omega arith, e)
    by (inr n) (inl c) = inl (suc c.0, (let l = c.1 in omega (arith, l)), c.2)
    by (inr n) (inr none) = inr (λ c. at c.0 c.1 c.2)
      where
        at : (k : ℕ) → k < length (y ∷ ys) → get_or (y ∷ ys) k x ≡ x → ⊥
        at zero l e = n e
        at (suc k) l e = none (k, omega (arith, l), e)

contains-stable : (xs : List ℕ) (x : ℕ) → IsStable (Contains xs x)
contains-stable xs x t = by (in-or_not xs x)
  where
    by : Contains xs x ⊎ (Contains xs x → ⊥) → Contains xs x
    by (inl c) = c
    by (inr none) = absurd (∥∥₁_elim t (Prim.hlevel props) none)

-- ---- stamps and fronts

in_domain-stable : (bounds : Bounds) (ss : List Stamp) → IsStable (AreOf bounds ss)
in_domain-stable bounds = all-stable (λ s. in_domain bounds s ≡ true) (λ s. bool-stable (in_domain bounds s) true)

canonical-stable : (bounds : Bounds) (f : Front) → IsStable (IsCanonical bounds f)
canonical-stable bounds [] t = tt
canonical-stable bounds (o ∷ os) t = (
  record {
    in_the_domain = bool-stable _ true (∥∥₁_map t (λ h. h.0.in_the_domain));
    ascending = all-stable _ (λ q. bool-stable _ true) os (∥∥₁_map t (λ h. h.0.ascending));
    incomparable = all-stable _ (λ q. bool-stable _ _) os (∥∥₁_map t (λ h. h.0.incomparable));
  },
  canonical-stable bounds os (∥∥₁_map t (λ h. h.1)),
)

fronts-stable : (flow : Dataflow) (fronts : List Front) → IsStable (AreCanonical flow fronts)
fronts-stable flow fronts t p = canonical-stable (bounds_of flow p) (front_of fronts p) (∥∥₁_map t (λ h. h p))

-- ---- progress

positive-stable : (entries : List (Stamp × ℕ)) → IsStable (AreCountsPositive entries)
positive-stable [] t = tt
positive-stable (e ∷ es) t = (lt-stable 0 e.1 (∥∥₁_map t (λ h. h.0)), positive-stable es (∥∥₁_map t (λ h. h.1)))

tally-stable : (bounds : Bounds) (entries : List (Stamp × ℕ)) → IsStable (IsTallyOf bounds entries)
tally-stable bounds entries t = record {
  of_domain = in_domain-stable bounds _ (∥∥₁_map t (λ h. h.of_domain));
  positive = positive-stable entries (∥∥₁_map t (λ h. h.positive));
}

counts-stable : (flow : Dataflow) (counts : Counts) → IsStable (AreCounts flow counts)
counts-stable flow counts t = record {
  pending_each = nat-stable _ _ (∥∥₁_map t (λ h. h.pending_each));
  owed_each = nat-stable _ _ (∥∥₁_map t (λ h. h.owed_each));
  batches_each = nat-stable _ _ (∥∥₁_map t (λ h. h.batches_each));
  injected_each = nat-stable _ _ (∥∥₁_map t (λ h. h.injected_each));
  sent_each = nat-stable _ _ (∥∥₁_map t (λ h. h.sent_each));
  pending = λ e l. tally-stable (bounds_of flow (receiver flow e)) (pending_of counts e) (∥∥₁_map t (λ h. h.pending e l));
  owed = λ p l. tally-stable (bounds_of flow p) (owed_of counts p) (∥∥₁_map t (λ h. h.owed p l));
}

progress-stable : (flow : Dataflow) (now : Standing) → IsStable (IsOfFlow flow now)
progress-stable flow now t = record {
  counts = counts-stable flow now.counts (∥∥₁_map t (λ h. h.counts));
  settled_each = nat-stable _ _ (∥∥₁_map t (λ h. h.settled_each));
  settled = fronts-stable flow now.settled (∥∥₁_map t (λ h. h.settled));
  kept_each = nat-stable _ _ (∥∥₁_map t (λ h. h.kept_each));
  kept = fronts-stable flow now.kept (∥∥₁_map t (λ h. h.kept));
  nodes = bool-stable _ true (∥∥₁_map t (λ h. h.nodes));
}

lists-stable : (flow : Dataflow) (traces : Traces) → IsStable (HaveLists flow traces)
lists-stable flow traces t = record {
  delivered_each = nat-stable _ _ (∥∥₁_map t (λ h. h.delivered_each));
  notified_each = nat-stable _ _ (∥∥₁_map t (λ h. h.notified_each));
  sent_each = nat-stable _ _ (∥∥₁_map t (λ h. h.sent_each));
  counted_each = nat-stable _ _ (∥∥₁_map t (λ h. h.counted_each));
}

-- ---- what fails

node-stable : (flow : Dataflow) (p : ℕ) (table : Option Node) → IsStable (IfSome table (IsNodeOf flow p))
node-stable flow p None t = tt
node-stable flow p (Some node) t = record {
  table = bool-stable _ true (∥∥₁_map t (λ h. h.table));
  sides = list-stable _ _ (∥∥₁_map t (λ h. h.sides));
  bounds = bounds-stable _ _ (∥∥₁_map t (λ h. h.bounds));
}

on_edge-stable : (flow : Dataflow) (e : ℕ) (ms : List Message) → IsStable (AllByRecursion (IsOnEdge flow e) ms)
on_edge-stable flow e = all-stable (IsOnEdge flow e) (λ m t. record {
  at = bool-stable _ true (∥∥₁_map t (λ h. h.at));
  causes = in_domain-stable (bounds_of flow (sender flow e)) m.causes (∥∥₁_map t (λ h. h.causes));
})

-- ---- what is written

of_edges-stable : (flow : Dataflow) (xs : List OfEdge) → IsStable (AreFrontsOfEdges flow xs)
of_edges-stable flow =
    all-stable (λ x. IsCanonical (bounds_of flow (receiver flow x.edge)) x.front) (λ x. canonical-stable (bounds_of flow (receiver flow x.edge)) x.front)

record-stable : (flow : Dataflow) (p : ℕ) (r : Recorded) → IsStable (IsRecordOf flow p r)
record-stable flow p r t = record {
  front = canonical-stable (bounds_of flow p) r.front (∥∥₁_map t (λ h. h.front));
  notified = canonical-stable (bounds_of flow p) r.notified (∥∥₁_map t (λ h. h.notified));
  delivered = of_edges-stable flow r.delivered (∥∥₁_map t (λ h. h.delivered));
  discarded = of_edges-stable flow r.discarded (∥∥₁_map t (λ h. h.discarded));
}

written-stable : (flow : Dataflow) (p : ℕ) (w : Written) → IsStable (IsWrittenOf flow p w)
written-stable flow p (written.Checkpoint recorded stamps sent) t = record-stable flow p recorded t
written-stable flow p (written.Event event) t = bool-stable _ true t

-- ---- the whole

parts-stable : (flow : Dataflow) (parts : Parts) → IsStable (AreOfFlow flow parts)
parts-stable flow parts t = record {
  tables = nat-stable _ _ (∥∥₁_map t (λ h. h.tables));
  queues = nat-stable _ _ (∥∥₁_map t (λ h. h.queues));
  logs = nat-stable _ _ (∥∥₁_map t (λ h. h.logs));
}

one_each-stable : (running : Running) → IsStable (HasOneEach running)
one_each-stable running t = record {
  parts = parts-stable running.flow running.parts (∥∥₁_map t (λ h. h.parts));
  sources = nat-stable _ _ (∥∥₁_map t (λ h. h.sources));
  outputs = nat-stable _ _ (∥∥₁_map t (λ h. h.outputs));
  low = nat-stable _ _ (∥∥₁_map t (λ h. h.low));
  failed = nat-stable _ _ (∥∥₁_map t (λ h. h.failed));
  lost = nat-stable _ _ (∥∥₁_map t (λ h. h.lost));
}

ready-stable : (running : Running) (ready : ReadyState) → IsStable (IsReady running ready)
ready-stable running ready t = record {
  edges = λ e c. contains-stable ready.edges e (∥∥₁_map t (λ h. h.edges e c));
  owing = λ p c. contains-stable ready.owing p (∥∥₁_map t (λ h. h.owing p c));
  growing = λ p c. contains-stable ready.growing p (∥∥₁_map t (λ h. h.growing p c));
  outputs = λ o c. contains-stable ready.outputs o (∥∥₁_map t (λ h. h.outputs o c));
  inputs = λ s c. contains-stable ready.inputs s (∥∥₁_map t (λ h. h.inputs s c));
}

-- what is kept of a well-formed flow has its shape where that is known
pub shaped-stable : (running : Running) → IsWellFormed running.flow → IsStable (IsShaped running)
shaped-stable running w t = record {
  well_formed = w;
  one_each = one_each-stable running (∥∥₁_map t (λ h. h.one_each));
  progress = progress-stable running.flow running.progress (∥∥₁_map t (λ h. h.progress));
  traces = lists-stable running.flow running.traces (∥∥₁_map t (λ h. h.traces));
  low = fronts-stable running.flow running.parts.low (∥∥₁_map t (λ h. h.low));
  tables = λ p l. node-stable running.flow p (table_of running p) (∥∥₁_map t (λ h. h.tables p l));
  queues = λ e. on_edge-stable running.flow e (queue_at running e) (∥∥₁_map t (λ h. h.queues e));
  logs = λ e. on_edge-stable running.flow e (log_at running e) (∥∥₁_map t (λ h. h.logs e));
  entries = all-stable (λ (entry : Entry). IsWrittenOf running.flow entry.node entry.written) (λ entry. written-stable running.flow entry.node entry.written)
      running.parts.keep.entries (∥∥₁_map t (λ h. h.entries));
  live = bool-stable _ _ (∥∥₁_map t (λ h. h.live));
  traced = bool-stable _ _ (∥∥₁_map t (λ h. h.traced));
  ready = ready-stable running running.ready (∥∥₁_map t (λ h. h.ready));
}

-- what follows for numbers from the shape of what is kept
pub each-stable : (running : Running) (refused : Bool) (m n : ℕ) → ∥ (refused ≡ false → IsShaped running) ∥₁ → refused ≡ false → (IsShaped running → m ≡ n) → m ≡ n
each-stable running refused m n shaped live f = nat-stable m n (∥∥₁_map shaped (λ s. f (s live)))
