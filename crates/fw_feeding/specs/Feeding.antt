-- Batches that come while a machine runs. A source that is open has one batch more than came, its last: it stands for what comes behind.
use Rattle.std.specs.Prelude.{◌≡◌, ◌≢◌, ℕ, ◌+◌, ◌<◌, ◌≤◌, Bool, true, false, List, [], ◌∷◌, ◌++◌, length, slice_index_or}
use Rattle.fw_bag.specs.declared.rec.Rec.{Rec}
use Rattle.fw_flow.specs.Dataflow.{System, Dataflow, batches_of}

-- the dataflow with these batches of its nodes
abbrev pub with_batches : Dataflow → List (List (List Rec)) → System
with_batches flow batches = record { flow = flow; batches = batches }

-- Of a source that is not open the later batches are those of now. Of one that is, there is a last one now, and the later ones are at
-- least as many, and the same but for that.
abbrev pub GoOn : Bool → List (List Rec) → List (List Rec) → Type 0
GoOn false now later = later ≡ now
GoOn true now later =
    (0 < length now) × (length now ≤ length later) × ((x : ℕ) → x + 1 < length now → slice_index_or later x [] ≡ slice_index_or now x [])

-- so the later batches of each node go on behind those of now
abbrev pub GoOnEach : (ℕ → Bool) → Dataflow → List (List (List Rec)) → List (List (List Rec)) → Type 0
GoOnEach opened flow now later = (s : ℕ) → GoOn (opened s) (batches_of (with_batches flow now) s) (batches_of (with_batches flow later) s)

-- each open source has a last batch
abbrev pub HaveLast : Dataflow → (ℕ → Bool) → List (List (List Rec)) → Type 0
HaveLast flow opened batches = (s : ℕ) → opened s ≡ true → 0 < length (batches_of (with_batches flow batches) s)

-- Of a source, a batch is in the place of the last one, with these behind it.
pub record TakesLastPlace (recs : List Rec) (behind now next : List (List Rec)) : Type 0 where
  pub came : List (List Rec)
  pub last : List Rec
  pub before : now ≡ came ++ last ∷ []
  pub after : next ≡ came ++ recs ∷ behind

-- Source s is fed a batch, which takes the place of its last one, with these behind it; the batches of the others stay.
pub record Feeds (flow : Dataflow) (s : ℕ) (recs : List Rec) (behind : List (List Rec)) (now next : List (List (List Rec))) : Type 0 where
  pub here : TakesLastPlace recs behind (batches_of (with_batches flow now) s) (batches_of (with_batches flow next) s)
  pub others : (q : ℕ) → q ≢ s → batches_of (with_batches flow next) q ≡ batches_of (with_batches flow now) q

-- Source s is not open, and the others are what they were.
pub record Closes (s : ℕ) (opened left : ℕ → Bool) : Type 0 where
  pub here : left s ≡ false
  pub others : (q : ℕ) → q ≢ s → left q ≡ opened q
