-- What is kept of an engine that is fed.
use Rattle.std.proofs.Common.{◌≡◌, ◌≢◌, ◌&&◌, max, IsTrue, IfOk, IsErr, Result, Ok, Err, ℕ, ◌+◌, ◌-◌, ◌^◌, ◌<◌, Bool, true, false, nat_lt, if◌then◌else◌, List, [], ◌∷◌, length, get_or, set, refl, sym, ap, subst, ◌∙◌, inl, inr, length-set, arith}
use Rattle.std.proofs.lemmas.Bool.{and_parts, cases_lt, ltb-true}
use Rattle.std.proofs.lemmas.List.{get_or_past, get_or-set_same, get_or-set_other}
use Rattle.fw_time.specs.Stamp.{Stamp}
use Rattle.fw_bag.specs.declared.rec.Rec.{Rec}
use Rattle.fw_border.specs.Sources.{SourceState, source_at, unused_source, fed_source, can_be_fed, fed_batch, with_source}
use Rattle.fw_progress.specs.Counts.{batches_in, injected_in}
use Rattle.fw_progress.specs.Progress.{Standing, CountsBatch, IsProgressOf, can_have_more}
use Rattle.fw_running.specs.declared.running.Running.{Running}
use Rattle.fw_running.specs.Fed.{can_feed, IsFedBatch}
use Rattle.fw_running.specs.Kept.{source_of, queue_at, log_at, table_of, output_of, lost_at}
use Rattle.fw_running.specs.Places.{HasAllPlaces}
use Rattle.fw_running.specs.ReadyState.{ReadyState}
use Rattle.fw_running.specs.Shaped.{IsShaped}
use Rattle.fw_engine.specs.Feeding.{FeedsRunning}

-- ---- one place of a list

-- a source whose last batch is held has a place
source-there : (sources : List SourceState) (s : ℕ) → can_be_fed (source_at sources s) ≡ true → s < length sources
source-there sources s can = elim (cases_lt s (length sources)) [
  | inl l ↦ l
  | inr ge ↦
      let none : get_or sources s (unused_source []) ≡ unused_source [] = get_or_past sources s (unused_source []) ge in
      absurd (empty (sym (ap can_be_fed none) ∙ can))
]
  where
    empty : can_be_fed (unused_source []) ≡ true → ⊥
    empty e = cc

-- and a node that has a batch
batch-there : (batches : List ℕ) (s n : ℕ) → nat_lt n (get_or batches s 0) ≡ true → s < length batches
batch-there batches s n some = elim (cases_lt s (length batches)) [
  | inl l ↦ l
  | inr ge ↦
      let more = ltb-true n (get_or batches s 0) some in
      let none = get_or_past batches s 0 ge in
      absurd (omega arith)
]

fed-here : (sources : List SourceState) (s : ℕ) (recs : List Rec) → can_be_fed (source_at sources s) ≡ true
    → source_at (set sources s (fed_batch recs (source_at sources s))) s ≡ fed_source recs ([] ∷ []) (source_at sources s)
fed-here sources s recs can =
    let source = source_at sources s in
    get_or-set_same sources s (fed_batch recs source) (unused_source []) (source-there sources s can)
    ∙ ap (λ (b : Bool). if b then fed_source recs ([] ∷ []) source else source) can

-- ---- an engine

pub fed-batch : (s : ℕ) (recs : List Rec) (old new : Running) → FeedsRunning s recs old new → IsFedBatch s recs old new
fed-batch s recs old new f =
    let source = source_of old s in
    let counts = old.progress.counts in
    let held : can_be_fed source ≡ true = (and_parts (can_be_fed source) (can_have_more counts s) f.can).0 in
    let room : can_have_more counts s ≡ true = (and_parts (can_be_fed source) (can_have_more counts s) f.can).1 in
    let fewer = (and_parts (nat_lt (injected_in counts s) (batches_in counts s)) (nat_lt (batches_in counts s) (2 ^ 64 - 1)) room).0 in
    let there = batch-there counts.batches.items s (injected_in counts s) fewer in
    let same = f.counts.counts in
    let sources : new.parts.sources ≡ set old.parts.sources s (fed_batch recs source) = ap (λ (r : Running). r.parts.sources) f.others in
    record {
      stays = record {
        of_flow = ap (λ (r : Running). r.flow) f.others;
        settled = f.counts.settled;
        failed = ap (λ (r : Running). r.failed.items) f.others;
        low = ap (λ (r : Running). r.parts.low) f.others;
        tables = λ p. ap (λ (r : Running). table_of r p) f.others;
        queues = λ e. ap (λ (r : Running). queue_at r e) f.others;
        logs = λ e. ap (λ (r : Running). log_at r e) f.others;
        outputs = λ o. ap (λ (r : Running). output_of r o) f.others;
        kept = f.counts.kept;
        work = f.counts.work;
        pending = λ e. ap (λ (ts : List (List (Stamp × ℕ))). get_or ts e []) same.pending;
        owed = λ p. ap (λ (ts : List (List (Stamp × ℕ))). get_or ts p []) same.owed;
        injected = λ p. ap (λ (ns : List ℕ). get_or ns p 0) same.injected;
        sent = λ p. ap (λ (ts : List (List (ℕ × ℕ))). get_or ts p []) same.counted;
        traces = ap (λ (r : Running). r.traces) f.others;
        lost = λ p. ap (λ (r : Running). lost_at r p) f.others;
        entries = ap (λ (r : Running). r.parts.keep.entries) f.others;
      };
      keep = ap (λ (r : Running). r.parts.keep) f.others;
      source = ap (λ (ss : List SourceState). source_at ss s) sources ∙ fed-here old.parts.sources s recs held;
      others = λ q n. ap (λ (ss : List SourceState). source_at ss q) sources
          ∙ get_or-set_other old.parts.sources s q (fed_batch recs source) (unused_source []) n;
      more = ap (λ (ns : List ℕ). get_or ns s 0) same.batches ∙ get_or-set_same counts.batches.items s (batches_in counts s + 1) 0 there;
      as_many = λ q n. ap (λ (ns : List ℕ). get_or ns q 0) same.batches ∙ get_or-set_other counts.batches.items s q (batches_in counts s + 1) 0 n;
      epochs = ap (λ (r : Running). r.epochs) f.others;
    }

-- it keeps its shape
pub fed-shaped : (s : ℕ) (recs : List Rec) (old new : Running) → FeedsRunning s recs old new → IsShaped old → IsShaped new
fed-shaped s recs old new f k =
    let live : new.progress.refused ≡ false = f.counts.refused ∙ k.live in
    subst IsShaped (sym f.others) (record {
      well_formed = k.well_formed;
      one_each = record {
        parts = record {
          tables = k.one_each.parts.tables;
          queues = k.one_each.parts.queues;
          logs = k.one_each.parts.logs;
        };
        sources = length-set old.parts.sources s (fed_batch recs (source_of old s)) ∙ k.one_each.sources;
        outputs = k.one_each.outputs;
        low = k.one_each.low;
        failed = k.one_each.failed;
        lost = k.one_each.lost;
      };
      progress = f.of_flow (λ is. k.progress) live;
      traces = k.traces;
      low = k.low;
      tables = k.tables;
      queues = k.queues;
      logs = k.logs;
      entries = k.entries;
      live = live;
      traced = k.traced;
      ready = record {
        edges = λ e c. f.places.edges e c.there;
        owing = λ p c. f.places.owing p c.there;
        growing = λ p c. f.places.growing p c.there;
        outputs = λ o c. f.places.outputs o c.there;
        inputs = λ i c. f.places.inputs i c.there;
      };
    })

-- ---- what feeding it does

-- what is kept once a source is fed, and its batch counted
pub put-fed : (s : ℕ) (recs : List Rec) (old : Running) (sources : List SourceState) (given epochs : ℕ) (progress : Standing) (ready : ReadyState)
    → can_be_fed (source_of old s) ≡ true → can_have_more old.progress.counts s ≡ true → sources ≡ with_source (fed_batch recs) old.parts.sources s
    → given ≡ (source_at sources s).given → epochs ≡ max old.epochs given → CountsBatch s old.progress progress
    → (IsProgressOf old.flow old.progress → IsProgressOf old.flow progress) → HasAllPlaces old.flow ready
    → FeedsRunning s recs old (record old { epochs = epochs; parts = record old.parts { sources = sources }; progress = progress; ready = ready })
put-fed s recs old sources given epochs progress ready held room is many greater counts of_flow places =
    let one_more : given ≡ (source_of old s).given + 1 =
    many ∙ ap (λ (ss : List SourceState). (source_at ss s).given) is ∙ ap (λ (x : SourceState). x.given) (fed-here old.parts.sources s recs held) in
    let most : epochs ≡ max old.epochs ((source_of old s).given + 1) = greater ∙ ap (λ n. max old.epochs n) one_more in
    record {
      can = ap (λ b. b && can_have_more old.progress.counts s) held ∙ room;
      others = λ i. record old { epochs = most i; parts = record old.parts { sources = is i }; progress = progress; ready = ready };
      counts = counts;
      of_flow = of_flow;
      places = places;
    }

pub fed-keeps : {E : Type 0} (s : ℕ) (recs : List Rec) (old new : Running) (result : Result Bool E)
    → IfOk result (λ fed. IsTrue fed → FeedsRunning s recs old new) → IfOk result (λ fed. fed ≡ false → new ≡ old) → (IsErr result → new ≡ old)
    → IsShaped old → IsShaped new
fed-keeps s recs old new (Ok true) fed stays err k = fed-shaped s recs old new (fed refl) k
fed-keeps s recs old new (Ok false) fed stays err k = subst IsShaped (sym (stays refl)) k
fed-keeps s recs old new (Err e) fed stays err k = subst IsShaped (sym (err refl)) k

pub fed-told : {E : Type 0} (s : ℕ) (recs : List Rec) (old new : Running) (result : Result Bool E)
    → IfOk result (λ fed. IsTrue fed → FeedsRunning s recs old new) → IfOk result (λ fed. IsTrue fed → IsFedBatch s recs old new)
fed-told s recs old new (Ok was_fed) fed = λ is. fed-batch s recs old new (fed is)
fed-told s recs old new (Err e) fed = tt
