-- A search of the places that are kept.
use Rattle.std.proofs.Common.{◌≡◌, ℕ, ◌+◌, ◌<◌, ◌≤◌, Bool, true, false, List, length, Option, Some, None, Result, Ok, Err, refl, sym, ap, subst, ◌∙◌, inl, inr, arith}
use Rattle.std.specs.Prelude.{◌↔◌, IfNone, IfOk, IfSome, IsTrue, is_some}
use Rattle.std.specs.List.{Contains}
use Rattle.std.proofs.lemmas.Bool.{cases_eq, cases_lt}
use Rattle.fw_lemmas.proofs.Bools.{two_ways}
use Rattle.fw_time.specs.Stamp.{Stamp, in_domain}
use Rattle.fw_flow.specs.Dataflow.{Dataflow, bounds_of}
use Rattle.fw_progress.specs.declared.counts.Counts.{Counts}
use Rattle.fw_progress.specs.Counts.{owed_of}
use Rattle.fw_running.specs.declared.running.Running.{Running}
use Rattle.fw_running.specs.BroughtUp.{IsBroughtUp}
use Rattle.fw_running.specs.Places.{IsTakenOut, IsFirstPlace, IsFirstPlaceFrom, IsFirstWhere}
use Rattle.fw_running.specs.Kept.{is_down}
use Rattle.fw_running.specs.Ready.{CanAcknowledge, CanDeliver, CanInject, IsOwingBy, IsOwing}
use Rattle.fw_running.specs.ReadyState.{ReadyState}
use Rattle.fw_running.specs.Shaped.{IsReady, IsShaped}
use Rattle.fw_running.proofs.KeptShapes.{progress-fits, shaped-standing, traces-fit}
use Rattle.fw_events.specs.Noticing.{FindsNotice}
use Rattle.fw_engine.specs.Searching.{with_ready, with_notices, HasNoNotice, HasNotice, HasNoneBefore, IsNoticeOf, IsSearched}

-- ---- over any places

-- where this does not hold for a place, all for which it does are there without it
pub searched_more : (P : ℕ → Type 0) (p : ℕ) (old new : List ℕ) → ((q : ℕ) → P q → Contains old q) → (P p → ⊥) → IsTakenOut p old new
    → (q : ℕ) → P q → Contains new q
searched_more P p old new all none taken q holds = elim (cases_eq q p) [
  | inl e ↦ absurd (none (subst P e holds))
  | inr n ↦ taken.stays q n (all q holds)
]

-- the first of the places is the first where P holds, if it holds there as Q does, and all where Q holds are among them
pub searched : (P Q : ℕ → Type 0) (places : List ℕ) (p : ℕ) → ((q : ℕ) → (P q → Q q) × (Q q → P q)) → ((q : ℕ) → Q q → Contains places q) → Q p
    → IsFirstPlace places (Some p) → IsFirstWhere P (Some p)
searched P Q places p same all holds first =
    ((same p).1 holds, λ q below has. let up : p ≤ q = first.least q (all q ((same q).0 has)) (omega arith) in omega (arith, up, below))

-- where there is no place, it holds for none
pub searched_none : (P Q : ℕ → Type 0) (places : List ℕ) → ((q : ℕ) → (P q → Q q) × (Q q → P q)) → ((q : ℕ) → Q q → Contains places q)
    → IsFirstPlace places None → IsFirstWhere P None
searched_none P Q places same all none = λ q has. none q (all q ((same q).0 has))

pub holds_if : (b : Bool) (P : Type 0) → b ≡ true → IsTrue b ↔ P → P
holds_if b P e i = i.0 e

pub fails_if : (b : Bool) (P : Type 0) → b ≡ false → IsTrue b ↔ P → P → ⊥
fails_if b P e i p = two_ways b (i.1 p) e

-- what an answer says that is there, and one that is not
pub holds_for : {A : Type 0} (o : Option A) (P : Type 0) → is_some o ≡ true → IfSome o (λ x. P) → P
holds_for None P e h = absurd (cc)
holds_for (Some x) P e h = h

pub fails_for : {A : Type 0} (o : Option A) (P : Type 0) → is_some o ≡ false → IfNone o P → P
fails_for None P e h = h
fails_for (Some x) P e h = absurd (cc)

-- ---- where something may be done does not hang on the places that are kept

pub same-deliverable : (old new : Running) (ready : ReadyState) → new ≡ with_ready ready old → (e : ℕ)
    → (CanDeliver old e → CanDeliver new e) × (CanDeliver new e → CanDeliver old e)
same-deliverable old new ready is e = (
  subst (λ (r : Running). CanDeliver r e) (sym is),
  subst (λ (r : Running). CanDeliver r e) is,
)

pub same-acknowledgeable : (old new : Running) (ready : ReadyState) → new ≡ with_ready ready old → (o : ℕ)
    → (CanAcknowledge old o → CanAcknowledge new o) × (CanAcknowledge new o → CanAcknowledge old o)
same-acknowledgeable old new ready is o = (
  subst (λ (r : Running). CanAcknowledge r o) (sym is),
  subst (λ (r : Running). CanAcknowledge r o) is,
)

pub same-injectable : (old new : Running) (ready : ReadyState) → new ≡ with_ready ready old → (s : ℕ)
    → (CanInject old s → CanInject new s) × (CanInject new s → CanInject old s)
same-injectable old new ready is s = (
  subst (λ (r : Running). CanInject r s) (sym is),
  subst (λ (r : Running). CanInject r s) is,
)

-- what is kept keeps its shape with other places, where among these are all where something may be done
pub ready-shaped : (old : Running) (ready : ReadyState) → IsShaped old → IsReady old ready → IsShaped (with_ready ready old)
ready-shaped old ready s r =
    shaped-standing old old.progress old.traces ready s (progress-fits old s) (traces-fit old s)
    (record { edges = r.edges; owing = r.owing; growing = r.growing; outputs = r.outputs; inputs = r.inputs })

-- ---- a place that is taken out

-- each of the lists of places is as it was, but for the one that is changed
ready-stays : (running : Running) (ready other : ReadyState) → ready ≡ other → IsReady running other → IsReady running ready
ready-stays running ready other e r = subst (λ (x : ReadyState). IsReady running x) (sym e) r

pub edge_taken : (running : Running) (ready : ReadyState) (e : ℕ) → IsShaped running → (CanDeliver running e → ⊥)
    → ready ≡ record running.ready { edges = ready.edges } → IsTakenOut e running.ready.edges ready.edges → IsShaped (with_ready ready running)
edge_taken running ready e s none is taken = ready-shaped running ready s (ready-stays running ready (record running.ready { edges = ready.edges }) is (record {
  edges = searched_more (CanDeliver running) e running.ready.edges ready.edges s.ready.edges none taken;
  owing = s.ready.owing;
  growing = s.ready.growing;
  outputs = s.ready.outputs;
  inputs = s.ready.inputs;
}))

pub output_taken : (running : Running) (ready : ReadyState) (o : ℕ) → IsShaped running → (CanAcknowledge running o → ⊥)
    → ready ≡ record running.ready { outputs = ready.outputs } → IsTakenOut o running.ready.outputs ready.outputs → IsShaped (with_ready ready running)
output_taken running ready o s none is taken = ready-shaped running ready s (ready-stays running ready (record running.ready { outputs = ready.outputs }) is (record {
  edges = s.ready.edges;
  owing = s.ready.owing;
  growing = s.ready.growing;
  outputs = searched_more (CanAcknowledge running) o running.ready.outputs ready.outputs s.ready.outputs none taken;
  inputs = s.ready.inputs;
}))

pub input_taken : (running : Running) (ready : ReadyState) (i : ℕ) → IsShaped running → (CanInject running i → ⊥)
    → ready ≡ record running.ready { inputs = ready.inputs } → IsTakenOut i running.ready.inputs ready.inputs → IsShaped (with_ready ready running)
input_taken running ready i s none is taken = ready-shaped running ready s (ready-stays running ready (record running.ready { inputs = ready.inputs }) is (record {
  edges = s.ready.edges;
  owing = s.ready.owing;
  growing = s.ready.growing;
  outputs = s.ready.outputs;
  inputs = searched_more (CanInject running) i running.ready.inputs ready.inputs s.ready.inputs none taken;
}))

pub owing_taken : (running : Running) (ready : ReadyState) (p : ℕ) → IsShaped running → (IsOwing running p → ⊥)
    → ready ≡ record running.ready { owing = ready.owing } → IsTakenOut p running.ready.owing ready.owing → IsShaped (with_ready ready running)
owing_taken running ready p s none is taken = ready-shaped running ready s (ready-stays running ready (record running.ready { owing = ready.owing }) is (record {
  edges = s.ready.edges;
  owing = searched_more (IsOwing running) p running.ready.owing ready.owing s.ready.owing none taken;
  growing = s.ready.growing;
  outputs = s.ready.outputs;
  inputs = s.ready.inputs;
}))

-- what is kept with other places than another, with other places again
pub ready-again : (first running : Running) (mid ready last : ReadyState) → running ≡ with_ready mid first → ready ≡ last
    → with_ready ready running ≡ with_ready last first
ready-again first running mid ready last others is =
    ap (λ (r : Running). with_ready ready r) others ∙ ap (λ (x : ReadyState). with_ready x first) is

-- ---- notices

-- a search that has not begun
pub searched-nothing : (running : Running) → IsSearched running running
searched-nothing running = record { others = refl; counts = refl; settled = refl; stands = λ sys h e s. s }

searched-flow : (old new : Running) → IsSearched old new → new.flow ≡ old.flow
searched-flow old new s = ap (λ (r : Running). r.flow) s.others

-- a search that goes on
pub searched-on : (old mid new : Running) → IsSearched old mid → IsSearched mid new → IsSearched old new
searched-on old mid new a b = record {
  others = b.others ∙ ap (λ (r : Running). with_notices new r) a.others;
  counts = b.counts ∙ a.counts;
  settled = b.settled ∙ a.settled;
  stands = λ sys h e s. b.stands sys h (e ∙ sym (searched-flow old mid a)) (a.stands sys h e s);
}

-- bringing the kept frontiers up is of a search
pub searched-up : (old new : Running) → IsBroughtUp old new → IsSearched old new
searched-up old new up = record {
  others = up.others ∙ ap (λ (places : List ℕ). record old {
    progress = new.progress;
    ready = record old.ready { growing = new.ready.growing; owing = places };
  }) (sym (ap (λ (r : Running). r.ready.owing) up.others));
  counts = up.fresh.counts;
  settled = up.fresh.settled;
  stands = λ sys h e s. (up.fresh.complete sys h e s).0;
}

-- and so is taking a node out of those that are owed
pub searched-taken : (old : Running) (ready : ReadyState) → ready ≡ record old.ready { owing = ready.owing } → IsSearched old (with_ready ready old)
searched-taken old ready is = record {
  others = ap (λ (x : ReadyState). with_ready x old) is
      ∙ ap (λ (places : List ℕ). record old { ready = record old.ready { growing = places; owing = ready.owing } }) (sym (ap (λ (x : ReadyState). x.growing) is));
  counts = refl;
  settled = refl;
  stands = λ sys h e s. s;
}

-- the nodes that are owed a notification stay these
owing-on : (old new : Running) (p : ℕ) → IsSearched old new → IsOwing old p → IsOwing new p
owing-on old new p s c =
    subst (λ (r : Running). IsOwing r p) (sym s.others) (subst (λ (counts : Counts). IsOwingBy old.flow p (is_down old p) (owed_of counts p)) (sym s.counts) c)

owing-back : (old new : Running) (p : ℕ) → IsSearched old new → IsOwing new p → IsOwing old p
owing-back old new p s c =
    subst (λ (counts : Counts). IsOwingBy old.flow p (is_down old p) (owed_of counts p)) s.counts (subst (λ (r : Running). IsOwing r p) s.others c)

-- where a node may not be notified after a search, it might not before
pub no_notice-before : (old new : Running) (p : ℕ) → IsSearched old new → HasNoNotice new p → HasNoNotice old p
no_notice-before old new p s none owing = λ sys h e stands.
    none (owing-on old new p s owing) sys h (e ∙ sym (searched-flow old new s)) (s.stands sys h e stands)

-- and where it may, it might
pub notice-before : (old new : Running) (p : ℕ) (t : Stamp) → IsSearched old new → HasNotice new p t → HasNotice old p t
notice-before old new p t s n = record {
  owing = owing-back old new p s n.owing;
  of_domain = subst (λ (flow : Dataflow). in_domain (bounds_of flow p) t ≡ true) (searched-flow old new s) n.of_domain;
  found = λ sys h e stands. n.found sys h (e ∙ sym (searched-flow old new s)) (s.stands sys h e stands);
}

-- a node that is not among the places is not owed
not-there : (old new : Running) (p : ℕ) → IsSearched old new → IsShaped new → (Contains new.ready.owing p → ⊥) → HasNoNotice old p
not-there old new p s shaped none owing = absurd (none (shaped.ready.owing p (owing-on old new p s owing)))

-- the next place from k on is the next node that may be notified, where none before k may
pub none_before : (old new : Running) (k : ℕ) (next : Option ℕ) → IsSearched old new → IsShaped new → ((p : ℕ) → p < k → HasNoNotice old p)
    → IsFirstPlaceFrom k new.ready.owing next → HasNoneBefore old next
none_before old new k None s shaped before first = λ p owing. elim (cases_lt p k) [
  | inl l ↦ before p l owing
  | inr l ↦
      let there : p < length old.flow.nodes = owing.there in
      let few : length new.flow.nodes ≤ 256 = shaped.well_formed.limits.nodes in
      let same : length new.flow.nodes ≡ length old.flow.nodes = ap (λ (flow : Dataflow). length flow.nodes) (searched-flow old new s) in
      not-there old new p s shaped (λ c. first p c l (omega (arith, there, few, same))) owing
]
none_before old new k (Some n) s shaped before first = (
  first.1,
  λ p below. elim (cases_lt p k) [
    | inl l ↦ before p l
    | inr l ↦ not-there old new p s shaped (λ c. let up : n ≤ p = first.0.least p c l in omega (arith, up, below))
  ],
)

-- one node more may not be notified
pub none_more : (old mid : Running) (n k : ℕ) → k ≡ n + 1 → IsSearched old mid → ((p : ℕ) → p < n → HasNoNotice old p) → HasNoNotice mid n
    → (p : ℕ) → p < k → HasNoNotice old p
none_more old mid n k is s before none p below = elim (cases_eq p n) [
  | inl e ↦ subst (λ q. HasNoNotice old q) (sym e) (no_notice-before old mid n s none)
  | inr d ↦ before p (omega (arith, below, d, is))
]

-- what is found for a node that is owed a notification
notice-found : (running : Running) (p : ℕ) (found : Option Stamp) → IsOwing running p → FindsNotice running.flow running.progress p None found
    → IfSome found (λ t. in_domain (bounds_of running.flow p) t ≡ true) → IsNoticeOf running p found
notice-found running p None owing none within = λ k. none
notice-found running p (Some t) owing some within = record { owing = owing; of_domain = within; found = some }

pub notice_of-found : {E : Type 0} (running : Running) (p : ℕ) (r : Result (Option Stamp) E) → IsOwing running p
    → IfOk r (λ found. FindsNotice running.flow running.progress p None found)
    → IfOk r (λ found. IfSome found (λ t. in_domain (bounds_of running.flow p) t ≡ true)) → IfOk r (IsNoticeOf running p)
notice_of-found running p (Ok found) owing finds within = notice-found running p found owing finds within
notice_of-found running p (Err e) owing finds within = tt
