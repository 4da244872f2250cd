-- What becomes settled.
use Rattle.std.proofs.Common.{◌≡◌, ℕ, ◌+◌, ◌<◌, ◌≤◌, Bool, true, false, not, ◌&&◌, ◌||◌, List, [], ◌∷◌, length, get_or, Some, None, Result, Ok, Err, refl, sym, ap, subst, ◌∙◌, inl, inr, arith}
use Rattle.std.specs.Prelude.{IfOk}
use Rattle.std.proofs.Math.Bool.{and-false}
use Rattle.std.proofs.lemmas.Bool.{and_parts, and_from, and_right, both_ways, cases_Bool, cases_eq, cases_lt, or_cases, or_left, or_right}
use Rattle.std.proofs.Math.ListN.{set, length-set}
use Rattle.std.proofs.lemmas.List.{get_or_past, get_or-set_same, get_or-set_other}
use Rattle.fw_lemmas.proofs.Lists.{read_at}
use Rattle.fw_time.specs.Stamp.{Stamp, leq, in_domain}
use Rattle.fw_time.specs.declared.stamp.Bounds.{Bounds}
use Rattle.fw_time.proofs.StampLaws.{leq-refl}
use Rattle.fw_frontier.specs.Frontier.{Frontier, join}
use Rattle.fw_frontier.specs.Front.{Front, inside, frontier_of, IsCanonical, IsFrontOf}
use Rattle.fw_frontier.proofs.InsideLaws.{inside-closed}
use Rattle.fw_flow.specs.Dataflow.{System, Dataflow, bounds_of}
use Rattle.fw_model.specs.History.{IsComplete}
use Rattle.fw_model.specs.Machine.{Machine, events, front_of, family_of, is_failed, AreCanonical}
use Rattle.fw_model.specs.Settled.{HasMoreToSettle}
use Rattle.fw_model.specs.Steps.{GrowsTo}
use Rattle.fw_progress.specs.Progress.{AreFrontsOf}
use Rattle.fw_progress.specs.Settle.{has_more, is_growing, HasMore, IsJoined, IsGrownAt, SettlesMore, AreGrown, AreGrownBefore, NoneGrows}

-- a stamp that is inside the one and outside the other shows that it has more
more-at : (c s : Front) (t : Stamp) → inside c t ≡ true → inside s t ≡ false → has_more c s ≡ true
more-at c [] t i o = absurd (cc)
more-at c (x ∷ s) t i o = elim (cases_Bool (leq x t)) [
  | inl l ↦ or_left (inside c x) (has_more c s) (inside-closed c x t l i)
  | inr n ↦ or_right (inside c x) (has_more c s) (more-at c s t i (by (leq x t) n (inside s t) o))
]
  where
    by : (a : Bool) → a ≡ false → (b : Bool) → (not a && b) ≡ false → b ≡ false
    by true e b k = absurd (cc)
    by false e b k = k

-- a stamp of the domain that is inside the one and outside the other
record IsNew (b : Bounds) (c s : Front) (t : Stamp) : Type 0 where
  pub of_domain : in_domain b t ≡ true
  pub gained : inside c t ≡ true
  pub lacked : inside s t ≡ false

more-by : (b : Bounds) (c s : Front) → IsCanonical b s → has_more c s ≡ true → (t : Stamp) × IsNew b c s t
more-by b c [] k g = absurd (cc)
more-by b c (x ∷ s) k g = elim (or_cases (inside c x) (has_more c s) g) [
  | inl i ↦ (x, record { of_domain = k.0.in_the_domain; gained = i; lacked = outside (leq x x) (leq-refl x) (inside s x) })
  | inr r ↦
      let w = more-by b c s k.1 r in
      (w.0, record { of_domain = w.1.of_domain; gained = w.1.gained; lacked = and_right (not (leq x w.0)) (inside s w.0) w.1.lacked })
]
  where
    outside : (a : Bool) → a ≡ true → (b : Bool) → (not a && b) ≡ false
    outside true e b = refl
    outside false e b = absurd (cc)

pub in_domain_of : {E A B : Type 0} (P : Front → Type 0) (r : Result Front E) → (A → B → IfOk r P) → IfOk r (λ x. A → B → P x)
in_domain_of P (Ok x) h = h
in_domain_of P (Err e) h = tt

-- ---- the step

live-joined : (b : Bounds) (flag : Bool) (f g both : Front) → flag ≡ false → IsJoined b flag f g both → IsCanonical b f → IsCanonical b g → IsFrontOf b both (join (frontier_of b f) (frontier_of b g))
live-joined b true f g both e j c d = absurd (cc)
live-joined b false f g both e j c d = j c d

failed-same : (b : Bounds) (flag : Bool) (f g both : Front) → flag ≡ true → IsJoined b flag f g both → both ≡ f
failed-same b true f g both e j = j
failed-same b false f g both e j = absurd (cc)

-- what is settled then is a canonical front of each node
pub grown-fronts : (flow : Dataflow) (failed : List Bool) (kept settled both : List Front) → length failed ≡ length flow.nodes → AreCanonical flow settled → AreCanonical flow kept
    → AreGrown flow (length failed) failed settled kept both → AreFrontsOf flow both
grown-fronts flow failed kept settled both one cs ck g = record {
  one_each = g.one_each ∙ one;
  canonical = λ p. elim (cases_lt p (length both)) [
    | inl l ↦ by p (get_or failed p false) (g.each p (omega (arith, l, g.one_each)))
    | inr l ↦ subst (IsCanonical (bounds_of flow p)) (sym (get_or_past both p [] l)) tt
  ];
}
  where
    by : (p : ℕ) (b : Bool) → IsJoined (bounds_of flow p) b (front_of settled p) (front_of kept p) (front_of both p) → IsCanonical (bounds_of flow p) (front_of both p)
    by p true j = subst (IsCanonical (bounds_of flow p)) (sym j) (cs p)
    by p false j = (j (cs p) (ck p)).canonical

-- settled grows to what is complete, where each node that is not failed settled what is kept
settles-by : (sys : System) (state : Machine) (failed : List Bool) (kept settled both : List Front) → failed ≡ state.failed → settled ≡ state.settled → length failed ≡ length sys.flow.nodes
    → AreCanonical sys.flow settled → IsComplete sys (events state.history) (family_of sys.flow kept) → HasMore failed kept settled → length both ≡ length sys.flow.nodes
    → ((q : ℕ) → q < length sys.flow.nodes → get_or failed q false ≡ false
    → IsFrontOf (bounds_of sys.flow q) (front_of both q) (join (frontier_of (bounds_of sys.flow q) (front_of settled q)) (frontier_of (bounds_of sys.flow q) (front_of kept q))))
    → ((q : ℕ) → q < length sys.flow.nodes → get_or failed q false ≡ true → front_of both q ≡ front_of settled q)
    → GrowsTo sys state (family_of sys.flow kept) both
settles-by sys state failed kept settled both ef es one cs c more l each same =
    let p = more.node in
    let b = bounds_of sys.flow p in
    let w = more-by b (front_of kept p) (front_of settled p) (cs p) more.more in
    let lives : (q : ℕ) → is_failed state q ≡ get_or failed q false = λ q. ap (λ fs. get_or fs q false) (sym ef) in
    record {
      complete = c;
      some = (
        p,
        w.0,
        (let k = more.there in omega arith),
        lives p ∙ more.live,
        and_from (in_domain b w.0) (inside (front_of kept p) w.0) w.1.of_domain w.1.gained,
        ap (λ fs. in_domain b w.0 && inside (front_of fs p) w.0) (sym es) ∙ ap (λ x. in_domain b w.0 && x) w.1.lacked ∙ and-false (in_domain b w.0),
      );
      one_each = l;
      each = λ q m k. subst (λ fs. IsFrontOf (bounds_of sys.flow q) (front_of both q) (join (family_of sys.flow fs q) (family_of sys.flow kept q))) es (each q m (sym (lives q) ∙ k));
      failed = λ q m k. same q m (sym (lives q) ∙ k) ∙ ap (λ fs. front_of fs q) es;
    }

pub settles-more : (sys : System) (state : Machine) (failed : List Bool) (kept settled both : List Front) → failed ≡ state.failed → settled ≡ state.settled → length failed ≡ length sys.flow.nodes
    → AreCanonical sys.flow settled → AreCanonical sys.flow kept → IsComplete sys (events state.history) (family_of sys.flow kept) → HasMore failed kept settled → AreGrown sys.flow (length failed) failed settled kept both
    → GrowsTo sys state (family_of sys.flow kept) both
settles-more sys state failed kept settled both ef es one cs ck c more g =
    settles-by sys state failed kept settled both ef es one cs c more (g.one_each ∙ one)
    (λ q l k. live-joined (bounds_of sys.flow q) (get_or failed q false) (front_of settled q) (front_of kept q) (front_of both q) k (g.each q (omega (arith, l, one))) (cs q) (ck q))
    (λ q l k. failed-same (bounds_of sys.flow q) (get_or failed q false) (front_of settled q) (front_of kept q) (front_of both q) k (g.each q (omega (arith, l, one))))

pub settles-none : (sys : System) (state : Machine) (failed : List Bool) (kept settled : List Front) → failed ≡ state.failed → settled ≡ state.settled → length failed ≡ length sys.flow.nodes
    → IsComplete sys (events state.history) (family_of sys.flow kept) → (HasMore failed kept settled → ⊥)
    → (done : ℕ → Frontier) → IsComplete sys (events state.history) done → HasMoreToSettle sys state done → ⊥
settles-none sys state failed kept settled ef es one c none done d m =
    let p = m.node in
    let t = m.at in
    let b = bounds_of sys.flow p in
    let here = c.largest done d.admissible p t m.complete in
    let both = and_parts (in_domain b t) (inside (front_of kept p) t) here in
    let out : inside (front_of settled p) t ≡ false = lack (in_domain b t) (inside (front_of settled p) t) both.0 (ap (λ fs. in_domain b t && inside (front_of fs p) t) es ∙ m.unsettled) in
    none (record {
      node = p;
      there = (let l = m.declared in omega arith);
      live = ap (λ fs. get_or fs p false) ef ∙ m.live;
      more = more-at (front_of kept p) (front_of settled p) t both.1 out;
    })
  where
    lack : (a x : Bool) → a ≡ true → (a && x) ≡ false → x ≡ false
    lack true x e k = k
    lack false x e k = absurd (cc)

-- ---- one node after the other

-- where one has no more than the other, the union is the other
no-more : (b : Bounds) (c s : Front) → has_more c s ≡ false → IsCanonical b s → IsFrontOf b s (join (frontier_of b s) (frontier_of b c))
no-more b c s n k = record { canonical = k; same = λ t. sym (by t (inside s t) refl) }
  where
    absorbs : (d x y : Bool) → (y ≡ true → x ≡ true) → ((d && x) || (d && y)) ≡ (d && x)
    absorbs true true y k = refl
    absorbs true false true k = sym (k refl)
    absorbs true false false k = refl
    absorbs false x y k = refl

    by : (t : Stamp) (x : Bool) → inside s t ≡ x → join (frontier_of b s) (frontier_of b c) t ≡ frontier_of b s t
    by t true e = absorbs (in_domain b t) (inside s t) (inside c t) (λ i. e)
    by t false e = absorbs (in_domain b t) (inside s t) (inside c t) (λ i. absurd (both_ways (has_more c s) n (more-at c s t i e)))

pub none_settled-first : (flow : Dataflow) (failed : List Bool) (old kept : List Front) → AreGrownBefore flow failed old kept old 0
none_settled-first flow failed old kept = record { one_each = refl; grown = λ p l g. absurd (omega (arith, l)); others = λ p n. refl }

pub others-settle_nothing : (flow : Dataflow) (failed : List Bool) (old kept new : List Front) (place later : ℕ) → place ≤ later → NoneGrows failed old kept place later
    → AreGrownBefore flow failed old kept new place → AreGrownBefore flow failed old kept new later
others-settle_nothing flow failed old kept new place later o none g = record {
  one_each = g.one_each;
  grown = λ p l is. elim (cases_lt p place) [
    | inl m ↦ g.grown p m is
    | inr m ↦ absurd (both_ways (is_growing failed old kept p) (none p m l) is)
  ];
  others = λ p n. g.others p (λ k. n (omega arith));
}

pub one_more-settles : (flow : Dataflow) (failed : List Bool) (old kept new : List Front) (place p : ℕ) (both : Front)
    → place ≤ p → p < length old → NoneGrows failed old kept place p → get_or failed p false ≡ false → IsGrownAt flow new kept p (Some both)
    → AreGrownBefore flow failed old kept new place → AreGrownBefore flow failed old kept (set new p both) (p + 1)
one_more-settles flow failed old kept new place p both o l none live grown g =
    let up = others-settle_nothing flow failed old kept new place p o none g in
    let before : front_of new p ≡ front_of old p = up.others p (λ k. absurd (omega (arith, k))) in
    let there : p < length new = omega (arith, g.one_each) in
    let here : front_of (set new p both) p ≡ both = get_or-set_same new p both [] there in
    let told : IsGrownAt flow old kept p (Some both) = (
      sym (ap (λ f. has_more (front_of kept p) f) before) ∙ grown.0,
      subst (λ f. IsFrontOf (bounds_of flow p) both (join (frontier_of (bounds_of flow p) f) (frontier_of (bounds_of flow p) (front_of kept p)))) before grown.1,
    ) in
    record {
      one_each = length-set new p both ∙ g.one_each;
      grown = λ q m is. elim (cases_eq q p) [
        | inl e ↦ subst (λ x. IsGrownAt flow old kept x (Some (front_of (set new p both) x))) (sym e) (subst (λ f. IsGrownAt flow old kept p (Some f)) (sym here) told)
        | inr n ↦ subst (λ f. IsGrownAt flow old kept q (Some f)) (sym (get_or-set_other new p q both [] n)) (up.grown q (omega (arith, m, n)) is)
      ];
      others = λ q n. elim (cases_eq q p) [
        | inl e ↦ absurd (both_ways (is_growing failed old kept q) (n (omega (arith, e))) (ap (is_growing failed old kept) e ∙ grows told.0))
        | inr d ↦ get_or-set_other new p q both [] d ∙ up.others q (λ k. n (omega (arith, k)))
      ];
    }
  where
    grows : has_more (front_of kept p) (front_of old p) ≡ true → is_growing failed old kept p ≡ true
    grows m = ap (λ b. not b && has_more (front_of kept p) (front_of old p)) live ∙ m

pub in_turn-settled : (sys : System) (state : Machine) (failed : List Bool) (old kept new : List Front)
    → failed ≡ state.failed → old ≡ state.settled → length failed ≡ length sys.flow.nodes → length old ≡ length sys.flow.nodes
    → AreCanonical sys.flow old → AreCanonical sys.flow kept → IsComplete sys (events state.history) (family_of sys.flow kept)
    → AreGrownBefore sys.flow failed old kept new (length sys.flow.nodes)
    → ((p : ℕ) → p < length sys.flow.nodes → is_growing failed old kept p ≡ true → GrowsTo sys state (family_of sys.flow kept) new)
    × (NoneGrows failed old kept 0 (length sys.flow.nodes) → SettlesMore sys state None)
in_turn-settled sys state failed old kept new ef es one many co ck c g = (
  λ p l is.
      let parts = and_parts (not (get_or failed p false)) (has_more (front_of kept p) (front_of old p)) is in
      let more : HasMore failed kept old = record { node = p; there = (omega (arith, one, l)); live = not-back (get_or failed p false) parts.0; more = parts.1 } in
      settles-by sys state failed kept old new ef es one co c more (g.one_each ∙ many) each same,
  λ none. settles-none sys state failed kept old ef es one c (λ more.
      both_ways (is_growing failed old kept more.node) (none more.node (omega arith) (omega (arith, more.there, one)))
      (ap (λ b. not b && has_more (front_of kept more.node) (front_of old more.node)) more.live ∙ more.more)),
)
  where
    not-back : (b : Bool) → not b ≡ true → b ≡ false
    not-back true k = absurd (cc)
    not-back false k = refl

    each : (q : ℕ) → q < length sys.flow.nodes → get_or failed q false ≡ false
        → IsFrontOf (bounds_of sys.flow q) (front_of new q) (join (frontier_of (bounds_of sys.flow q) (front_of old q)) (frontier_of (bounds_of sys.flow q) (front_of kept q)))
    each q l k = elim (cases_Bool (has_more (front_of kept q) (front_of old q))) [
      | inl m ↦ (g.grown q l (ap (λ b. not b && has_more (front_of kept q) (front_of old q)) k ∙ m)).1
      | inr m ↦
          let is : front_of new q ≡ front_of old q = g.others q (λ j. ap (λ b. not b && has_more (front_of kept q) (front_of old q)) k ∙ m) in
          subst (λ f. IsFrontOf (bounds_of sys.flow q) f (join (frontier_of (bounds_of sys.flow q) (front_of old q)) (frontier_of (bounds_of sys.flow q) (front_of kept q)))) (sym is)
          (no-more (bounds_of sys.flow q) (front_of kept q) (front_of old q) m (co q))
    ]

    same : (q : ℕ) → q < length sys.flow.nodes → get_or failed q false ≡ true → front_of new q ≡ front_of old q
    same q l k = g.others q (λ j. ap (λ b. not b && has_more (front_of kept q) (front_of old q)) k)

-- what is read of one node
pub grown-read : (flow : Dataflow) (settled kept : List Front) (p i : ℕ) (s k both : Front) → i ≡ p → p < length settled → p < length kept → s ≡ get_or settled i s → k ≡ get_or kept i k
    → AreCanonical flow settled → AreCanonical flow kept → has_more k s ≡ true
    → (IsCanonical (bounds_of flow p) s → IsCanonical (bounds_of flow p) k → IsFrontOf (bounds_of flow p) both (join (frontier_of (bounds_of flow p) s) (frontier_of (bounds_of flow p) k))) → IsGrownAt flow settled kept p (Some both)
grown-read flow settled kept p i s k both e ls lk rs rk cs ck more joins =
    let b = bounds_of flow p in
    let os = read_at settled p i s [] e (omega (arith, e, ls)) rs in
    let ok = read_at kept p i k [] e (omega (arith, e, lk)) rk in
    let P : Front → Front → Type 0 = λ f g. (has_more g f ≡ true) × IsFrontOf b both (join (frontier_of b f) (frontier_of b g)) in
    subst (λ f. P f (front_of kept p)) os (subst (λ g. P s g) ok (more, joins (subst (IsCanonical b) (sym os) (cs p)) (subst (IsCanonical b) (sym ok) (ck p))))
