-- Counts after a cut: those of the events that are left.
use Rattle.std.proofs.Common.{◌≡◌, ℕ, ◌+◌, Bool, true, false, not, ◌&&◌, ◌||◌, ◌==◌, nat_le, nat_lt, cond, Option, None, List, [], ◌∷◌, ◌++◌, length, get_or, take, filter, slice_index, refl, sym, ap, subst, ◌∙◌, inl, inr, ◌<◌, ◌≤◌, arith}
use Rattle.std.specs.List.{list_any}
use Rattle.std.specs.Map.{lookup}
use Rattle.std.specs.Prelude.{unwrap_or}
use Rattle.std.specs.BTreeMap.{is_at}
use Rattle.fw_model.proofs.CmpLaws.{stamp_cmp-equal}
use Rattle.std.proofs.Math.Bool.{and-false}
use Rattle.std.proofs.lemmas.Bool.{and_parts, cases_Bool, cases_eq, cases_lt, eq-eqb, eqb-true, false_from_ne_true, both_ways, or_cases}
use Rattle.std.proofs.lemmas.Bool.Decides.{nat_tests}
use Rattle.std.proofs.lemmas.List.{take_more}
use Rattle.std.proofs.lemmas.Map.Entries.{lookup-filter-keys}
use Rattle.fw_time.specs.Stamp.{Stamp, leq, same, in_domain, stamp_cmp}
use Rattle.fw_time.specs.declared.stamp.Bounds.{Bounds}
use Rattle.fw_time.proofs.StampLaws.{same-is}
use Rattle.fw_frontier.specs.Frontier.{Frontier}
use Rattle.fw_frontier.specs.Front.{Front, inside}
use Rattle.fw_flow.specs.declared.choice.Choice.{Choice}
use Rattle.fw_flow.specs.declared.choice.Cut.{Cut}
use Rattle.fw_flow.specs.declared.choice.Cut.TheVariants.{Present, At}
use Rattle.fw_flow.specs.declared.event.Event.{Event}
use Rattle.fw_flow.specs.declared.event.Event.TheVariants.{Inject, Deliver, Notify}
use Rattle.fw_flow.specs.Dataflow.{System, Dataflow, kind_of, receiver, bounds_of, is_notified_kind, HasEpochs}
use Rattle.fw_flow.specs.NodeFunction.{event_node, event_stamp}
use Rattle.fw_flow.specs.WellFormed.{IsWellFormed}
use Rattle.fw_model.specs.Choice.{cut_of, kept_of}
use Rattle.fw_model.specs.Covers.{set_of}
use Rattle.fw_model.specs.Filtering.{kept_events}
use Rattle.fw_model.specs.History.{is_delivery_to, was_delivered_to, was_notified, is_owed_notice, injected_count, AreAtNodes, IsLegal}
use Rattle.fw_model.specs.Machine.{SerialEvent, events}
use Rattle.fw_model.proofs.FilteredLaws.{filtered-events}
use Rattle.fw_model.proofs.KeptLaws.{kept-owed}
use Rattle.fw_model.proofs.LegalLaws.{legal-in_domain}
use Rattle.fw_progress.specs.declared.counts.Counts.{Counts}
use Rattle.fw_progress.specs.Counts.{owed_of, AreCounts}
use Rattle.fw_progress.specs.Cut.{events_left, AreTallies, ArePendingAfter, AreTablesAfter, until_epoch, epochs_inside_of_first, epochs_left, tally_left, AreCut}
use Rattle.fw_progress.specs.History.{IsCountOf}
use Rattle.fw_progress.specs.Progress.{ChangesAt}
use Rattle.fw_progress.specs.Tally.{times_in, has_one, IsTallyOf}

-- ---- what is owed of the kept events

-- none passes a test among those that are kept, where what passes is not kept
none-left : {X : Type 0} (test keep : X → Bool) (xs : List X) → ((x : X) → test x ≡ true → keep x ≡ false) → list_any test (filter keep xs) ≡ false
none-left test keep [] n = refl
none-left test keep (x ∷ xs) n = by (keep x) refl (none-left test keep xs n)
  where
    by : (b : Bool) → keep x ≡ b → list_any test (filter keep xs) ≡ false → list_any test (cond b (x ∷ filter keep xs) (filter keep xs)) ≡ false
    by true k e = elim (cases_Bool (test x)) [
      | inl t ↦ absurd (both_ways (keep x) (n x t) k)
      | inr t ↦ ap (λ b. b || list_any test (filter keep xs)) t ∙ e
    ]
    by false k e = e

-- what a node is owed of the kept events is what it is owed of all, at stamps that it keeps
pub owed-left : (sys : System) (h : List Event) (keep : ℕ → Frontier) (p : ℕ) (t : Stamp) → is_owed_notice sys (kept_events sys.flow keep h) p t ≡ (keep p t && is_owed_notice sys h p t)
owed-left sys h keep p t = elim (cases_Bool (keep p t)) [
  | inl k ↦ kept-owed sys h keep p t k ∙ sym (ap (λ b. b && is_owed_notice sys h p t) k)
  | inr k ↦
      ap (λ b. is_notified_kind (kind_of sys.flow p) && b && not (was_notified p t (kept_events sys.flow keep h)))
      (none-left (is_delivery_to sys.flow p t) (λ v. keep (event_node sys.flow v) (event_stamp v)) h (out k))
      ∙ none (is_notified_kind (kind_of sys.flow p)) (not (was_notified p t (kept_events sys.flow keep h)))
      ∙ sym (ap (λ b. b && is_owed_notice sys h p t) k)
]
  where
    none : (a b : Bool) → (a && false && b) ≡ false
    none true b = refl
    none false b = refl

    out : keep p t ≡ false → (v : Event) → is_delivery_to sys.flow p t v ≡ true → keep (event_node sys.flow v) (event_stamp v) ≡ false
    out k (Inject s x) d = absurd (cc)
    out k (Deliver e m) d =
        let a = and_parts (receiver sys.flow e == p) (same m.at t) d in
        ap (λ n. keep n m.at) (eqb-true (receiver sys.flow e) p a.0) ∙ ap (keep p) (same-is m.at t a.1) ∙ k
    out k (Notify q s) d = absurd (cc)

-- what is owed is owed at a stamp of the domain
owed-in_domain : (sys : System) (h : List Event) (p : ℕ) (t : Stamp) → AreAtNodes sys.flow h → is_owed_notice sys h p t ≡ true → in_domain (bounds_of sys.flow p) t ≡ true
owed-in_domain sys h p t d o =
    let k = is_notified_kind (kind_of sys.flow p) in
    let delivered = was_delivered_to sys.flow p t h in
    came h d (and_parts k delivered (and_parts (k && delivered) (not (was_notified p t h)) o).0).1
  where
    came : (vs : List Event) → AreAtNodes sys.flow vs → was_delivered_to sys.flow p t vs ≡ true → in_domain (bounds_of sys.flow p) t ≡ true
    came [] a k = absurd (cc)
    came (Inject s x ∷ vs) a k = came vs a.1 k
    came (Deliver e m ∷ vs) a k = elim (or_cases (receiver sys.flow e == p && same m.at t) (was_delivered_to sys.flow p t vs) k) [
      | inl i ↦
          let b = and_parts (receiver sys.flow e == p) (same m.at t) i in
          sym (ap (in_domain (bounds_of sys.flow p)) (same-is m.at t b.1)) ∙ sym (ap (λ q. in_domain (bounds_of sys.flow q) m.at) (eqb-true (receiver sys.flow e) p b.0)) ∙ a.0
      | inr i ↦ came vs a.1 i
    ]
    came (Notify q s ∷ vs) a k = came vs a.1 k

-- ---- tallies

times-left : (f : Front) (t : Stamp) (entries : List (Stamp × ℕ)) → times_in t (filter (λ e. inside f e.0) entries) ≡ cond (inside f t) (times_in t entries) 0
unfolding times_in
times-left f t entries =
    ap (λ w. unwrap_or w 0) (lookup-filter-keys (is_at (stamp_cmp t)) (inside f) (inside f t) (λ k e. ap (inside f) (sym (stamp_cmp-equal t k e))) entries)
    ∙ by (inside f t) (lookup (is_at (stamp_cmp t)) entries)
  where
    by : (b : Bool) (w : Option ℕ) → unwrap_or (cond b w None) 0 ≡ cond b (unwrap_or w 0) 0
    by true w = refl
    by false w = refl

-- what a cut leaves of a tally of a domain's stamps
has-left : (flow : Dataflow) (p : ℕ) (cut : Cut) (t : Stamp) (entries : List (Stamp × ℕ)) → (has_one t entries ≡ true → in_domain (bounds_of flow p) t ≡ true)
    → has_one t (tally_left cut entries) ≡ (set_of flow p cut t && has_one t entries)
has-left flow p Present t entries d = by (in_domain (bounds_of flow p) t) (has_one t entries) d
  where
    by : (a b : Bool) → (b ≡ true → a ≡ true) → b ≡ (a && b)
    by true b k = refl
    by false true k = sym (k refl)
    by false false k = refl
has-left flow p (At f) t entries d =
    ap (nat_lt 0) (times-left f t entries) ∙ by (inside f t) (in_domain (bounds_of flow p) t) (times_in t entries) d
  where
    by : (b a : Bool) (n : ℕ) → (nat_lt 0 n ≡ true → a ≡ true) → nat_lt 0 (cond b n 0) ≡ ((a && b) && nat_lt 0 n)
    by true true n k = refl
    by true false n k = false_from_ne_true (nat_lt 0 n) (λ e. let z = k e in absurd (cc))
    by false true n k = refl
    by false false n k = refl

-- ---- injections

-- as many as there are, where a stamp is none of epochs
until-longer : (x y : ℕ) (t : Stamp) (n : ℕ) → until_epoch (x ∷ y ∷ t) n ≡ n
until-longer x y t n = ap (λ b. cond (b && nat_lt x n) x n) (false_from_ne_true (length (x ∷ y ∷ t) == 1) (λ k. let z = eqb-true (length (x ∷ y ∷ t)) 1 k in absurd (omega arith)))

-- one epoch more is left where it is inside
epochs-more : (f : Front) (n : ℕ) → epochs_inside_of_first f (n + 1) ≡ epochs_inside_of_first f n + cond (inside f (n ∷ [])) 1 0
epochs-more [] n = refl
epochs-more ([] ∷ f) n = epochs-more f n
epochs-more ((x ∷ []) ∷ f) n = elim (cases_lt n x) [
  | inl l ↦
      let a : until_epoch (x ∷ []) (n + 1) ≡ n + 1 = grind (arith, nat_tests) in
      let b : until_epoch (x ∷ []) n ≡ n = grind (arith, nat_tests) in
      let c : leq (x ∷ []) (n ∷ []) ≡ false = grind (arith, nat_tests) in
      ap (epochs_inside_of_first f) a ∙ epochs-more f n ∙ ap (λ k. epochs_inside_of_first f k + cond (inside f (n ∷ [])) 1 0) (sym b)
      ∙ ap (λ k. epochs_inside_of_first f (until_epoch (x ∷ []) n) + cond (not k && inside f (n ∷ [])) 1 0) (sym c)
  | inr l ↦
      let a : until_epoch (x ∷ []) (n + 1) ≡ x = grind (arith, nat_tests) in
      let b : until_epoch (x ∷ []) n ≡ x = reached x n l in
      let c : leq (x ∷ []) (n ∷ []) ≡ true = grind (arith, nat_tests) in
      ap (epochs_inside_of_first f) a ∙ add_zero (epochs_inside_of_first f x) ∙ ap (λ k. epochs_inside_of_first f k + 0) (sym b)
      ∙ ap (λ k. epochs_inside_of_first f (until_epoch (x ∷ []) n) + cond (not k && inside f (n ∷ [])) 1 0) (sym c)
]
  where
    add_zero : (k : ℕ) → k ≡ k + 0
    add_zero k = omega arith

    reached : (x n : ℕ) → x ≤ n → cond (true && nat_lt x n) x n ≡ x
    reached x n l = grind (arith, nat_tests)
epochs-more ((x ∷ y ∷ t) ∷ f) n =
    ap (epochs_inside_of_first f) (until-longer x y t (n + 1)) ∙ epochs-more f n
    ∙ ap (λ b. epochs_inside_of_first f n + cond (not b && inside f (n ∷ [])) 1 0) (sym (and-false (nat_le x n)))
    ∙ ap (λ k. epochs_inside_of_first f k + cond (not (leq (x ∷ y ∷ t) (n ∷ [])) && inside f (n ∷ [])) 1 0) (sym (until-longer x y t n))

epochs-none : (f : Front) → epochs_inside_of_first f 0 ≡ 0
epochs-none [] = refl
epochs-none (o ∷ f) = ap (epochs_inside_of_first f) (by (length o == 1) (slice_index o 0)) ∙ epochs-none f
  where
    by : (b : Bool) (x : ℕ) → cond (b && nat_lt x 0) x 0 ≡ 0
    by true x = grind (arith, nat_tests)
    by false x = refl

left-none : (cut : Cut) → epochs_left cut 0 ≡ 0
left-none Present = refl
left-none (At f) = epochs-none f

left-more : (flow : Dataflow) (p : ℕ) (cut : Cut) (n : ℕ) → in_domain (bounds_of flow p) (n ∷ []) ≡ true → epochs_left cut (n + 1) ≡ epochs_left cut n + cond (set_of flow p cut (n ∷ [])) 1 0
left-more flow p Present n d = ap (λ b. n + cond b 1 0) (sym d)
left-more flow p (At f) n d = epochs-more f n ∙ ap (λ b. epochs_inside_of_first f n + cond (b && inside f (n ∷ [])) 1 0) (sym d)

-- how many injections of a node are left
pub injected-left : (sys : System) (h : List Event) (keep : ℕ → Frontier) (p : ℕ) (cut : Cut) → AreAtNodes sys.flow h → IsLegal sys h → keep p ≡ set_of sys.flow p cut
    → injected_count p (kept_events sys.flow keep h) ≡ epochs_left cut (injected_count p h)
injected-left sys [] keep p cut d l is = sym (left-none cut)
injected-left sys (Inject s x ∷ h) keep p cut d l is = elim (cases_eq s p) [
  | inl i ↦
      let next : x ≡ injected_count p h = l.0.next ∙ ap (λ q. injected_count q h) i in
      let here : in_domain (bounds_of sys.flow p) (x ∷ []) ≡ true = sym (ap (λ q. in_domain (bounds_of sys.flow q) (x ∷ [])) i) ∙ d.0 in
      let passes : keep s (x ∷ []) ≡ set_of sys.flow p cut (x ∷ []) = ap (λ q. keep q (x ∷ [])) i ∙ ap (λ g. g (x ∷ [])) is in
      counted (eq-eqb s p i) (keep s (x ∷ [])) ∙ ap (λ n. n + cond (keep s (x ∷ [])) 1 0) (injected-left sys h keep p cut d.1 l.1 is)
      ∙ ap (λ b. epochs_left cut (injected_count p h) + cond b 1 0) passes
      ∙ ap (λ n. epochs_left cut n + cond (set_of sys.flow p cut (x ∷ [])) 1 0) (sym next)
      ∙ sym (left-more sys.flow p cut x here) ∙ ap (λ n. epochs_left cut (n + 1)) next
      ∙ ap (λ b. epochs_left cut (cond b (injected_count p h + 1) (injected_count p h))) (sym (eq-eqb s p i))
  | inr n ↦
      let other : (s == p) ≡ false = false_from_ne_true (s == p) (λ k. n (eqb-true s p k)) in
      skipped other (keep s (x ∷ [])) ∙ injected-left sys h keep p cut d.1 l.1 is
      ∙ ap (λ b. epochs_left cut (cond b (injected_count p h + 1) (injected_count p h))) (sym other)
]
  where
    left : List Event
    left = kept_events sys.flow keep h

    counted : (s == p) ≡ true → (b : Bool) → injected_count p (cond b (Inject s x ∷ left) left) ≡ injected_count p left + cond b 1 0
    counted e true = ap (λ k. cond k (injected_count p left + 1) (injected_count p left)) e
    counted e false = omega arith

    skipped : (s == p) ≡ false → (b : Bool) → injected_count p (cond b (Inject s x ∷ left) left) ≡ injected_count p left
    skipped e true = ap (λ k. cond k (injected_count p left + 1) (injected_count p left)) e
    skipped e false = refl
injected-left sys (Deliver e m ∷ h) keep p cut d l is = by (keep (receiver sys.flow e) m.at) ∙ injected-left sys h keep p cut d.1 l.1 is
  where
    left : List Event
    left = kept_events sys.flow keep h

    by : (b : Bool) → injected_count p (cond b (Deliver e m ∷ left) left) ≡ injected_count p left
    by true = refl
    by false = refl
injected-left sys (Notify q t ∷ h) keep p cut d l is = by (keep q t) ∙ injected-left sys h keep p cut d.1 l.1 is
  where
    left : List Event
    left = kept_events sys.flow keep h

    by : (b : Bool) → injected_count p (cond b (Notify q t ∷ left) left) ≡ injected_count p left
    by true = refl
    by false = refl

-- ---- the counts

-- what is counted of a history and cut, with what is pending and the tables after it, counts the events that are left
pub counts-left : (sys : System) (h : List SerialEvent) (choice : Choice) (old new : Counts) → IsWellFormed sys.flow → HasEpochs sys → IsLegal sys (events h) → IsCountOf sys (events h) old
    → AreCut sys.flow choice old new → ArePendingAfter sys (events_left sys choice h) new.pending.items → AreTablesAfter sys (events_left sys choice h) new.sent.items
    → IsCountOf sys (events_left sys choice h) new
counts-left sys h choice old new w b l c cut pending tables = record {
  pending = pending;
  owed = λ p i t.
      ap (has_one t) (cut.owed p i)
      ∙ has-left sys.flow p (cut_of choice p) t (owed_of old p) (λ k. owed-in_domain sys (events h) p t d (sym (c.owed p i t) ∙ k))
      ∙ ap (λ x. kept_of sys.flow choice p t && x) (c.owed p i t) ∙ sym (owed-left sys (events h) (kept_of sys.flow choice) p t)
      ∙ ap (λ vs. is_owed_notice sys vs p t) (sym left);
  batches = λ p i. ap (λ xs. get_or xs p 0) cut.batches ∙ c.batches p i;
  injected = λ p i. cut.injected p i ∙ ap (epochs_left (cut_of choice p)) (c.injected p i)
      ∙ sym (injected-left sys (events h) (kept_of sys.flow choice) p (cut_of choice p) d l refl) ∙ ap (injected_count p) (sym left);
  sent = λ p i k. (tables p i k).sent;
  in_order = λ p i k. (tables p i k).in_order;
  epochs = λ p i k. (tables p i k).epochs;
}
  where
    d : AreAtNodes sys.flow (events h)
    d = legal-in_domain sys (events h) w b l

    left : events_left sys choice h ≡ kept_events sys.flow (kept_of sys.flow choice) (events h)
    left = filtered-events sys choice h

-- ---- place by place

-- at the first places, so many, each is what is left of it, and the others are as they were
pub record HaveLeft {A : Type 0} (d : A) (left : ℕ → A → A) (i : ℕ) (old new : List A) : Type 0 where
  pub one_each : length new ≡ length old
  pub done : (p : ℕ) → p < i → get_or new p d ≡ left p (get_or old p d)
  pub ahead : (p : ℕ) → i ≤ p → get_or new p d ≡ get_or old p d

pub left_none : {A : Type 0} (d : A) (left : ℕ → A → A) (old : List A) → HaveLeft d left 0 old old
left_none d left old = record { one_each = refl; done = λ p l. absurd (omega arith); ahead = λ p l. refl }

pub left_more : {A : Type 0} (d : A) (left : ℕ → A → A) (i : ℕ) (old mid new : List A) → HaveLeft d left i old mid → ChangesAt i d (λ x y. y ≡ left i x) mid new → HaveLeft d left (i + 1) old new
left_more d left i old mid new h c = record {
  one_each = c.one_each ∙ h.one_each;
  done = λ p l. elim (cases_eq p i) [
    | inl e ↦ subst (λ q. get_or new q d ≡ left q (get_or old q d)) (sym e) (c.here ∙ ap (left i) (h.ahead i (omega arith)))
    | inr n ↦ c.others p n ∙ h.done p (below n l)
  ];
  ahead = λ p l. c.others p (λ e. absurd (omega (arith, e, l))) ∙ h.ahead p (omega arith);
}
  where
    below : {p : ℕ} → (p ≡ i → ⊥) → p < i + 1 → p < i
    below n l = omega (arith, n, l)

-- one stamp more that is outside
pub epochs-push : (f : Front) (o : Stamp) (n : ℕ) → epochs_inside_of_first (f ++ o ∷ []) n ≡ until_epoch o (epochs_inside_of_first f n)
epochs-push [] o n = refl
epochs-push (x ∷ f) o n = epochs-push f o (until_epoch x n)

-- ---- of the flow

tally-left : (b : Bounds) (cut : Cut) (entries : List (Stamp × ℕ)) → IsTallyOf b entries → IsTallyOf b (tally_left cut entries)
tally-left b Present entries a = a
tally-left b (At f) entries a = filtered f entries a
  where
    filtered : (f : Front) (es : List (Stamp × ℕ)) → IsTallyOf b es → IsTallyOf b (filter (λ e. inside f e.0) es)
    filtered f [] a = a
    filtered f (e ∷ es) a = by (inside f e.0) (filtered f es (record { of_domain = a.of_domain.1; positive = a.positive.1 }))
      where
        by : (c : Bool) → IsTallyOf b (filter (λ e. inside f e.0) es) → IsTallyOf b (cond c (e ∷ filter (λ e. inside f e.0) es) (filter (λ e. inside f e.0) es))
        by true k = record { of_domain = (a.of_domain.0, k.of_domain); positive = (a.positive.0, k.positive) }
        by false k = k

pub cut-counts : (flow : Dataflow) (choice : Choice) (old new : Counts) → AreCounts flow old → AreCut flow choice old new → AreTallies flow new.pending.items
    → length new.sent.items ≡ length flow.nodes → AreCounts flow new
cut-counts flow choice old new a c pending sent = record {
  pending_each = pending.one_each;
  owed_each = c.owed_each ∙ a.owed_each;
  batches_each = ap length c.batches ∙ a.batches_each;
  injected_each = c.injected_each ∙ a.injected_each;
  sent_each = sent;
  pending = pending.each;
  owed = λ p l. subst (IsTallyOf (bounds_of flow p)) (sym (c.owed p l)) (tally-left (bounds_of flow p) (cut_of choice p) (owed_of old p) (a.owed p l));
}

pub epochs-step : (f : Front) (i : ℕ) (o : Stamp) (n left new : ℕ) → i < length f → o ≡ get_or f i o → left ≡ epochs_inside_of_first (take i f) n → new ≡ until_epoch o left
    → new ≡ epochs_inside_of_first (take (i + 1) f) n
epochs-step f i o n left new l is before now =
    now ∙ ap (until_epoch o) before ∙ sym (epochs-push (take i f) o n)
    ∙ ap (λ xs. epochs_inside_of_first xs n) (sym (take_more f i o l ∙ ap (λ y. take i f ++ y ∷ []) (sym is)))

-- what a node that stays keeps
pub owed-stays : (cut : Cut) (p : ℕ) (old : List (List (Stamp × ℕ))) → cut ≡ Present → ChangesAt p [] (λ x y. y ≡ tally_left cut x) old old
owed-stays cut p old e = record { one_each = refl; here = sym (ap (λ c. tally_left c (get_or old p [])) e); others = λ q n. refl }

pub injected-stays : (cut : Cut) (p : ℕ) (old : List ℕ) → cut ≡ Present → ChangesAt p 0 (λ x y. y ≡ epochs_left cut x) old old
injected-stays cut p old e = record { one_each = refl; here = sym (ap (λ c. epochs_left c (get_or old p 0)) e); others = λ q n. refl }
