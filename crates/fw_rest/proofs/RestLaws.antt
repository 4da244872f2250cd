-- Where no event is enabled, all has come.
use Rattle.std.proofs.Common.{◌≡◌, ℕ, ◌+◌, ◌<◌, ◌≤◌, true, false, not, ◌&&◌, ◌||◌, ◌==◌, nat_le, nat_lt, List, [], ◌∷◌, length, refl, sym, ap, ◌∙◌, inl, inr, ◌⊎◌, arith}
use Rattle.std.proofs.lemmas.List.{get_or_past}
use Rattle.std.proofs.lemmas.Bool.{cases_Bool, cases_lt, and_parts, and_from, or_cases, or_left, or_right, eqb-true, eq-eqb, false_from_ne_true, leb-true, le-leb}
use Rattle.fw_time.specs.Stamp.{Stamp, leq, lesser, same, in_domain}
use Rattle.fw_time.proofs.StampLaws.{leq-refl, leq-trans, leq-antisym}
use Rattle.fw_frontier.specs.Frontier.{Frontier, IsFrontier, Within, everything}
use Rattle.fw_flow.specs.declared.event.Event.{Event}
use Rattle.fw_flow.specs.declared.event.Event.TheVariants.{Inject, Deliver, Notify}
use Rattle.fw_flow.specs.declared.event.Message.{Message}
use Rattle.fw_flow.specs.Dataflow.{System, Dataflow, kind_of, sender, receiver, bounds_of, bounds_of_domain, is_input_kind, is_numbered, batches_of}
use Rattle.std.specs.Ordering.{is_eq}
use Rattle.fw_lemmas.proofs.Bools.{two_ways}
use Rattle.fw_lemmas.proofs.Numbers.{by_measure}
use Rattle.fw_flow.specs.Message.{is_message_among, message_cmp}
use Rattle.fw_flow.proofs.MessageLaws.{message_cmp-self}
use Rattle.fw_flow.specs.Projection.{phi, first_coordinate}
use Rattle.fw_flow.specs.WellFormed.{IsWellFormed}
use Rattle.fw_flow.specs.Ranks.{is_looped}
use Rattle.fw_model.specs.History.{some_at, delivered_messages, pending_messages, is_owed_notice, injected_count, is_exhausted, injected_epochs, IsAdmissible, IsComplete, IsLegal}
use Rattle.fw_model.specs.Measure.{Measure}
use Rattle.fw_model.proofs.KindSorts.{is_inner, inner-from_loop}
use Rattle.fw_model.proofs.FrontierLaws.{phi-frontier}
use Rattle.fw_model.proofs.InputLaws.{injected-few}
use Rattle.fw_model.proofs.LegalLaws.{edge_domains}
use Rattle.fw_model.proofs.LesserLaws.{lesser-in_domain}
use Rattle.fw_model.proofs.MeasureLaws.{sends_to_loop, measure-exists}
use Rattle.fw_model.proofs.MeetLaws.{phi-everything}
use Rattle.fw_model.proofs.PendingNumberLaws.{numbers-go_on}
use Rattle.fw_model.proofs.PhiLaws.{phi-monotone}
use Rattle.fw_model.proofs.SendingLaws.{phi-by_stamp, phi-in_domain}
use Rattle.fw_model.proofs.WellFormedLaws.{senders_well_formed}
use Rattle.fw_rest.specs.Rest.{IsAtRest}
use Rattle.fw_rest.specs.LawsOfRest.{RestIsComplete}

-- ---- a lesser stamp has a lesser sum

sum_of : List ℕ → ℕ
sum_of [] = 0
sum_of (x ∷ s) = x + sum_of s

leq-sum : (s t : Stamp) → leq s t ≡ true → sum_of s ≤ sum_of t
unfolding sum_of
leq-sum [] [] k = omega arith
leq-sum [] (y ∷ t) k = absurd (cc)
leq-sum (x ∷ s) [] k = absurd (cc)
leq-sum (x ∷ s) (y ∷ t) k =
    let a = and_parts (nat_le x y) (leq s t) k in
    let b = leb-true x y a.0 in
    let c = leq-sum s t a.1 in
    omega arith

below-sum : (s t : Stamp) → leq s t ≡ true → not (leq t s) ≡ true → sum_of s < sum_of t
unfolding sum_of
below-sum [] [] k n = absurd (cc)
below-sum [] (y ∷ t) k n = absurd (cc)
below-sum (x ∷ s) [] k n = absurd (cc)
below-sum (x ∷ s) (y ∷ t) k n =
    let a = and_parts (nat_le x y) (leq s t) k in
    let low = leb-true x y a.0 in
    let rest = leq-sum s t a.1 in
    elim (cases_lt x y) [
      | inl l ↦ omega arith
      | inr l ↦
          let here : nat_le y x ≡ true = le-leb y x l in
          let m = below-sum s t a.1 (sym (ap (λ b. not (b && leq t s)) here) ∙ n) in
          omega arith
    ]

lesser-sum : (s t : Stamp) → lesser s t ≡ true → sum_of s < sum_of t
lesser-sum s t k = let a = and_parts (leq s t) (not (leq t s)) k in below-sum s t a.0 a.1

-- ---- nothing waits

at-some : (t : Stamp) (ms : List Message) → some_at (same t) ms ≡ true → (m : Message) × (is_message_among m ms ≡ true) × (same t m.at ≡ true)
at-some t [] k = absurd (cc)
at-some t (m ∷ ms) k = elim (cases_Bool (same t m.at)) [
  | inl e ↦ (m, or_left (is_eq (message_cmp m m)) (is_message_among m ms) (message_cmp-self m), e)
  | inr e ↦
      let rest : some_at (same t) ms ≡ true = elim (or_cases (same t m.at) (some_at (same t) ms) k) [ inl a ↦ absurd (two_ways (same t m.at) a e) | inr a ↦ a ] in
      let w = at-some t ms rest in
      (w.0, or_right (is_eq (message_cmp w.0 m)) (is_message_among w.0 ms) w.1, w.2)
]

pub rest-quiet : (sys : System) (h : List Event) → IsWellFormed sys.flow → IsLegal sys h → IsAtRest sys h → (e : ℕ) (t : Stamp)
    → some_at (same t) (pending_messages sys h e) ≡ false
rest-quiet sys h w l r e t = false_from_ne_true (some_at (same t) (pending_messages sys h e)) (λ k.
    let m = at-some t (pending_messages sys h e) k in
    elim (cases_Bool (is_numbered sys.flow e)) [
      | inr n ↦ r (Deliver e m.0) (record { is_pending = m.1; numbered = λ j. absurd (two_ways (is_numbered sys.flow e) j n) })
      | inl n ↦
          let g = numbers-go_on sys h w l e n in
          let number = length (delivered_messages h e) ∷ [] in
          let o = at-some number (pending_messages sys h e) (g.next m.0 m.1) in
          let is = and_parts (leq number o.0.at) (leq o.0.at number) o.2 in
          r (Deliver e o.0) (record { is_pending = o.1; numbered = λ j. leq-antisym o.0.at number is.1 is.0 })
    ])

-- ---- each input has injected all

pub rest-exhausted : (sys : System) (h : List Event) → IsLegal sys h → IsAtRest sys h → (s : ℕ) → is_input_kind (kind_of sys.flow s) ≡ true
    → is_exhausted sys h s ≡ true
rest-exhausted sys h l r s i =
    let few = injected-few sys h l s in
    elim (cases_lt (injected_count s h) (length (batches_of sys s))) [
      | inl k ↦ absurd (r (Inject s (injected_count s h)) (record { input = i; next = refl; there = k }))
      | inr k ↦ eq-eqb (injected_count s h) (length (batches_of sys s)) (omega arith)
    ]

rest-injected : (sys : System) (h : List Event) → IsLegal sys h → IsAtRest sys h → (s : ℕ) → is_input_kind (kind_of sys.flow s) ≡ true
    → (t : Stamp) → in_domain (bounds_of sys.flow s) t ≡ true → injected_epochs sys h s t ≡ true
rest-injected sys h l r s i t d =
    and_from (in_domain (bounds_of sys.flow s) t) (is_exhausted sys h s || nat_lt (first_coordinate t) (injected_count s h)) d
    (or_left (is_exhausted sys h s) (nat_lt (first_coordinate t) (injected_count s h)) (rest-exhausted sys h l r s i))

-- ---- what arrives

far-receiver : (flow : Dataflow) (e : ℕ) → length flow.edges ≤ e → receiver flow e ≡ length flow.nodes
unfolding receiver
far-receiver flow e l = ap (λ d. d.receiver) (get_or_past flow.edges e (record { name = []; sender = length flow.nodes; receiver = length flow.nodes }) l)

all-phi : (sys : System) (h : List Event) → IsWellFormed sys.flow → (e : ℕ) (u : Stamp) → in_domain (bounds_of sys.flow (receiver sys.flow e)) u ≡ true
    → phi sys h e (everything (bounds_of sys.flow (sender sys.flow e))) u ≡ true
unfolding bounds_of
all-phi sys h w e u d = phi-everything sys h e u ∙ ap (λ domain. in_domain (bounds_of_domain sys.flow domain) u) (edge_domains sys.flow w e) ∙ d

-- a stamp up to another one arrives, if of each sender all is complete that is of lesser measure than the other one
arrives-up : (sys : System) (h : List Event) → IsWellFormed sys.flow → (by : Measure sys.flow) (done : ℕ → Frontier)
    → ((p : ℕ) → IsFrontier (bounds_of sys.flow p) (done p)) → (e : ℕ) → e < length sys.flow.edges → (s t : Stamp) → leq s t ≡ true
    → in_domain (bounds_of sys.flow (receiver sys.flow e)) s ≡ true
    → ((q : ℕ) (u : Stamp) → by.measure q u < by.measure (receiver sys.flow e) t → q < length sys.flow.nodes → in_domain (bounds_of sys.flow q) u ≡ true → done q u ≡ true)
    → phi sys h e (done (sender sys.flow e)) s ≡ true
arrives-up sys h w by done df e l s t up d has =
    let q = sender sys.flow e in
    let there = w.senders_declared e l in
    let all = everything (bounds_of sys.flow q) in
    let k = all-phi sys h w e s d in
    elim (cases_Bool (is_looped sys.flow (receiver sys.flow e))) [
      | inr unlooped ↦ phi-monotone sys h e all (done q) (λ u i. has q u (by.into_unlooped e l unlooped u t) there i) s k
      | inl looped ↦ elim (senders_well_formed sys.flow w e l) [
        | inl is ↦
            let inner = inner-from_loop sys.flow (kind_of sys.flow q) (sends_to_loop sys.flow w e l looped) in
            let none = ap is_inner is in
            absurd (cc)
        | inr by_stamp ↦
            let here = phi-in_domain sys h e all s k in
            (phi-by_stamp sys h e (done q) by_stamp (df q) s here).1
            (λ u v i is below. has q u (by.into_looped e l looped u t v is (leq-trans v s t below up)) there i)
      ]
    ]

-- ---- what is complete has each stamp to which nothing stands in the way

module _ (sys : System) (h : List Event) (w : IsWellFormed sys.flow) (l : IsLegal sys h) (r : IsAtRest sys h) (done : ℕ → Frontier)
    (c : IsComplete sys h done) (p : ℕ) (there : p < length sys.flow.nodes) (t : Stamp) (d : in_domain (bounds_of sys.flow p) t ≡ true)
    (paid : (s : Stamp) → leq s t ≡ true → is_owed_notice sys h p s ≡ false)
    (arrives : (e : ℕ) → e < length sys.flow.edges → receiver sys.flow e ≡ p → phi sys h e (done (sender sys.flow e)) t ≡ true) where
  -- the family with the stamps up to this one besides
  abbrev more : ℕ → Frontier
  more q s = done q s || (q == p && leq s t)

  old : (q : ℕ) → Within (done q) (more q)
  old q s k = or_left (done q s) (q == p && leq s t) k

  -- a stamp of it is complete, or one up to this one
  cases : (q : ℕ) (s : Stamp) → more q s ≡ true → (done q s ≡ true) ⊎ ((q ≡ p) × (leq s t ≡ true))
  cases q s k = elim (or_cases (done q s) (q == p && leq s t) k) [
    | inl a ↦ inl a
    | inr a ↦ let b = and_parts (q == p) (leq s t) a in inr (eqb-true q p b.0, b.1)
  ]

  inside : (q : ℕ) → q ≡ p → (s : Stamp) → leq s t ≡ true → in_domain (bounds_of sys.flow q) s ≡ true
  inside q e s k = ap (λ x. in_domain (bounds_of sys.flow x) s) e ∙ lesser-in_domain sys.flow p s t k d

  more-frontier : (q : ℕ) → IsFrontier (bounds_of sys.flow q) (more q)
  more-frontier q = record {
    inside_domain = λ s k. elim (cases q s k) [ inl a ↦ (c.admissible.frontier q).inside_domain s a | inr a ↦ inside q a.0 s a.1 ];
    closed = λ s u i k j. elim (cases q u j) [
      | inl a ↦ old q s ((c.admissible.frontier q).closed s u i k a)
      | inr a ↦ or_right (done q s) (q == p && leq s t) (and_from (q == p) (leq s t) (eq-eqb q p a.0) (leq-trans s u t k a.1))
    ];
  }

  more-admissible : IsAdmissible sys h more
  more-admissible = record {
    frontier = more-frontier;
    quiet = λ q s k e i. rest-quiet sys h w l r e s;
    paid = λ q s k. elim (cases q s k) [
      | inl a ↦ c.admissible.paid q s a
      | inr a ↦ ap (λ x. is_owed_notice sys h x s) a.0 ∙ paid s a.1
    ];
    follows = λ e s k. elim (cases (receiver sys.flow e) s k) [
      | inl a ↦ phi-monotone sys h e (done (sender sys.flow e)) (more (sender sys.flow e)) (old (sender sys.flow e)) s (c.admissible.follows e s a)
      | inr a ↦ elim (cases_lt e (length sys.flow.edges)) [
        | inl n ↦
            phi-monotone sys h e (done (sender sys.flow e)) (more (sender sys.flow e)) (old (sender sys.flow e)) s
            (below e n a.0 s a.1)
        | inr n ↦ absurd (far e n a.0)
      ]
    ];
    source = λ s i u k. rest-injected sys h l r s i u ((more-frontier s).inside_domain u k);
  }
    where
      below : (e : ℕ) → e < length sys.flow.edges → receiver sys.flow e ≡ p → (s : Stamp) → leq s t ≡ true
          → phi sys h e (done (sender sys.flow e)) s ≡ true
      below e n i s k =
          let f = phi-frontier sys h e (done (sender sys.flow e)) (c.admissible.frontier (sender sys.flow e)) in
          let a = arrives e n i in
          f.closed s t (leq-trans s t _ k (f.inside_domain t a)) k a

      far : (e : ℕ) → length sys.flow.edges ≤ e → receiver sys.flow e ≡ p → ⊥
      far e n i = let q = far-receiver sys.flow e n in omega arith

  widened : done p t ≡ true
  widened = c.largest more more-admissible p t (or_right (done p t) (p == p && leq t t) (and_from (p == p) (leq t t) (eq-eqb p p refl) (leq-refl t)))

-- ---- the law

pub rest-complete : RestIsComplete
rest-complete sys h w epochs l r done c p there t d =
    let by = measure-exists sys.flow w in
    by_measure {A = ℕ × Stamp} (λ x. by.measure x.0 x.1) (λ x. x.0 < length sys.flow.nodes → in_domain (bounds_of sys.flow x.0) x.1 ≡ true → done x.0 x.1 ≡ true)
    (λ x ih n i.
    let arrives : (s : Stamp) → leq s x.1 ≡ true → (e : ℕ) → e < length sys.flow.edges → receiver sys.flow e ≡ x.0 → phi sys h e (done (sender sys.flow e)) s ≡ true =
    λ s up e k is.
    arrives-up sys h w by done c.admissible.frontier e k s x.1 up
    (ap (λ q. in_domain (bounds_of sys.flow q) s) is ∙ lesser-in_domain sys.flow x.0 s x.1 up i)
    (λ q u less m j. let same : by.measure (receiver sys.flow e) x.1 ≡ by.measure x.0 x.1 = ap (λ y. by.measure y x.1) is in ih (q, u) (omega arith) m j) in
    let paid : (s : Stamp) → leq s x.1 ≡ true → is_owed_notice sys h x.0 s ≡ false =
    by_measure {A = Stamp} sum_of (λ s. leq s x.1 ≡ true → is_owed_notice sys h x.0 s ≡ false)
    (λ s lesser_ones up. false_from_ne_true (is_owed_notice sys h x.0 s) (λ o. r (Notify x.0 s) (record {
      is_owed = o;
      none_lesser = λ u j. lesser_ones u (lesser-sum u s j) (leq-trans u s x.1 (and_parts (leq u s) (not (leq s u)) j).0 up);
      quiet = λ u j e is. rest-quiet sys h w l r e u;
      complete = (
        done,
        c.admissible,
        λ e is. elim (cases_lt e (length sys.flow.edges)) [
          | inl k ↦ arrives s up e k is
          | inr k ↦ let q = far-receiver sys.flow e k in absurd (omega arith)
        ],
      );
    }))) in
    widened sys h w l r done c x.0 n x.1 i paid (λ e k is. arrives x.1 (leq-refl x.1) e k is))
    (p, t) there d
