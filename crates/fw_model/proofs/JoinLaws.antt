-- Join sends each pair of recs once, in whichever order the recs come.
use Rattle.std.proofs.Common.{◌≡◌, ℕ, ◌+◌, ◌%◌, ◌^◌, ◌<◌, ◌≤◌, Bool, true, false, cond, not, ◌&&◌, ◌==◌, List, [], ◌∷◌, ◌++◌, length, map, Some, refl, sym, ap, subst, ◌∙◌, inl, inr, arith}
use Rattle.std.specs.List.{AllByRecursion}
use Rattle.std.specs.Prelude.{filter}
use Rattle.std.specs.Ordering.{is_eq}
use Rattle.std.proofs.Math.Nat.{add_comm}
use Rattle.std.proofs.lemmas.Bool.{cond_both, cases_Bool, eqb-true, eqb-false, eq-eqb, ne_eqb}
use Rattle.fw_lemmas.proofs.Each.{each-one}
use Rattle.fw_time.specs.Stamp.{Stamp, same, in_domain}
use Rattle.fw_bag.specs.declared.rec.Rec.{Rec}
use Rattle.fw_bag.specs.Rec.{rec_cmp}
use Rattle.fw_bag.specs.Bag.{how_often}
use Rattle.fw_bag.specs.Keyed.{joined_rec, plus}
use Rattle.fw_flow.specs.declared.event.Event.{Event}
use Rattle.fw_flow.specs.declared.event.Event.TheVariants.{Inject, Deliver, Notify}
use Rattle.fw_flow.specs.declared.event.Message.{Message}
use Rattle.fw_flow.specs.declared.kind.Kind.TheVariants.{Join}
use Rattle.fw_flow.specs.Dataflow.{System, Dataflow, kind_of, receiver, in_edges}
use Rattle.fw_flow.specs.NodeFunction.{delivered_recs, recs_on_delivery, sends_of_kind, sends, sent_by}
use Rattle.fw_flow.specs.Projection.{events_at}
use Rattle.fw_flow.specs.WholeBags.{Timed, timed_recs, timed_where, joined_timed, joined_bags, outputs_of_kind}
use Rattle.fw_model.specs.History.{delivered_messages}
use Rattle.fw_model.proofs.WeightLaws.{weigh, weigh-flat_map, weigh-same, weigh-none, weigh-lighter, weigh-less, one, at_stamp}
use Rattle.fw_model.proofs.SentLaws.{timed_of, timed_message}
use Rattle.fw_model.proofs.ArrivalLaws.{at_edge, in_edges-once, in_edges-receive, delivered_bag, as_many, SendsForDelivered}
use Rattle.fw_model.proofs.InputLaws.{timed_of-messages_at_some, sent-weigh}
use Rattle.fw_model.proofs.DistinctLaws.{how_often-append, same-swap}
use Rattle.fw_model.proofs.StampLaws.{same-is, same-refl}
use Rattle.fw_time.specs.declared.stamp.Bounds.{Bounds}
use Rattle.fw_model.specs.Wholes.{part, AreTimedWithin, IsLawfulWhole, MakesFewer}
use Rattle.fw_model.proofs.OutputLaws.{part-flat_map, part-timed, recs_where-part, each-timed, each-flat_map, At}
use Rattle.fw_flow.specs.WellFormed.{IsInDegree}

-- ---- pairs

-- how often a rec is among the joins of a rec with one other
abbrev pub of_pair : Rec → Rec → Rec → ℕ
of_pair x a b = how_often x (joined_rec a (b ∷ []))

-- the same at a stamp
abbrev pub pair : Stamp → Rec → Timed → Timed → ℕ
pair t x a b = cond (same t a.at && same t b.at) (of_pair x a.rec b.rec) 0

-- the weight of the joins of two bags
abbrev pub pairs : Stamp → Rec → List Timed → List Timed → ℕ
pairs t x ls bs = weigh (λ a. weigh (pair t x a) bs) ls

joined-cons : (x r y : Rec) (ys : List Rec) → how_often x (joined_rec r (y ∷ ys)) ≡ of_pair x r y + how_often x (joined_rec r ys)
joined-cons x r y ys = cases (r.key == y.key)
  where
    cases : (b : Bool) → how_often x (map (λ (z : Rec). record { key = r.key; value = plus r.value z.value }) (cond b (y ∷ filter (λ z. r.key == z.key) ys) (filter (λ z. r.key == z.key) ys)))
        ≡ how_often x (map (λ (z : Rec). record { key = r.key; value = plus r.value z.value }) (cond b (y ∷ []) [])) + how_often x (joined_rec r ys)
    cases true = how_often-append x (record { key = r.key; value = plus r.value y.value } ∷ []) (joined_rec r ys)
    cases false = omega arith

of_pair-swap : (x a b : Rec) → of_pair x a b ≡ of_pair x b a
of_pair-swap x a b = elim (cases_Bool (a.key == b.key)) [
  | inl e ↦
      let i = eqb-true a.key b.key e in
      let j = eq-eqb b.key a.key (sym i) in
      ap (λ c. how_often x (map (λ (z : Rec). record { key = a.key; value = plus a.value z.value }) (cond c (b ∷ []) []))) e
      ∙ ap (λ k. how_often x (record { key = k; value = plus a.value b.value } ∷ [])) i
      ∙ ap (λ n. how_often x (record { key = b.key; value = n % 2 ^ 64 } ∷ [])) (add_comm a.value b.value)
      ∙ sym (ap (λ c. how_often x (map (λ (z : Rec). record { key = b.key; value = plus b.value z.value }) (cond c (a ∷ []) []))) j)
  | inr e ↦
      let j = eqb-swap a.key b.key e in
      ap (λ c. how_often x (map (λ (z : Rec). record { key = a.key; value = plus a.value z.value }) (cond c (b ∷ []) []))) e
      ∙ sym (ap (λ c. how_often x (map (λ (z : Rec). record { key = b.key; value = plus b.value z.value }) (cond c (a ∷ []) []))) j)
]
  where
    eqb-swap : (m n : ℕ) → (m == n) ≡ false → (n == m) ≡ false
    eqb-swap m n e = ne_eqb n m (λ i. eqb-false m n e (sym i))

and_swap : (a b : Bool) (n : ℕ) → cond (a && b) n 0 ≡ cond (b && a) n 0
and_swap true true n = refl
and_swap true false n = refl
and_swap false true n = refl
and_swap false false n = refl

pair-swap : (t : Stamp) (x : Rec) (a b : Timed) → pair t x a b ≡ pair t x b a
pair-swap t x a b = and_swap (same t a.at) (same t b.at) (of_pair x a.rec b.rec) ∙ ap (λ n. cond (same t b.at && same t a.at) n 0) (of_pair-swap x a.rec b.rec)

joined-where : (x r : Rec) (u : Stamp) (bs : List Timed)
    → how_often x (joined_rec r (timed_where (same u) bs)) ≡ weigh (λ b. cond (same u b.at) (of_pair x r b.rec) 0) bs
unfolding weigh
joined-where x r u [] = refl
joined-where x r u (b ∷ bs) = cases (same u b.at) (joined-where x r u bs)
  where
    cases : (c : Bool) → how_often x (joined_rec r (timed_where (same u) bs)) ≡ weigh (λ b. cond (same u b.at) (of_pair x r b.rec) 0) bs
        → how_often x (joined_rec r (map (λ z. z.rec) (cond c (b ∷ filter (λ z. same u z.at) bs) (filter (λ z. same u z.at) bs))))
        ≡ cond c (of_pair x r b.rec) 0 + weigh (λ b. cond (same u b.at) (of_pair x r b.rec) 0) bs
    cases true h = joined-cons x r b.rec (timed_where (same u) bs) ∙ ap (λ n. of_pair x r b.rec + n) h
    cases false h = h ∙ omega arith

pub weigh-timed : (t at : Stamp) (x : Rec) (rs : List Rec) → weigh (one t x) (timed_recs at rs) ≡ cond (same t at) (how_often x rs) 0
unfolding weigh one
weigh-timed t at x [] = zeros (same t at)
  where
    zeros : (b : Bool) → weigh (one t x) [] ≡ cond b 0 0
    zeros true = refl
    zeros false = refl
weigh-timed t at x (r ∷ rs) = cases (same t at) (is_eq (rec_cmp x r)) (weigh-timed t at x rs)
  where
    cases : (b c : Bool) → weigh (one t x) (timed_recs at rs) ≡ cond b (how_often x rs) 0
        → cond (b && c) 1 0 + weigh (one t x) (timed_recs at rs) ≡ cond b (cond c (how_often x rs + 1) (how_often x rs)) 0
    cases true true h = omega arith
    cases true false h = omega arith
    cases false c h = omega arith

weigh-zero : (bs : List Timed) → weigh (λ b. 0) bs ≡ 0
unfolding weigh
weigh-zero [] = refl
weigh-zero (b ∷ bs) = let h = weigh-zero bs in omega arith

-- the joins of a rec with those at its stamp
join-one : (t : Stamp) (x : Rec) (a : Timed) (bs : List Timed)
    → weigh (one t x) (timed_recs a.at (joined_rec a.rec (timed_where (same a.at) bs))) ≡ weigh (pair t x a) bs
join-one t x a bs =
    weigh-timed t a.at x (joined_rec a.rec (timed_where (same a.at) bs))
    ∙ elim (cases_Bool (same t a.at)) [
      | inl e ↦
          let i = same-is t a.at e in
          ap (λ b. cond b (how_often x (joined_rec a.rec (timed_where (same a.at) bs))) 0) e
          ∙ joined-where x a.rec a.at bs
          ∙ ap (λ u. weigh (λ b. cond (same u b.at) (of_pair x a.rec b.rec) 0) bs) (sym i)
          ∙ sym (ap (λ c. weigh (λ b. cond (c && same t b.at) (of_pair x a.rec b.rec) 0) bs) e)
      | inr e ↦
          ap (λ b. cond b (how_often x (joined_rec a.rec (timed_where (same a.at) bs))) 0) e
          ∙ sym (ap (λ c. weigh (λ b. cond (c && same t b.at) (of_pair x a.rec b.rec) 0) bs) e ∙ weigh-zero bs)
    ]

-- ---- what join sends in all

pub join-outputs : (t : Stamp) (x : Rec) (ls bs : List Timed) → weigh (one t x) (joined_timed ls bs) ≡ pairs t x ls bs
join-outputs t x ls bs =
    weigh-flat_map (one t x) (λ r. timed_recs r.at (joined_rec r.rec (timed_where (same r.at) bs))) ls
    ∙ weigh-same (λ a. weigh (one t x) (timed_recs a.at (joined_rec a.rec (timed_where (same a.at) bs)))) (λ a. weigh (pair t x a) bs) ls
    (each-one (λ a. weigh (one t x) (timed_recs a.at (joined_rec a.rec (timed_where (same a.at) bs))) ≡ weigh (pair t x a) bs) ls (λ a. join-one t x a bs))

-- ---- fewer recs have fewer joins

pair-left : (t : Stamp) (x : Rec) (a b : Timed) → same t a.at ≡ false → pair t x a b ≡ 0
pair-left t x a b e = ap (λ c. cond (c && same t b.at) (of_pair x a.rec b.rec) 0) e

pair-stamps : (t : Stamp) (x : Rec) (a b : Timed) → 0 < pair t x a b → t ≡ b.at
pair-stamps t x a b l = elim (cases_Bool (same t b.at)) [
  | inl e ↦ same-is t b.at e
  | inr e ↦ let z = pair-swap t x a b ∙ pair-left t x b a e in absurd (omega arith)
]

pairs-stamps : (t : Stamp) (x : Rec) (a : Timed) (bs : List Timed) → 0 < weigh (pair t x a) bs → t ≡ a.at
pairs-stamps t x a bs l = elim (cases_Bool (same t a.at)) [
  | inl e ↦ same-is t a.at e
  | inr e ↦ let z = weigh-none (pair t x a) bs (each-one (λ b. pair t x a b ≡ 0) bs (λ b. pair-left t x a b e)) in absurd (omega arith)
]

pub pairs-fewer : (t : Stamp) (x : Rec) (ls cs bs ds : List Timed) → ((r : Rec) → weigh (one t r) ls ≤ weigh (one t r) cs)
    → ((r : Rec) → weigh (one t r) bs ≤ weigh (one t r) ds) → pairs t x ls bs ≤ pairs t x cs ds
pairs-fewer t x ls cs bs ds f g =
    let inner = weigh-lighter (λ a. weigh (pair t x a) bs) (λ a. weigh (pair t x a) ds) ls
    (each-one (λ a. weigh (pair t x a) bs ≤ weigh (pair t x a) ds) ls (λ a.
    weigh-less (pair t x a) bs ds (λ u r l. subst (λ s. weigh (one s r) bs ≤ weigh (one s r) ds) (pair-stamps t x a (at_stamp u r) l) (g r)))) in
    let outer = weigh-less (λ a. weigh (pair t x a) ds) ls cs
    (λ u r l. subst (λ s. weigh (one s r) ls ≤ weigh (one s r) cs) (pairs-stamps t x (at_stamp u r) ds l) (f r)) in
    omega arith

-- ---- what join sent

-- a delivery is on one of the two edges
abbrev IsOnOne : ℕ → ℕ → Event → Type 0
IsOnOne a b (Inject s x) = Unit {0}
IsOnOne a b (Deliver e m) = (not (e == a) ≡ (e == b)) × (not (e == b) ≡ (e == a))
IsOnOne a b (Notify p t) = Unit {0}

-- where a delivery is not on the first edge, it is on the second
abbrev IsOnOther : ℕ → ℕ → Event → Type 0
IsOnOther c d (Inject s x) = Unit {0}
IsOnOther c d (Deliver e m) = not (e == c) ≡ (e == d)
IsOnOther c d (Notify p t) = Unit {0}

-- the deliveries on the other edge
other-is : (c d : ℕ) (t : Stamp) (vs : List Event) → AllByRecursion (IsOnOther c d) vs
    → delivered_recs (λ e s. not (e == c) && same s t) vs ≡ timed_where (same t) (timed_of (delivered_messages vs d))
other-is c d t [] a = refl
other-is c d t (Inject s x ∷ vs) a = other-is c d t vs a.1
other-is c d t (Notify p u ∷ vs) a = other-is c d t vs a.1
other-is c d t (Deliver e m ∷ vs) a =
    ap (λ b. cond (b && same m.at t) (m.rec ∷ []) [] ++ delivered_recs (λ e s. not (e == c) && same s t) vs) a.0
    ∙ ap (λ b. cond ((e == d) && b) (m.rec ∷ []) [] ++ delivered_recs (λ e s. not (e == c) && same s t) vs) (same-swap m.at t)
    ∙ ap (λ rs. cond ((e == d) && same t m.at) (m.rec ∷ []) [] ++ rs) (other-is c d t vs a.1)
    ∙ cases (e == d) (same t m.at) refl
  where
    cases : (b c : Bool) → same t m.at ≡ c → cond (b && c) (m.rec ∷ []) [] ++ timed_where (same t) (timed_of (delivered_messages vs d))
        ≡ timed_where (same t) (timed_of (cond b (m ∷ []) [] ++ delivered_messages vs d))
    cases true true k = sym (ap (λ z. map (λ (y : Timed). y.rec) (cond z (timed_message m ∷ filter (λ y. same t y.at) (timed_of (delivered_messages vs d))) (filter (λ y. same t y.at) (timed_of (delivered_messages vs d))))) k)
    cases true false k = sym (ap (λ z. map (λ (y : Timed). y.rec) (cond z (timed_message m ∷ filter (λ y. same t y.at) (timed_of (delivered_messages vs d))) (filter (λ y. same t y.at) (timed_of (delivered_messages vs d))))) k)
    cases false c k = refl

on_first : (a b : ℕ) (v : Event) → IsOnOne a b v → IsOnOther a b v
on_first a b (Inject s x) i = tt
on_first a b (Deliver e m) i = i.0
on_first a b (Notify p t) i = tt

on_second : (a b : ℕ) (v : Event) → IsOnOne a b v → IsOnOther b a v
on_second a b (Inject s x) i = tt
on_second a b (Deliver e m) i = i.1
on_second a b (Notify p t) i = tt

-- what a delivery makes join send
join-sends : (sys : System) (n : _) (t : Stamp) (x : Rec) (e d : ℕ) (m : Message) (vs : List Event) → AllByRecursion (IsOnOther e d) vs
    → weigh (one t x) (timed_of (sends_of_kind sys (Join n) vs (Deliver e m))) ≡ weigh (pair t x (timed_message m)) (timed_of (delivered_messages vs d))
join-sends sys n t x e d m vs a =
    ap (weigh (one t x)) (timed_of-messages_at_some (Some m.at) m.at (recs_on_delivery (Join n) vs e m.at m.rec))
    ∙ ap (λ rs. weigh (one t x) (timed_recs m.at (joined_rec m.rec rs))) (other-is e d m.at vs a)
    ∙ join-one t x (timed_message m) (timed_of (delivered_messages vs d))

pairs-right : (t : Stamp) (x : Rec) (b : Timed) (xs ys : List Timed) → pairs t x xs (b ∷ ys) ≡ weigh (pair t x b) xs + pairs t x xs ys
unfolding weigh
pairs-right t x b [] ys = refl
pairs-right t x b (y ∷ xs) ys = let h = pairs-right t x b xs ys in let s = pair-swap t x y b in omega arith

pub join-sent : (sys : System) (p : ℕ) (n : _) → kind_of sys.flow p ≡ Join n → (a b : ℕ) (t : Stamp) (x : Rec) (vs : List Event) → AllByRecursion (IsOnOne a b) vs
    → weigh (one t x) (timed_of (sent_by sys p vs)) ≡ pairs t x (timed_of (delivered_messages vs a)) (timed_of (delivered_messages vs b))
unfolding weigh sends
join-sent sys p n is a b t x [] o = refl
join-sent sys p n is a b t x (Inject s y ∷ vs) o =
    let c = sent-weigh sys p (one t x) (Inject s y) vs in
    let d = ap (λ k. weigh (one t x) (timed_of (sends_of_kind sys k vs (Inject s y)))) is in
    let h = join-sent sys p n is a b t x vs o.1 in
    omega arith
join-sent sys p n is a b t x (Notify q s ∷ vs) o =
    let c = sent-weigh sys p (one t x) (Notify q s) vs in
    let d = ap (λ k. weigh (one t x) (timed_of (sends_of_kind sys k vs (Notify q s)))) is in
    let h = join-sent sys p n is a b t x vs o.1 in
    omega arith
join-sent sys p n is a b t x (Deliver e m ∷ vs) o =
    let c = sent-weigh sys p (one t x) (Deliver e m) vs in
    let d = ap (λ k. weigh (one t x) (timed_of (sends_of_kind sys k vs (Deliver e m)))) is in
    let h = join-sent sys p n is a b t x vs o.1 in
    let ls = timed_of (delivered_messages vs a) in
    let rs = timed_of (delivered_messages vs b) in
    let firsts = all_on (IsOnOther a b) (on_first a b) vs o.1 in
    let seconds = all_on (IsOnOther b a) (on_second a b) vs o.1 in
    elim (cases_Bool (e == a)) [
      | inl i ↦
          let j : (e == b) ≡ false = sym o.0.0 ∙ ap not i in
          let f = ap (λ k. weigh (one t x) (timed_of (sends_of_kind sys (Join n) vs (Deliver k m)))) (eqb-true e a i) ∙ join-sends sys n t x a b m vs firsts in
          let g : pairs t x (timed_of (cond (e == a) (m ∷ []) [] ++ delivered_messages vs a)) (timed_of (cond (e == b) (m ∷ []) [] ++ delivered_messages vs b)) ≡ pairs t x (timed_message m ∷ ls) rs =
          ap (λ k. pairs t x (timed_of (cond k (m ∷ []) [] ++ delivered_messages vs a)) (timed_of (cond (e == b) (m ∷ []) [] ++ delivered_messages vs b))) i
          ∙ ap (λ k. pairs t x (timed_message m ∷ ls) (timed_of (cond k (m ∷ []) [] ++ delivered_messages vs b))) j in
          omega arith
      | inr i ↦
          let j : (e == b) ≡ true = sym o.0.0 ∙ ap not i in
          let f = ap (λ k. weigh (one t x) (timed_of (sends_of_kind sys (Join n) vs (Deliver k m)))) (eqb-true e b j) ∙ join-sends sys n t x b a m vs seconds in
          let g : pairs t x (timed_of (cond (e == a) (m ∷ []) [] ++ delivered_messages vs a)) (timed_of (cond (e == b) (m ∷ []) [] ++ delivered_messages vs b)) ≡ pairs t x ls (timed_message m ∷ rs) =
          ap (λ k. pairs t x (timed_of (cond k (m ∷ []) [] ++ delivered_messages vs a)) (timed_of (cond (e == b) (m ∷ []) [] ++ delivered_messages vs b))) i
          ∙ ap (λ k. pairs t x ls (timed_of (cond k (m ∷ []) [] ++ delivered_messages vs b))) j in
          let r = pairs-right t x (timed_message m) ls rs in
          omega arith
    ]
  where
    all_on : (P : Event → Type 0) → ((v : Event) → IsOnOne a b v → P v) → (ws : List Event) → AllByRecursion (IsOnOne a b) ws → AllByRecursion P ws
    all_on P k [] o = tt
    all_on P k (w ∷ ws) o = (k w o.0, all_on P k ws o.1)

-- ---- the two in-edges

pub two_edges : (ds : List ℕ) → length ds ≡ 2 → (a : ℕ) × (b : ℕ) × (ds ≡ a ∷ b ∷ [])
two_edges [] l = absurd (omega arith)
two_edges (a ∷ []) l = absurd (omega arith)
two_edges (a ∷ b ∷ []) l = (a, b, refl)
two_edges (a ∷ b ∷ c ∷ ds) l = absurd (omega arith)

on_one-cases : (c d : Bool) → cond c 1 0 + (cond d 1 0 + 0) ≡ 1 → (not c ≡ d) × (not d ≡ c)
on_one-cases true true k = absurd (omega arith)
on_one-cases true false k = (refl, refl)
on_one-cases false true k = (refl, refl)
on_one-cases false false k = absurd (omega arith)

on_one-event : (flow : Dataflow) (p a b : ℕ) → p < length flow.nodes → in_edges flow p ≡ a ∷ b ∷ [] → (e : ℕ) → (receiver flow e == p) ≡ true
    → (not (e == a) ≡ (e == b)) × (not (e == b) ≡ (e == a))
unfolding weigh
on_one-event flow p a b l i e k =
    on_one-cases (e == a) (e == b) (sym (ap (weigh (at_edge e 1)) i) ∙ in_edges-once flow p e 1 l ∙ ap (λ c. cond c 1 0) k)

pub on_one : (flow : Dataflow) (p a b : ℕ) → p < length flow.nodes → in_edges flow p ≡ a ∷ b ∷ [] → (h : List Event) → AllByRecursion (IsOnOne a b) (events_at flow p h)
on_one flow p a b l i [] = tt
on_one flow p a b l i (Inject s x ∷ h) =
    let rest = on_one flow p a b l i h in
    cond_both (s == p) (Inject s x ∷ events_at flow p h) (events_at flow p h) (AllByRecursion (IsOnOne a b)) (λ k. (tt, rest)) (λ k. rest)
on_one flow p a b l i (Notify q t ∷ h) =
    let rest = on_one flow p a b l i h in
    cond_both (q == p) (Notify q t ∷ events_at flow p h) (events_at flow p h) (AllByRecursion (IsOnOne a b)) (λ k. (tt, rest)) (λ k. rest)
on_one flow p a b l i (Deliver e m ∷ h) =
    let rest = on_one flow p a b l i h in
    cond_both (receiver flow e == p) (Deliver e m ∷ events_at flow p h) (events_at flow p h) (AllByRecursion (IsOnOne a b))
    (λ k. (on_one-event flow p a b l i e k, rest)) (λ k. rest)

-- what was delivered to a node on one of its in-edges was delivered on that edge
pub delivered_at : (flow : Dataflow) (p d : ℕ) → receiver flow d ≡ p → (h : List Event) → delivered_messages (events_at flow p h) d ≡ delivered_messages h d
delivered_at flow p d r [] = refl
delivered_at flow p d r (Inject s x ∷ h) =
    cond_both (s == p) (Inject s x ∷ events_at flow p h) (events_at flow p h) (λ vs. delivered_messages vs d ≡ delivered_messages h d) (λ k. delivered_at flow p d r h) (λ k. delivered_at flow p d r h)
delivered_at flow p d r (Notify q t ∷ h) =
    cond_both (q == p) (Notify q t ∷ events_at flow p h) (events_at flow p h) (λ vs. delivered_messages vs d ≡ delivered_messages h d) (λ k. delivered_at flow p d r h) (λ k. delivered_at flow p d r h)
delivered_at flow p d r (Deliver e m ∷ h) =
    let rest = delivered_at flow p d r h in
    cond_both (receiver flow e == p) (Deliver e m ∷ events_at flow p h) (events_at flow p h) (λ vs. delivered_messages vs d ≡ cond (e == d) (m ∷ []) [] ++ delivered_messages h d)
    (λ k. ap (λ ms. cond (e == d) (m ∷ []) [] ++ ms) rest)
    (λ k. elim (cases_Bool (e == d)) [
      | inl j ↦ absurd (eqb-false (receiver flow e) p k (ap (receiver flow) (eqb-true e d j) ∙ r))
      | inr j ↦ rest ∙ sym (ap (λ c. cond c (m ∷ []) [] ++ delivered_messages h d) j)
    ])

-- ---- what is asked of what join sends in all

each-joined : (P : Stamp → Type 0) (xs ys : List Timed) → AllByRecursion (At P) xs → AllByRecursion (At P) (joined_timed xs ys)
each-joined P xs ys a = each-flat_map (At P) (At P) _ (λ r i. each-timed P r.at i _) xs a

joined-part : (t : Stamp) (xs ys : List Timed) → part (same t) (joined_timed xs ys) ≡ part (same t) (joined_timed (part (same t) xs) (part (same t) ys))
joined-part t xs ys =
    part-flat_map (same t) (λ (r : Timed). same t r.at)
    (λ r. timed_recs r.at (joined_rec r.rec (timed_where (same r.at) ys))) (λ r. timed_recs r.at (joined_rec r.rec (timed_where (same r.at) (part (same t) ys))))
    (λ r. part-timed t r.at (joined_rec r.rec (timed_where (same r.at) ys)) (joined_rec r.rec (timed_where (same r.at) (part (same t) ys)))
    (λ e. ap (joined_rec r.rec) (recs_where-part t r.at e ys))) xs

joins-in_domain : (bounds : Bounds) (bags : List (List Timed)) → AllByRecursion (AreTimedWithin bounds) bags → AreTimedWithin bounds (joined_bags bags)
joins-in_domain bounds [] a = tt
joins-in_domain bounds (xs ∷ []) a = tt
joins-in_domain bounds (xs ∷ ys ∷ rest) a = each-joined (λ (s : Stamp). in_domain bounds s ≡ true) xs ys a.0

joins-part : (t : Stamp) (bags : List (List Timed)) → part (same t) (joined_bags bags) ≡ part (same t) (joined_bags (map (part (same t)) bags))
joins-part t [] = refl
joins-part t (xs ∷ []) = refl
joins-part t (xs ∷ ys ∷ rest) = joined-part t xs ys

joins-fewer : MakesFewer (λ t s. same t s) (λ bags. joined_bags bags)
joins-fewer t x bag cag [] f = omega arith
joins-fewer t x bag cag (a ∷ []) f = omega arith
joins-fewer t x bag cag (a ∷ b ∷ ds) f =
    let c = join-outputs t x (bag a) (bag b) in
    let d = join-outputs t x (cag a) (cag b) in
    let e = pairs-fewer t x (bag a) (cag a) (bag b) (cag b) (λ r. f.0 t r (same-refl t)) (λ r. f.1.0 t r (same-refl t)) in
    omega arith

pub each_pair : (bounds : Bounds) (alone at_once inner : Type 0)
    → IsLawfulWhole bounds bounds (λ t s. same t s) alone at_once inner (λ batches bags. joined_bags bags)
each_pair bounds alone at_once inner = record {
  lands = λ batches bags l a. joins-in_domain bounds bags a;
  by_parts = λ k batches bags t. joins-part t bags;
  fewer = λ k batches t x bag cag ds f. joins-fewer t x bag cag ds f;
  agrees = λ k batches t x bag cag ds f. as_many (λ t s. same t s) (λ bags. joined_bags bags) joins-fewer t x bag cag ds f;
}

-- what join sent for what was delivered
pub join-arrives : (within : _) → SendsForDelivered (Join within)
join-arrives within sys h p t n batches x =
    let flow = sys.flow in
    let l = n.declared in
    let e = two_edges (in_edges flow p) (subst (λ z. IsInDegree z (length (in_edges flow p))) n.is_kind (n.well_formed.in_degrees p l)) in
    let c = e.0 in
    let d = e.1 in
    let a = subst (AllByRecursion (λ z. (z < length flow.edges) × (receiver flow z ≡ p))) e.2 (in_edges-receive flow p) in
    join-sent sys p within n.is_kind c d t x (events_at flow p h) (on_one flow p c d l e.2 h)
    ∙ ap (λ ms. pairs t x (timed_of ms) (timed_of (delivered_messages (events_at flow p h) d))) (delivered_at flow p c a.0.1 h)
    ∙ ap (λ ms. pairs t x (timed_of (delivered_messages h c)) (timed_of ms)) (delivered_at flow p d a.1.0.1 h)
    ∙ sym (join-outputs t x (timed_of (delivered_messages h c)) (timed_of (delivered_messages h d)))
    ∙ sym (ap (λ ds. weigh (one t x) (outputs_of_kind flow (Join within) batches (map (delivered_bag h) ds))) e.2)
