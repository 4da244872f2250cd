-- Distinct sends each rec once at each stamp, in whichever order the recs come.
use Rattle.std.proofs.Common.{◌≡◌, ℕ, zero, suc, ◌+◌, ◌<◌, ◌≤◌, Bool, true, false, cond, ◌&&◌, List, [], ◌∷◌, ◌++◌, Some, refl, sym, ap, ◌∙◌, inl, inr, arith, map}
use Rattle.std.proofs.Math.Bool.{and_comm}
use Rattle.std.specs.Ordering.{is_eq}
use Rattle.std.proofs.lemmas.Bool.{or_cases, or_parts, cond_both, cond-false, cases_Bool, cond-true}
use Rattle.std.proofs.lemmas.Cmp.{tied_itself, nat_list_cmp_total}
use Rattle.fw_lemmas.proofs.Bools.{two_ways}
use Rattle.fw_lemmas.proofs.Orderings.{then_parts}
use Rattle.fw_time.specs.Stamp.{Stamp, leq, same, stamp_cmp, in_domain}
use Rattle.fw_bag.specs.declared.rec.Rec.{Rec}
use Rattle.fw_bag.specs.Rec.{rec_cmp}
use Rattle.fw_bag.specs.Bag.{how_often}
use Rattle.fw_bag.specs.Keyed.{is_among}
use Rattle.fw_flow.specs.declared.event.Event.{Event}
use Rattle.fw_flow.specs.declared.event.Event.TheVariants.{Inject, Deliver, Notify}
use Rattle.fw_flow.specs.declared.kind.Kind.TheVariants.{Distinct}
use Rattle.fw_flow.specs.Dataflow.{System, kind_of, in_edges}
use Rattle.fw_flow.specs.NodeFunction.{delivered_recs, rec_of_delivery, sends_of_kind, sends, sent_by}
use Rattle.fw_flow.specs.WholeBags.{Timed, timed_recs, timed_cmp, is_among_timed, distinct_timed, joint_bag}
use Rattle.fw_model.proofs.WeightLaws.{weigh, one, one-in, one-out, is_at, is_at-is, at_stamp}
use Rattle.fw_model.proofs.SentLaws.{timed_of, timed_message}
use Rattle.fw_model.proofs.ArrivalLaws.{deliveries, delivered_bag, deliveries_together, together-fewer, as_many, SendsForDelivered}
use Rattle.fw_model.proofs.InputLaws.{timed_of-messages_at_some, sent-weigh}
use Rattle.fw_model.proofs.StampLaws.{same-is, same-refl}
use Rattle.fw_model.proofs.CmpLaws.{stamp_cmp-equal}
use Rattle.std.specs.List.{AllByRecursion}
use Rattle.fw_time.specs.declared.stamp.Bounds.{Bounds}
use Rattle.fw_model.specs.Wholes.{part, IsLawfulWhole, MakesFewer}
use Rattle.fw_model.proofs.OutputLaws.{list_any-filter, part-part, together-part, each-together}
use Rattle.fw_model.proofs.TimedLaws.{timed-same, how_often_timed}
use Rattle.fw_flow.specs.Projection.{events_at}

-- 1 for each number but 0
unfoldable pub sign : ℕ → ℕ
sign zero = 0
sign (suc n) = 1

pub sign-less : (m n : ℕ) → m ≤ n → sign m ≤ sign n
unfolding sign
sign-less zero n l = omega arith
sign-less (suc m) zero l = absurd (omega arith)
sign-less (suc m) (suc n) l = omega arith

-- ---- recs among others

among-some : (q : Rec) (rs : List Rec) → is_among q rs ≡ true → 0 < how_often q rs
among-some q [] k = absurd (cc)
among-some q (x ∷ xs) k =
    cond_both (is_eq (rec_cmp q x)) (how_often q xs + 1) (how_often q xs) (λ n. 0 < n) (λ e. omega arith)
    (λ e. elim (or_cases (is_eq (rec_cmp q x)) (is_among q xs) k) [ inl a ↦ absurd (two_ways _ a e) | inr a ↦ among-some q xs a ])

among-none : (q : Rec) (rs : List Rec) → is_among q rs ≡ false → how_often q rs ≡ 0
among-none q [] k = refl
among-none q (x ∷ xs) k =
    let a = or_parts (is_eq (rec_cmp q x)) (is_among q xs) k in
    cond-false (is_eq (rec_cmp q x)) (how_often q xs + 1) (how_often q xs) a.0 ∙ among-none q xs a.1

-- 1 for this rec at a stamp that passes the test, and else 0
abbrev pub passing : (Stamp → Bool) → Rec → Timed → ℕ
passing test q r = cond (test r.at && is_eq (rec_cmp q r.rec)) 1 0

how_often-one : (q r : Rec) → how_often q (r ∷ []) ≡ cond (is_eq (rec_cmp q r)) 1 0
how_often-one q r = cases (is_eq (rec_cmp q r))
  where
    cases : (b : Bool) → cond b (0 + 1) 0 ≡ cond b 1 0
    cases true = refl
    cases false = refl

pub how_often-append : (q : Rec) (xs ys : List Rec) → how_often q (xs ++ ys) ≡ how_often q xs + how_often q ys
how_often-append q [] ys = omega arith
how_often-append q (x ∷ xs) ys = cases (is_eq (rec_cmp q x)) (how_often-append q xs ys)
  where
    cases : (b : Bool) → how_often q (xs ++ ys) ≡ how_often q xs + how_often q ys
        → cond b (how_often q (xs ++ ys) + 1) (how_often q (xs ++ ys)) ≡ cond b (how_often q xs + 1) (how_often q xs) + how_often q ys
    cases true h = omega arith
    cases false h = h

-- how often a rec was delivered at the stamps that pass a test
pub how_often-delivered : (test : Stamp → Bool) (q : Rec) (vs : List Event)
    → how_often q (delivered_recs (λ d s. test s) vs) ≡ weigh (passing test q) (deliveries vs)
unfolding weigh deliveries
how_often-delivered test q [] = refl
how_often-delivered test q (Inject s x ∷ vs) = how_often-delivered test q vs
how_often-delivered test q (Notify p t ∷ vs) = how_often-delivered test q vs
how_often-delivered test q (Deliver e m ∷ vs) =
    let h = how_often-delivered test q vs in
    let a = how_often-append q (rec_of_delivery (λ d s. test s) (Deliver e m)) (delivered_recs (λ d s. test s) vs) in
    let b : how_often q (rec_of_delivery (λ d s. test s) (Deliver e m)) ≡ passing test q (timed_message m) = cases (test m.at) in
    omega arith
  where
    cases : (b : Bool) → how_often q (cond b (m.rec ∷ []) []) ≡ cond (b && is_eq (rec_cmp q m.rec)) 1 0
    cases true = how_often-one q m.rec
    cases false = refl

pub same-swap : (s t : Stamp) → same s t ≡ same t s
same-swap s t = and_comm (leq s t) (leq t s)

passing-one : (t : Stamp) (q : Rec) (r : Timed) → passing (λ s. same s t) q r ≡ one t q r
unfolding one
passing-one t q r = ap (λ b. cond (b && is_eq (rec_cmp q r.rec)) 1 0) (same-swap r.at t)

pub how_often-delivered_at : (t : Stamp) (q : Rec) (vs : List Event)
    → how_often q (delivered_recs (λ d s. same s t) vs) ≡ weigh (one t q) (deliveries vs)
unfolding weigh
how_often-delivered_at t q vs = how_often-delivered (λ s. same s t) q vs ∙ pass (deliveries vs)
  where
    pass : (rs : List Timed) → weigh (passing (λ s. same s t) q) rs ≡ weigh (one t q) rs
    pass [] = refl
    pass (r ∷ rs) = let a = passing-one t q r in let h = pass rs in omega arith

-- ---- what distinct sent

-- one more rec at a stamp
sign-more : (n k : ℕ) (b : Bool) → (b ≡ true → 0 < n) → (b ≡ false → n ≡ 0) → k ≡ 1 → cond b 0 k + sign n ≡ sign (k + n)
unfolding sign
sign-more zero k true f g e = let a = f refl in absurd (omega arith)
sign-more zero k false f g e = let i : k + 0 ≡ 1 = omega arith in let s : sign (k + 0) ≡ sign 1 = ap sign i in omega arith
sign-more (suc n) k true f g e = let i : k + suc n ≡ suc (suc n) = omega arith in let s : sign (k + suc n) ≡ sign (suc (suc n)) = ap sign i in omega arith
sign-more (suc n) k false f g e = let a = g refl in absurd (omega arith)

weigh-if_none : (w : Timed → ℕ) (b : Bool) (at : Stamp) (r : Rec) → weigh w (timed_recs at (cond b [] (r ∷ []))) ≡ cond b 0 (w (at_stamp at r))
unfolding weigh
weigh-if_none w true at r = refl
weigh-if_none w false at r = omega arith

cond-zero : (b : Bool) (k : ℕ) → k ≡ 0 → cond b 0 k ≡ 0
cond-zero true k e = refl
cond-zero false k e = e

distinct-more : (t : Stamp) (q : Rec) (r : Timed) (n : ℕ) (b : Bool) → (is_at t q r ≡ true → b ≡ true → 0 < n) → (is_at t q r ≡ true → b ≡ false → n ≡ 0)
    → cond b 0 (one t q r) + sign n ≡ sign (one t q r + n)
distinct-more t q r n b f g = elim (cases_Bool (is_at t q r)) [
  | inl e ↦ sign-more n (one t q r) b (f e) (g e) (one-in t q r e)
  | inr e ↦
      let z = one-out t q r e in
      let a = cond-zero b (one t q r) z in
      let i : one t q r + n ≡ n = omega arith in
      let s : sign (one t q r + n) ≡ sign n = ap sign i in
      omega arith
]

pub distinct-sent : (sys : System) (p : ℕ) (within : _) → kind_of sys.flow p ≡ Distinct within → (t : Stamp) (q : Rec) (vs : List Event)
    → weigh (one t q) (timed_of (sent_by sys p vs)) ≡ sign (weigh (one t q) (deliveries vs))
unfolding weigh deliveries sends sign
distinct-sent sys p n is t q [] = refl
distinct-sent sys p n is t q (Inject s x ∷ vs) =
    let a = sent-weigh sys p (one t q) (Inject s x) vs in
    let b = ap (λ k. weigh (one t q) (timed_of (sends_of_kind sys k vs (Inject s x)))) is in
    let h = distinct-sent sys p n is t q vs in
    omega arith
distinct-sent sys p n is t q (Notify r s ∷ vs) =
    let a = sent-weigh sys p (one t q) (Notify r s) vs in
    let b = ap (λ k. weigh (one t q) (timed_of (sends_of_kind sys k vs (Notify r s)))) is in
    let h = distinct-sent sys p n is t q vs in
    omega arith
distinct-sent sys p n is t q (Deliver e m ∷ vs) =
    let a = sent-weigh sys p (one t q) (Deliver e m) vs in
    let earlier = delivered_recs (λ d s. same s m.at) vs in
    let there = is_among m.rec earlier in
    let b = ap (λ k. weigh (one t q) (timed_of (sends_of_kind sys k vs (Deliver e m)))) is
    ∙ ap (weigh (one t q)) (timed_of-messages_at_some (Some m.at) m.at (cond there [] (m.rec ∷ [])))
    ∙ weigh-if_none (one t q) there m.at m.rec in
    let h = distinct-sent sys p n is t q vs in
    let count : is_at t q (timed_message m) ≡ true → how_often m.rec earlier ≡ weigh (one t q) (deliveries vs) =
    λ i. let z = is_at-is t q (timed_message m) i in how_often-delivered_at m.at m.rec vs ∙ sym (ap (λ r. weigh (one r.at r.rec) (deliveries vs)) z) in
    let c = distinct-more t q (timed_message m) (weigh (one t q) (deliveries vs)) there
    (λ i j. let x = count i in let y = among-some m.rec earlier j in omega arith)
    (λ i j. let x = count i in let y = among-none m.rec earlier j in omega arith) in
    omega arith

-- ---- what distinct sends in all

pub stamp_cmp-test : (s t : Stamp) → is_eq (stamp_cmp s t) ≡ same s t
stamp_cmp-test s t = elim (cases_Bool (same s t)) [
  | inl e ↦ let i = same-is s t e in sym (ap (λ u. is_eq (stamp_cmp s u)) i) ∙ ap is_eq (tied_itself nat_list_cmp_total s) ∙ sym e
  | inr e ↦ elim (cases_Bool (is_eq (stamp_cmp s t))) [
    | inl a ↦ absurd (two_ways (same s t) (sym (ap (same s) (stamp_cmp-equal s t a)) ∙ same-refl s) e)
    | inr a ↦ a ∙ sym e
  ]
]

-- whether timed recs are one
pub timed_cmp-test : (r x : Timed) → is_eq (timed_cmp r x) ≡ is_at r.at r.rec x
timed_cmp-test r x = then_parts (stamp_cmp r.at x.at) (rec_cmp r.rec x.rec) ∙ ap (λ b. b && is_eq (rec_cmp r.rec x.rec)) (stamp_cmp-test r.at x.at)

-- how often a timed rec is in a list is what the list weighs by its rec at its stamp
pub how_often_timed-one : (q : Timed) (xs : List Timed) → how_often_timed q xs ≡ weigh (one q.at q.rec) xs
unfolding weigh one
how_often_timed-one q [] = refl
how_often_timed-one q (x ∷ xs) =
    ap (λ b. cond b (how_often_timed q xs + 1) (how_often_timed q xs)) (timed_cmp-test q x)
    ∙ cases (is_at q.at q.rec x) (how_often_timed-one q xs)
  where
    cases : (b : Bool) → how_often_timed q xs ≡ weigh (one q.at q.rec) xs
        → cond b (how_often_timed q xs + 1) (how_often_timed q xs) ≡ cond b 1 0 + weigh (one q.at q.rec) xs
    cases true h = omega arith
    cases false h = omega arith

pub among_timed-some : (r : Timed) (xs : List Timed) → is_among_timed r xs ≡ true → 0 < weigh (one r.at r.rec) xs
unfolding weigh
among_timed-some r [] k = absurd (cc)
among_timed-some r (x ∷ xs) k = elim (or_cases (is_eq (timed_cmp r x)) (is_among_timed r xs) k) [
  | inl a ↦ let i = one-in r.at r.rec x (sym (timed_cmp-test r x) ∙ a) in omega arith
  | inr a ↦ let h = among_timed-some r xs a in omega arith
]

pub among_timed-none : (r : Timed) (xs : List Timed) → is_among_timed r xs ≡ false → weigh (one r.at r.rec) xs ≡ 0
unfolding weigh
among_timed-none r [] k = refl
among_timed-none r (x ∷ xs) k =
    let a = or_parts (is_eq (timed_cmp r x)) (is_among_timed r xs) k in
    let i = one-out r.at r.rec x (sym (timed_cmp-test r x) ∙ a.0) in
    let h = among_timed-none r xs a.1 in
    omega arith

pub distinct-outputs : (t : Stamp) (q : Rec) (xs : List Timed) → weigh (one t q) (distinct_timed xs) ≡ sign (weigh (one t q) xs)
unfolding weigh sign
distinct-outputs t q [] = refl
distinct-outputs t q (x ∷ xs) =
    let h = distinct-outputs t q xs in
    let there = is_among_timed x xs in
    let n = weigh (one t q) xs in
    let count : is_at t q x ≡ true → weigh (one x.at x.rec) xs ≡ n = λ i. sym (ap (λ r. weigh (one r.at r.rec) xs) (is_at-is t q x i)) in
    let c = distinct-more t q x n there
    (λ i j. let a = count i in let b = among_timed-some x xs j in omega arith)
    (λ i j. let a = count i in let b = among_timed-none x xs j in omega arith) in
    let d : weigh (one t q) (cond there (distinct_timed xs) (x ∷ distinct_timed xs)) ≡ cond there 0 (one t q x) + weigh (one t q) (distinct_timed xs) = cases there in
    omega arith
  where
    cases : (b : Bool) → weigh (one t q) (cond b (distinct_timed xs) (x ∷ distinct_timed xs)) ≡ cond b 0 (one t q x) + weigh (one t q) (distinct_timed xs)
    cases true = omega arith
    cases false = refl

-- ---- what is asked of what distinct sends in all

each-distinct : (P : Timed → Type 0) (rs : List Timed) → AllByRecursion P rs → AllByRecursion P (distinct_timed rs)
each-distinct P [] a = tt
each-distinct P (r ∷ rs) a =
    cond_both (is_among_timed r rs) (distinct_timed rs) (r ∷ distinct_timed rs) (AllByRecursion P)
    (λ e. each-distinct P rs a.1) (λ e. (a.0, each-distinct P rs a.1))

distinct-part : (t : Stamp) (rs : List Timed) → part (same t) (distinct_timed rs) ≡ distinct_timed (part (same t) rs)
distinct-part t [] = refl
distinct-part t (r ∷ rs) =
    cond_both (is_among_timed r rs) (distinct_timed rs) (r ∷ distinct_timed rs) (λ ys. part (same t) ys ≡ distinct_timed (part (same t) (r ∷ rs)))
    (λ a. step (distinct-part t rs) a)
    (λ a. other (distinct-part t rs) a)
  where
    whole : same t r.at ≡ true → is_among_timed r (part (same t) rs) ≡ is_among_timed r rs
    whole e = list_any-filter (λ (x : Timed). is_eq (timed_cmp r x)) (λ (x : Timed). same t x.at)
        (λ x k. sym (ap (λ (y : Timed). same t y.at) (timed-same r x k)) ∙ e) rs

    step : part (same t) (distinct_timed rs) ≡ distinct_timed (part (same t) rs) → is_among_timed r rs ≡ true
        → part (same t) (distinct_timed rs) ≡ distinct_timed (part (same t) (r ∷ rs))
    step ih a =
        cond_both (same t r.at) (r ∷ part (same t) rs) (part (same t) rs) (λ ys. part (same t) (distinct_timed rs) ≡ distinct_timed ys)
        (λ e. ih ∙ sym (cond-true (is_among_timed r (part (same t) rs)) (distinct_timed (part (same t) rs)) (r ∷ distinct_timed (part (same t) rs)) (whole e ∙ a)))
        (λ e. ih)

    other : part (same t) (distinct_timed rs) ≡ distinct_timed (part (same t) rs) → is_among_timed r rs ≡ false
        → part (same t) (r ∷ distinct_timed rs) ≡ distinct_timed (part (same t) (r ∷ rs))
    other ih a = elim (cases_Bool (same t r.at)) [
      | inl e ↦
          cond-true (same t r.at) (r ∷ part (same t) (distinct_timed rs)) (part (same t) (distinct_timed rs)) e
          ∙ ap (λ ys. r ∷ ys) ih
          ∙ sym (cond-false (is_among_timed r (part (same t) rs)) (distinct_timed (part (same t) rs)) (r ∷ distinct_timed (part (same t) rs)) (whole e ∙ a))
          ∙ sym (ap distinct_timed (cond-true (same t r.at) (r ∷ part (same t) rs) (part (same t) rs) e))
      | inr e ↦
          cond-false (same t r.at) (r ∷ part (same t) (distinct_timed rs)) (part (same t) (distinct_timed rs)) e
          ∙ ih
          ∙ sym (ap distinct_timed (cond-false (same t r.at) (r ∷ part (same t) rs) (part (same t) rs) e))
    ]

distinct-fewer : MakesFewer (λ t s. same t s) (λ bags. distinct_timed (joint_bag bags))
distinct-fewer t x bag cag ds f =
    let xs = joint_bag (map bag ds) in
    let ys = joint_bag (map cag ds) in
    let a = distinct-outputs t x xs in
    let b = distinct-outputs t x ys in
    let c = sign-less (weigh (one t x) xs) (weigh (one t x) ys) (together-fewer (same t) bag cag ds f t x (same-refl t)) in
    omega arith

pub each_once : (bounds : Bounds) (alone at_once inner : Type 0)
    → IsLawfulWhole bounds bounds (λ t s. same t s) alone at_once inner (λ batches bags. distinct_timed (joint_bag bags))
each_once bounds alone at_once inner = record {
  lands = λ batches bags l a. each-distinct (λ (r : Timed). in_domain bounds r.at ≡ true) (joint_bag bags) (each-together (λ (r : Timed). in_domain bounds r.at ≡ true) bags a);
  by_parts = λ k batches bags t.
      let rs = joint_bag bags in
      distinct-part t rs
      ∙ ap distinct_timed (sym (part-part (same t) (same t) (λ s e. e) rs))
      ∙ sym (distinct-part t (part (same t) rs))
      ∙ ap (λ qs. part (same t) (distinct_timed qs)) (sym (together-part (same t) bags));
  fewer = λ k batches t x bag cag ds f. distinct-fewer t x bag cag ds f;
  agrees = λ k batches t x bag cag ds f. as_many (λ t s. same t s) (λ bags. distinct_timed (joint_bag bags)) distinct-fewer t x bag cag ds f;
}

-- what distinct sent for what was delivered
pub distinct-arrives : (within : _) → SendsForDelivered (Distinct within)
distinct-arrives within sys h p t n batches x =
    distinct-sent sys p within n.is_kind t x (events_at sys.flow p h)
    ∙ ap sign (deliveries_together sys.flow p n.declared (one t x) h)
    ∙ sym (distinct-outputs t x (joint_bag (map (delivered_bag h) (in_edges sys.flow p))))
