-- What is written of the nodes, one after the other, is what they offer.
use Rattle.std.proofs.Common.{◌≡◌, ℕ, zero, suc, ◌+◌, ◌<◌, ◌==◌, true, List, [], ◌∷◌, ◌++◌, length, map, get_or, inl, inr, sym, subst, arith}
use Rattle.std.specs.List.{AllByRecursion}
use Rattle.std.proofs.lemmas.Bool.{cases_lt}
use Rattle.std.proofs.lemmas.List.{get_or_past, length-map}
use Rattle.fw_lemmas.proofs.Each.{each-weaker, each-kept}
use Rattle.fw_time.specs.Stamp.{in_domain}
use Rattle.fw_flow.specs.declared.choice.Counted.{Counted}
use Rattle.fw_flow.specs.declared.choice.Offer.{Offer}
use Rattle.fw_flow.specs.declared.choice.Offered.{Offered}
use Rattle.fw_flow.specs.declared.choice.Offered.TheVariants as form
use Rattle.fw_flow.specs.Dataflow.{Dataflow, sender, receiver, bounds_of}
use Rattle.fw_model.specs.Offers.{offered_by, listed_records, offered_range, offered_sent, counted_on_edge, HasOneCause, AreOfBatches, IsFormOf, IsRecordOf, IsRangeOf, AreAtEdgeStamps, AreOffersOf}
use Rattle.fw_flow.specs.Restoring.{way_of}
use Rattle.flow_rows.specs.Written.{IsMessageOf, IsOfferOf, AreOffersFrom}

each-last : {A : Type 0} (P : A → Type 0) (xs : List A) (x : A) → AllByRecursion P xs → P x → AllByRecursion P (xs ++ x ∷ [])
each-last P [] x a i = (i, tt)
each-last P (q ∷ xs) x a i = (a.0, each-last P xs x a.1 i)

-- what holds of each holds with one more
pub each_more : {A : Type 0} (P : A → Type 0) (xs ys : List A) (x : A) → ys ≡ xs ++ x ∷ [] → AllByRecursion P xs → P x → AllByRecursion P ys
each_more {A} P xs ys x e a i = subst (λ (zs : List A). AllByRecursion P zs) (sym e) (each-last P xs x a i)

from-last : (flow : Dataflow) (n m : ℕ) (os : List Offer) (o : Offer) → AreOffersFrom flow n os → n + length os ≡ m → IsOfferOf flow m o
    → AreOffersFrom flow n (os ++ o ∷ [])
from-last flow n m [] o a e i = let same : m ≡ n = omega arith in (subst (λ k. IsOfferOf flow k o) same i, tt)
from-last flow n m (q ∷ os) o a e i = (a.0, from-last flow (n + 1) m os o a.1 (omega arith) i)

-- the offers of the first nodes, with that of the next one
pub offers_more : (flow : Dataflow) (m k : ℕ) (os ys : List Offer) (o : Offer) → ys ≡ os ++ o ∷ [] → length os ≡ m → k ≡ m → AreOffersFrom flow 0 os
    → IsOfferOf flow k o → AreOffersFrom flow 0 ys
offers_more flow m k os ys o e n s a i =
    subst (λ (zs : List Offer). AreOffersFrom flow 0 zs) (sym e)
    (from-last flow 0 m os o a (omega arith) (subst (λ q. IsOfferOf flow q o) s i))

at-place : {A : Type 0} (flow : Dataflow) (f : Offer → A) (d : A) (Q : ℕ → A → Type 0) → ((p : ℕ) (o : Offer) → IsOfferOf flow p o → Q p (f o))
    → (n p q : ℕ) (os : List Offer) → AreOffersFrom flow n os → p < length os → n + p ≡ q → Q q (get_or (map f os) p d)
at-place flow f d Q g n p q [] a l e = absurd (omega arith)
at-place flow f d Q g n zero q (o ∷ os) a l e = let same : n ≡ q = omega arith in subst (λ k. Q k (f o)) same (g n o a.0)
at-place flow f d Q g n (suc p) q (o ∷ os) a l e = at-place flow f d Q g (n + 1) p q os a.1 (omega arith) (omega arith)

-- what is looked up of the offer of a node
looked-up : {A : Type 0} (flow : Dataflow) (f : Offer → A) (d : A) (Q : ℕ → A → Type 0) → ((p : ℕ) (o : Offer) → IsOfferOf flow p o → Q p (f o))
    → (os : List Offer) (p : ℕ) → AreOffersFrom flow 0 os → length os ≡ length flow.nodes → p < length flow.nodes → Q p (get_or (map f os) p d)
looked-up flow f d Q g os p a n l = at-place flow f d Q g 0 p p os a (omega arith) (omega arith)

-- so many offers as there are nodes are what these offer
pub offers_are : (flow : Dataflow) (os : List Offer) → length os ≡ length flow.nodes → AreOffersFrom flow 0 os → AreOffersOf flow os
offers_are flow os n a = record {
  one_each = n;
  records = λ p l.
      looked-up flow (λ o. o.offered) (form.Listed []) (λ q x. AllByRecursion (IsRecordOf flow q) (listed_records x)) (λ q o i. i.offered.records) os p a n l;
  range = λ p l.
      looked-up flow (λ o. o.offered) (form.Listed []) (λ q x. IsRangeOf (bounds_of flow q) (offered_range x)) (λ q o i. i.offered.ends) os p a n l;
  form_fits = λ p l. looked-up flow (λ o. o.offered) (form.Listed []) (λ q x. IsFormOf (way_of flow q) x) (λ q o i. i.offered.way) os p a n l;
  delivered = λ p l. looked-up flow (λ o. o.stamps.delivered) [] (λ q ms. AreAtEdgeStamps flow ms) (λ q o i. on-edges o.stamps.delivered i.delivered) os p a n l;
  notified = λ p l.
      looked-up flow (λ o. o.stamps.notified) [] (λ q ts. AllByRecursion (λ t. in_domain (bounds_of flow q) t ≡ true) ts) (λ q o i. i.notified) os p a n l;
  sent = λ p l. looked-up flow (λ o. o.stamps.sent) [] (λ q ms. AreAtEdgeStamps flow ms) (λ q o i. on-edges o.stamps.sent i.sent) os p a n l;
  batches = λ e l.
      of-batches (offered_by os (sender flow e)) (counted_on_edge e (offered_sent os (sender flow e)))
      (each-kept HasOneCause (λ (m : Counted). m.edge == e) (offered_sent os (sender flow e)) (one-cause (sender flow e)));
}
  where
    on-edges : (ms : List Counted) → AllByRecursion (IsMessageOf flow) ms → AreAtEdgeStamps flow ms
    on-edges ms a = each-weaker (IsMessageOf flow) (λ (m : Counted). in_domain (bounds_of flow (receiver flow m.edge)) m.at ≡ true) ms (λ m i. i.0) a

    one-cause : (p : ℕ) → AllByRecursion HasOneCause (offered_sent os p)
    one-cause p = elim (cases_lt p (length flow.nodes)) [
      | inl l ↦
          looked-up flow (λ o. o.stamps.sent) [] (λ q ms. AllByRecursion HasOneCause ms)
          (λ q o i. each-weaker (IsMessageOf flow) HasOneCause o.stamps.sent (λ m j. j.1) i.sent) os p a n l
      | inr l ↦
          let past : get_or (map (λ (o : Offer). o.stamps.sent) os) p [] ≡ [] = get_or_past (map (λ (o : Offer). o.stamps.sent) os) p [] (rw length-map (omega (arith, n))) in
          subst (AllByRecursion HasOneCause) (sym past) tt
    ]

    of-batches : (x : Offered) (ms : List Counted) → AllByRecursion HasOneCause ms → AreOfBatches x ms
    of-batches (form.Listed records) ms a = tt
    of-batches (form.Between least greatest) ms a = tt
    of-batches (form.Batches least greatest exhausted) ms a = a
