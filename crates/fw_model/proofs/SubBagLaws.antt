-- In a legal history what was sent is a part of the denotation.
use Rattle.std.proofs.Common.{◌+◌, ◌≡◌, ℕ, ◌≤◌, true, false, cond, not, ◌&&◌, List, [], ◌∷◌, map, refl, sym, ap, subst, ◌∙◌, inl, inr, arith}
use Rattle.std.specs.List.{AllByRecursion}
use Rattle.std.proofs.lemmas.Bool.{cases_Bool, cases_lt}
use Rattle.fw_time.specs.Stamp.{Stamp, leq}
use Rattle.fw_time.proofs.StampLaws.{leq-refl}
use Rattle.fw_bag.specs.declared.rec.Rec.{Rec}
use Rattle.fw_bag.specs.Bag.{how_often}
use Rattle.fw_flow.specs.declared.event.Event.{Event}
use Rattle.fw_flow.specs.declared.kind.Kind.TheVariants.{Ledger}
use Rattle.fw_flow.specs.Dataflow.{System, kind_of, sender, in_edges, batches_of, is_notified_kind}
use Rattle.fw_flow.specs.NodeFunction.{recs_on_notification}
use Rattle.fw_flow.specs.Projection.{events_at}
use Rattle.fw_flow.specs.WellFormed.{IsWellFormedSystem}
use Rattle.fw_flow.specs.WholeBags.{outputs_of_kind, joint_bag}
use Rattle.fw_model.specs.Denotation.{Family, IsDenotation}
use Rattle.fw_model.specs.History.{was_delivered_to, was_notified, is_owed_notice, sent_messages, delivered_messages, IsLegal}
use Rattle.fw_model.specs.LawsOfDeliveries.{SentIsSubBagOfDenotation, DeliveredIsSubBagOfDenotation}
use Rattle.fw_model.proofs.KindSorts.{is_inner, sort_of, sends_at_once, sends_sums, inner_sort, once-not_notified, sums-stamp, sums-notified}
use Rattle.fw_model.proofs.WeightLaws.{weigh, how_often-where, one}
use Rattle.fw_model.proofs.SentLaws.{timed_of, next_delivered-lighter}
use Rattle.fw_model.proofs.ArrivalLaws.{together-weigh, delivered_bag}
use Rattle.fw_model.proofs.TimedCounts.{how_often-recs_at, sender_bag, sender_sent, sent-fewer}
use Rattle.fw_model.proofs.InputLaws.{input-lighter}
use Rattle.fw_model.proofs.NotifiedLaws.{sums-sent, notified-settled}
use Rattle.fw_model.proofs.LedgerLaws.{AreNumbered, totals-none, deliveries-one, ledger_edge, ledger-numbered}
use Rattle.fw_model.proofs.DomainLaws.{inner_edge, output-sent, each_in_edge, has_epochs}
use Rattle.fw_model.proofs.DenotedLaws.{sequence-fewer}
use Rattle.fw_model.proofs.PrefixLaws.{closed-denoted, all_denoted, sequenced}
use Rattle.fw_model.proofs.OncePerNumberLaws.{any_at, one-any, some_at_stamp, denoted-once, agree-below}
use Rattle.fw_model.specs.Wholes.{IsFewerWhere, AgreeWhere, takes_part_of}
use Rattle.fw_model.proofs.WholeLaws.{makes_lawfully, arrives, takes-sent}

-- each rec was delivered at most as often as it is in the family
abbrev IsDeliveredWithin : Family → List Event → Type 0
IsDeliveredWithin family h = (d : ℕ) (t : Stamp) (q : Rec) → weigh (one t q) (timed_of (delivered_messages h d)) ≤ weigh (one t q) (family d)

-- what is known of a legal history
record Known (sys : System) (h : List Event) (family : Family) : Type 0 where
  pub well_formed : IsWellFormedSystem sys
  pub legal : IsLegal sys h
  pub denotation : IsDenotation sys family
  pub within : IsDeliveredWithin family h

-- the sender of the edge sent the rec at the stamp at most as often as it sends it in all
abbrev IsSentWithin : System → List Event → Family → ℕ → Stamp → Rec → Type 0
IsSentWithin sys h family e t q = weigh (one t q) (timed_of (sender_sent sys h e)) ≤ weigh (one t q) (sender_bag sys family e)

-- a node that waits for no notification is owed none
not_owed : (sys : System) (h : List Event) (p : ℕ) (t : Stamp) → is_notified_kind (kind_of sys.flow p) ≡ false → is_owed_notice sys h p t ≡ false
not_owed sys h p t n = ap (λ b. b && was_delivered_to sys.flow p t h && not (was_notified p t h)) n

-- what was sent is what the node sends in all for what was delivered
sent_for : (sys : System) (h : List Event) (family : Family) → Known sys h family → (e : ℕ) → is_inner (kind_of sys.flow (sender sys.flow e)) ≡ true
    → (t : Stamp) (q : Rec) → is_owed_notice sys h (sender sys.flow e) t ≡ false
    → weigh (one t q) (timed_of (sender_sent sys h e))
    ≡ weigh (one t q) (outputs_of_kind sys.flow (kind_of sys.flow (sender sys.flow e)) (batches_of sys (sender sys.flow e)) (map (delivered_bag h) (in_edges sys.flow (sender sys.flow e))))
sent_for sys h family k e is t q o =
    let flow = sys.flow in
    let w = k.well_formed in
    let p = sender flow e in
    arrives (kind_of flow p) is sys h p t
    (record {
      well_formed = w.flow;
      epochs = has_epochs sys w;
      legal = k.legal;
      declared = w.flow.senders_declared e (inner_edge flow e is);
      is_kind = refl;
      paid = o;
    }) (batches_of sys p) q

once-within : (sys : System) (h : List Event) (family : Family) → Known sys h family → (e : ℕ) → is_inner (kind_of sys.flow (sender sys.flow e)) ≡ true
    → sends_at_once (kind_of sys.flow (sender sys.flow e)) ≡ true → (t : Stamp) (q : Rec) → IsSentWithin sys h family e t q
once-within sys h family k e is once t q =
    let flow = sys.flow in
    let p = sender flow e in
    let kind = kind_of flow p in
    let a = sent_for sys h family k e is t q (not_owed sys h p t (once-not_notified kind once)) in
    let b = (makes_lawfully flow kind).fewer once (batches_of sys p) t q (delivered_bag h) family (in_edges flow p)
    (each_in_edge flow p (λ d. IsFewerWhere (takes_part_of flow kind t) (delivered_bag h d) (family d)) (λ d at u r i. k.within d u r)) in
    omega arith

sums-within : (sys : System) (h : List Event) (family : Family) → Known sys h family → (e : ℕ) → is_inner (kind_of sys.flow (sender sys.flow e)) ≡ true
    → sends_sums (kind_of sys.flow (sender sys.flow e)) ≡ true → (t : Stamp) (q : Rec) → IsSentWithin sys h family e t q
sums-within sys h family k e is sums t q =
    let flow = sys.flow in
    let w = k.well_formed in
    let epochs = has_epochs sys w in
    let p = sender flow e in
    let kind = kind_of flow p in
    let n = sums-notified kind sums in
    elim (cases_Bool (was_notified p t h)) [
      | inl i ↦
          let settled = notified-settled sys h w.flow epochs k.legal p t i in
          let a = sent_for sys h family k e is t q (settled.paid t (leq-refl t)) in
          let b = (makes_lawfully flow kind).agrees is (batches_of sys p) t q (delivered_bag h) family (in_edges flow p)
          (each_in_edge flow p (λ d. AgreeWhere (takes_part_of flow kind t) (delivered_bag h d) (family d)) (λ d at u r j.
          let v = takes-sent flow kind is t u j in
          closed-denoted sys h family k.legal (all_denoted sys h family w k.legal k.denotation) p t settled.closed u
          (ap (λ z. leq z t) (sums-stamp sys kind sums u v.0 v.1) ∙ v.2) d at r)) in
          omega arith
      | inr i ↦
          let a = sums-sent sys h w.flow epochs k.legal p sums n t q
          ∙ ap (λ b. cond b (how_often q (recs_on_notification kind (events_at flow p h) t)) 0) i in
          omega arith
    ]

ledger-within : (sys : System) (h : List Event) (family : Family) → Known sys h family → (e : ℕ) → kind_of sys.flow (sender sys.flow e) ≡ Ledger
    → (t : Stamp) (q : Rec) → IsSentWithin sys h family e t q
unfolding weigh
ledger-within sys h family k e ledger t q =
    let flow = sys.flow in
    let w = k.well_formed in
    let p = sender flow e in
    let kind = kind_of flow p in
    let is = ap is_inner ledger in
    let node = w.flow.senders_declared e (inner_edge flow e is) in
    let edge = ledger_edge flow w.flow p node ledger in
    let d = edge.edge in
    let came = delivered_bag h d in
    let numbered = subst AreNumbered (deliveries-one flow p d node edge.only h) (ledger-numbered sys h k.legal p node edge) in
    let a = sent_for sys h family k e is t q (not_owed sys h p t (ap is_notified_kind ledger)) in
    elim (cases_lt 0 (weigh (any_at t) came)) [
      | inl some ↦
          let r = some_at_stamp t came some in
          let b = (makes_lawfully flow kind).agrees is (batches_of sys p) t q (delivered_bag h) family (in_edges flow p)
          (subst (AllByRecursion (λ z. AgreeWhere (takes_part_of flow kind t) (delivered_bag h z) (family z))) (sym edge.only) (
            (λ u x j.
                agree-below came (family d) numbered (k.within d)
                (λ y. denoted-once sys family w.flow k.denotation d edge.numbered y) t r.0 r.1 u x (sym (ap (λ z. takes_part_of flow z t u) ledger) ∙ j)),
            tt,
          )) in
          omega arith
      | inr none ↦
          let bags = map (delivered_bag h) (in_edges flow p) in
          let b = ap (λ z. weigh (one t q) (outputs_of_kind flow z (batches_of sys p) bags)) ledger in
          let f = totals-none t q (joint_bag bags) (λ x.
          let m = one-any t x came in
          let y = together-weigh (one t x) (delivered_bag h) (in_edges flow p) in
          let z : weigh (λ n. weigh (one t x) (delivered_bag h n)) (in_edges flow p) ≡ weigh (one t x) came + 0 = ap (weigh (λ n. weigh (one t x) (delivered_bag h n))) edge.only in
          omega arith) in
          omega arith
    ]

sent_within : (sys : System) (h : List Event) (family : Family) → Known sys h family → (e : ℕ) (t : Stamp) (q : Rec) → IsSentWithin sys h family e t q
sent_within sys h family k e t q =
    let flow = sys.flow in
    let w = k.well_formed in
    let p = sender flow e in
    let kind = kind_of flow p in
    elim (sort_of kind) [
      | inl is ↦
          let a = input-lighter sys p is (one t q) h k.legal in
          let c = ap (λ z. weigh (one t q) (outputs_of_kind flow z (batches_of sys p) (map family (in_edges flow p)))) is in
          omega arith
      | inr (inl is) ↦ let a = output-sent sys p is (one t q) (events_at flow p h) in omega arith
      | inr (inr (inl is)) ↦ sequence-fewer sys h family w k.legal k.denotation e is (sequenced sys h family w k.legal k.denotation p is) (one t q)
      | inr (inr (inr is)) ↦ elim (inner_sort kind is) [
        | inl once ↦ once-within sys h family k e is once t q
        | inr (inl sums) ↦ sums-within sys h family k e is sums t q
        | inr (inr ledger) ↦ ledger-within sys h family k e ledger t q
      ]
    ]

-- in a legal history each rec was delivered at most as often as it is in the family
pub delivered_within : (sys : System) (h : List Event) (family : Family) → IsWellFormedSystem sys → IsLegal sys h → IsDenotation sys family
    → IsDeliveredWithin family h
unfolding weigh
delivered_within sys [] family w l den d t q = omega arith
delivered_within sys (v ∷ h) family w l den d t q =
    let a = next_delivered-lighter sys h v l.1 l.0 d (one t q) in
    let k : Known sys h family = record { well_formed = w; legal = l.1; denotation = den; within = delivered_within sys h family w l.1 den } in
    let b = sent-fewer sys h family den d t q (sent_within sys h family k d t q) in
    omega arith

pub sent-is_sub : SentIsSubBagOfDenotation
sent-is_sub sys h family w l den e t r =
    let a = how_often-recs_at t r (sent_messages sys h e) in
    let b = how_often-where t r (family e) in
    let k : Known sys h family = record { well_formed = w; legal = l; denotation = den; within = delivered_within sys h family w l den } in
    let c = sent-fewer sys h family den e t r (sent_within sys h family k e t r) in
    omega arith

pub delivered-is_sub : DeliveredIsSubBagOfDenotation
delivered-is_sub sys h family w l den e t r =
    let a = how_often-recs_at t r (delivered_messages h e) in
    let b = how_often-where t r (family e) in
    let c = delivered_within sys h family w l den e t r in
    omega arith
