-- The kinds that send for each rec alone: what they send for what was delivered, in any order, is what they send in all.
use Rattle.std.proofs.Common.{◌≡◌, ℕ, ◌+◌, ◌<◌, true, ◌&&◌, List, [], ◌∷◌, Option, Some, None, refl, sym, ap, ◌∙◌, inl, inr, arith, map}
use Rattle.std.proofs.lemmas.Bool.{cases_Bool}
use Rattle.fw_time.specs.Stamp.{Stamp, same, in_domain}
use Rattle.std.specs.Ordering.{is_eq}
use Rattle.fw_bag.specs.declared.rec.Rec.{Rec}
use Rattle.fw_bag.specs.Rec.{rec_cmp}
use Rattle.fw_flow.specs.declared.event.Event.{Event}
use Rattle.fw_flow.specs.declared.event.Event.TheVariants.{Inject, Deliver, Notify}
use Rattle.fw_flow.specs.Kind.{Kind}
use Rattle.fw_flow.specs.Dataflow.{System, Dataflow, kind_of, send_stamp_of_kind, in_edges}
use Rattle.fw_flow.specs.NodeFunction.{sends_of_kind, sends, sent_by}
use Rattle.fw_flow.specs.WholeBags.{Timed, timed_recs, timed_at_some, recs_for_one, outputs_of_kind, joint_bag}
use Rattle.fw_model.proofs.KindSorts.{sends_one_by_one, one_by_one_kind}
use Rattle.fw_model.proofs.WeightLaws.{weigh, weigh-flat_map, weigh-less, one, one-out}
use Rattle.fw_model.proofs.SentLaws.{timed_of}
use Rattle.fw_model.proofs.ArrivalLaws.{deliveries, delivered_bag, deliveries_together, together-fewer, as_many, SendsForDelivered}
use Rattle.fw_model.proofs.InputLaws.{timed_of-messages_at_some, sent-weigh}
use Rattle.fw_model.proofs.StampLaws.{same-is, same-refl}
use Rattle.std.specs.List.{flat_map}
use Rattle.fw_time.specs.declared.stamp.Bounds.{Bounds}
use Rattle.fw_model.specs.Wholes.{part, is_sent_at, IsLawfulWhole, MakesFewer}
use Rattle.fw_model.proofs.OutputLaws.{part-flat_map, part-timed_at_some, together-part, each-timed_at_some, each-flat_map, each-together}
use Rattle.fw_flow.specs.Projection.{events_at}

-- the weight of what is sent for a timed rec
abbrev one_weight : Dataflow → Kind → (Timed → ℕ) → Timed → ℕ
one_weight flow kind w r = weigh w (timed_at_some (send_stamp_of_kind flow kind r.at) (recs_for_one kind r.rec))

one-nothing : (w : Timed → ℕ) (at : Option Stamp) (cause : Stamp) → weigh w (timed_at_some at []) ≡ 0
unfolding weigh
one-nothing w None cause = refl
one-nothing w (Some at) cause = refl

-- what one event makes a node of such a kind send
one-sends : (sys : System) (kind : Kind) (w : Timed → ℕ) → sends_one_by_one kind ≡ true → (before : List Event) (v : Event)
    → weigh w (timed_of (sends_of_kind sys kind before v)) ≡ weigh (one_weight sys.flow kind w) (deliveries (v ∷ []))
unfolding weigh deliveries
one-sends sys kind w k before (Inject p x) =
    ap (λ ms. weigh w (timed_of ms)) ((one_by_one_kind kind k).injected sys before p x)
    ∙ ap (weigh w) (timed_of-messages_at_some (send_stamp_of_kind sys.flow kind (x ∷ [])) (x ∷ []) []) ∙ one-nothing w (send_stamp_of_kind sys.flow kind (x ∷ [])) (x ∷ [])
one-sends sys kind w k before (Notify p t) =
    ap (λ ms. weigh w (timed_of ms)) ((one_by_one_kind kind k).notified sys before p t)
    ∙ ap (weigh w) (timed_of-messages_at_some (send_stamp_of_kind sys.flow kind t) t []) ∙ one-nothing w (send_stamp_of_kind sys.flow kind t) t
one-sends sys kind w k before (Deliver e m) =
    ap (λ ms. weigh w (timed_of ms)) ((one_by_one_kind kind k).delivered sys before e m)
    ∙ ap (weigh w) (timed_of-messages_at_some (send_stamp_of_kind sys.flow kind m.at) m.at (recs_for_one kind m.rec)) ∙ omega arith

deliveries-cons : (u : Timed → ℕ) (v : Event) (vs : List Event) → weigh u (deliveries (v ∷ vs)) ≡ weigh u (deliveries (v ∷ [])) + weigh u (deliveries vs)
unfolding weigh deliveries
deliveries-cons u (Inject s x) vs = omega arith
deliveries-cons u (Deliver e m) vs = omega arith
deliveries-cons u (Notify p t) vs = omega arith

-- what a node of such a kind sent
one-sent : (sys : System) (p : ℕ) → sends_one_by_one (kind_of sys.flow p) ≡ true → (w : Timed → ℕ) (vs : List Event)
    → weigh w (timed_of (sent_by sys p vs)) ≡ weigh (one_weight sys.flow (kind_of sys.flow p) w) (deliveries vs)
unfolding weigh deliveries sends
one-sent sys p k w [] = refl
one-sent sys p k w (v ∷ vs) =
    let u = one_weight sys.flow (kind_of sys.flow p) w in
    let a = sent-weigh sys p w v vs in
    let b = one-sends sys (kind_of sys.flow p) w k vs v in
    let c = deliveries-cons u v vs in
    let h = one-sent sys p k w vs in
    omega arith

-- what a node of such a kind sends in all
one-outputs : (flow : Dataflow) (kind : Kind) → sends_one_by_one kind ≡ true → (w : Timed → ℕ) (batches : List (List Rec)) (bags : List (List Timed))
    → weigh w (outputs_of_kind flow kind batches bags) ≡ weigh (one_weight flow kind w) (joint_bag bags)
one-outputs flow kind k w batches bags = ap (weigh w) ((one_by_one_kind kind k).outputs flow batches bags) ∙ weigh-flat_map w _ (joint_bag bags)

pub timed-at : (t at : Stamp) (q : Rec) (rs : List Rec) → 0 < weigh (one t q) (timed_recs at rs) → t ≡ at
unfolding weigh
timed-at t at q [] l = absurd (omega arith)
timed-at t at q (r ∷ rs) l = elim (cases_Bool (same t at)) [
  | inl e ↦ same-is t at e
  | inr e ↦
      let z = one-out t q (record { at = at; rec = r }) (ap (λ b. b && is_eq (rec_cmp q r)) e) in
      timed-at t at q rs (omega arith)
]

-- what is sent at a stamp is sent for recs that send at it
one-at : (t : Stamp) (q : Rec) (at : Option Stamp) (rs : List Rec) → 0 < weigh (one t q) (timed_at_some at rs) → is_sent_at t at ≡ true
unfolding weigh
one-at t q None rs l = absurd (omega arith)
one-at t q (Some at) rs l = ap (same t) (sym (timed-at t at q rs l)) ∙ same-refl t

-- fewer recs make such a node send fewer
alone-fewer : (send : Stamp → Option Stamp) (made : Rec → List Rec)
    → MakesFewer (λ t s. is_sent_at t (send s)) (λ bags. flat_map (λ r. timed_at_some (send r.at) (made r.rec)) (joint_bag bags))
alone-fewer send made t x bag cag ds f =
    let each : Timed → List Timed = λ r. timed_at_some (send r.at) (made r.rec) in
    let weight : Timed → ℕ = λ r. weigh (one t x) (each r) in
    let xs = joint_bag (map bag ds) in
    let ys = joint_bag (map cag ds) in
    let a : weigh (one t x) (flat_map each xs) ≡ weigh weight xs = weigh-flat_map (one t x) each xs in
    let b : weigh (one t x) (flat_map each ys) ≡ weigh weight ys = weigh-flat_map (one t x) each ys in
    let c = weigh-less weight xs ys (λ u r l. together-fewer (λ s. is_sent_at t (send s)) bag cag ds f u r (one-at t x (send u) (made r) l)) in
    omega arith

-- what is asked of what is sent for each rec alone
pub each_alone : (within out : Bounds) (send : Stamp → Option Stamp) (made : Rec → List Rec)
    → ((t s : Stamp) → in_domain within t ≡ true → send t ≡ Some s → in_domain out s ≡ true) → (alone at_once inner : Type 0)
    → IsLawfulWhole within out (λ t s. is_sent_at t (send s)) alone at_once inner (λ batches bags. flat_map (λ r. timed_at_some (send r.at) (made r.rec)) (joint_bag bags))
each_alone within out send made lands alone at_once inner = record {
  lands = λ batches bags l a.
      let P : Timed → Type 0 = λ r. in_domain within r.at ≡ true in
      let Q : Timed → Type 0 = λ r. in_domain out r.at ≡ true in
      each-flat_map P Q (λ (r : Timed). timed_at_some (send r.at) (made r.rec))
      (λ r i. each-timed_at_some (λ s. in_domain out s ≡ true) (send r.at) (λ s e. lands r.at s i e) (made r.rec)) (joint_bag bags) (each-together P bags a);
  by_parts = λ k batches bags t.
      let each : Timed → List Timed = λ r. timed_at_some (send r.at) (made r.rec) in
      part-flat_map (same t) (λ (r : Timed). is_sent_at t (send r.at)) each each (λ r. part-timed_at_some t (send r.at) (made r.rec)) (joint_bag bags)
      ∙ ap (λ rs. part (same t) (flat_map each rs)) (sym (together-part (λ s. is_sent_at t (send s)) bags));
  fewer = λ k batches t x bag cag ds f. alone-fewer send made t x bag cag ds f;
  agrees = λ k batches t x bag cag ds f.
      as_many (λ t s. is_sent_at t (send s)) (λ bags. flat_map (λ r. timed_at_some (send r.at) (made r.rec)) (joint_bag bags)) (alone-fewer send made) t x bag cag ds f;
}

-- what a node of such a kind sent for what was delivered
pub one-arrives : (kind : Kind) → sends_one_by_one kind ≡ true → SendsForDelivered kind
one-arrives kind k sys h p t n batches x =
    let flow = sys.flow in
    let is = ap sends_one_by_one n.is_kind ∙ k in
    one-sent sys p is (one t x) (events_at flow p h)
    ∙ deliveries_together flow p n.declared (one_weight flow (kind_of flow p) (one t x)) h
    ∙ sym (one-outputs flow (kind_of flow p) is (one t x) batches (map (delivered_bag h) (in_edges flow p)))
    ∙ ap (λ z. weigh (one t x) (outputs_of_kind flow z batches (map (delivered_bag h) (in_edges flow p)))) n.is_kind
