-- Sum and total send, once they are notified of a stamp, what they send for all that came.
use Rattle.std.proofs.Common.{◌≡◌, ℕ, true, false, cond, ◌&&◌, ◌||◌, ◌==◌, List, [], ◌∷◌, ◌++◌, Some, refl, sym, ap, subst, ◌∙◌, inl, inr, arith, Bool, not, map}
use Rattle.std.proofs.Math.Bool.{and-false}
use Rattle.std.proofs.lemmas.Bool.{and_parts, and_from, or_cases, or_parts, cond_both, cases_Bool, eqb-true}
use Rattle.fw_time.specs.Stamp.{Stamp, leq, same}
use Rattle.fw_time.proofs.StampLaws.{leq-refl}
use Rattle.std.specs.Ordering.{is_eq}
use Rattle.fw_lemmas.proofs.Bools.{two_ways}
use Rattle.fw_bag.specs.declared.rec.Rec.{Rec}
use Rattle.fw_bag.specs.Rec.{rec_cmp}
use Rattle.fw_bag.specs.Bag.{how_often}
use Rattle.fw_bag.specs.Keyed.{distinct_keys, sums_of}
use Rattle.fw_flow.specs.declared.event.Event.{Event}
use Rattle.fw_flow.specs.declared.event.Event.TheVariants.{Inject, Deliver, Notify}
use Rattle.fw_flow.specs.declared.event.Message.{Message}
use Rattle.fw_flow.specs.Kind.{Kind}
use Rattle.fw_flow.specs.declared.kind.Kind.TheVariants.{Sum, Total}
use Rattle.fw_flow.specs.Dataflow.{System, Dataflow, kind_of, receiver, is_notified_kind, HasEpochs, in_edges}
use Rattle.fw_flow.specs.NodeFunction.{event_node, delivered_recs, recs_on_notification, sends_of_kind, sends, sent_by}
use Rattle.fw_flow.specs.Projection.{events_at}
use Rattle.fw_flow.specs.WellFormed.{IsWellFormed}
use Rattle.fw_flow.specs.WholeBags.{Timed, timed_where, joint_bag}
use Rattle.fw_model.specs.History.{is_notification, was_delivered_to, was_notified, IsEnabled, IsLegal, is_owed_notice}
use Rattle.fw_model.proofs.KindSorts.{sends_sums}
use Rattle.fw_model.proofs.WeightLaws.{weigh, one, one-out, how_often-where}
use Rattle.fw_model.proofs.SentLaws.{timed_of, timed_message}
use Rattle.fw_model.proofs.ArrivalLaws.{deliveries, delivered_bag, deliveries_together, SendsForDelivered}
use Rattle.fw_model.proofs.InputLaws.{timed_of-messages_at_some, sent-weigh}
use Rattle.fw_model.proofs.DistinctLaws.{same-swap, passing, how_often-delivered, how_often-delivered_at}
use Rattle.fw_model.proofs.JoinLaws.{weigh-timed}
use Rattle.fw_model.proofs.ClosedLaws.{IsSettled, settled-outside, settled-step, settled-now}
use Rattle.fw_model.proofs.StampLaws.{same-is}
use Rattle.fw_model.proofs.SumLaws.{AreSameBags, sums-same, sum-outputs, total-outputs, how_often-passing}

-- ---- a notified stamp is settled

-- what was notified is settled
pub notified-settled : (sys : System) (h : List Event) → IsWellFormed sys.flow → HasEpochs sys → IsLegal sys h → (p : ℕ) (t : Stamp) → was_notified p t h ≡ true
    → IsSettled sys h p t
notified-settled sys [] w b l p t k = absurd (cc)
notified-settled sys (v ∷ h) w b l p t k = elim (or_cases (is_notification p t v) (was_notified p t h) k) [
  | inl i ↦ now v i l.0
  | inr i ↦ settled-step sys h w b l.1 p t (notified-settled sys h w b l.1 p t i) v l.0
]
  where
    now : (v : Event) → is_notification p t v ≡ true → IsEnabled sys h v → IsSettled sys (v ∷ h) p t
    now (Inject s x) i e = absurd (cc)
    now (Deliver d m) i e = absurd (cc)
    now (Notify q s) i e =
        let a = and_parts (q == p) (same s t) i in
        let node = eqb-true q p a.0 in
        let at = same-is s t a.1 in
        subst (λ z. IsSettled sys (Notify q s ∷ h) z t) node (subst (λ u. IsSettled sys (Notify q s ∷ h) q u) at (settled-now sys h w b l.1 q s e))

-- ---- what is read

-- an event that is no delivery at the stamp or below changes nothing of what a notification of it sends
unread-recs : (kind : Kind) → sends_sums kind ≡ true → (t : Stamp) (v : Event) (vs : List Event)
    → ((s : Stamp) → leq s t ≡ true → delivered_recs (λ d u. same u s) (v ∷ vs) ≡ delivered_recs (λ d u. same u s) vs)
    → delivered_recs (λ d u. leq u t) (v ∷ vs) ≡ delivered_recs (λ d u. leq u t) vs
    → recs_on_notification kind (v ∷ vs) t ≡ recs_on_notification kind vs t
unread-recs (Sum n) k t v vs f g = ap (λ now. sums_of (distinct_keys now) now) (f t (leq-refl t))
unread-recs Total k t v vs f g =
    ap (λ now. sums_of (distinct_keys now) (delivered_recs (λ d s. leq s t) (v ∷ vs))) (f t (leq-refl t))
    ∙ ap (λ rs. sums_of (distinct_keys (delivered_recs (λ d s. same s t) vs)) rs) g
unread-recs kind k t v vs f g = absurd (cc)

unread-delivery : (kind : Kind) → sends_sums kind ≡ true → (t : Stamp) (e : ℕ) (m : Message) (vs : List Event) → leq m.at t ≡ false
    → recs_on_notification kind (Deliver e m ∷ vs) t ≡ recs_on_notification kind vs t
unread-delivery kind k t e m vs o =
    unread-recs kind k t (Deliver e m) vs
    (λ s l.
    let z : same m.at s ≡ false = elim (cases_Bool (same m.at s)) [
      | inl i ↦ absurd (two_ways (leq m.at t) (ap (λ u. leq u t) (same-is m.at s i) ∙ l) o)
      | inr i ↦ i
    ] in
    ap (λ b. cond b (m.rec ∷ []) [] ++ delivered_recs (λ d u. same u s) vs) z)
    (ap (λ b. cond b (m.rec ∷ []) [] ++ delivered_recs (λ d u. leq u t) vs) o)

unread-other : (kind : Kind) → sends_sums kind ≡ true → (t : Stamp) (q : ℕ) (s : Stamp) (vs : List Event)
    → recs_on_notification kind (Notify q s ∷ vs) t ≡ recs_on_notification kind vs t
unread-other kind k t q s vs = unread-recs kind k t (Notify q s) vs (λ u l. refl) refl

unread-injection : (kind : Kind) → sends_sums kind ≡ true → (t : Stamp) (q x : ℕ) (vs : List Event)
    → recs_on_notification kind (Inject q x ∷ vs) t ≡ recs_on_notification kind vs t
unread-injection kind k t q x vs = unread-recs kind k t (Inject q x) vs (λ u l. refl) refl

-- ---- what is sent

sums-injection : (sys : System) (kind : Kind) → sends_sums kind ≡ true → (w : Timed → ℕ) (vs : List Event) (q x : ℕ) → weigh w (timed_of (sends_of_kind sys kind vs (Inject q x))) ≡ 0
unfolding weigh
sums-injection sys (Sum n) k w vs q x = refl
sums-injection sys Total k w vs q x = refl
sums-injection sys kind k w vs q x = absurd (cc)

sums-delivery : (sys : System) (kind : Kind) → sends_sums kind ≡ true → (w : Timed → ℕ) (vs : List Event) (e : ℕ) (m : Message) → weigh w (timed_of (sends_of_kind sys kind vs (Deliver e m))) ≡ 0
unfolding weigh
sums-delivery sys (Sum n) k w vs e m = refl
sums-delivery sys Total k w vs e m = refl
sums-delivery sys kind k w vs e m = absurd (cc)

sums-notification : (sys : System) (kind : Kind) → sends_sums kind ≡ true → (t : Stamp) (x : Rec) (vs : List Event) (q : ℕ) (s : Stamp)
    → weigh (one t x) (timed_of (sends_of_kind sys kind vs (Notify q s))) ≡ cond (same t s) (how_often x (recs_on_notification kind vs s)) 0
sums-notification sys (Sum n) k t x vs q s =
    ap (weigh (one t x)) (timed_of-messages_at_some (Some s) s (recs_on_notification (Sum n) vs s)) ∙ weigh-timed t s x (recs_on_notification (Sum n) vs s)
sums-notification sys Total k t x vs q s =
    ap (weigh (one t x)) (timed_of-messages_at_some (Some s) s (recs_on_notification Total vs s)) ∙ weigh-timed t s x (recs_on_notification Total vs s)
sums-notification sys kind k t x vs q s = absurd (cc)

-- what was sent at a stamp, if it was notified
abbrev SentSums : System → List Event → ℕ → Stamp → Rec → Type 0
SentSums sys h p t x =
    weigh (one t x) (timed_of (sent_by sys p (events_at sys.flow p h)))
    ≡ cond (was_notified p t h) (how_often x (recs_on_notification (kind_of sys.flow p) (events_at sys.flow p h) t)) 0

sums-step : (sys : System) (h : List Event) → IsWellFormed sys.flow → HasEpochs sys → IsLegal sys h → (p : ℕ) → sends_sums (kind_of sys.flow p) ≡ true
    → is_notified_kind (kind_of sys.flow p) ≡ true → (v : Event) → IsEnabled sys h v → (event_node sys.flow v == p) ≡ true → (t : Stamp) (x : Rec) → SentSums sys h p t x
    → weigh (one t x) (timed_of (sent_by sys p (v ∷ events_at sys.flow p h)))
    ≡ cond (was_notified p t (v ∷ h)) (how_often x (recs_on_notification (kind_of sys.flow p) (v ∷ events_at sys.flow p h) t)) 0
unfolding sends
sums-step sys h w b l p k n (Inject q y) e c t x r =
    let vs = events_at sys.flow p h in
    let kind = kind_of sys.flow p in
    let a = sent-weigh sys p (one t x) (Inject q y) vs in
    let z = sums-injection sys kind k (one t x) vs q y in
    let u = ap (λ rs. cond (was_notified p t h) (how_often x rs) 0) (unread-injection kind k t q y vs) in
    omega arith
sums-step sys h w b l p k n (Deliver e m) i c t x r =
    let vs = events_at sys.flow p h in
    let kind = kind_of sys.flow p in
    let a = sent-weigh sys p (one t x) (Deliver e m) vs in
    let z = sums-delivery sys kind k (one t x) vs e m in
    let u : cond (was_notified p t h) (how_often x (recs_on_notification kind (Deliver e m ∷ vs) t)) 0 ≡ cond (was_notified p t h) (how_often x (recs_on_notification kind vs t)) 0 =
    elim (cases_Bool (was_notified p t h)) [
      | inl j ↦
          let o = settled-outside sys h p t n (notified-settled sys h w b l p t j) (Deliver e m) i in
          ap (λ rs. cond (was_notified p t h) (how_often x rs) 0)
          (unread-delivery kind k t e m vs (sym (ap (λ d. d && leq m.at t) c) ∙ o))
      | inr j ↦ ap (λ d. cond d (how_often x (recs_on_notification kind (Deliver e m ∷ vs) t)) 0) j ∙ sym (ap (λ d. cond d (how_often x (recs_on_notification kind vs t)) 0) j)
    ] in
    omega arith
sums-step sys h w b l p k n (Notify q s) i c t x r =
    let vs = events_at sys.flow p h in
    let kind = kind_of sys.flow p in
    let a = sent-weigh sys p (one t x) (Notify q s) vs in
    let z = sums-notification sys kind k t x vs q s in
    let u = unread-other kind k t q s vs in
    elim (cases_Bool (same t s)) [
      | inl j ↦
          let at = same-is t s j in
          let now : was_notified p t (Notify q s ∷ h) ≡ true = ap (λ d. d || was_notified p t h) (and_from (q == p) (same s t) c (same-swap s t ∙ j)) in
          let before : was_notified p t h ≡ false = elim (cases_Bool (was_notified p t h)) [
            | inl y ↦
                let o = settled-outside sys h p t n (notified-settled sys h w b l p t y) (Notify q s) i in
                absurd (two_ways (q == p && leq s t) (and_from (q == p) (leq s t) c (ap (leq s) at ∙ leq-refl s)) o)
            | inr y ↦ y
          ] in
          let f : weigh (one t x) (timed_of (sent_by sys p vs)) ≡ 0 = r ∙ ap (λ d. cond d (how_often x (recs_on_notification kind vs t)) 0) before in
          let g : weigh (one t x) (timed_of (sends sys p vs (Notify q s))) ≡ how_often x (recs_on_notification kind vs t) =
          z ∙ ap (λ d. cond d (how_often x (recs_on_notification kind vs s)) 0) j ∙ ap (λ y. how_often x (recs_on_notification kind vs y)) (sym at) in
          a ∙ (omega (arith, f, g)) ∙ sym (ap (how_often x) u) ∙ sym (ap (λ d. cond d (how_often x (recs_on_notification kind (Notify q s ∷ vs) t)) 0) now)
      | inr j ↦
          let other : is_notification p t (Notify q s) ≡ false = ap (λ d. q == p && d) (same-swap s t ∙ j) ∙ and-false (q == p) in
          let g : weigh (one t x) (timed_of (sends sys p vs (Notify q s))) ≡ 0 = z ∙ ap (λ d. cond d (how_often x (recs_on_notification kind vs s)) 0) j in
          a ∙ (omega (arith, g, r)) ∙ sym (ap (λ rs. cond (was_notified p t h) (how_often x rs) 0) u)
          ∙ sym (ap (λ d. cond (d || was_notified p t h) (how_often x (recs_on_notification kind (Notify q s ∷ vs) t)) 0) other)
    ]

not_notified : (flow : Dataflow) (p : ℕ) (t : Stamp) (v : Event) → (event_node flow v == p) ≡ false → is_notification p t v ≡ false
not_notified flow p t (Inject s x) e = refl
not_notified flow p t (Deliver d m) e = refl
not_notified flow p t (Notify q s) e = ap (λ b. b && same s t) e

-- what a node that sends sums sent at a stamp: nothing, or, once notified, the sums of all that came
pub sums-sent : (sys : System) (h : List Event) → IsWellFormed sys.flow → HasEpochs sys → IsLegal sys h → (p : ℕ) → sends_sums (kind_of sys.flow p) ≡ true
    → is_notified_kind (kind_of sys.flow p) ≡ true → (t : Stamp) (x : Rec) → SentSums sys h p t x
unfolding weigh
sums-sent sys [] w b l p k n t x = refl
sums-sent sys (v ∷ h) w b l p k n t x =
    let rest = sums-sent sys h w b l.1 p k n t x in
    let vs = events_at sys.flow p h in
    elim (cases_Bool (event_node sys.flow v == p)) [
      | inl c ↦
          ap (λ d. weigh (one t x) (timed_of (sent_by sys p (cond d (v ∷ vs) vs)))) c
          ∙ sums-step sys h w b l.1 p k n v l.0 c t x rest
          ∙ sym (ap (λ d. cond (was_notified p t (v ∷ h)) (how_often x (recs_on_notification (kind_of sys.flow p) (cond d (v ∷ vs) vs) t)) 0) c)
      | inr c ↦
          ap (λ d. weigh (one t x) (timed_of (sent_by sys p (cond d (v ∷ vs) vs)))) c
          ∙ rest
          ∙ sym (ap (λ d. cond (d || was_notified p t h) (how_often x (recs_on_notification (kind_of sys.flow p) vs t)) 0) (not_notified sys.flow p t v c))
          ∙ sym (ap (λ d. cond (was_notified p t (v ∷ h)) (how_often x (recs_on_notification (kind_of sys.flow p) (cond d (v ∷ vs) vs) t)) 0) c)
    ]

-- ---- where nothing came

pub none_came : (flow : Dataflow) (p : ℕ) (t : Stamp) (h : List Event) → was_delivered_to flow p t h ≡ false → (q : Rec) → weigh (one t q) (deliveries (events_at flow p h)) ≡ 0
unfolding weigh deliveries
none_came flow p t [] k q = refl
none_came flow p t (Inject s x ∷ h) k q =
    let rest = none_came flow p t h k q in
    cond_both (s == p) (Inject s x ∷ events_at flow p h) (events_at flow p h) (λ vs. weigh (one t q) (deliveries vs) ≡ 0) (λ e. rest) (λ e. rest)
none_came flow p t (Notify r s ∷ h) k q =
    let rest = none_came flow p t h k q in
    cond_both (r == p) (Notify r s ∷ events_at flow p h) (events_at flow p h) (λ vs. weigh (one t q) (deliveries vs) ≡ 0) (λ e. rest) (λ e. rest)
none_came flow p t (Deliver e m ∷ h) k q =
    let a = or_parts (receiver flow e == p && same m.at t) (was_delivered_to flow p t h) k in
    let rest = none_came flow p t h a.1 q in
    cond_both (receiver flow e == p) (Deliver e m ∷ events_at flow p h) (events_at flow p h) (λ vs. weigh (one t q) (deliveries vs) ≡ 0)
    (λ i.
    let o : same t m.at ≡ false = same-swap t m.at ∙ sym (ap (λ b. b && same m.at t) i) ∙ a.0 in
    let z = one-out t q (timed_message m) (ap (λ b. b && is_eq (rec_cmp q m.rec)) o) in
    omega arith)
    (λ i. rest)

-- ---- what was sent for what was delivered

-- where nothing is owed, all sums were sent
sums-arrived : (sys : System) (h : List Event) → IsWellFormed sys.flow → HasEpochs sys → IsLegal sys h → (p : ℕ) (kind : Kind) → kind_of sys.flow p ≡ kind → sends_sums kind ≡ true
    → is_notified_kind kind ≡ true → (t : Stamp) (x : Rec) → is_owed_notice sys h p t ≡ false
    → ((z : (q : Rec) → weigh (one t q) (deliveries (events_at sys.flow p h)) ≡ 0) → how_often x (recs_on_notification kind (events_at sys.flow p h) t) ≡ 0)
    → weigh (one t x) (timed_of (sent_by sys p (events_at sys.flow p h))) ≡ how_often x (recs_on_notification kind (events_at sys.flow p h) t)
sums-arrived sys h w b l p kind is k n t x o empty =
    let flow = sys.flow in
    let vs = events_at flow p h in
    let a = sums-sent sys h w b l p (ap sends_sums is ∙ k) (ap is_notified_kind is ∙ n) t x
    ∙ ap (λ z. cond (was_notified p t h) (how_often x (recs_on_notification z vs t)) 0) is in
    elim (cases_Bool (was_notified p t h)) [
      | inl i ↦ a ∙ ap (λ z. cond z (how_often x (recs_on_notification kind vs t)) 0) i
      | inr i ↦
          let came : was_delivered_to flow p t h ≡ false = not_came (is_notified_kind (kind_of flow p)) (was_delivered_to flow p t h) (was_notified p t h) (ap is_notified_kind is ∙ n) i o in
          a ∙ ap (λ z. cond z (how_often x (recs_on_notification kind vs t)) 0) i ∙ sym (empty (none_came flow p t h came))
    ]
  where
    not_came : (c d e : Bool) → c ≡ true → e ≡ false → (c && d && not e) ≡ false → d ≡ false
    not_came true true true i j k = cc
    not_came true true false i j k = cc
    not_came true false e i j k = refl
    not_came false d e i j k = cc

no_sums_came : (t : Stamp) (x : Rec) (vs : List Event) (qs : List Rec) → ((q : Rec) → weigh (one t q) (deliveries vs) ≡ 0)
    → how_often x (sums_of (distinct_keys (delivered_recs (λ d s. same s t) vs)) qs) ≡ 0
no_sums_came t x vs qs z = sums-same x (delivered_recs (λ d s. same s t) vs) qs [] qs (λ q. how_often-delivered_at t q vs ∙ z q) (λ q. refl)

pub sum-arrives : (within : _) → SendsForDelivered (Sum within)
sum-arrives within sys h p t n batches x =
    let flow = sys.flow in
    let vs = events_at flow p h in
    let rs = joint_bag (map (delivered_bag h) (in_edges flow p)) in
    let now = delivered_recs (λ d s. same s t) vs in
    let f : AreSameBags now (timed_where (same t) rs) = λ q. how_often-delivered_at t q vs ∙ deliveries_together flow p n.declared (one t q) h ∙ sym (how_often-where t q rs) in
    sums-arrived sys h n.well_formed n.epochs n.legal p (Sum within) n.is_kind refl refl t x n.paid (λ z. no_sums_came t x vs now z)
    ∙ sums-same x now now (timed_where (same t) rs) (timed_where (same t) rs) f f
    ∙ sym (sum-outputs t x rs)

pub total-arrives : SendsForDelivered Total
total-arrives sys h p t n batches x =
    let flow = sys.flow in
    let vs = events_at flow p h in
    let rs = joint_bag (map (delivered_bag h) (in_edges flow p)) in
    let now = delivered_recs (λ d s. same s t) vs in
    let upto = delivered_recs (λ d s. leq s t) vs in
    let f : AreSameBags now (timed_where (same t) rs) = λ q. how_often-delivered_at t q vs ∙ deliveries_together flow p n.declared (one t q) h ∙ sym (how_often-where t q rs) in
    let g : AreSameBags upto (timed_where (λ s. leq s t) rs) =
    λ q. how_often-delivered (λ s. leq s t) q vs ∙ deliveries_together flow p n.declared (passing (λ s. leq s t) q) h ∙ sym (how_often-passing (λ s. leq s t) q rs) in
    sums-arrived sys h n.well_formed n.epochs n.legal p Total n.is_kind refl refl t x n.paid (λ z. no_sums_came t x vs upto z)
    ∙ sums-same x now upto (timed_where (same t) rs) (timed_where (λ s. leq s t) rs) f g
    ∙ sym (total-outputs t x rs)
