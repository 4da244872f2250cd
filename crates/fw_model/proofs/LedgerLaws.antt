-- A ledger sends running totals, which are those of the whole bag since its recs come in the order of their numbers.
use Rattle.std.proofs.Common.{◌≡◌, ℕ, suc, ◌<◌, ◌≤◌, true, cond, ◌&&◌, ◌==◌, List, [], ◌∷◌, length, map, refl, sym, ap, subst, ◌∙◌, inl, inr, arith, Bool, ◌+◌, false, ◌++◌}
use Rattle.std.specs.Prelude.{filter}
use Rattle.std.specs.Ordering.{is_eq}
use Rattle.std.proofs.lemmas.Bool.{cond-true, cases_Bool, eq-eqb, lt-leb, cond_both}
use Rattle.fw_lemmas.proofs.Each.{each-one, each-mapped}
use Rattle.fw_time.specs.Stamp.{Stamp, leq, same, in_domain}
use Rattle.fw_time.proofs.StampLaws.{leq-refl}
use Rattle.fw_bag.specs.declared.rec.Rec.{Rec}
use Rattle.fw_bag.specs.Rec.{rec_cmp}
use Rattle.fw_bag.specs.Keyed.{plus, value_sum}
use Rattle.fw_flow.specs.declared.event.Event.{Event}
use Rattle.fw_flow.specs.declared.event.Event.TheVariants.{Inject, Deliver, Notify}
use Rattle.fw_flow.specs.declared.event.Message.{Message}
use Rattle.fw_flow.specs.declared.kind.Kind.TheVariants.{Ledger}
use Rattle.fw_flow.specs.Dataflow.{System, kind_of, Dataflow, receiver, in_edges, domain_of_kind, is_of_numbers, is_numbered}
use Rattle.fw_flow.specs.NodeFunction.{delivered_recs, sends_of_kind, sends, sent_by}
use Rattle.fw_flow.specs.WholeBags.{Timed, timed_where, running_totals, joint_bag}
use Rattle.fw_model.proofs.StampLaws.{line-leq, same-is}
use Rattle.fw_model.proofs.WeightLaws.{weigh, weigh-map, weigh-same, weigh-equal, one, one-out, at_stamp}
use Rattle.fw_model.proofs.SentLaws.{timed_of, timed_message}
use Rattle.fw_model.proofs.ArrivalLaws.{deliveries, at_edge, in_edges-once, in_edges-receive, delivered_bag, deliveries_together, together-agrees, SendsForDelivered}
use Rattle.fw_model.proofs.InputLaws.{sent-weigh}
use Rattle.fw_model.proofs.SumLaws.{AreSameBags, value_sum-same, same_upto}
use Rattle.fw_model.specs.Order.{AreNumberedInOrder}
use Rattle.fw_time.specs.declared.stamp.Bounds.{Bounds}
use Rattle.fw_model.specs.Wholes.{IsLawfulWhole, MakesTheSame}
use Rattle.fw_model.proofs.OutputLaws.{each-together}
use Rattle.std.specs.List.{AllByRecursion}
use Rattle.fw_flow.specs.Projection.{events_at}
use Rattle.fw_flow.specs.WellFormed.{IsWellFormed, IsInDegree}
use Rattle.fw_model.specs.History.{delivered_messages, IsLegal}
use Rattle.fw_model.proofs.JoinLaws.{delivered_at}
use Rattle.fw_model.proofs.ClosedLaws.{numbered-ascend}

-- ---- numbered recs

-- the timed recs, the latest first, have the numbers from 0 on
abbrev pub AreNumbered : List Timed → Type 0
AreNumbered [] = Unit {0}
AreNumbered (r ∷ rs) = (r.at ≡ length rs ∷ []) × AreNumbered rs

pub length-timed_of : (ms : List Message) → length (timed_of ms) ≡ length ms
length-timed_of [] = refl
length-timed_of (m ∷ ms) = ap suc (length-timed_of ms)

pub numbered-timed : (ms : List Message) → AreNumberedInOrder ms → AreNumbered (timed_of ms)
numbered-timed [] a = tt
numbered-timed (m ∷ ms) a = (a.0 ∙ ap (λ n. n ∷ []) (sym (length-timed_of ms)), numbered-timed ms a.1)

-- the recs of timed recs
abbrev all_recs : List Timed → List Rec
all_recs rs = map (λ r. r.rec) rs

-- all recs of so many are at numbers below
up_to_all : (k : ℕ) (rs : List Timed) → AreNumbered rs → length rs ≤ k → timed_where (λ s. leq s (k ∷ [])) rs ≡ all_recs rs
up_to_all k [] a l = refl
up_to_all k (r ∷ rs) a l =
    ap (λ b. map (λ (x : Timed). x.rec) (cond b (r ∷ filter (λ x. leq x.at (k ∷ [])) rs) (filter (λ x. leq x.at (k ∷ [])) rs)))
    (ap (λ s. leq s (k ∷ [])) a.0 ∙ line-leq (length rs) k (omega arith))
    ∙ ap (λ qs. r.rec ∷ qs) (up_to_all k rs a.1 (omega arith))

-- a later rec is not at an earlier number
later-not : (k : ℕ) (r : Timed) (rs : List Timed) → r.at ≡ length rs ∷ [] → k < length rs
    → timed_where (λ s. leq s (k ∷ [])) (r ∷ rs) ≡ timed_where (λ s. leq s (k ∷ [])) rs
later-not k r rs e l =
    ap (λ b. map (λ (x : Timed). x.rec) (cond b (r ∷ filter (λ x. leq x.at (k ∷ [])) rs) (filter (λ x. leq x.at (k ∷ [])) rs)))
    (ap (λ s. leq s (k ∷ [])) e ∙ ap (λ b. b && true) (lt-leb (length rs) k l))

-- the running total of a rec among others
abbrev total_in : List Timed → Timed → Timed
total_in rs r = record { at = r.at; rec = record { key = r.rec.key; value = value_sum r.rec.key (timed_where (λ s. leq s r.at) rs) } }

earlier-totals : (r : Timed) (rs qs : List Timed) → r.at ≡ length rs ∷ [] → AreNumbered qs → length qs ≤ length rs
    → map (total_in (r ∷ rs)) qs ≡ map (total_in rs) qs
earlier-totals r rs [] e a l = refl
earlier-totals r rs (q ∷ qs) e a l =
    let k = length qs in
    let same_recs : timed_where (λ s. leq s q.at) (r ∷ rs) ≡ timed_where (λ s. leq s q.at) rs =
    subst (λ at. timed_where (λ s. leq s at) (r ∷ rs) ≡ timed_where (λ s. leq s at) rs) (sym a.0) (later-not k r rs e (omega arith)) in
    ap (λ xs. (record { at = q.at; rec = record { key = q.rec.key; value = value_sum q.rec.key xs } }) ∷ map (total_in (r ∷ rs)) qs) same_recs
    ∙ ap (λ xs. total_in rs q ∷ xs) (earlier-totals r rs qs e a.1 (omega arith))

value_sum-first : (r : Rec) (rs : List Rec) → value_sum r.key (r ∷ rs) ≡ plus r.value (value_sum r.key rs)
value_sum-first r rs = cond-true (r.key == r.key) (plus r.value (value_sum r.key rs)) (value_sum r.key rs) (eq-eqb r.key r.key refl)

totals-cons : (r : Timed) (rs : List Timed) → AreNumbered (r ∷ rs)
    → running_totals (r ∷ rs) ≡ record { at = r.at; rec = record { key = r.rec.key; value = plus r.rec.value (value_sum r.rec.key (all_recs rs)) } } ∷ running_totals rs
totals-cons r rs a =
    let here : timed_where (λ s. leq s r.at) (r ∷ rs) ≡ r.rec ∷ all_recs rs =
    ap (λ b. map (λ (x : Timed). x.rec) (cond b (r ∷ filter (λ x. leq x.at r.at) rs) (filter (λ x. leq x.at r.at) rs))) (leq-refl r.at)
    ∙ ap (λ qs. r.rec ∷ qs) (subst (λ at. timed_where (λ s. leq s at) rs ≡ all_recs rs) (sym a.0) (up_to_all (length rs) rs a.1 (omega arith))) in
    ap (λ qs. (record { at = r.at; rec = record { key = r.rec.key; value = value_sum r.rec.key qs } }) ∷ map (total_in (r ∷ rs)) rs) here
    ∙ ap (λ n. (record { at = r.at; rec = record { key = r.rec.key; value = n } }) ∷ map (total_in (r ∷ rs)) rs) (value_sum-first r.rec (all_recs rs))
    ∙ ap (λ xs. (record { at = r.at; rec = record { key = r.rec.key; value = plus r.rec.value (value_sum r.rec.key (all_recs rs)) } }) ∷ xs)
    (earlier-totals r rs rs a.0 a.1 (omega arith))

-- ---- what a ledger sent

all_delivered : (vs : List Event) → delivered_recs (λ d s. true) vs ≡ all_recs (deliveries vs)
unfolding deliveries
all_delivered [] = refl
all_delivered (Inject s x ∷ vs) = all_delivered vs
all_delivered (Notify p t ∷ vs) = all_delivered vs
all_delivered (Deliver e m ∷ vs) = ap (λ rs. m.rec ∷ rs) (all_delivered vs)

pub ledger-sent : (sys : System) (p : ℕ) → kind_of sys.flow p ≡ Ledger → (w : Timed → ℕ) (vs : List Event) → AreNumbered (deliveries vs)
    → weigh w (timed_of (sent_by sys p vs)) ≡ weigh w (running_totals (deliveries vs))
unfolding weigh deliveries sends
ledger-sent sys p is w [] a = refl
ledger-sent sys p is w (Inject s x ∷ vs) a =
    let c = sent-weigh sys p w (Inject s x) vs in
    let d = ap (λ k. weigh w (timed_of (sends_of_kind sys k vs (Inject s x)))) is in
    let h = ledger-sent sys p is w vs a in
    omega arith
ledger-sent sys p is w (Notify q s ∷ vs) a =
    let c = sent-weigh sys p w (Notify q s) vs in
    let d = ap (λ k. weigh w (timed_of (sends_of_kind sys k vs (Notify q s)))) is in
    let h = ledger-sent sys p is w vs a in
    omega arith
ledger-sent sys p is w (Deliver e m ∷ vs) a =
    let c = sent-weigh sys p w (Deliver e m) vs in
    let d = ap (λ k. weigh w (timed_of (sends_of_kind sys k vs (Deliver e m)))) is in
    let h = ledger-sent sys p is w vs a.1 in
    let f = ap (weigh w) (totals-cons (timed_message m) (deliveries vs) a) in
    let g = ap (λ rs. w (record { at = m.at; rec = record { key = m.rec.key; value = plus m.rec.value (value_sum m.rec.key rs) } })) (all_delivered vs) in
    omega arith

-- ---- what a ledger sends in all

-- the running total at a stamp, where these are the recs up to it
abbrev total_at : Stamp → Rec → List Rec → Timed → ℕ
total_at t x upto r = one t x (record { at = r.at; rec = record { key = r.rec.key; value = value_sum r.rec.key upto } })

totals-weigh : (t : Stamp) (x : Rec) (rs : List Timed) → weigh (one t x) (running_totals rs) ≡ weigh (total_at t x (timed_where (λ s. leq s t) rs)) rs
totals-weigh t x rs =
    weigh-map (one t x) (total_in rs) rs
    ∙ weigh-same (λ r. one t x (total_in rs r)) (total_at t x (timed_where (λ s. leq s t) rs)) rs
    (each-one (λ r. one t x (total_in rs r) ≡ total_at t x (timed_where (λ s. leq s t) rs) r) rs each)
  where
    each : (r : Timed) → one t x (total_in rs r) ≡ total_at t x (timed_where (λ s. leq s t) rs) r
    each r = elim (cases_Bool (same t r.at)) [
      | inl e ↦ ap (λ u. one t x (record { at = r.at; rec = record { key = r.rec.key; value = value_sum r.rec.key (timed_where (λ s. leq s u) rs) } })) (sym (same-is t r.at e))
      | inr e ↦
          one-out t x (total_in rs r) (ap (λ b. b && is_eq (rec_cmp x (total_in rs r).rec)) e)
          ∙ sym (one-out t x (record { at = r.at; rec = record { key = r.rec.key; value = value_sum r.rec.key (timed_where (λ s. leq s t) rs) } })
          (ap (λ b. b && is_eq (rec_cmp x (record { key = r.rec.key; value = value_sum r.rec.key (timed_where (λ s. leq s t) rs) }))) e))
    ]

total_at-stamp : (t : Stamp) (x : Rec) (upto : List Rec) (r : Timed) → 0 < total_at t x upto r → t ≡ r.at
total_at-stamp t x upto r l = elim (cases_Bool (same t r.at)) [
  | inl e ↦ same-is t r.at e
  | inr e ↦
      let q : Rec = record { key = r.rec.key; value = value_sum r.rec.key upto } in
      let z = one-out t x (record { at = r.at; rec = q }) (ap (λ b. b && is_eq (rec_cmp x q)) e) in
      absurd (omega arith)
]

-- running totals at a stamp depend on how often each rec is there up to it
pub totals-same : (t : Stamp) (x : Rec) (xs ys : List Timed) → AreSameBags (timed_where (λ s. leq s t) xs) (timed_where (λ s. leq s t) ys)
    → ((q : Rec) → weigh (one t q) xs ≡ weigh (one t q) ys) → weigh (one t x) (running_totals xs) ≡ weigh (one t x) (running_totals ys)
totals-same t x xs ys f g =
    let us = timed_where (λ s. leq s t) xs in
    let vs = timed_where (λ s. leq s t) ys in
    totals-weigh t x xs
    ∙ weigh-same (total_at t x us) (total_at t x vs) xs
    (each-one (λ r. total_at t x us r ≡ total_at t x vs r) xs (λ r. ap (λ n. one t x (record { at = r.at; rec = record { key = r.rec.key; value = n } })) (value_sum-same r.rec.key us vs f)))
    ∙ weigh-equal (total_at t x vs) xs ys
    (λ u q l. subst (λ s. weigh (one s q) xs ≡ weigh (one s q) ys) (total_at-stamp t x vs (at_stamp u q) l) (g q))
    ∙ sym (totals-weigh t x ys)

-- there is no running total at a stamp where there is no rec
pub totals-none : (t : Stamp) (x : Rec) (rs : List Timed) → ((q : Rec) → weigh (one t q) rs ≡ 0) → weigh (one t x) (running_totals rs) ≡ 0
unfolding weigh
totals-none t x rs z =
    let upto = timed_where (λ s. leq s t) rs in
    totals-weigh t x rs
    ∙ weigh-equal (total_at t x upto) rs [] (λ u q l. subst (λ s. weigh (one s q) rs ≡ weigh (one s q) []) (total_at-stamp t x upto (at_stamp u q) l) (z q))

ledger-agrees : MakesTheSame (λ t s. leq s t) (λ bags. running_totals (joint_bag bags))
ledger-agrees t x bag cag ds k =
    let xs = joint_bag (map bag ds) in
    let ys = joint_bag (map cag ds) in
    let a = together-agrees (λ s. leq s t) bag cag ds k in
    totals-same t x xs ys (same_upto t xs ys a) (λ q. a t q (leq-refl t))

-- what is asked of what a ledger sends in all
pub each_running : (bounds : Bounds) (alone at_once inner : Type 0) → (alone → ⊥) → (at_once → ⊥)
    → IsLawfulWhole bounds bounds (λ t s. leq s t) alone at_once inner (λ batches bags. running_totals (joint_bag bags))
each_running bounds alone at_once inner n m = record {
  lands = λ batches bags l a. each-mapped (λ (r : Timed). in_domain bounds r.at ≡ true) (λ (r : Timed). in_domain bounds r.at ≡ true) _ (λ r i. i) (joint_bag bags) (each-together (λ (r : Timed). in_domain bounds r.at ≡ true) bags a);
  by_parts = λ k batches bags t. absurd (n k);
  fewer = λ k. absurd (m k);
  agrees = λ k batches t x bag cag ds f. ledger-agrees t x bag cag ds f;
}

-- ---- a node of one in-edge

-- a delivery is on the edge
abbrev IsOnEdge : ℕ → Event → Type 0
IsOnEdge e (Inject s x) = Unit {0}
IsOnEdge e (Deliver d m) = (d == e) ≡ true
IsOnEdge e (Notify p t) = Unit {0}

on_edge-case : (b : Bool) → cond b 1 0 + 0 ≡ 1 → b ≡ true
on_edge-case true k = refl
on_edge-case false k = absurd (omega arith)

on_edge-event : (flow : Dataflow) (p e : ℕ) → p < length flow.nodes → in_edges flow p ≡ e ∷ [] → (d : ℕ) → (receiver flow d == p) ≡ true → (d == e) ≡ true
unfolding weigh
on_edge-event flow p e l i d k =
    on_edge-case (d == e) (sym (ap (weigh (at_edge d 1)) i) ∙ in_edges-once flow p d 1 l ∙ ap (λ c. cond c 1 0) k)

on_edge : (flow : Dataflow) (p e : ℕ) → p < length flow.nodes → in_edges flow p ≡ e ∷ [] → (h : List Event) → AllByRecursion (IsOnEdge e) (events_at flow p h)
on_edge flow p e l i [] = tt
on_edge flow p e l i (Inject s x ∷ h) =
    let rest = on_edge flow p e l i h in
    cond_both (s == p) (Inject s x ∷ events_at flow p h) (events_at flow p h) (AllByRecursion (IsOnEdge e)) (λ k. (tt, rest)) (λ k. rest)
on_edge flow p e l i (Notify q t ∷ h) =
    let rest = on_edge flow p e l i h in
    cond_both (q == p) (Notify q t ∷ events_at flow p h) (events_at flow p h) (AllByRecursion (IsOnEdge e)) (λ k. (tt, rest)) (λ k. rest)
on_edge flow p e l i (Deliver d m ∷ h) =
    let rest = on_edge flow p e l i h in
    cond_both (receiver flow d == p) (Deliver d m ∷ events_at flow p h) (events_at flow p h) (AllByRecursion (IsOnEdge e))
    (λ k. (on_edge-event flow p e l i d k, rest)) (λ k. rest)

deliveries-on : (e : ℕ) (vs : List Event) → AllByRecursion (IsOnEdge e) vs → deliveries vs ≡ timed_of (delivered_messages vs e)
unfolding deliveries
deliveries-on e [] a = refl
deliveries-on e (Inject s x ∷ vs) a = deliveries-on e vs a.1
deliveries-on e (Notify p t ∷ vs) a = deliveries-on e vs a.1
deliveries-on e (Deliver d m ∷ vs) a =
    ap (λ rs. timed_message m ∷ rs) (deliveries-on e vs a.1) ∙ sym (ap (λ b. timed_of (cond b (m ∷ []) [] ++ delivered_messages vs e)) a.0)

one_edge : (ds : List ℕ) → length ds ≡ 1 → (a : ℕ) × (ds ≡ a ∷ [])
one_edge [] l = absurd (omega arith)
one_edge (a ∷ []) l = (a, refl)
one_edge (a ∷ b ∷ ds) l = absurd (omega arith)

-- what was delivered to a node of one in-edge was delivered on it
pub deliveries-one : (flow : Dataflow) (p e : ℕ) → p < length flow.nodes → in_edges flow p ≡ e ∷ [] → (h : List Event)
    → deliveries (events_at flow p h) ≡ timed_of (delivered_messages h e)
deliveries-one flow p e l i h =
    let a = subst (AllByRecursion (λ d. (d < length flow.edges) × (receiver flow d ≡ p))) i (in_edges-receive flow p) in
    deliveries-on e (events_at flow p h) (on_edge flow p e l i h) ∙ ap timed_of (delivered_at flow p e a.0.1 h)

-- the one in-edge of a ledger
pub record LedgerEdge (flow : Dataflow) (p : ℕ) : Type 0 where
  pub edge : ℕ
  pub only : in_edges flow p ≡ edge ∷ []
  pub received : receiver flow edge ≡ p
  pub numbered : is_numbered flow edge ≡ true

pub ledger_edge : (flow : Dataflow) → IsWellFormed flow → (p : ℕ) → p < length flow.nodes → kind_of flow p ≡ Ledger → LedgerEdge flow p
ledger_edge flow w p l is =
    let e = one_edge (in_edges flow p) (subst (λ k. IsInDegree k (length (in_edges flow p))) is (w.in_degrees p l)) in
    let a = subst (AllByRecursion (λ d. (d < length flow.edges) × (receiver flow d ≡ p))) e.1 (in_edges-receive flow p) in
    record {
      edge = e.0;
      only = e.1;
      received = a.0.1;
      numbered = ap (λ q. is_of_numbers (domain_of_kind flow (kind_of flow q))) a.0.1 ∙ ap (λ k. is_of_numbers (domain_of_kind flow k)) is;
    }

pub ledger-numbered : (sys : System) (h : List Event) → IsLegal sys h → (p : ℕ) → p < length sys.flow.nodes → (e : LedgerEdge sys.flow p)
    → AreNumbered (deliveries (events_at sys.flow p h))
ledger-numbered sys h l p n e =
    subst AreNumbered (sym (deliveries-one sys.flow p e.edge n e.only h)) (numbered-timed (delivered_messages h e.edge) (numbered-ascend sys h l e.edge e.numbered))

-- what a ledger sent for what was delivered
pub ledger-arrives : SendsForDelivered Ledger
ledger-arrives sys h p t n batches x =
    let flow = sys.flow in
    let xs = deliveries (events_at flow p h) in
    let ys = joint_bag (map (delivered_bag h) (in_edges flow p)) in
    let a : (u : Stamp) (r : Rec) → weigh (one u r) xs ≡ weigh (one u r) ys = λ u r. deliveries_together flow p n.declared (one u r) h in
    ledger-sent sys p n.is_kind (one t x) (events_at flow p h) (ledger-numbered sys h n.legal p n.declared (ledger_edge flow n.well_formed p n.declared n.is_kind))
    ∙ totals-same t x xs ys (same_upto t xs ys (λ u r i. a u r)) (λ q. a t q)
