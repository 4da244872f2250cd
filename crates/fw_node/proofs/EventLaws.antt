-- What a node is to answer, from its events and from what came.
use Rattle.std.proofs.Common.{◌≡◌, ℕ, ◌+◌, ◌==◌, ◌++◌, Bool, true, false, cond, not, List, [], ◌∷◌, map, refl, sym, ap, ◌∙◌, arith}
use Rattle.std.specs.Prelude.{◌&&◌, ◌||◌}
use Rattle.std.specs.List.{list_any}
use Rattle.std.proofs.lemmas.Bool.{eqb-true}
use Rattle.std.proofs.lemmas.Bool.Decides.{nat_tests}
use Rattle.fw_model.proofs.KindSorts.{single-no_sequence}
use Rattle.fw_time.specs.Stamp.{Stamp, leq, same}
use Rattle.fw_bag.specs.declared.rec.Rec.{Rec}
use Rattle.fw_bag.specs.Keyed.{is_among, joined_rec, plus, value_sum, sorted_recs, sums_of, distinct_keys}
use Rattle.fw_flow.specs.declared.event.Event.{Event}
use Rattle.fw_flow.specs.declared.event.Event.TheVariants.{Inject, Deliver, Notify}
use Rattle.fw_flow.specs.Kind.{Kind}
use Rattle.fw_flow.specs.declared.kind.Kind.TheVariants as kind
use Rattle.std.proofs.Common.{Option, Some, None}
use Rattle.fw_lemmas.proofs.Numbers.{eqb-sym}
use Rattle.fw_flow.specs.Dataflow.{System, kind_of, in_edges, send_stamp, send_stamp_of_kind, is_sequence_kind}
use Rattle.fw_flow.specs.NodeFunction.{event_stamp, delivered_recs, recs_on, recs_on_delivery, recs_on_notification, messages_at, messages_at_some, sends_of_kind, sends}
use Rattle.fw_bag.proofs.ArrivalLaws.{where-filter}
use Rattle.fw_bag.specs.Arrivals.{Arrival, recs_where, arrivals_at, recs_of}
use Rattle.fw_node.specs.Answers.{recs_for, recs_at_notice, without_causes}
use Rattle.fw_node.specs.Arrived.{place_in, arrived, AreOnEdges}
use Rattle.fw_node.specs.LawsOfAnswers.{DeliveriesAnswer, NotificationsAnswer}
use Rattle.fw_table.specs.Sent.{sent_if_at}

-- ---- recs by a test

shown : (b : Bool) (r : Rec) (rs : List Rec) → cond b (r ∷ []) [] ++ rs ≡ cond b (r ∷ rs) rs
shown true r rs = refl
shown false r rs = refl

-- the recs of deliveries by a test of their stamps
pub by_stamp : (ins : List ℕ) (q : Stamp → Bool) (vs : List Event) → delivered_recs (λ d s. q s) vs ≡ recs_where (λ a. q a.at) (arrived ins vs)
by_stamp ins q [] = refl
by_stamp ins q (Inject s x ∷ vs) = by_stamp ins q vs
by_stamp ins q (Deliver e m ∷ vs) =
    shown (q m.at) m.rec (delivered_recs (λ d s. q s) vs) ∙ ap (λ rs. cond (q m.at) (m.rec ∷ rs) rs) (by_stamp ins q vs)
by_stamp ins q (Notify p t ∷ vs) = by_stamp ins q vs

-- the recs that came at a stamp
pub at_stamp : (ins : List ℕ) (t : Stamp) (vs : List Event) → delivered_recs (λ d s. same s t) vs ≡ recs_of (arrivals_at t (arrived ins vs))
at_stamp ins t vs = by_stamp ins (λ s. same s t) vs ∙ where-filter (λ a. same a.at t) (arrived ins vs)

pub all_recs : (came : List Arrival) → recs_where (λ a. true) came ≡ recs_of came
all_recs [] = refl
all_recs (a ∷ came) = ap (λ rs. a.rec ∷ rs) (all_recs came)

-- ---- the other edges

zero_suc : (n : ℕ) → (0 == n + 1) ≡ false
zero_suc n = grind (arith, nat_tests)

suc_zero : (n : ℕ) → (n + 1 == 0) ≡ false
suc_zero n = grind (arith, nat_tests)

suc_suc : (m n : ℕ) → (m + 1 == n + 1) ≡ (m == n)
suc_suc m n = grind (arith, nat_tests)

place_cases : (c : ℕ) (ins : List ℕ) (d e : ℕ) → (list_any (λ i. i == d) ins ≡ true → list_any (λ i. i == e) ins ≡ true → (d == e) ≡ (place_in ins d == place_in ins e))
    → (a b : Bool) → (c == d) ≡ a → (c == e) ≡ b → (a || list_any (λ i. i == d) ins) ≡ true → (b || list_any (λ i. i == e) ins) ≡ true
    → (d == e) ≡ (cond a 0 (place_in ins d + 1) == cond b 0 (place_in ins e + 1))
place_cases c ins d e ih true true p q h k = ap (λ i. i == e) (sym (eqb-true c d p)) ∙ q
place_cases c ins d e ih true false p q h k = ap (λ i. i == e) (sym (eqb-true c d p)) ∙ q ∙ sym (zero_suc (place_in ins e))
place_cases c ins d e ih false true p q h k =
    eqb-sym d e ∙ ap (λ i. i == d) (sym (eqb-true c e q)) ∙ p ∙ sym (suc_zero (place_in ins d))
place_cases c ins d e ih false false p q h k = ih h k ∙ sym (suc_suc (place_in ins d) (place_in ins e))

-- edges are one where their places are
pub place_tells : (ins : List ℕ) (d e : ℕ) → list_any (λ i. i == d) ins ≡ true → list_any (λ i. i == e) ins ≡ true
    → (d == e) ≡ (place_in ins d == place_in ins e)
place_tells [] d e h k = cc
place_tells (c ∷ ins) d e h k = place_cases c ins d e (place_tells ins d e) (c == d) (c == e) refl refl h k

-- the recs that came at a stamp on the other edges
pub on_others : (ins : List ℕ) (e : ℕ) (t : Stamp) → list_any (λ i. i == e) ins ≡ true → (vs : List Event) → AreOnEdges ins vs
    → delivered_recs (λ d s. not (d == e) && same s t) vs ≡ recs_where (λ a. not (a.side == place_in ins e) && same a.at t) (arrived ins vs)
on_others ins e t h [] o = refl
on_others ins e t h (Inject s x ∷ vs) o = on_others ins e t h vs o
on_others ins e t h (Deliver d m ∷ vs) o =
    let rest : List Rec = delivered_recs (λ i s. not (i == e) && same s t) vs in
    shown (not (d == e) && same m.at t) m.rec rest
    ∙ ap (λ b. cond (not b && same m.at t) (m.rec ∷ rest) rest) (place_tells ins d e o.0 h)
    ∙ ap (λ rs. cond (not (place_in ins d == place_in ins e) && same m.at t) (m.rec ∷ rs) rs) (on_others ins e t h vs o.1)
on_others ins e t h (Notify p u ∷ vs) o = on_others ins e t h vs o

-- ---- what is sent

-- on a delivery
pub answers_delivery : (k : Kind) (ins : List ℕ) (vs : List Event) (e : ℕ) (t : Stamp) (r : Rec)
    → list_any (λ i. i == e) ins ≡ true → AreOnEdges ins vs
    → recs_on_delivery k vs e t r ≡ recs_for k (arrived ins vs) (record { side = place_in ins e; at = t; rec = r })
answers_delivery (kind.Select selection w) ins vs e t r h o = refl
answers_delivery (kind.Concat w) ins vs e t r h o = refl
answers_delivery (kind.Enter l) ins vs e t r h o = refl
answers_delivery (kind.Feedback l) ins vs e t r h o = refl
answers_delivery (kind.Leave l) ins vs e t r h o = refl
answers_delivery (kind.Regroup n) ins vs e t r h o = refl
answers_delivery (kind.Distinct w) ins vs e t r h o = ap (λ rs. cond (is_among r rs) [] (r ∷ [])) (at_stamp ins t vs)
answers_delivery (kind.Join w) ins vs e t r h o = ap (joined_rec r) (on_others ins e t h vs o)
answers_delivery kind.Ledger ins vs e t r h o =
    ap (λ rs. record { key = r.key; value = plus r.value (value_sum r.key rs) } ∷ []) (by_stamp ins (λ s. true) vs ∙ all_recs (arrived ins vs))
answers_delivery _ ins vs e t r h o = refl

-- on a notification
pub answers_notice : (k : Kind) (ins : List ℕ) (vs : List Event) (t : Stamp)
    → recs_on_notification k vs t ≡ recs_at_notice k (arrived ins vs) t
answers_notice (kind.Sum w) ins vs t = ap (λ rs. sums_of (distinct_keys rs) rs) (at_stamp ins t vs)
answers_notice kind.Total ins vs t =
    ap (λ rs. sums_of (distinct_keys rs) (delivered_recs (λ d s. leq s t) vs)) (at_stamp ins t vs)
    ∙ ap (λ rs. sums_of (distinct_keys (recs_of (arrivals_at t (arrived ins vs)))) rs) (by_stamp ins (λ s. leq s t) vs)
answers_notice kind.Sequence ins vs t = ap sorted_recs (at_stamp ins t vs)
answers_notice _ ins vs t = refl

-- ---- the node function

by_send_stamp : (sys : System) (k : Kind) (before : List Event) (v : Event) → is_sequence_kind k ≡ false
    → sends_of_kind sys k before v ≡ messages_at_some (send_stamp_of_kind sys.flow k (event_stamp v)) (event_stamp v) (recs_on sys k before v)
by_send_stamp sys kind.Sequence before v h = cc
by_send_stamp sys _ before v h = refl

pub plain_messages : (at cause : Stamp) (rs : List Rec) → without_causes (messages_at at cause rs) ≡ map (λ (r : Rec). (at, r)) rs
plain_messages at cause [] = refl
plain_messages at cause (r ∷ rs) = ap (λ xs. (at, r) ∷ xs) (plain_messages at cause rs)

plain_some : (o : Option Stamp) (cause : Stamp) (rs : List Rec) → without_causes (messages_at_some o cause rs) ≡ sent_if_at o rs
plain_some None cause rs = refl
plain_some (Some at) cause rs = plain_messages at cause rs

pub deliveries_answer : DeliveriesAnswer
unfolding sends
deliveries_answer sys p before e m n h o =
    ap without_causes (by_send_stamp sys (kind_of sys.flow p) before (Deliver e m) (single-no_sequence (kind_of sys.flow p) n))
    ∙ plain_some (send_stamp sys.flow p m.at) m.at (recs_on_delivery (kind_of sys.flow p) before e m.at m.rec)
    ∙ ap (sent_if_at (send_stamp sys.flow p m.at)) (answers_delivery (kind_of sys.flow p) (in_edges sys.flow p) before e m.at m.rec h o)

pub notifications_answer : NotificationsAnswer
unfolding sends
notifications_answer sys p before t n =
    ap without_causes (by_send_stamp sys (kind_of sys.flow p) before (Notify p t) n)
    ∙ plain_some (send_stamp sys.flow p t) t (recs_on_notification (kind_of sys.flow p) before t)
    ∙ ap (sent_if_at (send_stamp sys.flow p t)) (answers_notice (kind_of sys.flow p) (in_edges sys.flow p) before t)
