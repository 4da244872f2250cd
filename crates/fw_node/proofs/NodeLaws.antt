-- How a node's past follows its events.
use Rattle.std.proofs.Common.{◌≡◌, ℕ, ◌+◌, Bool, true, false, cond, nat_le, List, [], ◌∷◌, ◌++◌, length, map, refl, sym, ap, ◌∙◌, arith}
use Rattle.std.specs.Prelude.{◌&&◌, ◌||◌, slice_index_or}
use Rattle.std.specs.List.{AllByRecursion}
use Rattle.std.proofs.lemmas.List.{length-append}
use Rattle.std.proofs.lemmas.Bool.{and_from, and_parts}
use Rattle.fw_time.specs.declared.stamp.Bounds.{Bounds}
use Rattle.fw_time.specs.Stamp.{Stamp, leq, same, in_domain}
use Rattle.fw_time.proofs.DomainLaws.{domain-length}
use Rattle.fw_bag.specs.declared.rec.Rec.{Rec}
use Rattle.fw_bag.specs.Arrivals.{Arrival}
use Rattle.fw_bag.specs.Keyed.{sorted_recs}
use Rattle.fw_frontier.specs.Front.{Front, inside}
use Rattle.fw_frontier.specs.Frontier.{Within}
use Rattle.fw_flow.specs.declared.event.Event.{Event}
use Rattle.fw_flow.specs.declared.event.Event.TheVariants.{Inject, Deliver, Notify}
use Rattle.fw_flow.specs.declared.event.Message.{Message}
use Rattle.fw_flow.specs.Kind.{Kind}
use Rattle.fw_flow.specs.declared.kind.Kind.TheVariants as kind
use Rattle.fw_flow.specs.Dataflow.{Dataflow, System, batches_of, bounds_of, kind_of, in_edges, greatest_number, is_input_kind, is_notified_kind, node_frontier, send_stamp, send_stamp_of_kind}
use Rattle.fw_flow.specs.NodeFunction.{numbered_messages, recs_on_notification, sends, sends_of_kind, sequence_sent}
use Rattle.fw_model.specs.Sending.{is_single_kind}
use Rattle.fw_model.specs.Told.{is_told, EachDelivery, AreToldInside, IsSumOfTold}
use Rattle.fw_table.specs.Sent.{sent_if_at}
use Rattle.fw_numbered.specs.Numbers.{recs_numbered}
use Rattle.fw_node.specs.Answers.{recs_for, recs_at_notice, without_causes}
use Rattle.fw_node.specs.Arrived.{arrived, place_in, AreOnEdges, IsOneOf}
use Rattle.fw_node.specs.Past.{past_of, notice_list, IsSumOfTaken, IsToldWhereNotified}
use Rattle.fw_node.specs.Sends.{notice_sends}
use Rattle.fw_node.proofs.EventLaws.{answers_notice, by_stamp, deliveries_answer, plain_messages}
use Rattle.fw_node.proofs.SameTable.{AreAlike}

-- ---- stamps

pub same_length : (bounds : Bounds) (s : Stamp) (n : ℕ) → in_domain bounds s ≡ true → n ≡ length bounds.greatest → length s ≡ n
same_length bounds s n d e = domain-length bounds s d ∙ sym e

-- what holds of the stamps of all deliveries holds of those of all arrivals
pub each_arrived : (ins : List ℕ) (P : Stamp → Type 0) (vs : List Event) → EachDelivery P vs → AllByRecursion (λ (a : Arrival). P a.at) (arrived ins vs)
each_arrived ins P [] e = tt
each_arrived ins P (Inject s x ∷ vs) e = each_arrived ins P vs e
each_arrived ins P (Deliver d m ∷ vs) e = (e.0, each_arrived ins P vs e.1)
each_arrived ins P (Notify p t ∷ vs) e = each_arrived ins P vs e

-- what follows for each stamp follows for those of all deliveries
pub each_of : (P Q : Stamp → Type 0) → ((s : Stamp) → P s → Q s) → (vs : List Event) → EachDelivery P vs → EachDelivery Q vs
each_of P Q f [] e = tt
each_of P Q f (Inject s x ∷ vs) e = each_of P Q f vs e
each_of P Q f (Deliver d m ∷ vs) e = (f m.at e.0, each_of P Q f vs e.1)
each_of P Q f (Notify p t ∷ vs) e = each_of P Q f vs e

-- a property of two of the stamps of all arrivals
pub both_arrived : (P Q R : Stamp → Type 0) → ((s : Stamp) → P s → Q s → R s) → (came : List Arrival) → AllByRecursion (λ (a : Arrival). P a.at) came
    → AllByRecursion (λ (a : Arrival). Q a.at) came → AllByRecursion (λ (a : Arrival). R a.at) came
both_arrived P Q R f [] p q = tt
both_arrived P Q R f (a ∷ came) p q = (f a.at p.0 q.0, both_arrived P Q R f came p.1 q.1)

-- and of one
pub weaker_arrived : (P R : Stamp → Type 0) → ((s : Stamp) → P s → R s) → (came : List Arrival) → AllByRecursion (λ (a : Arrival). P a.at) came
    → AllByRecursion (λ (a : Arrival). R a.at) came
weaker_arrived P R f [] p = tt
weaker_arrived P R f (a ∷ came) p = (f a.at p.0, weaker_arrived P R f came p.1)

-- a test within the domain finds the same where all lies in the domain
in_the_domain_alike : (d b : Bool) → d ≡ true → b ≡ (d && b)
in_the_domain_alike true b e = refl
in_the_domain_alike false b e = cc

pub domain_alike : (d test : Stamp → Bool) (ins : List ℕ) (vs : List Event) → EachDelivery (λ s. d s ≡ true) vs → AreAlike test (λ s. d s && test s) (arrived ins vs)
domain_alike d test ins vs h =
    weaker_arrived (λ s. d s ≡ true) (λ s. test s ≡ (d s && test s)) (λ s e. in_the_domain_alike (d s) (test s) e) (arrived ins vs) (each_arrived ins (λ s. d s ≡ true) vs h)

-- what lies within a test in the domain lies there within the test
pub within_domain : (d settled test : Stamp → Bool) → Within settled (λ s. d s && test s) → Within (λ s. d s && settled s) test
within_domain d settled test sub s h = (and_parts (d s) (test s) (sub s (and_parts (d s) (settled s) h).1)).1

-- ---- deliveries

-- what a delivery makes a node send, from what came to it
pub delivery_sends : (sys : System) (p : ℕ) (before : List Event) (e : ℕ) (m : Message) → IsOneOf (in_edges sys.flow p) e → AreOnEdges (in_edges sys.flow p) before
    → without_causes (sends sys p before (Deliver e m)) ≡ sent_if_at (send_stamp sys.flow p m.at)
    (recs_for (kind_of sys.flow p) (arrived (in_edges sys.flow p) before) (record { side = place_in (in_edges sys.flow p) e; at = m.at; rec = m.rec }))
unfolding sends
delivery_sends sys p before e m h o = by (kind_of sys.flow p) refl
  where
    came : List Arrival
    came = arrived (in_edges sys.flow p) before

    a : Arrival
    a = record { side = place_in (in_edges sys.flow p) e; at = m.at; rec = m.rec }

    by : (k : Kind) → kind_of sys.flow p ≡ k
        → without_causes (sends_of_kind sys (kind_of sys.flow p) before (Deliver e m)) ≡ sent_if_at (send_stamp_of_kind sys.flow (kind_of sys.flow p) m.at) (recs_for (kind_of sys.flow p) came a)
    by kind.Sequence is =
        ap (λ k. without_causes (sends_of_kind sys k before (Deliver e m))) is
        ∙ sym (ap (λ k. sent_if_at (send_stamp_of_kind sys.flow k m.at) (recs_for k came a)) is)
    by k is = deliveries_answer sys p before e m (ap is_single_kind is) h o

-- ---- notifications

numbers_cases : (b : Bool) (n : ℕ) (cause : Stamp) (r : Rec) (rest : List Message) (xs : List (Stamp × Rec)) → without_causes rest ≡ xs
    → without_causes (cond b (record { at = n ∷ []; rec = r; causes = cause ∷ [] } ∷ rest) []) ≡ cond b ((n ∷ [], r) ∷ xs) []
numbers_cases true n cause r rest xs h = ap (λ ys. (n ∷ [], r) ∷ ys) h
numbers_cases false n cause r rest xs h = refl

numbers_same : (n : ℕ) (cause : Stamp) (rs : List Rec) → without_causes (numbered_messages n cause rs) ≡ recs_numbered n rs
numbers_same n cause [] = refl
numbers_same n cause (r ∷ rs) =
    numbers_cases (nat_le n greatest_number) n cause r (numbered_messages (n + 1) cause rs) (recs_numbered (n + 1) rs) (numbers_same (n + 1) cause rs)

plain-length : (ms : List Message) → length (without_causes ms) ≡ length ms
plain-length [] = refl
plain-length (m ∷ ms) = let h = plain-length ms in omega arith

-- how many messages a sequence sent in all, after a notification more
pub numbered_after : (ins : List ℕ) (before : List Event) (t : Stamp)
    → length (recs_numbered (length (sequence_sent before)) (recs_at_notice kind.Sequence (arrived ins before) t)) + length (sequence_sent before)
    ≡ length (numbered_messages (length (sequence_sent before)) t (recs_on_notification kind.Sequence before t) ++ sequence_sent before)
numbered_after ins before t =
    let n : ℕ = length (sequence_sent before) in
    let rs : List Rec = recs_on_notification kind.Sequence before t in
    let a = length-append (numbered_messages n t rs) (sequence_sent before) in
    let b : length (numbered_messages n t rs) ≡ length (recs_numbered n (recs_at_notice kind.Sequence (arrived ins before) t)) =
    sym (plain-length (numbered_messages n t rs)) ∙ ap length (numbers_same n t rs)
    ∙ ap (λ xs. length (recs_numbered n xs)) (answers_notice kind.Sequence ins before t) in
    omega arith

-- what a notification makes a node send, from its past and from its events
pub notice_same : (k : Kind) (ins : List ℕ) (settled : Stamp → Bool) (before : List Event) (t : Stamp)
    → notice_list k (past_of ins settled before) t ≡ notice_sends k before t
notice_same kind.Sequence ins settled before t =
    ap (recs_numbered (length (sequence_sent before))) (sym (answers_notice kind.Sequence ins before t))
    ∙ sym (numbers_same (length (sequence_sent before)) t (recs_on_notification kind.Sequence before t))
notice_same k ins settled before t = ap (λ rs. map (λ (r : Rec). (t, r)) (sorted_recs rs)) (sym (answers_notice k ins before t))

-- a total's running totals
pub sum_of_taken : (k : Kind) (ins : List ℕ) (settled : Stamp → Bool) (before : List Event) (t : Stamp) → (k ≡ kind.Total → IsSumOfTold settled before t)
    → IsSumOfTaken k (past_of ins settled before) t
sum_of_taken kind.Total ins settled before t h =
    sym (by_stamp ins (λ s. leq s t) before) ∙ h refl ∙ by_stamp ins (λ s. same s t || (settled s || is_told before s)) before
sum_of_taken _ ins settled before t h = tt

-- ---- settling

told_cases : (d i t : Bool) → d ≡ true → ((d && i) ≡ true → t ≡ true) → i ≡ true → t ≡ true
told_cases d i t e h k = h (and_from d i e k)

-- where what is settled was told, what came inside was told
pub told_where : (flow : Dataflow) (p : ℕ) (ins : List ℕ) (f : Front) (settled : Stamp → Bool) (before : List Event) → EachDelivery (λ s. in_domain (bounds_of flow p) s ≡ true) before
    → (is_notified_kind (kind_of flow p) ≡ true → AreToldInside (node_frontier flow p f) before)
    → IsToldWhereNotified (kind_of flow p) (past_of ins settled before) (inside f)
told_where flow p ins f settled before d h = λ n.
    both_arrived (λ s. in_domain (bounds_of flow p) s ≡ true) (λ s. node_frontier flow p f s ≡ true → is_told before s ≡ true) (λ s. inside f s ≡ true → is_told before s ≡ true)
    (λ s e t. told_cases (in_domain (bounds_of flow p) s) (inside f s) (is_told before s) e t)
    (arrived ins before) (each_arrived ins _ before d) (each_arrived ins _ before (h n))

-- ---- injections

is_input : (sys : System) (p : ℕ) (before : List Event) (x : ℕ) (k : Kind) → is_input_kind k ≡ true
    → without_causes (sends_of_kind sys k before (Inject p x)) ≡ map (λ (r : Rec). (x ∷ [], r)) (slice_index_or (batches_of sys p) x [])
is_input sys p before x kind.Input h = plain_messages (x ∷ []) (x ∷ []) (slice_index_or (batches_of sys p) x [])
is_input sys p before x k h = cc

pub injection_sends : (sys : System) (p : ℕ) (before : List Event) (x : ℕ) → is_input_kind (kind_of sys.flow p) ≡ true
    → without_causes (sends sys p before (Inject p x)) ≡ map (λ (r : Rec). (x ∷ [], r)) (slice_index_or (batches_of sys p) x [])
unfolding sends
injection_sends sys p before x h = is_input sys p before x (kind_of sys.flow p) h
