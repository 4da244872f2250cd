-- Which node is one of a flow, and that what it sends can be sent.
use Rattle.std.proofs.Common.{◌≡◌, ◌==◌, ℕ, ◌+◌, ◌<◌, ◌≤◌, ◌^◌, Bool, true, List, [], ◌∷◌, map, length, Option, Some, None, refl, sym, ap, subst, ◌∙◌, arith}
use Rattle.std.specs.List.{AllByRecursion}
use Rattle.std.proofs.lemmas.Bool.Decides.{nat_tests}
use Rattle.fw_time.specs.Stamp.{Stamp, in_domain}
use Rattle.fw_time.specs.declared.stamp.Bounds.{Bounds}
use Rattle.fw_time.specs.Sending.{entered_stamp, fed_back_stamp, left_stamp, regrouped_stamp}
use Rattle.fw_bag.specs.declared.rec.Rec.{Rec}
use Rattle.fw_bag.specs.Arrivals.{Arrival}
use Rattle.fw_flow.specs.declared.event.Event.{Event}
use Rattle.fw_flow.specs.declared.kind.Domain.TheVariants.{Number}
use Rattle.fw_flow.specs.Kind.{Kind}
use Rattle.fw_flow.specs.declared.kind.Kind.TheVariants as kind
use Rattle.fw_flow.specs.Dataflow.{Dataflow, kind_of, sender, greatest_number, domain_of_kind, out_domain_of_kind, bounds_of, bounds_of_domain, max_of, send_stamp_of_kind, is_input_kind, is_sequence_kind}
use Rattle.fw_flow.specs.WellFormed.{IsWellFormed}
use Rattle.fw_model.proofs.SendingLaws.{send_stamp_of_kind-in_domain}
use Rattle.fw_model.proofs.StampLaws.{line-leq}
use Rattle.fw_numbered.specs.Numbers.{at_numbers}
use Rattle.fw_table.specs.declared.sent.Sent.{Sent}
use Rattle.fw_table.specs.Sent.{sent_if_at}
use Rattle.std.specs.declared.cmp.Ordering.{Ordering}
use Rattle.std.proofs.lemmas.Bool.{eqb-true}
use Rattle.fw_time.specs.declared.time.Nest.{Nest}
use Rattle.fw_node.specs.Answers.{sent_list}
use Rattle.fw_node.specs.declared.at_time.AtTime.{AtTime}
use Rattle.fw_node.specs.declared.at_time.AtTime.TheVariants as at_time
use Rattle.fw_node.specs.declared.in_loop.InLoop.{InLoop}
use Rattle.fw_node.specs.declared.in_loop.InLoop.TheVariants as loop_table
use Rattle.fw_node.specs.declared.node.Node.{Node}
use Rattle.fw_node.specs.declared.sends.Sends.{Sends}
use Rattle.fw_node.specs.declared.sends.Sends.TheVariants.{AtOneStamp}
use Rattle.fw_node.specs.declared.table.Table.{Table}
use Rattle.fw_node.specs.declared.table.Table.TheVariants as table
use Rattle.fw_node.specs.Kinds.{is_timed}
use Rattle.fw_node.specs.LoopTable.{IsLoopTable}
use Rattle.fw_node.specs.NodeOf.{is_feedback_up_to, is_leave, is_enter, is_total, is_ledger, is_regroup_of, is_loop_table_of, is_table_of, IsNodeOf, stamps_of, CanBeSent, AreAllAt, AreSentAt}
use Rattle.fw_node.specs.NodeTable.{IsNodeTable}
use Rattle.fw_node.specs.Past.{Past}
use Rattle.fw_node.specs.Sends.{sends_list}
use Rattle.fw_node.specs.TableOf.{IsTableOf}
use Rattle.fw_node.specs.TimedTable.{IsTimedTable}

-- ---- of which kind a table is

timed-of : {T : Type 0} (cmp : T → T → Ordering) (coords : T → Stamp) (s : AtTime T) (k : Kind) (came : List Arrival) → IsTimedTable cmp coords s k came → is_timed k ≡ true
timed-of cmp coords (at_time.Select s) (kind.Select selection w) came r = refl
timed-of cmp coords (at_time.Select s) _ came r = absurd r
timed-of cmp coords (at_time.Concat s) (kind.Concat w) came r = refl
timed-of cmp coords (at_time.Concat s) _ came r = absurd r
timed-of cmp coords (at_time.Distinct s) (kind.Distinct w) came r = refl
timed-of cmp coords (at_time.Distinct s) _ came r = absurd r
timed-of cmp coords (at_time.Join s) (kind.Join w) came r = refl
timed-of cmp coords (at_time.Join s) _ came r = absurd r
timed-of cmp coords (at_time.Sum s) (kind.Sum w) came r = refl
timed-of cmp coords (at_time.Sum s) _ came r = absurd r

same-number : (n m : ℕ) → n ≡ m → (n == m) ≡ true
same-number n m e = grind (arith, nat_tests)

loop-of : {T : Type 0} (cmp : Nest T → Nest T → Ordering) (coords : Nest T → Stamp) (flow : Dataflow) (s : InLoop T) (k : Kind) (came : List Arrival)
    → IsLoopTable cmp coords flow s k came → is_loop_table_of flow k s ≡ true
loop-of cmp coords flow (loop_table.Here s) k came r = timed-of cmp coords s k came r
loop-of cmp coords flow (loop_table.Feedback f) (kind.Feedback l) came r = same-number f.max (max_of flow l) r
loop-of cmp coords flow (loop_table.Feedback f) _ came r = absurd r
loop-of cmp coords flow (loop_table.Leave f) (kind.Leave l) came r = refl
loop-of cmp coords flow (loop_table.Leave f) _ came r = absurd r

-- the table that a node has after what came is one of its kind
pub table-of : (flow : Dataflow) (t : Table) (k : Kind) (past : Past) → IsNodeTable flow t k past → is_table_of flow k t ≡ true
table-of flow table.Idle k past r = r
table-of flow (table.Outside s) k past r = timed-of _ _ s k _ r
table-of flow (table.Loop s) k past r = loop-of _ _ flow s k _ r
table-of flow (table.Loop2 s) k past r = loop-of _ _ flow s k _ r
table-of flow (table.Loop3 s) k past r = loop-of _ _ flow s k _ r
table-of flow (table.Enter s) (kind.Enter l) past r = refl
table-of flow (table.Enter s) _ past r = absurd r
table-of flow (table.Enter2 s) (kind.Enter l) past r = refl
table-of flow (table.Enter2 s) _ past r = absurd r
table-of flow (table.Enter3 s) (kind.Enter l) past r = refl
table-of flow (table.Enter3 s) _ past r = absurd r
table-of flow (table.Total s) kind.Total past r = refl
table-of flow (table.Total s) _ past r = absurd r
table-of flow (table.Sequence s) kind.Sequence past r = refl
table-of flow (table.Sequence s) _ past r = absurd r
table-of flow (table.Ledger s) kind.Ledger past r = refl
table-of flow (table.Ledger s) _ past r = absurd r
table-of flow (table.Regroup s) (kind.Regroup n) past r = same-number s.size n r
table-of flow (table.Regroup s) _ past r = absurd r

-- a node that stands for events of node p is one of p
pub node-of : (flow : Dataflow) (p : ℕ) (settled : Stamp → Bool) (node : Node) (before : List Event) → IsTableOf flow p settled node before → IsNodeOf flow p node
node-of flow p settled node before r = record { table = table-of flow node.table (kind_of flow p) _ r.table; sides = r.sides; bounds = r.bounds }

-- ---- at which stamps what is sent is

all-at : (t : Stamp) (rs : List Rec) → AreAllAt (Some t) (map (λ r. (t, r)) rs)
all-at t [] = tt
all-at t (r ∷ rs) = (refl, all-at t rs)

at-some : (o : Option Stamp) (rs : List Rec) → AreAllAt o (sent_if_at o rs)
at-some None rs = tt
at-some (Some t) rs = all-at t rs

sent-all : (sent : Sent Stamp) (t : Stamp) → sent.at ≡ t → AreAllAt (Some t) (sent_list sent)
sent-all sent t e = subst (λ s. AreAllAt (Some s) (sent_list sent)) e (all-at sent.at sent.recs)

-- nothing is at any stamp
pub none-sent : (flow : Dataflow) (k : Kind) (t : Stamp) (sent : List (Stamp × Rec)) → sent ≡ [] → AreSentAt flow k t sent
none-sent flow k t sent e = subst (AreSentAt flow k t) (sym e) (by k)
  where
    by : (x : Kind) → AreSentAt flow x t []
    by kind.Sequence = tt
    by _ = tt

pub timed-sent : (flow : Dataflow) (k : Kind) (t : Stamp) (sent : Sent Stamp) → is_timed k ≡ true → sent.at ≡ t → AreSentAt flow k t (sent_list sent)
timed-sent flow (kind.Select selection w) t sent i e = sent-all sent t e
timed-sent flow (kind.Concat w) t sent i e = sent-all sent t e
timed-sent flow (kind.Distinct w) t sent i e = sent-all sent t e
timed-sent flow (kind.Join w) t sent i e = sent-all sent t e
timed-sent flow (kind.Sum w) t sent i e = sent-all sent t e
timed-sent flow _ t sent i e = absurd (cc)

pub total-sent : (flow : Dataflow) (k : Kind) (t : Stamp) (sent : Sent Stamp) → is_total k ≡ true → sent.at ≡ t → AreSentAt flow k t (sent_list sent)
total-sent flow kind.Total t sent i e = sent-all sent t e
total-sent flow _ t sent i e = absurd (cc)

pub ledger-sent : (flow : Dataflow) (k : Kind) (t : Stamp) (sent : Sent Stamp) → is_ledger k ≡ true → sent.at ≡ t → AreSentAt flow k t (sent_list sent)
ledger-sent flow kind.Ledger t sent i e = sent-all sent t e
ledger-sent flow _ t sent i e = absurd (cc)

pub feedback-sent : (flow : Dataflow) (k : Kind) (max : ℕ) (t : Stamp) (sent : List (Stamp × Rec)) (rs : List Rec) → is_feedback_up_to flow max k ≡ true → sent ≡ sent_if_at (fed_back_stamp max t) rs
    → AreSentAt flow k t sent
feedback-sent flow (kind.Feedback l) max t sent rs i e =
    subst (λ n. AreAllAt (fed_back_stamp n t) sent) (eqb-true max (max_of flow l) i) (subst (AreAllAt (fed_back_stamp max t)) (sym e) (at-some (fed_back_stamp max t) rs))
feedback-sent flow _ max t sent rs i e = absurd (cc)

pub leave-sent : (flow : Dataflow) (k : Kind) (t : Stamp) (sent : List (Stamp × Rec)) (rs : List Rec) → is_leave k ≡ true → sent ≡ sent_if_at (left_stamp t) rs → AreSentAt flow k t sent
leave-sent flow (kind.Leave l) t sent rs i e = subst (AreAllAt (left_stamp t)) (sym e) (at-some (left_stamp t) rs)
leave-sent flow _ t sent rs i e = absurd (cc)

pub enter-sent : (flow : Dataflow) (k : Kind) (t : Stamp) (sent : List (Stamp × Rec)) (rs : List Rec) → is_enter k ≡ true → sent ≡ sent_if_at (entered_stamp t) rs → AreSentAt flow k t sent
enter-sent flow (kind.Enter l) t sent rs i e = subst (AreAllAt (entered_stamp t)) (sym e) (at-some (entered_stamp t) rs)
enter-sent flow _ t sent rs i e = absurd (cc)

pub regroup-sent : (flow : Dataflow) (k : Kind) (size : ℕ) (t : Stamp) (sent : List (Stamp × Rec)) (rs : List Rec) → is_regroup_of size k ≡ true → sent ≡ sent_if_at (regrouped_stamp size t) rs
    → AreSentAt flow k t sent
regroup-sent flow (kind.Regroup n) size t sent rs i e =
    subst (λ m. AreAllAt (regrouped_stamp m t) sent) (eqb-true size n i) (subst (AreAllAt (regrouped_stamp size t)) (sym e) (at-some (regrouped_stamp size t) rs))
regroup-sent flow _ size t sent rs i e = absurd (cc)

numbers-all : (flow : Dataflow) (n : ℕ) (rs : List Rec) → n + length rs ≤ 2 ^ 32 → AllByRecursion (λ (x : Stamp × Rec). in_domain (bounds_of_domain flow Number) x.0 ≡ true) (at_numbers n rs)
numbers-all flow n [] l = tt
numbers-all flow n (r ∷ rs) l = (line-leq n greatest_number (omega arith), numbers-all flow (n + 1) rs (omega arith))

pub numbers-sent : (flow : Dataflow) (k : Kind) (t : Stamp) (n : ℕ) (rs : List Rec) → is_sequence_kind k ≡ true → n + length rs ≤ 2 ^ 32 → AreSentAt flow k t (at_numbers n rs)
numbers-sent flow kind.Sequence t n rs i l = numbers-all flow n rs l
numbers-sent flow _ t n rs i l = absurd (cc)

-- ---- that it can be sent

each-mapped : (P : Stamp → Type 0) (Q : Stamp × Rec → Type 0) → ((x : Stamp × Rec) → Q x → P x.0) → (sent : List (Stamp × Rec)) → AllByRecursion Q sent → AllByRecursion P (map (λ x. x.0) sent)
each-mapped P Q f [] a = tt
each-mapped P Q f (x ∷ xs) a = (f x a.0, each-mapped P Q f xs a.1)

-- what is sent is of the domain of the edges
in_out_domain : (flow : Dataflow) (k : Kind) (t : Stamp) (sent : List (Stamp × Rec)) → in_domain (bounds_of_domain flow (domain_of_kind flow k)) t ≡ true → AreSentAt flow k t sent
    → AllByRecursion (λ s. in_domain (bounds_of_domain flow (out_domain_of_kind flow k)) s ≡ true) (map (λ x. x.0) sent)
in_out_domain flow kind.Sequence t sent d a =
    each-mapped (λ s. in_domain (bounds_of_domain flow Number) s ≡ true) (λ x. in_domain (bounds_of_domain flow Number) x.0 ≡ true) (λ x i. i) sent a
in_out_domain flow k t sent d a =
    each-mapped (λ s. in_domain (bounds_of_domain flow (out_domain_of_kind flow k)) s ≡ true) (λ x. send_stamp_of_kind flow k t ≡ Some x.0)
    (λ x i. send_stamp_of_kind-in_domain flow k t x.0 d i) sent a

pub can-send : (flow : Dataflow) (p : ℕ) (t : Stamp) (sends : Sends) → IsWellFormed flow → in_domain (bounds_of flow p) t ≡ true → AreSentAt flow (kind_of flow p) t (sends_list sends)
    → CanBeSent flow p (stamps_of sends)
unfolding bounds_of
can-send flow p t sends w d a = λ e l s.
    let P : ℕ → Type 0 = λ q. AllByRecursion (λ u. in_domain (bounds_of_domain flow (out_domain_of_kind flow (kind_of flow q))) u ≡ true) (stamps_of sends) in
    let here : P (sender flow e) = subst P (sym s) (in_out_domain flow (kind_of flow p) t (sends_list sends) d a) in
    subst (λ domain. AllByRecursion (λ u. in_domain (bounds_of_domain flow domain) u ≡ true) (stamps_of sends)) (w.domains e l) here

input-in_domain : (flow : Dataflow) (k : Kind) (n : ℕ) → is_input_kind k ≡ true → n < 2 ^ 32 → in_domain (bounds_of_domain flow (domain_of_kind flow k)) (n ∷ []) ≡ true
input-in_domain flow kind.Input n i l = line-leq n greatest_number (omega arith)
input-in_domain flow _ n i l = absurd (cc)

input-sent : (flow : Dataflow) (k : Kind) (t : Stamp) (sent : Sent Stamp) → is_input_kind k ≡ true → sent.at ≡ t → AreSentAt flow k t (sent_list sent)
input-sent flow kind.Input t sent i e = sent-all sent t e
input-sent flow _ t sent i e = absurd (cc)

-- what an input injects at an epoch
pub input-can_send : (flow : Dataflow) (p n : ℕ) (sent : Sent Stamp) → IsWellFormed flow → is_input_kind (kind_of flow p) ≡ true → n < 2 ^ 32 → sent.at ≡ n ∷ []
    → CanBeSent flow p (stamps_of (AtOneStamp sent))
unfolding bounds_of
input-can_send flow p n sent w i l e = can-send flow p (n ∷ []) (AtOneStamp sent) w (input-in_domain flow (kind_of flow p) n i l) (input-sent flow (kind_of flow p) (n ∷ []) sent i e)

-- a stamp of a node's bounds is of its domain
pub of_node : (flow : Dataflow) (p : ℕ) (node : Node) (t : Stamp) → IsNodeOf flow p node → in_domain node.bounds t ≡ true → in_domain (bounds_of flow p) t ≡ true
of_node flow p node t n d = sym (ap (λ (b : Bounds). in_domain b t) n.bounds) ∙ d
