-- What is left of each part where nodes fail.
use Rattle.std.proofs.Common.{◌≡◌, ℕ, Bool, true, false, cond, not, ◌||◌, ◌&&◌, if◌then◌else◌, List, [], length, refl, sym, ap, ◌∙◌, arith, ◌<◌, Option, None}
use Rattle.std.proofs.lemmas.Bool.{or_right}
use Rattle.std.proofs.lemmas.List.FromFn.{get_or-map-range_with_len}
use Rattle.fw_bag.specs.declared.rec.Rec.{Rec}
use Rattle.fw_flow.specs.Dataflow.{kind_of, policy_of, sender, receiver, is_one_of, is_input_kind, is_output_kind, System}
use Rattle.fw_flow.specs.declared.event.Message.{Message}
use Rattle.fw_flow.specs.Restoring.{can_resend}
use Rattle.fw_flow.specs.WellFormed.{IsWellFormedSystem}
use Rattle.fw_flow.specs.declared.step.Step.TheVariants.{Fail}
use Rattle.fw_model.specs.History.{pending_messages, sent_messages}
use Rattle.fw_model.specs.Filtering.{messages_outside}
use Rattle.fw_model.specs.Machine.{events, family_of, is_failed, ack_count_of, Machine}
use Rattle.fw_model.specs.SortedMessages.{sorted_messages}
use Rattle.fw_model.specs.Steps.{recs_at_output, LeadsTo, silent, is_in_flight}
use Rattle.fw_model.specs.Auto.{IsIdle}
use Rattle.std.proofs.Common.{nat_lt}
use Rattle.fw_lemmas.proofs.Bools.{two_ways}
use Rattle.fw_stands.specs.Failures.{failed_state, KeepsWhatSurvives}
use Rattle.fw_stands.specs.Parts.{kept_recs, logged, queued, IsTableIn}
use Rattle.fw_stands.proofs.NodeCheckpoints.{checkpoints-left}
use Rattle.fw_stands.proofs.TableBaseLaws.{same-front, same_table-stands}
use Rattle.fw_node.specs.declared.node.Node.{Node}

-- ---- the step

-- where one of the nodes is declared and not failed, their failure leads to the state in which they are failed too
pub live_node-fails : (sys : System) (state : Machine) (ps : List ℕ) (p : ℕ) → p < length sys.flow.nodes → is_one_of p ps ≡ true
    → is_failed state p ≡ false → LeadsTo sys state (Fail ps) (failed_state sys state ps) silent
live_node-fails sys state ps p l i f = (p, l, i, f, refl, refl)

-- where each of them that is declared is failed, their failure is idle
pub all_failed-idle : (sys : System) (state : Machine) (ps : List ℕ)
    → ((p : ℕ) → p < length sys.flow.nodes → is_one_of p ps ≡ true → is_failed state p ≡ true) → IsIdle sys state (Fail ps)
all_failed-idle sys state ps k next effect t = two_ways (is_failed state t.0) (k t.0 t.1 t.2) t.3

-- then those are failed that were, and these
pub failures-add : (sys : System) (state : Machine) (ps : List ℕ) (p : ℕ) → p < length sys.flow.nodes
    → is_failed (failed_state sys state ps) p ≡ (is_failed state p || is_one_of p ps)
failures-add sys state ps p l =
    get_or-map-range_with_len (λ q. is_failed state q || is_one_of q ps) 0 (length sys.flow.nodes) p p false l (omega arith)

-- ---- tests

or-false : (a b : Bool) → b ≡ false → (a || b) ≡ a
or-false true b e = refl
or-false false b e = e

-- what is there of a node that is not failed goes where it fails
gone : {A : Type 0} (a b : Bool) (none some : A) → cond (a || b) none some ≡ cond b none (cond a none some)
gone true true none some = refl
gone true false none some = refl
gone false true none some = refl
gone false false none some = refl

-- ---- the parts

-- a node that fails has no table then
pub failed_tables-go : (sys : System) (state : Machine) (ps : List ℕ) (p : ℕ) → p < length sys.flow.nodes → is_one_of p ps ≡ true
    → IsTableIn sys (failed_state sys state ps) p None
failed_tables-go sys state ps p l i = record {
  there = sym (nothing (is_input_kind (kind_of sys.flow p)) (is_output_kind (kind_of sys.flow p)) (is_failed (failed_state sys state ps) p)
      (failures-add sys state ps p l ∙ or_right (is_failed state p) (is_one_of p ps) i));
  of_events = tt;
}
  where
    nothing : (a b c : Bool) → c ≡ true → not (a || (b || c)) ≡ false
    nothing true b c e = refl
    nothing false true c e = refl
    nothing false false c e = ap not e

-- the table of another node is as it was
pub other_tables-stay : (sys : System) (state : Machine) (ps : List ℕ) (p : ℕ) → p < length sys.flow.nodes → is_one_of p ps ≡ false
    → (table : Option Node) → IsTableIn sys state p table → IsTableIn sys (failed_state sys state ps) p table
other_tables-stay sys state ps p l i table t =
    let next = failed_state sys state ps in
    same_table-stands sys state next p table
    (ap (λ b. not (is_input_kind (kind_of sys.flow p) || (is_output_kind (kind_of sys.flow p) || b)))
    (failures-add sys state ps p l ∙ or-false (is_failed state p) (is_one_of p ps) i))
    (same-front sys state next p
    (λ is. checkpoints-left p (λ write. not (is_one_of write.node ps && is_in_flight write.stage)) state.writes
    (λ x same. ap (λ b. not (b && is_in_flight x.stage)) (ap (λ q. is_one_of q ps) same ∙ i)))
    (λ isnt. refl)) refl t

-- nothing is queued for nodes that fail, and what is queued for others is as it was
pub queues_of_failed-go : (sys : System) → IsWellFormedSystem sys → (state : Machine) (ps : List ℕ) (e : ℕ) → e < length sys.flow.edges
    → queued sys (failed_state sys state ps) e ≡ (if is_one_of (receiver sys.flow e) ps then [] else queued sys state e)
queues_of_failed-go sys w state ps e l =
    let p = receiver sys.flow e in
    let some = sorted_messages (pending_messages sys (events state.history) e) in
    ap (λ b. if b then [] else some) (failures-add sys state ps p (w.flow.receivers_declared e l))
    ∙ gone (is_failed state p) (is_one_of p ps) [] some

-- nothing that nodes that fail sent is logged, and what others sent is as it was
pub logs_of_failed-go : (sys : System) → IsWellFormedSystem sys → (state : Machine) (ps : List ℕ) (e : ℕ) → e < length sys.flow.edges
    → logged sys (failed_state sys state ps) e ≡ (if is_one_of (sender sys.flow e) ps then [] else logged sys state e)
logs_of_failed-go sys w state ps e l =
    let p = sender sys.flow e in
    let some = sorted_messages (messages_outside (family_of sys.flow state.low (receiver sys.flow e)) (sent_messages sys (events state.history) e)) in
    ap (λ b. if can_resend (policy_of sys.flow p) && not b then some else []) (failures-add sys state ps p (w.flow.senders_declared e l))
    ∙ lost (can_resend (policy_of sys.flow p)) (is_failed state p) (is_one_of p ps) some
  where
    lost : (c a b : Bool) (some : List Message) → cond (c && not (a || b)) some [] ≡ cond b [] (cond (c && not a) some [])
    lost true true true some = refl
    lost true true false some = refl
    lost true false true some = refl
    lost true false false some = refl
    lost false a true some = refl
    lost false a false some = refl

-- no recs of outputs that fail are kept, and those of others are as they were
pub outputs_of_failed-go : (sys : System) (state : Machine) (ps : List ℕ) (o x : ℕ) → o < length sys.flow.nodes
    → kept_recs sys (failed_state sys state ps) o x ≡ (if is_one_of o ps then [] else kept_recs sys state o x)
outputs_of_failed-go sys state ps o x l =
    let below = nat_lt x (ack_count_of state o) in
    let some = recs_at_output sys state o x in
    ap (λ b. if b || below then [] else some) (failures-add sys state ps o l)
    ∙ lost (is_failed state o) (is_one_of o ps) below some
  where
    lost : (a b c : Bool) (some : List Rec) → cond ((a || b) || c) [] some ≡ cond b [] (cond (a || c) [] some)
    lost true true c some = refl
    lost true false c some = refl
    lost false true c some = refl
    lost false false c some = refl

-- ---- the rest

-- a failure leaves bounds, inputs and traces as they were
pub failure-keeps : (sys : System) (state : Machine) (ps : List ℕ) → KeepsWhatSurvives sys state (failed_state sys state ps)
failure-keeps sys state ps = record {
  bounds = λ o. refl;
  sources = λ s source t. record { given = t.given; injected = t.injected; held = t.held };
  traces = λ floor p traces t. t;
}
