-- Up to where the tables of nodes are settled, in each state and at each step.
use Rattle.std.proofs.Common.{◌≡◌, ◌⊎◌, ℕ, ◌<◌, Bool, true, false, ◌||◌, List, length, Option, Some, None, refl, sym, ap, subst, ◌∙◌, inl, inr}
use Rattle.std.proofs.lemmas.Bool.{cases_Bool, cond-false, cond-true, cond_both, false_from_ne_true}
use Rattle.fw_lemmas.proofs.Bools.{two_ways, first_holds}
use Rattle.fw_time.specs.Stamp.{Stamp, same}
use Rattle.fw_frontier.specs.Frontier.{Frontier, Within}
use Rattle.fw_frontier.specs.Front.{Front}
use Rattle.fw_flow.specs.declared.choice.Choice.{Choice}
use Rattle.fw_flow.specs.declared.choice.Cut.TheVariants.{At}
use Rattle.fw_flow.specs.declared.event.Event.{Event}
use Rattle.fw_flow.specs.Dataflow.{System, Dataflow, kind_of, policy_of, bounds_of, node_frontier}
use Rattle.fw_flow.specs.Projection.{events_at}
use Rattle.fw_flow.specs.WellFormed.{IsWellFormedSystem}
use Rattle.fw_flow.specs.NodeFunction.{event_node}
use Rattle.fw_model.specs.Choice.{kept, cut_of, IsCandidate, IsRestorable, HasCheckpoint}
use Rattle.fw_model.specs.Machine.{Machine, events, family_of, front_of, is_failed, no_stamps}
use Rattle.fw_model.specs.Reached.{IsReached}
use Rattle.fw_model.specs.Steps.{checkpoints_of, last_or, recovered_state, with_event, write_of_event}
use Rattle.fw_model.specs.Told.{is_told, AreToldInside, IsSumOfTold}
use Rattle.fw_model.specs.Writes.{takes_checkpoints}
use Rattle.fw_model.proofs.AskedLaws.{reached-all, takes-declared, takes-restoring}
use Rattle.fw_model.proofs.LowLaws.{none-within}
use Rattle.fw_model.proofs.ToldLaws.{same-recs}
use Rattle.fw_node.specs.declared.node.Node.{Node}
use Rattle.fw_node.specs.TableOf.{IsTableOf}
use Rattle.fw_stands.specs.Parts.{has_table, settles_with_checkpoints, sums_up, table_base, table_front, IsTableIn}
use Rattle.fw_stands.specs.Recovered.{Recovers}
use Rattle.fw_stands.proofs.NodeCheckpoints.{events-are_none, newest-at_cut, newest-within, others-add_none}
use Rattle.fw_stands.proofs.RecoveredFacts.{knows}
use Rattle.fw_stands.proofs.RedoneLaws.{each-delivery_weaker}

-- ---- by the checkpoints, or by what is settled

-- where a table settles with the checkpoints, so far as the newest of them
pub front-newest : (sys : System) (state : Machine) (p : ℕ) → settles_with_checkpoints sys.flow p ≡ true
    → table_front sys state p ≡ last_or (no_stamps (bounds_of sys.flow p)) (checkpoints_of p state.writes)
front-newest sys state p is =
    cond-true (settles_with_checkpoints sys.flow p) (last_or (no_stamps (bounds_of sys.flow p)) (checkpoints_of p state.writes)) (front_of state.settled p) is

-- and else so far as the node is settled
pub front-settled : (sys : System) (state : Machine) (p : ℕ) → settles_with_checkpoints sys.flow p ≡ false → table_front sys state p ≡ front_of state.settled p
front-settled sys state p isnt =
    cond-false (settles_with_checkpoints sys.flow p) (last_or (no_stamps (bounds_of sys.flow p)) (checkpoints_of p state.writes)) (front_of state.settled p) isnt

-- where what it goes by is the same in two states, it is settled so far in both
pub same-front : (sys : System) (state next : Machine) (p : ℕ)
    → (settles_with_checkpoints sys.flow p ≡ true → checkpoints_of p next.writes ≡ checkpoints_of p state.writes)
    → (settles_with_checkpoints sys.flow p ≡ false → front_of next.settled p ≡ front_of state.settled p) → table_front sys next p ≡ table_front sys state p
same-front sys state next p fronts settled = elim (cases_Bool (settles_with_checkpoints sys.flow p)) [
  | inl is ↦ front-newest sys next p is ∙ ap (last_or (no_stamps (bounds_of sys.flow p))) (fronts is) ∙ sym (front-newest sys state p is)
  | inr isnt ↦ front-settled sys next p isnt ∙ settled isnt ∙ sym (front-settled sys state p isnt)
]

-- a table stands for the next state where it is settled so far as before, and the node's events are the same
pub same_table-stands : (sys : System) (state next : Machine) (p : ℕ) (table : Option Node) → has_table sys next p ≡ has_table sys state p
    → table_front sys next p ≡ table_front sys state p → events_at sys.flow p (events next.history) ≡ events_at sys.flow p (events state.history)
    → IsTableIn sys state p table → IsTableIn sys next p table
same_table-stands sys state next p None has front same t = record { there = t.there ∙ sym has; of_events = tt }
same_table-stands sys state next p (Some node) has front same t = record {
  there = t.there ∙ sym has;
  of_events = subst (λ f. IsTableOf sys.flow p (node_frontier sys.flow p f) node (events_at sys.flow p (events next.history))) (sym front)
      (subst (IsTableOf sys.flow p (table_base sys state p) node) (sym same) t.of_events);
}

-- a node that settles its table with its checkpoints is declared
pub settling-declared : (flow : Dataflow) (p : ℕ) → settles_with_checkpoints flow p ≡ true → p < length flow.nodes
settling-declared flow p is = takes-declared flow p (first_holds (takes_checkpoints (policy_of flow p)) (sums_up (kind_of flow p)) is)

-- ---- within what is settled

-- what is settled into a table is settled
pub base-within : (sys : System) → IsWellFormedSystem sys → (state : Machine) → IsReached sys state → (p : ℕ)
    → Within (table_base sys state p) (family_of sys.flow state.settled p)
base-within sys w state r p =
    cond_both (settles_with_checkpoints sys.flow p) (last_or (no_stamps (bounds_of sys.flow p)) (checkpoints_of p state.writes)) (front_of state.settled p)
    (λ f. Within (node_frontier sys.flow p f) (family_of sys.flow state.settled p))
    (λ is.
    newest-within sys state.settled p (settling-declared sys.flow p is) state.writes (reached-all sys w r.0 r.1 state r.2).recover.lie_settled (no_stamps (bounds_of sys.flow p))
    (none-within (bounds_of sys.flow p) (family_of sys.flow state.settled p)))
    (λ isnt t i. i)

-- what is not settled is not settled into the table
pub unsettled-base : (sys : System) → IsWellFormedSystem sys → (state : Machine) → IsReached sys state → (p : ℕ) (t : Stamp)
    → family_of sys.flow state.settled p t ≡ false → table_base sys state p t ≡ false
unsettled-base sys w state r p t out =
    false_from_ne_true (table_base sys state p t) (λ i. two_ways (family_of sys.flow state.settled p t) (base-within sys w state r p t i) out)

-- what came up to an epoch is the same by what is settled and by a part of it, where all that is settled was told
pub sums-by_less : (settled base : Frontier) (before : List Event) (t : Stamp) → Within base settled → AreToldInside settled before
    → IsSumOfTold settled before t → IsSumOfTold base before t
sums-by_less settled base before t within told sums =
    sums ∙ same-recs (λ s. same s t || (settled s || is_told before s)) (λ s. same s t || (base s || is_told before s)) before
    (each-delivery_weaker (λ s. settled s ≡ true → is_told before s ≡ true)
    (λ s. (same s t || (settled s || is_told before s)) ≡ (same s t || (base s || is_told before s))) before
    (λ s k. ap (λ b. same s t || b) (either (settled s) (base s) (is_told before s) (within s) k)) told)
  where
    either : (a b c : Bool) → (b ≡ true → a ≡ true) → (a ≡ true → c ≡ true) → (a || c) ≡ (b || c)
    either true true c w k = refl
    either true false c w k = sym (k refl)
    either false true c w k = absurd (two_ways false (w refl) refl)
    either false false c w k = refl

-- ---- events

-- an event settles nothing into a table
pub event-front : (sys : System) (state : Machine) (v : Event) (p : ℕ) → table_front sys (with_event sys state v) p ≡ table_front sys state p
event-front sys state v p =
    same-front sys state (with_event sys state v) p
    (λ is.
    let n = event_node sys.flow v in
    others-add_none p state.writes (write_of_event (policy_of sys.flow n) n state.next) (events-are_none p (policy_of sys.flow n) n state.next))
    (λ isnt. refl)

-- ---- a recovery

-- the table of a node that is cut, and settles with its checkpoints, is settled so far as the cut
pub newest-cut : (sys : System) (state : Machine) (choice : Choice) (settled : List Front) → Recovers sys state choice settled
    → (p : ℕ) → settles_with_checkpoints sys.flow p ≡ true → (f : Front) → cut_of choice p ≡ At f
    → table_front sys (recovered_state sys state choice settled) p ≡ f
newest-cut sys state choice settled r p is f at =
    let l = settling-declared sys.flow p is in
    let takes = first_holds (takes_checkpoints (policy_of sys.flow p)) (sums_up (kind_of sys.flow p)) is in
    let way = takes-restoring (kind_of sys.flow p) (policy_of sys.flow p) (r.well_formed.flow.policies p l) takes in
    let all = (knows sys state choice settled r).all in
    let next = recovered_state sys state choice settled in
    let offered = subst (IsCandidate sys state (is_failed state) kept p) at (r.largest.consistent.offered p l) in
    let restorable : (f ≡ no_stamps (bounds_of sys.flow p)) ⊎ HasCheckpoint kept p f state.writes = subst (λ x. IsRestorable sys state kept p x f) way offered.1 in
    front-newest sys next p is
    ∙ newest-at_cut sys state.low state.next state.history p f choice next.history l at offered.0 state.writes restorable all.recover.ascend all.restore.asked
