-- What becomes of tables and traces where more is settled.
use Rattle.std.proofs.Common.{Bool, List, None, Some, ap, cond, false, filter, inl, inr, not, refl, subst, sym, true, ℕ, ◌&&◌, ◌==◌, ◌∙◌, ◌≡◌, ◌<◌, length, ◌||◌, ◌≢◌, Option}
use Rattle.std.proofs.lemmas.Bool.{cases_Bool, cases_eq, or_cases, or_parts, eqb-true, eq-eqb}
use Rattle.std.specs.Global.{Vec}
use Rattle.fw_lemmas.proofs.Bools.{two_ways}
use Rattle.fw_model.specs.History.{AreEventsInDomain}
use Rattle.fw_frontier.specs.Frontier.{Frontier, Within}
use Rattle.fw_frontier.specs.Front.{Front, same_front}
use Rattle.fw_flow.specs.declared.step.Step.TheVariants.{Progress as ProgressStep}
use Rattle.fw_flow.specs.Dataflow.{System, policy_of, bounds_of, node_ids, node_frontier, Dataflow}
use Rattle.fw_flow.specs.Projection.{events_at}
use Rattle.fw_flow.specs.WellFormed.{IsWellFormedSystem}
use Rattle.fw_model.specs.Machine.{Machine, events, family_of, front_of, no_stamps}
use Rattle.fw_model.specs.Reached.{IsReached}
use Rattle.fw_model.specs.Steps.{GrowsTo, LeadsTo, silent, did, is_eager, eager_writes}
use Rattle.fw_model.specs.Writes.{takes_checkpoints}
use Rattle.fw_model.proofs.DomainLaws.{has_epochs}
use Rattle.fw_model.proofs.LegalLaws.{legal_events-in_domain}
use Rattle.fw_model.proofs.ToldLaws.{settled-told}
use Rattle.fw_model.specs.Auto.{IsIdle}
use Rattle.fw_node.specs.TableOf.{IsTableOf}
use Rattle.fw_node.specs.declared.node.Node.{Node}
use Rattle.fw_policy.specs.View.{base_of}
use Rattle.fw_progress.specs.declared.traces.Traces.{Traces}
use Rattle.fw_progress.specs.Trace.{AreSettledTo, IsTraceOf, IsTraceWithin, KeepsOthers, IsTraceIf}
use Rattle.fw_progress.specs.Settle.{SettlesMore}
use Rattle.fw_stands.specs.Settling.{asked_state, settled_state, AreSettledAt, KeepsAllButSettled, IsSettledTable}
use Rattle.fw_stands.specs.Parts.{IsTraceIn, IsTableIn, settles_with_checkpoints, table_base, table_front}
use Rattle.fw_stands.proofs.AtReached.{reached-next, reached-legal}
use Rattle.fw_stands.proofs.GrowthLaws.{settled-holds, logged-before, logged-without_checkpoints}
use Rattle.fw_stands.proofs.NodeCheckpoints.{asked-at_progress, asked-of_another, asks_at_progress, newest-asked, unasked-at_progress}
use Rattle.fw_stands.proofs.TableBaseLaws.{base-within, front-newest, front-settled, same-front, same_table-stands}

-- ---- the step

-- where a node that is not failed has more to settle, the step of progress leads to the state in which so much is settled
pub growth-progress : (sys : System) (state : Machine) (settled : Vec Front) → SettlesMore sys state (Some settled)
    → LeadsTo sys state ProgressStep (settled_state sys state settled.items) silent
growth-progress sys state settled g = (g.0, settled.items, g.1, refl, refl)

-- where no node has more to settle, the step of progress is idle
pub no_growth-idle : (sys : System) (state : Machine) → SettlesMore sys state None → IsIdle sys state ProgressStep
no_growth-idle sys state none next effect t =
    let g = t.2 in
    let s = g.some in
    none t.0 g.complete (record { node = s.0; at = s.1; declared = s.2; live = s.3; complete = s.4; unsettled = s.5 })

settled-next : (sys : System) (state : Machine) → IsReached sys state → (done : ℕ → Frontier) (settled : List Front) → GrowsTo sys state done settled
    → IsReached sys (settled_state sys state settled)
settled-next sys state r done settled g =
    let leads : LeadsTo sys state ProgressStep (settled_state sys state settled) silent = (done, settled, g, refl, refl) in
    reached-next sys state (settled_state sys state settled) ProgressStep (did silent) r leads

-- ---- tables

-- a node's table that is settled to what is settled after progress is the table of the state after it, if the node asks a checkpoint
-- then where its table settles with these
pub settled_tables-stand : (sys : System) → IsWellFormedSystem sys → (state : Machine) → IsReached sys state
    → (done : ℕ → Frontier) (settled : List Front) → GrowsTo sys state done settled → (p : ℕ) → p < length sys.flow.nodes
    → (settles_with_checkpoints sys.flow p ≡ true → asks_at_progress sys state settled p ≡ true)
    → (old new : Node) → IsSettledTable sys.flow p (front_of settled p) old new
    → IsTableIn sys state p (Some old) → IsTableIn sys (settled_state sys state settled) p (Some new)
settled_tables-stand sys w state r done settled g p l asks old new s t =
    let n = settled-next sys state r done settled g in
    let next = settled_state sys state settled in
    let front : table_front sys next p ≡ front_of settled p = elim (cases_Bool (settles_with_checkpoints sys.flow p)) [
      | inl is ↦ front-newest sys next p is ∙ asked-at_progress sys state settled p l (asks is) (no_stamps (bounds_of sys.flow p))
      | inr isnt ↦ front-settled sys next p isnt
    ] in
    record {
      there = t.there;
      of_events = subst (λ f. IsTableOf sys.flow p (node_frontier sys.flow p f) new (events_at sys.flow p (events state.history))) (sym front)
          (s (table_base sys state p) (events_at sys.flow p (events state.history))
          (λ u i. settled-holds sys state done settled g p l u (base-within sys w state r p u i))
          (λ k. settled-told sys w n.0 n.1 next n.2 p k) t.of_events);
    }

-- a table that settles with checkpoints, and of whose node none is asked, is that of the state after progress; so is one that does
-- not, where what is settled of the node is as it was
pub unsettled_tables-stay : (sys : System) (state : Machine) (settled : List Front) (p : ℕ) (table : Option Node)
    → (settles_with_checkpoints sys.flow p ≡ true → asks_at_progress sys state settled p ≡ false)
    → (settles_with_checkpoints sys.flow p ≡ false → front_of settled p ≡ front_of state.settled p)
    → IsTableIn sys state p table → IsTableIn sys (settled_state sys state settled) p table
unsettled_tables-stay sys state settled p table none same t =
    let next = settled_state sys state settled in
    same_table-stands sys state next p table refl (same-front sys state next p (λ is. unasked-at_progress sys state settled p (none is)) same) refl t

-- where a node has no table, it has none after progress
pub no_tables-stay : (sys : System) (state : Machine) (settled : List Front) (p : ℕ)
    → IsTableIn sys state p None → IsTableIn sys (settled_state sys state settled) p None
no_tables-stay sys state settled p t = record { there = t.there; of_events = tt }

-- a table that settles with checkpoints, and is settled to what is settled, is that of the state in which its node asked one
pub asked_tables-settle : (sys : System) → IsWellFormedSystem sys → (state : Machine) → IsReached sys state → (p : ℕ)
    → settles_with_checkpoints sys.flow p ≡ true → (old new : Node) → IsSettledTable sys.flow p (front_of state.settled p) old new
    → IsTableIn sys state p (Some old) → IsTableIn sys (asked_state state p) p (Some new)
asked_tables-settle sys w state r p is old new s t =
    let next = asked_state state p in
    let front : table_front sys next p ≡ front_of state.settled p =
    front-newest sys next p is ∙ newest-asked state p (front_of state.settled p) (no_stamps (bounds_of sys.flow p)) state.writes in
    record {
      there = t.there;
      of_events = subst (λ f. IsTableOf sys.flow p (node_frontier sys.flow p f) new (events_at sys.flow p (events state.history))) (sym front)
          (s (table_base sys state p) (events_at sys.flow p (events state.history)) (base-within sys w state r p)
          (λ k. settled-told sys w r.0 r.1 state r.2 p k) t.of_events);
    }

-- each other table is that of the state then
pub unasked_tables-stay : (sys : System) (state : Machine) (p q : ℕ) (table : Option Node) → (p ≡ q → settles_with_checkpoints sys.flow q ≡ false)
    → IsTableIn sys state q table → IsTableIn sys (asked_state state p) q table
unasked_tables-stay sys state p q table other t =
    let next = asked_state state p in
    same_table-stands sys state next q table refl
    (same-front sys state next q
    (λ is. asked-of_another state p q (front_of state.settled p) state.writes (λ same. two_ways (settles_with_checkpoints sys.flow q) is (other same)))
    (λ isnt. refl)) refl t

-- ---- traces

-- the base of a node that takes checkpoints is what is settled, and of another one the floor
pub base-settled : (sys : System) (floor : List Front) (state : Machine) (p : ℕ) → takes_checkpoints (policy_of sys.flow p) ≡ true → base_of sys floor state p ≡ family_of sys.flow state.settled p
base-settled sys floor state p c = ap (λ b. cond b (node_frontier sys.flow p (front_of state.settled p)) (node_frontier sys.flow p (front_of floor p))) c

pub base-floor : (sys : System) (floor : List Front) (state : Machine) (p : ℕ) → takes_checkpoints (policy_of sys.flow p) ≡ false → base_of sys floor state p ≡ family_of sys.flow floor p
base-floor sys floor state p c = ap (λ b. cond b (node_frontier sys.flow p (front_of state.settled p)) (node_frontier sys.flow p (front_of floor p))) c

-- traces settled to a front that holds their base have it as base
pub settled_to-base : (sys : System) (floor : List Front) → IsWellFormedSystem sys → (state : Machine) → IsReached sys state → (p : ℕ) (f : Front) (old new : Traces)
    → AreSettledTo sys.flow p f old new → Within (base_of sys floor state p) (node_frontier sys.flow p f) → IsTraceIn sys floor state p old
    → IsTraceOf sys (events state.history) p (node_frontier sys.flow p f) new
settled_to-base sys floor w state r p f old new a within t =
    a.here (takes_checkpoints (policy_of sys.flow p)) sys (events state.history) refl
    (legal_events-in_domain sys (events state.history) w.flow (has_epochs sys w) (reached-legal sys state w r) p)
    (record { base = base_of sys floor state p; within = within; trace = t })

-- the traces of a node that takes checkpoints, settled to what is settled after progress, are those of the state after it
pub settled_traces-stand : (sys : System) (floor : List Front) → IsWellFormedSystem sys → (state : Machine) → IsReached sys state
    → (done : ℕ → Frontier) (settled : List Front) → GrowsTo sys state done settled → (p : ℕ) → p < length sys.flow.nodes
    → takes_checkpoints (policy_of sys.flow p) ≡ true → (old new : Traces) → AreSettledTo sys.flow p (front_of settled p) old new
    → IsTraceIn sys floor state p old → IsTraceIn sys floor (settled_state sys state settled) p new
settled_traces-stand sys floor w state r done settled g p l c old new a t =
    let next = settled_state sys state settled in
    subst (λ f. IsTraceOf sys (events state.history) p f new) (sym (base-settled sys floor next p c))
    (settled_to-base sys floor w state r p (front_of settled p) old new a
    (subst (λ f. Within f (family_of sys.flow settled p)) (sym (base-settled sys floor state p c)) (settled-holds sys state done settled g p l)) t)

-- the traces of a node that takes no checkpoints are those of the state after progress
pub traces_without_checkpoints-stay : (sys : System) (floor : List Front) (state : Machine) (settled : List Front) (p : ℕ) → takes_checkpoints (policy_of sys.flow p) ≡ false
    → (traces : Traces) → IsTraceIn sys floor state p traces → IsTraceIn sys floor (settled_state sys state settled) p traces
traces_without_checkpoints-stay sys floor state settled p c traces t =
    let next = settled_state sys state settled in
    subst (λ f. IsTraceOf sys (events state.history) p f traces) (base-floor sys floor state p c ∙ sym (base-floor sys floor next p c)) t

-- where what is settled of a node is as it was, its traces are those of the state after progress
pub ungrown_traces-stay : (sys : System) (floor : List Front) (state : Machine) (settled : List Front) (p : ℕ) → front_of settled p ≡ front_of state.settled p
    → (traces : Traces) → IsTraceIn sys floor state p traces → IsTraceIn sys floor (settled_state sys state settled) p traces
ungrown_traces-stay sys floor state settled p e traces t =
    subst (λ f. IsTraceOf sys (events state.history) p f traces)
    (ap (λ f. cond (takes_checkpoints (policy_of sys.flow p)) (node_frontier sys.flow p f) (node_frontier sys.flow p (front_of floor p))) (sym e)) t

-- where the traces of one node are changed and those of the others kept, those of another stand as they did
pub traces_of_others-stay : (sys : System) (floor : List Front) (state : Machine) (p q : ℕ) → q ≢ p → (old new : Traces) → KeepsOthers sys.flow p old new
    → IsTraceIn sys floor state q old → IsTraceIn sys floor state q new
traces_of_others-stay sys floor state p q k old new keeps t = keeps (takes_checkpoints (policy_of sys.flow q)) sys (events state.history) refl q k (base_of sys floor state q) t

-- ---- the traces of several nodes

-- at first those of no node are settled
pub none-settled_yet : (flow : Dataflow) (fronts : List Front) (traces : Traces) → AreSettledAt flow (λ p. false) fronts traces traces
none-settled_yet flow fronts traces = record {
  here = λ p i whole sys h e d t. absurd (two_ways false i refl);
  others = λ p i whole sys h e base t. t;
}

-- where those of one node more are settled, so are those of the nodes before and of this one
pub one_more-settled : (flow : Dataflow) (test : ℕ → Bool) (fronts : List Front) (old between new : Traces) → AreSettledAt flow test fronts old between
    → (p : ℕ) → test p ≡ false → AreSettledTo flow p (front_of fronts p) between new → AreSettledAt flow (λ q. (q == p) || test q) fronts old new
one_more-settled flow test fronts old between new a p none b = record {
  here = λ q i whole sys h e d t. elim (cases_eq q p) [
    | inl same ↦ subst (λ n. IsTraceIf whole sys h n (node_frontier flow n (front_of fronts n)) new) (sym same)
        (b.here whole sys h e (subst (AreEventsInDomain flow h) same d)
        (subst (λ n. IsTraceWithin whole sys h n (front_of fronts n) between) same
        (record { base = t.base; within = t.within; trace = a.others q (ap test same ∙ none) whole sys h e t.base t.trace })))
    | inr other ↦ b.others whole sys h e q other (node_frontier flow q (front_of fronts q))
        (a.here q (elim (or_cases (q == p) (test q) i) [ inl j ↦ absurd (other (eqb-true q p j)) | inr j ↦ j ]) whole sys h e d t)
  ];
  others = λ q i whole sys h e base t.
      let apart = or_parts (q == p) (test q) i in
      b.others whole sys h e q (λ same. two_ways (q == p) (eq-eqb q p same) apart.0) base (a.others q apart.1 whole sys h e base t);
}

-- another test of which the same nodes pass tells the same
pub same_nodes-settled : (flow : Dataflow) (test other : ℕ → Bool) → ((p : ℕ) → other p ≡ test p) → (fronts : List Front) (old new : Traces)
    → AreSettledAt flow test fronts old new → AreSettledAt flow other fronts old new
same_nodes-settled flow test other e fronts old new a = record {
  here = λ p i. a.here p (sym (e p) ∙ i);
  others = λ p i. a.others p (sym (e p) ∙ i);
}

-- the traces of one node stand where those of several are settled to fronts
pub trace-settled : (sys : System) (floor : List Front) → IsWellFormedSystem sys → (state : Machine) → IsReached sys state → (test : ℕ → Bool) (fronts : List Front) (old new : Traces)
    → AreSettledAt sys.flow test fronts old new → (p : ℕ) → test p ≡ true → Within (base_of sys floor state p) (family_of sys.flow fronts p) → IsTraceIn sys floor state p old
    → IsTraceOf sys (events state.history) p (family_of sys.flow fronts p) new
trace-settled sys floor w state r test fronts old new a p i within t =
    a.here p i (takes_checkpoints (policy_of sys.flow p)) sys (events state.history) refl
    (legal_events-in_domain sys (events state.history) w.flow (has_epochs sys w) (reached-legal sys state w r) p)
    (record { base = base_of sys floor state p; within = within; trace = t })

-- where the traces of some nodes that take checkpoints are settled to what is settled after progress, among them each at which that
-- grew, the traces are those of the state after it
pub all_settled_traces-stand : (sys : System) (floor : List Front) → IsWellFormedSystem sys → (state : Machine) → IsReached sys state
    → (done : ℕ → Frontier) (settled : List Front) → GrowsTo sys state done settled → (test : ℕ → Bool)
    → ((p : ℕ) → test p ≡ true → takes_checkpoints (policy_of sys.flow p) ≡ true)
    → ((p : ℕ) → test p ≡ false → takes_checkpoints (policy_of sys.flow p) ≡ true → front_of settled p ≡ front_of state.settled p)
    → (old new : Traces) → AreSettledAt sys.flow test settled old new → (p : ℕ) → p < length sys.flow.nodes
    → IsTraceIn sys floor state p old → IsTraceIn sys floor (settled_state sys state settled) p new
all_settled_traces-stand sys floor w state r done settled g test takes same old new a p l t =
    let next = settled_state sys state settled in
    elim (cases_Bool (test p)) [
      | inl i ↦
          let c = takes p i in
          subst (λ f. IsTraceOf sys (events state.history) p f new) (sym (base-settled sys floor next p c))
          (trace-settled sys floor w state r test settled old new a p i
          (subst (λ f. Within f (family_of sys.flow settled p)) (sym (base-settled sys floor state p c)) (settled-holds sys state done settled g p l)) t)
      | inr i ↦
          let kept = a.others p i (takes_checkpoints (policy_of sys.flow p)) sys (events state.history) refl (base_of sys floor state p) t in
          elim (cases_Bool (takes_checkpoints (policy_of sys.flow p))) [
            | inl c ↦ ungrown_traces-stay sys floor state settled p (same p i c) new kept
            | inr c ↦ traces_without_checkpoints-stay sys floor state settled p c new kept
          ]
    ]

-- ---- the rest

-- progress leaves queues, logs, outputs, inputs and what is lost as they were
pub progress-keeps : (sys : System) (state : Machine) (settled : List Front) → KeepsAllButSettled sys state (settled_state sys state settled)
progress-keeps sys state settled =
    let fronts : ℕ → Front = λ p. front_of settled p in
    let ps = filter (λ p. is_eager (policy_of sys.flow p) && not (same_front (front_of state.settled p) (front_of settled p))) (node_ids sys.flow) in
    record {
      queues = λ e. refl;
      logs = λ e. refl;
      outputs = record { bound = λ o. refl; recs = λ o x. refl };
      sources = λ s source t. record { given = t.given; injected = t.injected; held = t.held };
      lost = λ p t. (
        λ a. (
          a.0,
          record {
            event = a.1.event;
            there = a.1.there;
            is = a.1.is;
            not_logged = λ l. a.1.not_logged (logged-before a.1.event.serial state.writes (eager_writes sys state settled (node_ids sys.flow)) l);
          },
        ),
        λ a. (
          a.0,
          record {
            event = a.1.event;
            there = a.1.there;
            is = a.1.is;
            not_logged = λ l. a.1.not_logged (logged-without_checkpoints a.1.event.serial state.writes state fronts ps l);
          },
        ),
      );
    }
