-- What is claimed of a loop within a loop, of which the inner one is entered once in each round of the outer one: what a batch
-- denotes, how a frontier strictly inside the inner loop is projected out of it, and a recovery that cuts a node there.
use Rattle.std.specs.Prelude.{List, None, Some, [], codes, false, replicate, true, ℕ, ◌++◌, ◌∷◌, ◌≡◌}
use Rattle.fw_bag.specs.declared.select.Comparison.TheVariants.{Less}
use Rattle.fw_bag.specs.declared.select.Field.TheVariants.{Value}
use Rattle.fw_bag.specs.declared.select.NewValue.TheVariants as new
use Rattle.fw_bag.specs.declared.select.Selection.{Selection}
use Rattle.fw_bag.specs.declared.select.Term.TheVariants as term
use Rattle.fw_time.specs.Stamp.{Stamp, same}
use Rattle.fw_frontier.specs.Front.{Front}
use Rattle.fw_frontier.specs.Frontier.{Frontier, Within}
use Rattle.fw_flow.specs.Dataflow.{Dataflow, System, node_frontier}
use Rattle.fw_flow.specs.Projection.{phi_by_count, psi}
use Rattle.fw_flow.specs.declared.choice.Choice.{Choice}
use Rattle.fw_flow.specs.declared.choice.Cut.TheVariants.{At, Present}
use Rattle.fw_flow.specs.declared.event.Event.{Event}
use Rattle.fw_flow.specs.declared.event.Event.TheVariants.{Deliver, Inject}
use Rattle.fw_flow.specs.declared.step.Step.{Step}
use Rattle.fw_flow.specs.declared.step.Step.TheVariants as step
use Rattle.fw_flow.specs.declared.kind.Kind.TheVariants.{Concat, Enter, Feedback, Input, Leave, OutputEpoch, Select}
use Rattle.fw_flow.specs.declared.kind.Policy.TheVariants as policy
use Rattle.fw_model.specs.Choice.{filtered_history}
use Rattle.fw_model.specs.Denotation.{IsDenotation, bag_at, rounds}
use Rattle.fw_model.specs.History.{pending_messages}
use Rattle.fw_model.specs.Machine.{Machine, events, first_state}
use Rattle.fw_model.specs.Steps.{Run, cuts, did, recovered_state, silent}
use Rattle.fw_examples.specs.Flows.{edge, node, pair}
use Rattle.fw_examples.specs.Loop.{message, with_serials}

-- the next value, where the value is below 100
abbrev pub next_below_hundred : Selection
next_below_hundred = record {
  condition = record { field = Value; comparison = Less; term = term.Number 100 };
  assignment = Some (record { field = Value; value = new.FieldPlus Value 1 });
}

-- Both loops have the greatest counter 1. In the inner one each rec goes round with its value counted up; what is counted up leaves
-- it, goes round the outer loop and leaves that.
abbrev pub nested_loops : Dataflow
nested_loops = record {
  loops = record { name = codes "lo"; max = 1; parent = None } ∷ record { name = codes "li"; max = 1; parent = Some 0 } ∷ [];
  nodes =
      node (codes "src") Input policy.None
      ∷ node (codes "e1") (Enter 0) policy.None
      ∷ node (codes "m1") (Concat (Some 0)) policy.None
      ∷ node (codes "e2") (Enter 1) policy.None
      ∷ node (codes "m2") (Concat (Some 1)) policy.Logged
      ∷ node (codes "inc") (Select next_below_hundred (Some 1)) policy.None
      ∷ node (codes "f2") (Feedback 1) policy.None
      ∷ node (codes "l2") (Leave 1) policy.None
      ∷ node (codes "f1") (Feedback 0) policy.None
      ∷ node (codes "l1") (Leave 0) policy.None
      ∷ node (codes "res") OutputEpoch policy.None
      ∷ [];
  edges =
      edge (codes "a") 0 1
      ∷ edge (codes "b") 1 2
      ∷ edge (codes "c") 8 2
      ∷ edge (codes "d") 2 3
      ∷ edge (codes "e") 3 4
      ∷ edge (codes "f") 6 4
      ∷ edge (codes "g") 4 5
      ∷ edge (codes "h") 5 6
      ∷ edge (codes "i") 5 7
      ∷ edge (codes "j") 7 8
      ∷ edge (codes "k") 7 9
      ∷ edge (codes "m") 9 10
      ∷ [];
}

-- the loops with one batch, of one rec
abbrev pub one_rec : System
one_rec = record { flow = nested_loops; batches = ((pair 1 0 ∷ []) ∷ []) ∷ [] ∷ [] ∷ [] ∷ [] ∷ [] ∷ [] ∷ [] ∷ [] ∷ [] ∷ [] ∷ [] }

-- the edge out of the inner feedback
abbrev pub inner_fed_back : ℕ
inner_fed_back = 5

-- the edge out of the inner leave to the outer feedback
abbrev pub inner_left : ℕ
inner_left = 9

-- the edge to the output
abbrev pub to_output : ℕ
to_output = 11

-- Twenty rounds solve the equations of the one batch: its rec reaches the output once for each pair of counters, with the number of
-- times that it was counted up.
pub record OneRecCountsUp : Type 0 where
  pub solves : IsDenotation one_rec (rounds one_rec 20)
  pub first : bag_at (rounds one_rec 20) to_output (0 ∷ []) ≡ (pair 1 1 ∷ pair 1 2 ∷ pair 1 2 ∷ pair 1 3 ∷ pair 1 3 ∷ pair 1 4 ∷ [])
  pub no_more : (t : Stamp) → same t (0 ∷ []) ≡ false → bag_at (rounds one_rec 20) to_output t ≡ []

-- strictly inside the inner loop: each first round alone
abbrev pub first_rounds_of_both : Front
first_rounds_of_both = (0 ∷ 0 ∷ 1 ∷ []) ∷ (0 ∷ 1 ∷ 0 ∷ []) ∷ (1 ∷ 0 ∷ 0 ∷ []) ∷ []

-- the frontier that has these outside stamps, of a node of the inner loop
abbrev pub inside_inner : Frontier
inside_inner = node_frontier nested_loops 7 first_rounds_of_both

-- both tests hold of the same stamps
abbrev pub AreSame : Frontier → Frontier → Type 0
AreSame f g = Within f g × Within g f

-- What comes from there is fed back to the next counter of the inner loop; nothing leaves it that all comes from there, since that
-- takes all its counters; and it can leave at a stamp of the outer loop below which there is one of its first round.
pub record ProjectsFromInnerLoop : Type 0 where
  pub fed_back : (count : ℕ) → AreSame (phi_by_count nested_loops count inner_fed_back inside_inner) (node_frontier nested_loops 4 ((0 ∷ 1 ∷ 1 ∷ []) ∷ (1 ∷ 0 ∷ 1 ∷ []) ∷ []))
  pub left : (count : ℕ) → AreSame (phi_by_count nested_loops count inner_left inside_inner) (node_frontier nested_loops 8 ((0 ∷ 0 ∷ []) ∷ []))
  pub may_leave : AreSame (psi nested_loops inner_left inside_inner) (node_frontier nested_loops 8 ((0 ∷ 1 ∷ []) ∷ (1 ∷ 0 ∷ []) ∷ []))

-- ---- a recovery, after the node that counts up failed in the second round of the inner loop

-- the latest events: the rec went round the inner loop, and came to be counted up again
abbrev pub second_round : List Event
second_round =
    Deliver 6 (message (0 ∷ 0 ∷ 1 ∷ []) (pair 1 1) (0 ∷ 0 ∷ 1 ∷ []))
    ∷ Deliver 5 (message (0 ∷ 0 ∷ 1 ∷ []) (pair 1 1) (0 ∷ 0 ∷ 0 ∷ []))
    ∷ Deliver 7 (message (0 ∷ 0 ∷ 0 ∷ []) (pair 1 1) (0 ∷ 0 ∷ 0 ∷ []))
    ∷ []

-- the events before: the rec entered both loops, and was counted up once
abbrev pub first_round : List Event
first_round =
    Deliver 6 (message (0 ∷ 0 ∷ 0 ∷ []) (pair 1 0) (0 ∷ 0 ∷ 0 ∷ []))
    ∷ Deliver 4 (message (0 ∷ 0 ∷ 0 ∷ []) (pair 1 0) (0 ∷ 0 ∷ []))
    ∷ Deliver 3 (message (0 ∷ 0 ∷ []) (pair 1 0) (0 ∷ 0 ∷ []))
    ∷ Deliver 1 (message (0 ∷ 0 ∷ []) (pair 1 0) (0 ∷ []))
    ∷ Deliver 0 (message (0 ∷ []) (pair 1 0) (0 ∷ []))
    ∷ Inject 0 0
    ∷ []

-- strictly inside the inner loop: its first round in the first round of the outer loop
abbrev pub counted_once : Front
counted_once = (0 ∷ 0 ∷ 1 ∷ []) ∷ (0 ∷ 1 ∷ 0 ∷ []) ∷ []

-- The complete frontiers by node once the first events have happened: all before the loops; where rounds of the outer loop meet, and
-- where they enter the inner one, those that nothing was fed back to; where rounds of the inner loop meet, and are counted up, such
-- ones of both; and nothing behind them.
abbrev pub complete_once : List Front
complete_once =
    [] ∷ []
    ∷ ((0 ∷ 1 ∷ []) ∷ [])
    ∷ ((0 ∷ 1 ∷ []) ∷ [])
    ∷ counted_once
    ∷ counted_once
    ∷ ((0 ∷ 0 ∷ 0 ∷ []) ∷ [])
    ∷ ((0 ∷ 0 ∷ 0 ∷ []) ∷ [])
    ∷ ((0 ∷ 0 ∷ []) ∷ [])
    ∷ ((0 ∷ 0 ∷ []) ∷ [])
    ∷ ((0 ∷ []) ∷ [])
    ∷ []

-- the state after all events, in which what was complete before the second round is settled, and the node that counts up failed
abbrev pub second_count_failed : Machine
second_count_failed = record (first_state one_rec) {
  history = with_serials (second_round ++ first_round);
  next = 9;
  settled = complete_once;
  failed = false ∷ false ∷ false ∷ false ∷ false ∷ true ∷ false ∷ false ∷ false ∷ false ∷ false ∷ [];
}

-- the node that counts up is cut to what is settled of it, and all others stay as they are
abbrev pub cut_inside : Choice
cut_inside = record {
  cuts = Present ∷ Present ∷ Present ∷ Present ∷ Present ∷ At counted_once ∷ Present ∷ Present ∷ Present ∷ Present ∷ Present ∷ [];
  notices =
      [] ∷ []
      ∷ ((0 ∷ 1 ∷ []) ∷ [])
      ∷ ((0 ∷ 1 ∷ []) ∷ [])
      ∷ ((0 ∷ 1 ∷ 0 ∷ []) ∷ [])
      ∷ counted_once
      ∷ counted_once
      ∷ counted_once
      ∷ ((0 ∷ 0 ∷ []) ∷ [])
      ∷ ((0 ∷ 0 ∷ []) ∷ [])
      ∷ ((0 ∷ []) ∷ [])
      ∷ [];
}

-- the events without the second time that the rec came to be counted up
abbrev pub without_the_second_count : List Event
without_the_second_count =
    Deliver 5 (message (0 ∷ 0 ∷ 1 ∷ []) (pair 1 1) (0 ∷ 0 ∷ 0 ∷ []))
    ∷ Deliver 7 (message (0 ∷ 0 ∷ 0 ∷ []) (pair 1 1) (0 ∷ 0 ∷ 0 ∷ []))
    ∷ first_round

-- the steps up to the recovery: what is complete becomes settled before the second round, and the node that counts up fails after it
abbrev pub nested_steps : List Step
nested_steps =
    step.Inject 0
    ∷ step.Deliver 0 None
    ∷ step.Deliver 1 None
    ∷ step.Deliver 3 None
    ∷ step.Deliver 4 None
    ∷ step.Deliver 6 None
    ∷ step.Progress
    ∷ step.Deliver 7 None
    ∷ step.Deliver 5 None
    ∷ step.Deliver 6 None
    ∷ step.Fail (5 ∷ [])
    ∷ step.Recover
    ∷ []

-- The run comes to the failure and recovers by this choice, which is shown. The recovery filters out one event, in the second round
-- of the inner loop, and its message is pending again.
pub record RecoversInsideInnerLoop : Type 0 where
  pub runs : Run one_rec (first_state one_rec) nested_steps (replicate 11 (did silent) ++ did (cuts cut_inside) ∷ []) (recovered_state one_rec second_count_failed cut_inside complete_once)
  pub remains : events (filtered_history one_rec cut_inside (with_serials (second_round ++ first_round))) ≡ without_the_second_count
  pub again : pending_messages one_rec without_the_second_count 6 ≡ message (0 ∷ 0 ∷ 1 ∷ []) (pair 1 1) (0 ∷ 0 ∷ 1 ∷ []) ∷ []
