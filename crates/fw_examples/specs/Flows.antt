-- The dataflows of the examples, with their batches; and a history of a sequence whose numbers are regrouped.
use Rattle.std.specs.Prelude.{List, Some, [], codes, ℕ, ◌∷◌, None}
use Rattle.fw_bag.specs.declared.rec.Rec.{Rec}
use Rattle.fw_bag.specs.declared.select.Comparison.TheVariants.{Less, GreaterOrEqual}
use Rattle.fw_bag.specs.declared.select.Field.TheVariants.{Value}
use Rattle.fw_bag.specs.declared.select.Selection.{Selection}
use Rattle.fw_flow.specs.Dataflow.{Dataflow, System, receiver, sender}
use Rattle.fw_flow.specs.Kind.{Kind}
use Rattle.fw_flow.specs.declared.kind.Kind.TheVariants.{Concat, Enter, Feedback, Input, Leave, OutputEpoch, Regroup, Select, Sequence, Sum}
use Rattle.fw_flow.specs.declared.kind.Policy.{Policy}
use Rattle.fw_flow.specs.declared.node.Edge.{Edge}
use Rattle.fw_flow.specs.declared.node.Node.{Node}
use Rattle.fw_flow.specs.declared.event.Event.{Event}
use Rattle.fw_flow.specs.declared.event.Event.TheVariants.{Deliver, Inject, Notify}
use Rattle.fw_flow.specs.declared.event.Message.{Message}
use Rattle.fw_bag.specs.declared.select.NewValue.TheVariants as new
use Rattle.fw_bag.specs.declared.select.Term.TheVariants as term
use Rattle.fw_flow.specs.declared.kind.Policy.TheVariants as policy

-- a rec
abbrev pub pair : ℕ → ℕ → Rec
pair key value = record { key = key; value = value }

-- a node
abbrev pub node : List ℕ → Kind → Policy → Node
node name kind policy = record { name = name; kind = kind; policy = policy; part = None }

-- an edge
abbrev pub edge : List ℕ → ℕ → ℕ → Edge
edge name sender receiver = record { name = name; sender = sender; receiver = receiver }

-- an input, a node and an output of epochs, each leading to the next
abbrev pub in_a_row : Node → Dataflow
in_a_row inner = record {
  loops = [];
  nodes = node (codes "src") Input policy.None ∷ inner ∷ node (codes "out") OutputEpoch policy.None ∷ [];
  edges = edge (codes "a") 0 1 ∷ edge (codes "b") 1 2 ∷ [];
}

-- the same with these batches of the input
abbrev pub fed : Node → List (List Rec) → System
fed inner batches = record { flow = in_a_row inner; batches = batches ∷ [] ∷ [] ∷ [] }

-- the next value, where the value is below 9
abbrev pub counted_up : Selection
counted_up = record {
  condition = record { field = Value; comparison = Less; term = term.Number 9 };
  assignment = Some (record { field = Value; value = new.FieldPlus Value 1 });
}

-- a loop of greatest counter 3, in which each rec goes round with its value counted up, and each such rec leaves
abbrev pub loop_counts_up : Dataflow
loop_counts_up = record {
  loops = record { name = codes "lp"; max = 3; parent = None } ∷ [];
  nodes =
      node (codes "src") Input policy.None
      ∷ node (codes "ent") (Enter 0) policy.None
      ∷ node (codes "mix") (Concat (Some 0)) policy.Logged
      ∷ node (codes "inc") (Select counted_up (Some 0)) policy.None
      ∷ node (codes "fb") (Feedback 0) policy.None
      ∷ node (codes "lv") (Leave 0) policy.None
      ∷ node (codes "out") OutputEpoch policy.None
      ∷ [];
  edges =
      edge (codes "a") 0 1
      ∷ edge (codes "b") 1 2
      ∷ edge (codes "c") 2 3
      ∷ edge (codes "d") 3 4
      ∷ edge (codes "e") 4 2
      ∷ edge (codes "f") 3 5
      ∷ edge (codes "g") 5 6
      ∷ [];
}

-- the loop with two batches, of one rec and of two
abbrev pub two_batches : System
two_batches = record {
  flow = loop_counts_up;
  batches = ((pair 1 0 ∷ []) ∷ (pair 2 0 ∷ pair 3 0 ∷ []) ∷ []) ∷ [] ∷ [] ∷ [] ∷ [] ∷ [] ∷ [] ∷ [];
}

-- a sequence whose numbers are regrouped into epochs of three
abbrev pub regroup_by_three : Dataflow
regroup_by_three = record {
  loops = [];
  nodes =
      node (codes "src") Input policy.None
      ∷ node (codes "seq") Sequence policy.Eager
      ∷ node (codes "grp") (Regroup 3) policy.None
      ∷ node (codes "out") OutputEpoch policy.None
      ∷ [];
  edges = edge (codes "a") 0 1 ∷ edge (codes "b") 1 2 ∷ edge (codes "c") 2 3 ∷ [];
}

-- the regrouping without batches
abbrev pub no_batches : System
no_batches = record { flow = regroup_by_three; batches = [] ∷ [] ∷ [] ∷ [] ∷ [] }

-- ---- the dataflow of an input, a select of values from 10 on, and an output of epochs

-- the input
abbrev pub src : ℕ
src = 0

-- the select
abbrev pub big : ℕ
big = 1

-- the output
abbrev pub out : ℕ
out = 2

-- the edge from the input to the select
abbrev pub src_to_big : ℕ
src_to_big = 0

-- the edge from the select to the output
abbrev pub big_to_out : ℕ
big_to_out = 1

-- values from 10 on, as they are
abbrev pub at_least_ten : Selection
at_least_ten = record { condition = record { field = Value; comparison = GreaterOrEqual; term = term.Number 10 }; assignment = None }

-- the select, with a policy
abbrev pub selecting : Policy → Node
selecting keeping = node (codes "big") (Select at_least_ten None) keeping

-- the dataflow whose select keeps nothing
abbrev pub one_select_flow : Dataflow
one_select_flow = in_a_row (selecting policy.None)

-- the same with these batches of its input
abbrev pub one_select : List (List Rec) → System
one_select = fed (selecting policy.None)

-- ---- two inputs, the second through a select that keeps nothing, put together and summed

-- the first input
abbrev pub first_source : ℕ
first_source = 0

-- the second input
abbrev pub second_source : ℕ
second_source = 1

-- the select of values below 10
abbrev pub low : ℕ
low = 2

-- the concat
abbrev pub mix : ℕ
mix = 3

-- the sum
abbrev pub tot : ℕ
tot = 4

-- the edge from the first input to the concat
abbrev pub first_to_mix : ℕ
first_to_mix = 0

-- the edge from the second input to the select
abbrev pub second_to_low : ℕ
second_to_low = 1

-- the edge from the concat to the sum
abbrev pub mix_to_tot : ℕ
mix_to_tot = 3

-- the dataflow
abbrev pub two_sources_flow : Dataflow
two_sources_flow = record {
  loops = [];
  nodes =
      record { name = codes "s1"; kind = Input; policy = policy.None; part = None }
      ∷ record { name = codes "s2"; kind = Input; policy = policy.None; part = None }
      ∷ record {
        name = codes "low";
        kind = Select (record { condition = record { field = Value; comparison = Less; term = term.Number 10 }; assignment = None }) None;
        policy = policy.None;
        part = None;
      }
      ∷ record { name = codes "mix"; kind = Concat None; policy = policy.Logged; part = None }
      ∷ record { name = codes "tot"; kind = Sum None; policy = policy.None; part = None }
      ∷ record { name = codes "out"; kind = OutputEpoch; policy = policy.None; part = None }
      ∷ [];
  edges =
      record { name = codes "a"; sender = 0; receiver = 3 }
      ∷ record { name = codes "b"; sender = 1; receiver = 2 }
      ∷ record { name = codes "c"; sender = 2; receiver = 3 }
      ∷ record { name = codes "d"; sender = 3; receiver = 4 }
      ∷ record { name = codes "e"; sender = 4; receiver = 5 }
      ∷ [];
}

-- the dataflow with these batches of its inputs
abbrev pub two_sources : List (List Rec) → List (List Rec) → System
two_sources first second = record { flow = two_sources_flow; batches = first ∷ second ∷ [] ∷ [] ∷ [] ∷ [] ∷ [] }

-- ---- a history of a sequence whose numbers are regrouped into epochs of three

-- the regrouping with two batches, of two recs and of one
abbrev pub numbers : System
numbers = record {
  flow = regroup_by_three;
  batches = ((pair 1 1 ∷ pair 1 2 ∷ []) ∷ (pair 1 3 ∷ []) ∷ []) ∷ [] ∷ [] ∷ [] ∷ [];
}

-- a rec of this value at an epoch or number, from an epoch
abbrev pub value_at : ℕ → ℕ → ℕ → Message
value_at n value x = record { at = n ∷ []; rec = pair 1 value; causes = (x ∷ []) ∷ [] }

-- the sequence numbered the recs of epoch 0, and both came to the regrouping
abbrev pub numbered_epoch : List Event
numbered_epoch =
    Deliver 1 (value_at 1 2 0)
    ∷ Deliver 1 (value_at 0 1 0)
    ∷ Notify 1 (0 ∷ [])
    ∷ Deliver 0 (value_at 0 2 0)
    ∷ Deliver 0 (value_at 0 1 0)
    ∷ Inject 0 0
    ∷ []

-- then it numbered the rec of epoch 1
abbrev pub numbered_both : List Event
numbered_both = Notify 1 (1 ∷ []) ∷ Deliver 0 (value_at 1 3 1) ∷ Inject 0 1 ∷ numbered_epoch
