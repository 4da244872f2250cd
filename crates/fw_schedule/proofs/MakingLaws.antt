-- The items with which nothing is wrong are those of the dataflow.
use Rattle.std.proofs.Common.{◌≡◌, ℕ, ◌+◌, ◌<◌, ◌≤◌, Bool, true, false, cond, nat_le, List, [], ◌∷◌, length, get_or, drop, Option, Some, None, refl, sym, ◌∙◌, ap, arith}
use Rattle.std.proofs.lemmas.List.{drop_more, at_drop_all}
use Rattle.std.proofs.lemmas.Bool.Decides.{nat_tests}
use Rattle.std.specs.Prelude.{◌↔◌}
use Rattle.std.specs.List.{AllByRecursion}
use Rattle.std.specs.Option.{option_or}
use Rattle.fw_time.specs.Stamp.{Stamp, in_domain}
use Rattle.fw_time.specs.declared.stamp.Bounds.{Bounds}
use Rattle.fw_flow.specs.Kind.{Kind}
use Rattle.fw_flow.specs.declared.step.Step.{Step}
use Rattle.fw_flow.specs.declared.step.Step.TheVariants.{Inject, Deliver, Notify, Progress, Checkpoint, Persist, Fail, Recover, Collect, Ack}
use Rattle.fw_flow.specs.Dataflow.{Dataflow, kind_of, receiver, bounds_of, is_input_kind, is_output_kind}
use Rattle.fw_schedule.specs.declared.item.Item.{Item}
use Rattle.fw_schedule.specs.declared.item.Item.TheVariants.{One, Auto}
use Rattle.fw_schedule.specs.declared.making.ItemFault.{ItemFault}
use Rattle.fw_schedule.specs.declared.making.ItemFault.TheVariants.{NoNode, NoEdge, NoInput, NoOutput, OutsideDomain, TooManySteps}
use Rattle.fw_schedule.specs.Making.{node_fault, time_fault, delivery_fault, nodes_fault, step_fault, item_fault}
use Rattle.fw_schedule.specs.Schedule.{IsTimeIn, IsNodeOfKind, IsStepOf, IsItemOf, step_limit}

both_none : {X : Type 0} (a b : Option X) → option_or a b ≡ None → (a ≡ None) × (b ≡ None)
both_none None b e = (refl, e)
both_none (Some x) b e = absurd (cc)

or_none : {X : Type 0} (a b : Option X) → a ≡ None → b ≡ None → option_or a b ≡ None
or_none a b h e = ap (λ o. option_or o b) h ∙ e

-- a test of which one outcome alone is without a fault
passes : (fault : ItemFault) (b : Bool) → cond b None (Some fault) ≡ None → b ≡ true
passes fault true e = refl
passes fault false e = absurd (cc)

stays_below : (fault : ItemFault) (n m : ℕ) → cond (nat_le n m) (Some fault) None ≡ None → m < n
stays_below fault n m e = by (nat_le n m) refl e
  where
    by : (b : Bool) → nat_le n m ≡ b → cond b (Some fault) None ≡ None → m < n
    by true h e = absurd (cc)
    by false h e = grind (arith, nat_tests)

below_passes : (fault : ItemFault) (n m : ℕ) → m < n → cond (nat_le n m) (Some fault) None ≡ None
below_passes fault n m lt = by (nat_le n m) refl
  where
    by : (b : Bool) → nat_le n m ≡ b → cond b (Some fault) None ≡ None
    by true h = absurd (grind (arith, nat_tests))
    by false h = refl

-- ---- where nothing is wrong it is the dataflow's

of_kind : (flow : Dataflow) (is_such : Kind → Bool) (fault : ItemFault) (node : ℕ) → option_or (node_fault flow node) (cond (is_such (kind_of flow node)) None (Some fault)) ≡ None → IsNodeOfKind flow is_such node
of_kind flow is_such fault node e =
    let h = both_none (node_fault flow node) (cond (is_such (kind_of flow node)) None (Some fault)) e in
    (stays_below (NoNode node) (length flow.nodes) node h.0, passes fault (is_such (kind_of flow node)) h.1)

in_time : (bounds : Bounds) (at : Option Stamp) → time_fault bounds at ≡ None → IsTimeIn bounds at
in_time bounds None e = tt
in_time bounds (Some t) e = passes OutsideDomain (in_domain bounds t) e

all_below : (flow : Dataflow) (nodes : List ℕ) → nodes_fault flow nodes ≡ None → AllByRecursion (λ node. node < length flow.nodes) nodes
all_below flow [] e = tt
all_below flow (node ∷ nodes) e =
    let h = both_none (node_fault flow node) (nodes_fault flow nodes) e in (stays_below (NoNode node) (length flow.nodes) node h.0, all_below flow nodes h.1)

of_delivery : (flow : Dataflow) (edge : ℕ) (at : Option Stamp) → delivery_fault flow edge at ≡ None → IsStepOf flow (Deliver edge at)
of_delivery flow edge at e = by (nat_le (length flow.edges) edge) refl e
  where
    by : (b : Bool) → nat_le (length flow.edges) edge ≡ b → cond b (Some (NoEdge edge)) (time_fault (bounds_of flow (receiver flow edge)) at) ≡ None → IsStepOf flow (Deliver edge at)
    by true h e = absurd (cc)
    by false h e = (grind (arith, nat_tests), in_time (bounds_of flow (receiver flow edge)) at e)

of_flow_if : (flow : Dataflow) (step : Step) → step_fault flow step ≡ None → IsStepOf flow step
of_flow_if flow (Inject source) e = of_kind flow is_input_kind (NoInput source) source e
of_flow_if flow (Deliver edge at) e = of_delivery flow edge at e
of_flow_if flow (Notify node at) e =
    let h = both_none (node_fault flow node) (time_fault (bounds_of flow node) at) e in (stays_below (NoNode node) (length flow.nodes) node h.0, in_time (bounds_of flow node) at h.1)
of_flow_if flow Progress e = tt
of_flow_if flow (Checkpoint node) e = stays_below (NoNode node) (length flow.nodes) node e
of_flow_if flow Persist e = tt
of_flow_if flow (Fail []) e = absurd (cc)
of_flow_if flow (Fail (node ∷ nodes)) e = (omega arith, all_below flow (node ∷ nodes) e)
of_flow_if flow Recover e = tt
of_flow_if flow Collect e = tt
of_flow_if flow (Ack output) e = of_kind flow is_output_kind (NoOutput output) output e

few_if : (most : ℕ) → cond (nat_le most step_limit) None (Some TooManySteps) ≡ None → most ≤ step_limit
few_if most e = let h = passes TooManySteps (nat_le most step_limit) e in grind (arith, nat_tests)

pub is_item_if : (flow : Dataflow) (item : Item) → item_fault flow item ≡ None → IsItemOf flow item
is_item_if flow (One step) e = of_flow_if flow step e
is_item_if flow (Auto most) e = few_if most e

-- ---- where it is the dataflow's nothing is wrong

passed : (fault : ItemFault) (b : Bool) → b ≡ true → cond b None (Some fault) ≡ None
passed fault b e = ap (λ b. cond b None (Some fault)) e

kind_passes : (flow : Dataflow) (is_such : Kind → Bool) (fault : ItemFault) (node : ℕ) → IsNodeOfKind flow is_such node → option_or (node_fault flow node) (cond (is_such (kind_of flow node)) None (Some fault)) ≡ None
kind_passes flow is_such fault node h =
    or_none (node_fault flow node) (cond (is_such (kind_of flow node)) None (Some fault)) (below_passes (NoNode node) (length flow.nodes) node h.0) (passed fault (is_such (kind_of flow node)) h.1)

time_passes : (bounds : Bounds) (at : Option Stamp) → IsTimeIn bounds at → time_fault bounds at ≡ None
time_passes bounds None h = refl
time_passes bounds (Some t) h = passed OutsideDomain (in_domain bounds t) h

nodes_pass : (flow : Dataflow) (nodes : List ℕ) → AllByRecursion (λ node. node < length flow.nodes) nodes → nodes_fault flow nodes ≡ None
nodes_pass flow [] h = refl
nodes_pass flow (node ∷ nodes) h = or_none (node_fault flow node) (nodes_fault flow nodes) (below_passes (NoNode node) (length flow.nodes) node h.0) (nodes_pass flow nodes h.1)

delivery_passes : (flow : Dataflow) (edge : ℕ) (at : Option Stamp) → edge < length flow.edges → IsTimeIn (bounds_of flow (receiver flow edge)) at → delivery_fault flow edge at ≡ None
delivery_passes flow edge at lt h = by (nat_le (length flow.edges) edge) refl
  where
    by : (b : Bool) → nat_le (length flow.edges) edge ≡ b → cond b (Some (NoEdge edge)) (time_fault (bounds_of flow (receiver flow edge)) at) ≡ None
    by true e = absurd (grind (arith, nat_tests))
    by false e = time_passes (bounds_of flow (receiver flow edge)) at h

step_passes : (flow : Dataflow) (step : Step) → IsStepOf flow step → step_fault flow step ≡ None
step_passes flow (Inject source) h = kind_passes flow is_input_kind (NoInput source) source h
step_passes flow (Deliver edge at) h = delivery_passes flow edge at h.0 h.1
step_passes flow (Notify node at) h =
    or_none (node_fault flow node) (time_fault (bounds_of flow node) at) (below_passes (NoNode node) (length flow.nodes) node h.0) (time_passes (bounds_of flow node) at h.1)
step_passes flow Progress h = refl
step_passes flow (Checkpoint node) h = below_passes (NoNode node) (length flow.nodes) node h
step_passes flow Persist h = refl
step_passes flow (Fail []) h = absurd (omega (arith, h.0))
step_passes flow (Fail (node ∷ nodes)) h = nodes_pass flow (node ∷ nodes) h.1
step_passes flow Recover h = refl
step_passes flow Collect h = refl
step_passes flow (Ack output) h = kind_passes flow is_output_kind (NoOutput output) output h

few_pass : (most : ℕ) → most ≤ step_limit → cond (nat_le most step_limit) None (Some TooManySteps) ≡ None
few_pass most h = passed TooManySteps (nat_le most step_limit) (grind (arith, nat_tests))

item_passes : (flow : Dataflow) (item : Item) → IsItemOf flow item → item_fault flow item ≡ None
item_passes flow (One step) h = step_passes flow step h
item_passes flow (Auto most) h = few_pass most h

pub exactly_its_items : (flow : Dataflow) (item : Item) → (item_fault flow item ≡ None) ↔ IsItemOf flow item
exactly_its_items flow item = (is_item_if flow item, item_passes flow item)

-- ---- node by node

first_of : (flow : Dataflow) (nodes : List ℕ) (i p : ℕ) → i < length nodes → p ≡ get_or nodes i p → nodes_fault flow (drop i nodes) ≡ option_or (node_fault flow p) (nodes_fault flow (drop (i + 1) nodes))
first_of flow nodes i p lt is = ap (nodes_fault flow) (drop_more nodes i p lt ∙ ap (λ y. y ∷ drop (i + 1) nodes) (sym is))

-- a node that is there is passed over
pub passed_over : (flow : Dataflow) (nodes : List ℕ) (i p : ℕ) → i < length nodes → p ≡ get_or nodes i p → node_fault flow p ≡ None
    → nodes_fault flow (drop i nodes) ≡ nodes_fault flow nodes → nodes_fault flow (drop (i + 1) nodes) ≡ nodes_fault flow nodes
passed_over flow nodes i p lt is none h = sym (first_of flow nodes i p lt is ∙ ap (λ o. option_or o (nodes_fault flow (drop (i + 1) nodes))) none) ∙ h

-- the fault of the first one that is not
pub found_at : (flow : Dataflow) (nodes : List ℕ) (i p : ℕ) (fault : ItemFault) → i < length nodes → p ≡ get_or nodes i p → node_fault flow p ≡ Some fault
    → nodes_fault flow (drop i nodes) ≡ nodes_fault flow nodes → Some fault ≡ nodes_fault flow nodes
found_at flow nodes i p fault lt is some h = sym (first_of flow nodes i p lt is ∙ ap (λ o. option_or o (nodes_fault flow (drop (i + 1) nodes))) some) ∙ h

pub none_left : (flow : Dataflow) (nodes : List ℕ) (i : ℕ) → length nodes ≤ i → nodes_fault flow (drop i nodes) ≡ nodes_fault flow nodes → None ≡ nodes_fault flow nodes
none_left flow nodes i past h = sym (at_drop_all (nodes_fault flow) nodes i past) ∙ h
