-- A dataflow as its lists of loops, nodes and edges, its batches, and how these are looked up.
use Rattle.std.specs.Prelude.{ℕ, zero, suc, ◌+◌, ◌-◌, ◌^◌, ◌≤◌, Bool, true, false, ◌==◌, if◌then◌else◌, List, [], ◌∷◌, length, Option, Some, None, slice_index_or, map}
use Rattle.std.specs.List.{list_any, range_with_len}
use Rattle.fw_time.specs.Stamp.{Stamp, nest, up_to}
use Rattle.fw_time.specs.declared.stamp.Bounds.{Bounds}
use Rattle.fw_time.specs.Sending.{entered_stamp, fed_back_stamp, left_stamp, regrouped_stamp}
use Rattle.fw_bag.specs.declared.rec.Rec.{Rec}
use Rattle.fw_frontier.specs.Frontier.{Frontier}
use Rattle.fw_frontier.specs.Front.{Front, frontier_of}
use Rattle.fw_lines.specs.Batches.{batches_at}
use Rattle.fw_flow.specs.declared.kind.Domain.{Domain}
use Rattle.fw_flow.specs.declared.kind.Domain.TheVariants.{Epoch, Number, Loop as InLoop}
use Rattle.fw_flow.specs.Kind.{Kind}
use Rattle.fw_flow.specs.declared.kind.Kind.TheVariants.{Input, OutputEpoch, OutputNumber, Select, Concat, Distinct, Join, Sum, Enter, Feedback, Leave, Total, Sequence, Ledger, Regroup}
use Rattle.fw_flow.specs.declared.kind.Policy.{Policy}
use Rattle.fw_flow.specs.declared.kind.Policy.TheVariants as policy
use Rattle.fw_flow.specs.declared.node.Loop.{Loop}
use Rattle.fw_flow.specs.declared.node.Node.{Node}
use Rattle.fw_flow.specs.declared.node.Edge.{Edge}

-- a dataflow: its loops, nodes and edges, each by its place in the order of lines
pub record Dataflow : Type 0 where
  pub loops : List Loop
  pub nodes : List Node
  pub edges : List Edge

-- a dataflow with the batches of each node, by epoch; none where the node is no input
pub record System : Type 0 where
  pub flow : Dataflow
  pub batches : List (List (List Rec))

-- what stands past the last node: an idle output
abbrev pub idle_node : Node
idle_node = record { name = []; kind = OutputEpoch; policy = policy.None; part = None }

-- the places of the nodes, in order
abbrev pub node_ids : Dataflow → List ℕ
node_ids flow = range_with_len 0 (length flow.nodes)

-- the node at a place
unfoldable pub node_at : Dataflow → ℕ → Node
node_at flow p = slice_index_or flow.nodes p idle_node

-- its kind
unfoldable pub kind_of : Dataflow → ℕ → Kind
kind_of flow p = (slice_index_or flow.nodes p idle_node).kind

-- its policy
unfoldable pub policy_of : Dataflow → ℕ → Policy
policy_of flow p = (slice_index_or flow.nodes p idle_node).policy

-- the sender of the edge at a place; past the last edge stand edges between idle outputs
unfoldable pub sender : Dataflow → ℕ → ℕ
sender flow e = (slice_index_or flow.edges e (record { name = []; sender = length flow.nodes; receiver = length flow.nodes })).sender

-- its receiver
unfoldable pub receiver : Dataflow → ℕ → ℕ
receiver flow e = (slice_index_or flow.edges e (record { name = []; sender = length flow.nodes; receiver = length flow.nodes })).receiver

-- the places, counted from n, of the edges with this receiver
abbrev pub edges_into : ℕ → List Edge → ℕ → List ℕ
edges_into n [] p = []
edges_into n (e ∷ es) p = if e.receiver == p then n ∷ edges_into (n + 1) es p else edges_into (n + 1) es p

-- the places, counted from n, of the edges with this sender
abbrev pub edges_from : ℕ → List Edge → ℕ → List ℕ
edges_from n [] p = []
edges_from n (e ∷ es) p = if e.sender == p then n ∷ edges_from (n + 1) es p else edges_from (n + 1) es p

-- the in-edges of a node, in order
unfoldable pub in_edges : Dataflow → ℕ → List ℕ
in_edges flow p = edges_into 0 flow.edges p

-- the out-edges of a node, in order
unfoldable pub out_edges : Dataflow → ℕ → List ℕ
out_edges flow p = edges_from 0 flow.edges p

-- the greatest coordinate of epochs and numbers
abbrev pub greatest_number : ℕ
greatest_number = 2 ^ 32 - 1

-- the greatest counter of a loop
unfoldable pub max_of : Dataflow → ℕ → ℕ
max_of flow l = (slice_index_or flow.loops l (record { name = []; max = 0; parent = None })).max

-- the loop in which a loop is declared, if in any
unfoldable pub declared_parent : Dataflow → ℕ → Option ℕ
declared_parent flow l = (slice_index_or flow.loops l (record { name = []; max = 0; parent = None })).parent

-- whether the chain of loops, each declared in the next, ends within so many
abbrev pub ends_within : ℕ → Dataflow → Option ℕ → Bool
ends_within n flow None = true
ends_within zero flow (Some l) = false
ends_within (suc n) flow (Some l) = ends_within n flow (declared_parent flow l)

-- the domain of a node that stands outside loops or within one
abbrev pub domain_within : Option ℕ → Domain
domain_within None = Epoch
domain_within (Some l) = InLoop l

-- the parent domain of a loop: that of the loop in which it is declared; the epochs, where it is in none, and where its
-- chain does not end within three
unfoldable pub parent_of : Dataflow → ℕ → Domain
parent_of flow l = if ends_within 3 flow (Some l) then domain_within (declared_parent flow l) else Epoch

-- the loops that a domain lies in, the innermost first, at most so many
abbrev pub loops_within : ℕ → Dataflow → Domain → List ℕ
loops_within n flow Epoch = []
loops_within n flow Number = []
loops_within zero flow (InLoop l) = []
loops_within (suc n) flow (InLoop l) = l ∷ loops_within n flow (parent_of flow l)

-- the loops that a domain lies in, the innermost first
unfoldable pub loops_of : Dataflow → Domain → List ℕ
loops_of flow domain = loops_within 3 flow domain

-- whether the domain is a loop's
abbrev pub is_loop : Domain → Bool
is_loop Epoch = false
is_loop Number = false
is_loop (InLoop l) = true

-- whether the domain is this loop's own
abbrev pub is_domain_of : ℕ → Domain → Bool
is_domain_of l (InLoop k) = k == l
is_domain_of l domain = false

-- whether the number is one of these
abbrev pub is_one_of : ℕ → List ℕ → Bool
is_one_of n ns = list_any (λ m. m == n) ns

-- whether the domain is the loop's own, or that of a loop within it
abbrev pub is_domain_within : Dataflow → ℕ → Domain → Bool
is_domain_within flow l domain = is_one_of l (loops_of flow domain)

-- the domain of a kind: at which times its events are
abbrev pub domain_of_kind : Dataflow → Kind → Domain
domain_of_kind flow Input = Epoch
domain_of_kind flow OutputEpoch = Epoch
domain_of_kind flow OutputNumber = Number
domain_of_kind flow (Select selection within) = domain_within within
domain_of_kind flow (Concat within) = domain_within within
domain_of_kind flow (Distinct within) = domain_within within
domain_of_kind flow (Join within) = domain_within within
domain_of_kind flow (Sum within) = domain_within within
domain_of_kind flow (Enter l) = parent_of flow l
domain_of_kind flow (Feedback l) = InLoop l
domain_of_kind flow (Leave l) = InLoop l
domain_of_kind flow Total = Epoch
domain_of_kind flow Sequence = Epoch
domain_of_kind flow Ledger = Number
domain_of_kind flow (Regroup n) = Number

-- the out domain of a kind: at which times its messages are
abbrev pub out_domain_of_kind : Dataflow → Kind → Domain
out_domain_of_kind flow (Enter l) = InLoop l
out_domain_of_kind flow (Leave l) = parent_of flow l
out_domain_of_kind flow Sequence = Number
out_domain_of_kind flow (Regroup n) = Epoch
out_domain_of_kind flow kind = domain_of_kind flow kind

-- the domain of a node
abbrev pub domain_of : Dataflow → ℕ → Domain
domain_of flow p = domain_of_kind flow (kind_of flow p)

-- the out domain of a node
abbrev pub out_domain_of : Dataflow → ℕ → Domain
out_domain_of flow p = out_domain_of_kind flow (kind_of flow p)

-- the greatest stamp of the innermost of these loops, each in the next; the greatest epoch or number where there is none
abbrev pub greatest_in : Dataflow → List ℕ → Stamp
greatest_in flow [] = greatest_number ∷ []
greatest_in flow (l ∷ ls) = nest (greatest_in flow ls) (max_of flow l)

-- the greatest stamp of a domain
abbrev pub greatest_of : Dataflow → Domain → Stamp
greatest_of flow Epoch = greatest_number ∷ []
greatest_of flow Number = greatest_number ∷ []
greatest_of flow (InLoop l) = nest (greatest_in flow (loops_of flow (parent_of flow l))) (max_of flow l)

-- the greatest stamp of a kind's domain
abbrev pub greatest_of_kind : Dataflow → Kind → Stamp
greatest_of_kind flow kind = greatest_of flow (domain_of_kind flow kind)

-- the bounds of a domain
abbrev pub bounds_of_domain : Dataflow → Domain → Bounds
bounds_of_domain flow domain = up_to (greatest_of flow domain)

-- the bounds of a node's domain: which lists are stamps of its events
unfoldable pub bounds_of : Dataflow → ℕ → Bounds
bounds_of flow p = bounds_of_domain flow (domain_of flow p)

-- the frontier of node p that has these outside stamps
abbrev pub node_frontier : Dataflow → ℕ → Front → Frontier
node_frontier flow p f = frontier_of (bounds_of flow p) f

-- the bounds of an edge: which lists are stamps of its messages
abbrev pub bounds_of_edge : Dataflow → ℕ → Bounds
bounds_of_edge flow e = bounds_of_domain flow (out_domain_of flow (sender flow e))

-- the stamp at which an event at t sends, for every kind but a sequence; none where it sends nothing
abbrev pub send_stamp_of_kind : Dataflow → Kind → Stamp → Option Stamp
send_stamp_of_kind flow OutputEpoch t = None
send_stamp_of_kind flow OutputNumber t = None
send_stamp_of_kind flow (Enter l) t = entered_stamp t
send_stamp_of_kind flow (Feedback l) t = fed_back_stamp (max_of flow l) t
send_stamp_of_kind flow (Leave l) t = left_stamp t
send_stamp_of_kind flow (Regroup n) t = regrouped_stamp n t
send_stamp_of_kind flow kind t = Some t

-- the same for a node
abbrev pub send_stamp : Dataflow → ℕ → Stamp → Option Stamp
send_stamp flow p t = send_stamp_of_kind flow (kind_of flow p) t

-- whether a node of the kind is notified: it waits for a time to be complete
abbrev pub is_notified_kind : Kind → Bool
is_notified_kind (Sum within) = true
is_notified_kind Total = true
is_notified_kind Sequence = true
is_notified_kind kind = false

-- whether the node is an input
abbrev pub is_input_kind : Kind → Bool
is_input_kind Input = true
is_input_kind kind = false

-- whether the node is an output
abbrev pub is_output_kind : Kind → Bool
is_output_kind OutputEpoch = true
is_output_kind OutputNumber = true
is_output_kind kind = false

-- whether the node is a sequence: it numbers what it sends
abbrev pub is_sequence_kind : Kind → Bool
is_sequence_kind Sequence = true
is_sequence_kind kind = false

-- whether a domain is that of numbers
abbrev pub is_of_numbers : Domain → Bool
is_of_numbers Epoch = false
is_of_numbers Number = true
is_of_numbers (InLoop l) = false

-- whether an edge is numbered: it leads into the domain of numbers
abbrev pub is_numbered : Dataflow → ℕ → Bool
is_numbered flow e = is_of_numbers (domain_of flow (receiver flow e))

-- the batches of a node, by epoch
unfoldable pub batches_of : System → ℕ → List (List Rec)
batches_of sys s = slice_index_or sys.batches s []

-- each batch has an epoch
abbrev pub HasEpochs : System → Type 0
HasEpochs sys = (s : ℕ) → length (batches_of sys s) ≤ greatest_number + 1

-- for each node its batches, by epoch
unfoldable pub batches_of_nodes : Dataflow → List (ℕ × List (List Rec)) → List (List (List Rec))
batches_of_nodes flow batches = map (batches_at batches) (node_ids flow)

-- a dataflow with the batches that were given for its nodes
abbrev pub system_of : Dataflow → List (ℕ × List (List Rec)) → System
system_of flow batches = record { flow = flow; batches = batches_of_nodes flow batches }
