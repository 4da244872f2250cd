-- Which node is one of a flow, whatever came to it, and at which stamps it may send.
use Rattle.std.specs.Prelude.{◌≡◌, ℕ, ◌<◌, Bool, true, false, ◌||◌, ◌==◌, List, length, map, Option, Some}
use Rattle.std.specs.List.{AllByRecursion}
use Rattle.fw_time.specs.Stamp.{Stamp, in_domain}
use Rattle.fw_bag.specs.declared.rec.Rec.{Rec}
use Rattle.fw_flow.specs.declared.kind.Domain.TheVariants.{Number}
use Rattle.fw_flow.specs.Kind.{Kind}
use Rattle.fw_flow.specs.declared.kind.Kind.TheVariants as kind
use Rattle.fw_flow.specs.Dataflow.{Dataflow, kind_of, sender, receiver, in_edges, bounds_of, bounds_of_domain, max_of, is_input_kind, is_output_kind, is_sequence_kind, send_stamp_of_kind}
use Rattle.fw_node.specs.declared.in_loop.InLoop.{InLoop}
use Rattle.fw_node.specs.declared.in_loop.InLoop.TheVariants as loop_table
use Rattle.fw_node.specs.declared.node.Node.{Node}
use Rattle.fw_node.specs.declared.sends.Sends.{Sends}
use Rattle.fw_node.specs.declared.table.Table.{Table}
use Rattle.fw_node.specs.declared.table.Table.TheVariants as table
use Rattle.fw_node.specs.Kinds.{is_timed}
use Rattle.fw_node.specs.Sends.{sends_list}

-- whether the kind is a feedback whose loop has this greatest counter
abbrev pub is_feedback_up_to : Dataflow → ℕ → Kind → Bool
is_feedback_up_to flow max (kind.Feedback l) = max == max_of flow l
is_feedback_up_to flow max other = false

-- whether the kind leads out of a loop
abbrev pub is_leave : Kind → Bool
is_leave (kind.Leave l) = true
is_leave other = false

-- whether the kind leads into a loop
abbrev pub is_enter : Kind → Bool
is_enter (kind.Enter l) = true
is_enter other = false

-- whether the kind keeps totals by key of the epochs
abbrev pub is_total : Kind → Bool
is_total kind.Total = true
is_total other = false

-- whether the kind keeps totals by key of the numbers
abbrev pub is_ledger : Kind → Bool
is_ledger kind.Ledger = true
is_ledger other = false

-- whether the kind makes epochs of so many numbers
abbrev pub is_regroup_of : ℕ → Kind → Bool
is_regroup_of size (kind.Regroup n) = size == n
is_regroup_of size other = false

-- whether the table, at times of a loop, may be that of a node of the kind
abbrev pub is_loop_table_of : {T : Type 0} → Dataflow → Kind → InLoop T → Bool
is_loop_table_of flow k (loop_table.Here s) = is_timed k
is_loop_table_of flow k (loop_table.Feedback f) = is_feedback_up_to flow f.max k
is_loop_table_of flow k (loop_table.Leave f) = is_leave k

-- whether the table may be that of a node of the kind: what it sends is at the stamps at which the kind sends
abbrev pub is_table_of : Dataflow → Kind → Table → Bool
is_table_of flow k table.Idle = is_input_kind k || is_output_kind k
is_table_of flow k (table.Outside s) = is_timed k
is_table_of flow k (table.Loop s) = is_loop_table_of flow k s
is_table_of flow k (table.Loop2 s) = is_loop_table_of flow k s
is_table_of flow k (table.Loop3 s) = is_loop_table_of flow k s
is_table_of flow k (table.Enter s) = is_enter k
is_table_of flow k (table.Enter2 s) = is_enter k
is_table_of flow k (table.Enter3 s) = is_enter k
is_table_of flow k (table.Total s) = is_total k
is_table_of flow k (table.Sequence s) = is_sequence_kind k
is_table_of flow k (table.Ledger s) = is_ledger k
is_table_of flow k (table.Regroup s) = is_regroup_of s.size k

-- The node is one of node p: its table is of p's kind, its sides are p's in-edges, and its bounds those of p's domain.
pub record IsNodeOf (flow : Dataflow) (p : ℕ) (node : Node) : Type 0 where
  pub table : is_table_of flow (kind_of flow p) node.table ≡ true
  pub sides : node.sides.items ≡ in_edges flow p
  pub bounds : node.bounds ≡ bounds_of flow p

-- the stamps at which something is sent, one for each rec
abbrev pub stamps_of : Sends → List Stamp
stamps_of sends = map (λ x. x.0) (sends_list sends)

-- on each out-edge of node p the stamps are of the receiver's domain
abbrev pub CanBeSent : Dataflow → ℕ → List Stamp → Type 0
CanBeSent flow p stamps =
    (e : ℕ) → e < length flow.edges → sender flow e ≡ p → AllByRecursion (λ s. in_domain (bounds_of flow (receiver flow e)) s ≡ true) stamps

-- ---- for the proofs

-- each rec is at this stamp, if there is one; else there are none
abbrev pub AreAllAt : Option Stamp → List (Stamp × Rec) → Type 0
AreAllAt at sent = AllByRecursion (λ (x : Stamp × Rec). at ≡ Some x.0) sent

-- each rec of a sequence is at a number, and each rec of any other kind at the stamp at which an event at t sends
abbrev pub AreSentAt : Dataflow → Kind → Stamp → List (Stamp × Rec) → Type 0
AreSentAt flow kind.Sequence t sent = AllByRecursion (λ (x : Stamp × Rec). in_domain (bounds_of_domain flow Number) x.0 ≡ true) sent
AreSentAt flow k t sent = AreAllAt (send_stamp_of_kind flow k t) sent
