-- What an event of a node reads of the node's earlier events: the class of its kind.
use Rattle.std.specs.Prelude.{◌≡◌, Bool, true, false, List, [], ◌∷◌}
use Rattle.std.specs.List.{AllByRecursion}
use Rattle.fw_time.specs.Stamp.{Stamp, leq, same}
use Rattle.fw_flow.specs.declared.event.Event.{Event}
use Rattle.fw_flow.specs.declared.event.Event.TheVariants.{Notify}
use Rattle.fw_flow.specs.Kind.{Kind}
use Rattle.fw_flow.specs.declared.kind.Kind.TheVariants.{Distinct, Join, Sum, Total, Sequence, Ledger}
use Rattle.fw_flow.specs.Dataflow.{System}
use Rattle.fw_flow.specs.NodeFunction.{event_stamp, sends_of_kind}
use Rattle.fw_model.specs.Filtering.{events_inside}
use Rattle.fw_model.specs.Order.{notified_stamps}

-- What an event reads: nothing; what is at its stamp; what is at its stamp or below; all before it, which comes in order.
pub data Reads : Type 0 where
  nothing_before : Reads
  its_time : Reads
  up_to_its_time : Reads
  all_in_order : Reads

-- what an event of a node of the kind reads
abbrev pub reads_of : Kind → Reads
reads_of (Distinct within) = its_time
reads_of (Join within) = its_time
reads_of (Sum within) = its_time
reads_of Total = up_to_its_time
reads_of Sequence = all_in_order
reads_of Ledger = all_in_order
reads_of kind = nothing_before

-- whether an event at t reads what is at s
abbrev pub reads_at : Reads → Stamp → Stamp → Bool
reads_at nothing_before t s = false
reads_at its_time t s = same s t
reads_at up_to_its_time t s = leq s t
reads_at all_in_order t s = leq s t

-- whether events of the class read nothing at another time than theirs
abbrev pub reads_its_time_alone : Reads → Bool
reads_its_time_alone nothing_before = true
reads_its_time_alone its_time = true
reads_its_time_alone up_to_its_time = false
reads_its_time_alone all_in_order = false

-- what an event of a node of the kind reads of the events before it lies at its stamp or below
abbrev pub Follows : Kind → List Event → Event → Type 0
Follows Ledger before v = AllByRecursion (λ w. leq (event_stamp w) (event_stamp v) ≡ true) before
Follows Sequence before (Notify p t) = AllByRecursion (λ s. leq s t ≡ true) (notified_stamps before)
Follows kind before v = Unit {0}

-- that of each event does
abbrev pub IsInOrder : Kind → List Event → Type 0
IsInOrder kind [] = Unit {0}
IsInOrder kind (v ∷ vs) = Follows kind vs v × IsInOrder kind vs

-- what an event of a node of the kind sends depends on what it reads alone
abbrev pub SendsByWhatItReads : Kind → Type 0
SendsByWhatItReads kind = (sys : System) (vs : List Event) (v : Event) → Follows kind vs v
    → sends_of_kind sys kind (events_inside (reads_at (reads_of kind) (event_stamp v)) vs) v ≡ sends_of_kind sys kind vs v
