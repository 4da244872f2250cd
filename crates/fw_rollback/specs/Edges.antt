-- What is kept of each edge of a dataflow, by the edge's place.
use Rattle.std.specs.Prelude.{◌≡◌, ℕ, true, false, List, [], slice_index_or}
use Rattle.std.specs.List.{AllByRecursion}
use Rattle.fw_time.specs.Stamp.{in_domain}
use Rattle.fw_flow.specs.declared.event.Message.{Message}
use Rattle.fw_flow.specs.Dataflow.{Dataflow, sender, receiver, bounds_of}
use Rattle.fw_edge.specs.Messages.{MessagesState}

-- a queue or a log without messages
abbrev pub nothing_there : MessagesState
nothing_there = record { messages = []; refused = false }

-- the queue or the log of an edge; one without messages past the last edge
abbrev pub on_edge : List MessagesState → ℕ → MessagesState
on_edge all e = slice_index_or all e nothing_there

-- The message is one of edge e: at a stamp of the receiver's domain, with causes of the sender's.
pub record IsOnEdge (flow : Dataflow) (e : ℕ) (m : Message) : Type 0 where
  pub at : in_domain (bounds_of flow (receiver flow e)) m.at ≡ true
  pub causes : AllByRecursion (λ cause. in_domain (bounds_of flow (sender flow e)) cause ≡ true) m.causes
