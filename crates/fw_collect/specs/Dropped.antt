-- What is left where a collection gives things up.
use Rattle.std.specs.Prelude.{◌≡◌, ℕ, Bool, false, not, ◌&&◌, ◌||◌, ◌==◌, List, [], ◌∷◌, filter, slice_index_or, slice_set, Option}
use Rattle.std.specs.List.{list_any}
use Rattle.fw_time.specs.Stamp.{Stamp}
use Rattle.fw_frontier.specs.Front.{Front, inside}
use Rattle.fw_flow.specs.declared.choice.OfEdge.{OfEdge}
use Rattle.fw_model.specs.Filtering.{messages_outside}
use Rattle.fw_edge.specs.Messages.{MessagesState}
use Rattle.fw_border.specs.Sources.{SourceState}
use Rattle.fw_keep.specs.declared.entry.Entry.{Entry}
use Rattle.fw_keep.specs.Catalogue.{KeepState, is_id_among, has_entry, without}
use Rattle.fw_keep.specs.Entry.{is_at}
use Rattle.fw_keep.specs.Newest.{is_forgotten_below}
use Rattle.fw_keep.specs.Stored.{Records, IsStored}
use Rattle.fw_collect.specs.declared.drops.AtNode.{AtNode}
use Rattle.fw_collect.specs.declared.drops.Drops.{Drops}
use Rattle.fw_collect.specs.declared.drops.OfNode.{OfNode}

-- ---- entries

-- whether the entry of a catalogue goes where the checkpoints are forgotten that lie strictly within the fronts beside these nodes, one front
-- after the other: each finds what those before it left
abbrev pub is_below_some : List OfNode → KeepState → Entry → Bool
is_below_some [] keep e = false
is_below_some (d ∷ ds) keep e =
    is_forgotten_below d.node d.front keep e || is_below_some ds (without (is_forgotten_below d.node d.front keep) keep) e

-- whether the entry is an event of one of these nodes at the stamp beside it
abbrev pub is_at_some : List AtNode → Entry → Bool
is_at_some events e = list_any (λ (d : AtNode). is_at d.node d.at e) events

-- whether the entry of a catalogue is given up
abbrev pub is_dropped : Drops → KeepState → Entry → Bool
is_dropped drops keep e = is_below_some drops.records.items keep e || is_at_some drops.events.items e

-- The entries at which the test gives true are gone, and their ids wait beside those that waited; what a store holds of the
-- catalogue stays the same.
pub record Forgets (goes : Entry → Bool) (old new : KeepState) : Type 0 where
  pub left : new ≡ record old { entries = filter (λ e. not (goes e)) old.entries; waiting = new.waiting }
  pub waiting : (id : ℕ) → is_id_among id new.waiting ≡ (is_id_among id old.waiting || has_entry id (filter goes old.entries))
  pub stored : (records : Option Records) → IsStored old records → IsStored new records

-- ---- logs

-- whether a stamp is inside a front that stands beside the edge
abbrev pub is_inside_edge : List OfEdge → ℕ → Stamp → Bool
is_inside_edge fronts e t = list_any (λ (d : OfEdge). (e == d.edge) && inside d.front t) fronts

-- the log at a place; an empty one past the last
abbrev pub log_at_place : List MessagesState → ℕ → MessagesState
log_at_place logs e = slice_index_or logs e (record { messages = []; refused = false })

-- a log without the messages inside a front
abbrev pub log_outside : Front → MessagesState → MessagesState
log_outside f log = record log { messages = messages_outside (inside f) log.messages }

-- the logs with that at a place without the messages inside a front
abbrev pub with_log_outside : Front → List MessagesState → ℕ → List MessagesState
with_log_outside f logs e = slice_set logs e (log_outside f (log_at_place logs e))

-- the log of edge e without the messages inside the fronts that stand beside the edge
abbrev pub log_left : List OfEdge → ℕ → MessagesState → MessagesState
log_left fronts e log = record log { messages = filter (λ m. not (is_inside_edge fronts e m.at)) log.messages }

-- ---- batches

-- whether a stamp is inside a front that stands beside the node
abbrev pub is_inside_node : List OfNode → ℕ → Stamp → Bool
is_inside_node fronts p t = list_any (λ (d : OfNode). (p == d.node) && inside d.front t) fronts

-- input s without the batches of the epochs inside the fronts that stand beside it
abbrev pub source_left : List OfNode → ℕ → SourceState → SourceState
source_left fronts s source = record source { held = filter (λ batch. not (is_inside_node fronts s (batch.0 ∷ []))) source.held }
