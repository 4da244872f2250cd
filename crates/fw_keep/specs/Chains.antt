-- What several checkpoints hold together, of which each later one has changes since the one before it.
use Rattle.std.specs.Prelude.{ℕ, List, [], ◌∷◌, map}
use Rattle.std.specs.List.{flat_map}
use Rattle.fw_frontier.specs.Front.{Front}
use Rattle.fw_frontier.specs.declared.state.State.{State}
use Rattle.fw_flow.specs.declared.event.Message.{Message}
use Rattle.fw_record.specs.declared.record.Checkpoint.{Checkpoint}
use Rattle.fw_record.specs.declared.record.Record.{Record}
use Rattle.fw_record.specs.declared.record.Record.TheVariants as tagged
use Rattle.fw_record.specs.Log.{logged_on}

-- the front of each, with its state
abbrev pub states_of : List Checkpoint → List (Front × State)
states_of cs = map (λ (c : Checkpoint). (c.recorded.front, c.state)) cs

-- the messages on edge e of all their logs
abbrev pub logged_in_all : ℕ → List Checkpoint → List Message
logged_in_all e cs = flat_map (λ (c : Checkpoint). logged_on e c.log) cs

-- the changes that records hold, in order
abbrev pub changes_in : Record → List Checkpoint
changes_in (tagged.State c) = []
changes_in (tagged.Event node event) = []
changes_in (tagged.Changes base c) = c ∷ []

abbrev pub changes_of : List Record → List Checkpoint
changes_of rs = flat_map changes_in rs
