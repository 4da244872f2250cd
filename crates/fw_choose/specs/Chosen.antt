-- Which choice an engine makes, and what it knows of its nodes for it.
use Rattle.std.specs.Prelude.{◌≡◌, ℕ, ◌≤◌, ◌==◌, Bool, true, false, not, ◌&&◌, ◌||◌, List, filter, length, Option}
use Rattle.fw_time.specs.Stamp.{in_domain}
use Rattle.fw_border.specs.Outputs.{OutputState}
use Rattle.fw_border.specs.Sources.{SourceState}
use Rattle.fw_flow.specs.declared.choice.Choice.{Choice}
use Rattle.fw_flow.specs.declared.choice.Counted.{Counted}
use Rattle.fw_flow.specs.declared.choice.Stamps.{Stamps}
use Rattle.fw_flow.specs.Kind.{Kind}
use Rattle.fw_flow.specs.declared.kind.Kind.TheVariants.{Input, OutputEpoch, OutputNumber}
use Rattle.fw_flow.specs.Dataflow.{System, Dataflow, kind_of, receiver, bounds_of, is_input_kind, greatest_number}
use Rattle.fw_model.specs.Choice.{IsLargest, IsWatermark}
use Rattle.fw_model.specs.Machine.{Machine, is_failed}
use Rattle.fw_model.specs.Steps.{offers}
use Rattle.fw_keep.specs.Stored.{Records}
use Rattle.fw_policy.specs.declared.view.Border.{Border}
use Rattle.fw_policy.specs.declared.view.Border.TheVariants.{Inner, Source, Output}
use Rattle.fw_policy.specs.declared.view.NodeView.{NodeView}
use Rattle.fw_policy.specs.Shaped.{AreViewsFrom}
use Rattle.fw_policy.specs.View.{IsNodeViewOf, AreNodeViewsFrom}
use Rattle.fw_running.specs.declared.running.Running.{Running}
use Rattle.fw_choose.specs.declared.viewing.Lost.{Lost}
use Rattle.fw_choose.specs.declared.viewing.Lost.TheVariants.{Failed, All}
use Rattle.fw_running.specs.Held.{StandsHeld}
use Rattle.fw_running.specs.Stands.{Stands}

-- whether a node counts as failed, by whether it is
abbrev pub counts_as_failed : Lost → Bool → Bool
counts_as_failed Failed failed = failed
counts_as_failed All failed = true

-- which nodes count as failed
abbrev pub is_lost : Lost → Machine → ℕ → Bool
is_lost lost state p = counts_as_failed lost (is_failed state p)

-- the choice is the largest consistent one where these nodes count as failed: that of a recovery, or the low watermark
abbrev pub IsChosen : Lost → System → Machine → Choice → Type 0
IsChosen Failed sys state choice = IsLargest sys state (offers sys state) choice
IsChosen All sys state choice = IsWatermark sys state choice

-- so it is of each state for which the engine stands
abbrev pub IsChosenBy : Running → Lost → Choice → Type 0
IsChosenBy running lost choice =
    (sys : System) (records : Option Records) (state : Machine) → Stands sys running records state → IsChosen lost sys state choice

-- and of each state of which it holds what is left
abbrev pub IsChosenByHeld : Running → Lost → Choice → Type 0
IsChosenByHeld running lost choice =
    (sys : System) (records : Option Records) (state : Machine) → StandsHeld sys running records state → IsChosen lost sys state choice

-- ---- what is known of the nodes

-- the view is that of node p in each state for which the engine stands
abbrev pub IsViewBy : Running → Lost → ℕ → NodeView → Type 0
IsViewBy running lost p node =
    (sys : System) (records : Option Records) (state : Machine) (stands : Stands sys running records state)
    → IsNodeViewOf sys state (is_lost lost state) stands.traces.floor p node

-- and in each state of which it holds what is left, above the low watermark
abbrev pub IsViewByHeld : Running → Lost → ℕ → NodeView → Type 0
IsViewByHeld running lost p node =
    (sys : System) (records : Option Records) (state : Machine) → StandsHeld sys running records state
    → IsNodeViewOf sys state (is_lost lost state) state.low p node

-- The views are those of so many nodes, the first ones, in the flow, in each state for which the engine stands, and in each of which it
-- holds what is left.
pub record AreViewsBy (running : Running) (lost : Lost) (count : ℕ) (view : List NodeView) : Type 0 where
  pub one_each : length view ≡ count
  pub of_flow : AreViewsFrom running.flow 0 view
  pub of_state : (sys : System) (records : Option Records) (state : Machine) (stands : Stands sys running records state)
      → AreNodeViewsFrom sys state (is_lost lost state) stands.traces.floor 0 view
  pub of_held : (sys : System) (records : Option Records) (state : Machine) → StandsHeld sys running records state
      → AreNodeViewsFrom sys state (is_lost lost state) state.low 0 view

-- what is told of a border, by what is kept of it
abbrev pub IsBorderBy : SourceState → OutputState → Kind → Border → Type 0
IsBorderBy source output Input (Source injected exhausted) =
    (injected ≤ greatest_number) × (source.injected ≤ greatest_number → injected ≡ source.injected) × (exhausted ≡ (source.injected == source.given))
IsBorderBy source output Input border = ⊥
IsBorderBy source output OutputEpoch (Output bound) = bound ≡ output.bound
IsBorderBy source output OutputEpoch border = ⊥
IsBorderBy source output OutputNumber (Output bound) = bound ≡ output.bound
IsBorderBy source output OutputNumber border = ⊥
IsBorderBy source output kind border = border ≡ Inner

-- whether the message is at a stamp of its edge, and of one cause where it is to be
abbrev pub is_on_its_edge : Dataflow → Bool → Counted → Bool
is_on_its_edge flow single m = in_domain (bounds_of flow (receiver flow m.edge)) m.at && (not single || length m.causes == 1)

-- the stamps of node p that are of its domain and those of its edges
abbrev pub of_domains : Dataflow → ℕ → Stamps → Stamps
of_domains flow p stamps = record {
  delivered = filter (is_on_its_edge flow false) stamps.delivered;
  notified = filter (in_domain (bounds_of flow p)) stamps.notified;
  sent = filter (is_on_its_edge flow (is_input_kind (kind_of flow p))) stamps.sent;
}
