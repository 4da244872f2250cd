-- What is told of an outlook: what the nodes offer, and how the largest choice of it is found.
use Rattle.std.specs.Prelude.{Option}
use Rattle.fw_flow.specs.declared.choice.Choice.{Choice}
use Rattle.fw_flow.specs.Dataflow.{System}
use Rattle.fw_model.specs.Certificates.{IsTrailBy}
use Rattle.fw_model.specs.Choice.{kept, IsCandidate}
use Rattle.fw_model.specs.Covers.{covers_in}
use Rattle.fw_model.specs.Machine.{Machine}
use Rattle.fw_model.specs.Offers.{AreOffersAbove, IsOffered, covers_of}
use Rattle.fw_keep.specs.Stored.{Records}
use Rattle.fw_running.specs.declared.running.Running.{Running}
use Rattle.fw_running.specs.Held.{StandsHeld}
use Rattle.fw_running.specs.Stands.{Stands}
use Rattle.fw_choose.specs.declared.outlook.Outlook.{Outlook}
use Rattle.fw_choose.specs.declared.viewing.Lost.{Lost}
use Rattle.fw_choose.specs.Chosen.{is_lost, IsChosen}

-- The outlook is that of a state of the machine in which these nodes count as failed: what is offered is what the machine offers there,
-- above a floor. The trail is the one by the state, and by the data.
pub record IsOutlookOf (sys : System) (state : Machine) (lost : Lost) (outlook : Outlook) : Type 0 where
  pub floor : Choice
  pub offers : AreOffersAbove sys state (is_lost lost state) floor outlook.candidates.items
  pub choice : IsChosen lost sys state outlook.descent.choice
  pub trail : IsTrailBy sys.flow (covers_in sys state) (IsCandidate sys state (is_lost lost state) kept) outlook.descent.trail outlook.descent.choice
  pub by_data : IsTrailBy sys.flow (covers_of sys.flow outlook.candidates.items) (IsOffered sys.flow outlook.candidates.items) outlook.descent.trail
      outlook.descent.choice

-- so it is of each state for which the engine stands
abbrev pub IsOutlookBy : Running → Lost → Outlook → Type 0
IsOutlookBy running lost outlook =
    (sys : System) (records : Option Records) (state : Machine) → Stands sys running records state → IsOutlookOf sys state lost outlook

-- and of each state of which it holds what is left
abbrev pub IsOutlookByHeld : Running → Lost → Outlook → Type 0
IsOutlookByHeld running lost outlook =
    (sys : System) (records : Option Records) (state : Machine) → StandsHeld sys running records state → IsOutlookOf sys state lost outlook
