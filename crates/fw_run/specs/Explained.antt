-- Why the cuts of a recovery are the largest, as it is told.
use Rattle.std.specs.Prelude.{◌≡◌, ℕ, List, [], ◌++◌, length, codes}
use Rattle.std.specs.Fmt.{decimal}
use Rattle.fw_flow.specs.declared.choice.Choice.{Choice}
use Rattle.fw_flow.specs.declared.choice.Offer.{Offer}
use Rattle.fw_flow.specs.declared.step.Step.{Step}
use Rattle.fw_flow.specs.declared.trail.Lowering.{Lowering}
use Rattle.fw_flow.specs.Dataflow.{Dataflow, System}
use Rattle.fw_model.specs.Machine.{Machine, is_failed}
use Rattle.fw_model.specs.Offers.{IsOffered, covers_of}
use Rattle.fw_model.specs.Steps.{Outcome, did, idle, silent, acked, cuts, lows, StepsTo}
use Rattle.fw_headline.specs.LawsOfTrails.{IsTrailIn}
use Rattle.fw_certify.specs.CertificateText.{certificate_text, down_lines}
use Rattle.fw_certify.specs.Checked.{IsVerdict}
use Rattle.fw_certify.specs.declared.checker.Verdict.{Verdict}
use Rattle.fw_certify.specs.declared.checker.Verdict.TheVariants.{Yes, No}
use Rattle.fw_command.specs.Command.{Showing, by_effect, with_certificates}

-- the word of a verdict
abbrev pub verdict_word : Verdict → List ℕ
verdict_word Yes = codes "yes"
verdict_word (No at) = codes "no"

-- a line for each of the lowerings, and one with their number and the word
abbrev pub judged_text : Dataflow → List Lowering → Verdict → List ℕ
judged_text flow ls verdict =
    down_lines flow ls ++ (codes "certificate " ++ (decimal (length ls) ++ (codes " " ++ (verdict_word verdict ++ codes "\n"))))

-- The text is these lines of the lowerings with the word of the verdict on them that is right: where they are a certificate of the choice it
-- is yes.
abbrev pub IsJudgedText : Dataflow → List Offer → List Lowering → Choice → List ℕ → Type 0
IsJudgedText flow offers ls choice text =
    (verdict : Verdict) × IsVerdict flow (covers_of flow offers) (IsOffered flow offers) ls choice verdict × (text ≡ judged_text flow ls verdict)

-- these are the lines of a certificate of the choice: that which the trail of the descent to it is, in the state before the recovery
pub record AreReasonsOf (sys : System) (state : Machine) (choice : Choice) (lines : List ℕ) : Type 0 where
  pub trail : List Lowering
  pub of_state : IsTrailIn sys state (is_failed state) trail choice
  pub text : lines ≡ certificate_text sys.flow trail

-- behind the lines of what comes of a step these are told: where certificates are shown, of a recovery the reasons; else nothing
abbrev pub IsToldBehind : Showing → System → Machine → Outcome → List ℕ → Type 0
IsToldBehind by_effect sys state outcome lines = lines ≡ []
IsToldBehind with_certificates sys state idle lines = lines ≡ []
IsToldBehind with_certificates sys state (did silent) lines = lines ≡ []
IsToldBehind with_certificates sys state (did (acked o t recs)) lines = lines ≡ []
IsToldBehind with_certificates sys state (did (cuts choice)) lines = AreReasonsOf sys state choice lines
IsToldBehind with_certificates sys state (did (lows choice)) lines = lines ≡ []

-- the same of a step before it is taken, whatever comes of it
abbrev pub AreReasonsFor : Showing → System → Machine → Step → List ℕ → Type 0
AreReasonsFor showing sys state step lines =
    (next : Machine) (outcome : Outcome) → StepsTo sys state step next outcome → IsToldBehind showing sys state outcome lines
