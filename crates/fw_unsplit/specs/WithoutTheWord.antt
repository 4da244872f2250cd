-- What is true of accepted texts without the word `split`.
use Rattle.std.specs.Prelude.{◌≡◌, ℕ, ◌<◌, true, List, length, map}
use Rattle.std.specs.List.{AllByRecursion}
use Rattle.fw_flow.specs.Check.{IsChecked}
use Rattle.fw_flow.specs.Dataflow.{Dataflow, System, node_at, kind_of, receiver, in_edges, is_output_kind}
use Rattle.fw_flow.specs.Declaring.{Declared}
use Rattle.fw_flow.specs.Expand.{expand}
use Rattle.fw_flow.specs.Flow.{HasNoParts}
use Rattle.fw_flow.specs.Raw.{flow_of_declarations}
use Rattle.fw_flow.specs.Sources.{AreInputsOf}
use Rattle.fw_flow.specs.declared.step.Step.{Step}
use Rattle.fw_flow.specs.WellFormed.{IsWellFormedSystem}
use Rattle.fw_flow_text.specs.Grammar.{Declare, IsAcceptedFlow, flow_rules}
use Rattle.fw_model.specs.Denotation.{Family, IsDenotation, bag_at}
use Rattle.fw_model.specs.Machine.{Machine, first_state}
use Rattle.fw_model.specs.Steps.{Effect, silent, lows, cuts, acked, idle, Outcome, did, Run}
use Rattle.fw_headline.specs.Right.{RunsRight}
use Rattle.fw_lines.specs.Faults.{BreaksNone}
use Rattle.fw_lines.specs.Lines.{said_lines}
use Rattle.fw_split.specs.Unsplit.{AreAsWritten, HaveSameBatches, unsplit}
use Rattle.fw_generate.specs.Texts.{Texts}
use Rattle.fw_command.specs.Texts.{spelled_system}

-- the dataflow of declarations without the word, in which no node is split
abbrev pub plain_flow : List Declared → Dataflow
plain_flow declared = flow_of_declarations (unsplit declared)

-- node p of the first system and node o of the second have one name and one kind, and on their in-edges the families have the same bags
pub record HearTheSame (plain sys : System) (family expanded : Family) (p o : ℕ) : Type 0 where
  pub within : p < length plain.flow.nodes
  pub name : (node_at plain.flow p).name ≡ (node_at sys.flow o).name
  pub kind : kind_of plain.flow p ≡ kind_of sys.flow o
  pub bags : map family (in_edges plain.flow p) ≡ map expanded (in_edges sys.flow o)

-- what an output acknowledges is what the family has on the in-edge of the first system's node of that name
abbrev pub IsEffectByName : System → Family → System → Effect → Type 0
IsEffectByName plain family sys silent = Unit {0}
IsEffectByName plain family sys (acked o t recs) =
    (d : ℕ) → d < length plain.flow.edges → (node_at plain.flow (receiver plain.flow d)).name ≡ (node_at sys.flow o).name → recs ≡ bag_at family d t
IsEffectByName plain family sys (cuts choice) = Unit {0}
IsEffectByName plain family sys (lows choice) = Unit {0}

-- the same of what comes of a step
abbrev pub IsDenotedByName : System → Family → System → Outcome → Type 0
IsDenotedByName plain family sys (did effect) = IsEffectByName plain family sys effect
IsDenotedByName plain family sys idle = Unit {0}

-- The outputs of the second system are those of the first, by their names, and it acknowledges at them what the first denotes.
pub record DenotesTheSame (plain sys : System) : Type 0 where
  -- the first is well formed
  pub well_formed : IsWellFormedSystem plain
  -- so it has one denotation, and all is right wherever its own steps end
  pub runs : RunsRight plain
  -- each output of the second is one of the first, and the same is denoted at it
  pub outputs : (family expanded : Family) → IsDenotation plain family → IsDenotation sys expanded
      → (o : ℕ) → o < length sys.flow.nodes → is_output_kind (kind_of sys.flow o) ≡ true → (p : ℕ) × HearTheSame plain sys family expanded p o
  -- and each output of the first is one of the second
  pub no_fewer : (family expanded : Family) → IsDenotation plain family → IsDenotation sys expanded
      → (p : ℕ) → p < length plain.flow.nodes → is_output_kind (kind_of plain.flow p) ≡ true
      → (o : ℕ) × (o < length sys.flow.nodes) × HearTheSame plain sys family expanded p o
  -- whatever steps the second takes, each acknowledgement has the recs that the first denotes at the output of that name
  pub acknowledged : (steps : List Step) (outcomes : List Outcome) (state : Machine) → Run sys (first_state sys) steps outcomes state
      → (family : Family) → IsDenotation plain family → AllByRecursion (IsDenotedByName plain family sys) outcomes

-- The declarations of a flow's text are accepted without the word that splits nodes, so are the inputs, and the system that they spell then
-- denotes at its outputs what is acknowledged with it.
pub record IsAcceptedWithoutTheWord (declared : List Declared) (texts : Texts) (flow : Dataflow) : Type 0 where
  pub checked : IsChecked (expand (unsplit declared)) (plain_flow declared)
  -- so is each text whose lines, of which none breaks a rule, say these declarations without the word
  pub text : (text : List ℕ) → BreaksNone flow_rules text → Declare (said_lines text) (unsplit declared) → IsAcceptedFlow text (plain_flow declared)
  -- there no node is a replica
  pub no_replicas : HasNoParts (plain_flow declared)
  pub inputs : AreInputsOf (plain_flow declared) texts.inputs
  pub same : DenotesTheSame (spelled_system (plain_flow declared) texts) (spelled_system flow texts)

-- accepted texts of a flow and of its inputs are accepted without the word
abbrev pub AcceptedWithoutTheWord : Type 0
AcceptedWithoutTheWord = (texts : Texts) (flow : Dataflow) → (accepted : IsAcceptedFlow texts.flow flow) → AreInputsOf flow texts.inputs
    → IsAcceptedWithoutTheWord accepted.declared texts flow

-- The same of declarations in code, with a name of its own each: where their expansion is checked and has batches, their flow without the
-- word, with the same batches, denotes at its outputs what the expansion acknowledges.
abbrev pub DeclaredWithoutTheWord : Type 0
DeclaredWithoutTheWord = (raw : List Declared) (plain sys : System) → AreAsWritten raw → plain.flow ≡ plain_flow raw → IsChecked (expand raw) sys.flow
    → HaveSameBatches plain sys → length plain.batches ≡ length plain.flow.nodes → IsWellFormedSystem sys → DenotesTheSame plain sys
