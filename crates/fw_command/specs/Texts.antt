-- What the texts of a command spell, and which of them is refused.
use Rattle.std.specs.Prelude.{◌≡◌, ◌⊎◌, ℕ, ◌≤◌, List, [], ◌∷◌, map, Option}
use Rattle.fw_bag.specs.declared.rec.Rec.{Rec}
use Rattle.fw_outside.specs.Outside.{IsText, one_more}
use Rattle.fw_lines.specs.declared.refusal.Refusal.{Refusal}
use Rattle.fw_lines.specs.Inputs as inputs
use Rattle.fw_lines.specs.Lines.{said_lines}
use Rattle.fw_flow.specs.Dataflow.{Dataflow, System, node_ids}
use Rattle.fw_flow.specs.Sources.{sources_of, AreInputsOf}
use Rattle.fw_flow_text.specs.Grammar as flows
use Rattle.fw_schedule.specs.declared.item.Item.{Item}
use Rattle.fw_schedule.specs.Grammar.{items_of}
use Rattle.fw_schedule.specs.Grammar as schedules
use Rattle.fw_generate.specs.Draws.{words_from}
use Rattle.fw_schedule.specs.Texts.{IsScheduleOf}
use Rattle.fw_generate.specs.Laws.{AreAccepted, accepted_size_limit}
use Rattle.fw_generate.specs.Texts.{Texts, texts_of}
use Rattle.fw_command.specs.Command.{ReadAs, as_inputs, as_schedule, NamedText, Origin, in_folder, generated, Seeded}

-- for each node of a dataflow the batches that a text gives it, by epoch
abbrev pub spelled_batches : Dataflow → List ℕ → List (List (List Rec))
spelled_batches flow text = map (inputs.batches_said_of (sources_of flow) (said_lines text)) (node_ids flow)

-- a dataflow with the batches that the texts give it
abbrev pub spelled_system : Dataflow → Texts → System
spelled_system flow texts = record { flow = flow; batches = spelled_batches flow texts.inputs }

-- the items of the schedule of a dataflow
abbrev pub spelled_items : Dataflow → Texts → List Item
spelled_items flow texts = items_of flow (said_lines texts.schedule)

-- ---- the texts behind that of a flow

-- the text of three that is read so
abbrev pub text_for : ReadAs → Texts → List ℕ
text_for as_inputs texts = texts.inputs
text_for as_schedule texts = texts.schedule

-- the text is accepted where it is read so for the dataflow
abbrev pub IsReadFor : ReadAs → Dataflow → List ℕ → Type 0
IsReadFor as_inputs flow text = AreInputsOf flow text
IsReadFor as_schedule flow text = IsScheduleOf flow text

-- the text is refused where it is read so for the dataflow
abbrev pub IsRefusedFor : ReadAs → Dataflow → List ℕ → Refusal → Type 0
IsRefusedFor as_inputs flow text refusal = inputs.AreRefusedInputs text (sources_of flow) refusal
IsRefusedFor as_schedule flow text refusal = schedules.IsRefusedSchedule text flow refusal

-- ---- what a folder has

-- the folder has a text under the name, where it tells its texts, and this is true of it
pub record HasText (told : Option (List ℕ → Option (List ℕ))) (name : List ℕ) (IsSo : List ℕ → Type 0) : Type 0 where
  pub text : List ℕ
  pub there : IsText told name text
  pub so : IsSo text

-- the text under the name is accepted, and declares this dataflow
abbrev pub HasFlow : Option (List ℕ → Option (List ℕ)) → List ℕ → Dataflow → Type 0
HasFlow told name flow = HasText told name (λ text. flows.IsAcceptedFlow text flow)

-- the text under the name is refused as a flow's
abbrev pub IsFlowRefused : Option (List ℕ → Option (List ℕ)) → List ℕ → Refusal → Type 0
IsFlowRefused told name refusal = HasText told name (λ text. flows.IsRefusedFlow text refusal)

-- the text under the name is accepted, read for the dataflow
abbrev pub HasRead : Option (List ℕ → Option (List ℕ)) → Dataflow → NamedText → Type 0
HasRead told flow named = HasText told named.name (IsReadFor named.read flow)

-- the text under the name is refused so, read for the dataflow
abbrev pub HasRefusedText : Option (List ℕ → Option (List ℕ)) → Dataflow → NamedText → Refusal → Type 0
HasRefusedText told flow named refusal = HasText told named.name (λ text. IsRefusedFor named.read flow text refusal)

-- the folder has these texts under the names, where it tells its texts
abbrev pub AreTextsThere : Option (List ℕ → Option (List ℕ)) → List NamedText → Texts → Type 0
AreTextsThere told [] texts = Unit {0}
AreTextsThere told (named ∷ others) texts = IsText told named.name (text_for named.read texts) × AreTextsThere told others texts

-- the texts behind that of a flow are accepted, each as it is read for the dataflow
abbrev pub AreReadFor : Dataflow → List NamedText → Texts → Type 0
AreReadFor flow [] texts = Unit {0}
AreReadFor flow (named ∷ others) texts = IsReadFor named.read flow (text_for named.read texts) × AreReadFor flow others texts

-- Of the texts, in this order, the first that is not accepted is refused so. A later text plays no part.
abbrev pub IsFirstBehind : Option (List ℕ → Option (List ℕ)) → Dataflow → List NamedText → Refusal → Type 0
IsFirstBehind told flow [] refusal = ⊥
IsFirstBehind told flow (named ∷ others) refusal =
    HasRefusedText told flow named refusal ⊎ (HasRead told flow named × IsFirstBehind told flow others refusal)

-- of the text of a flow and those behind it, in this order, the first that is not accepted is refused so
abbrev pub IsFirstTextRefused : Option (List ℕ → Option (List ℕ)) → List ℕ → List NamedText → Refusal → Type 0
IsFirstTextRefused told name others refusal =
    IsFlowRefused told name refusal ⊎ ((flow : Dataflow) × HasFlow told name flow × IsFirstBehind told flow others refusal)

-- A folder was asked for the first of the texts, if its calls were counted from the first number to the second, or for more of them:
-- for the next only where those before are accepted.
abbrev pub IsAskedBehind : Option (List ℕ → Option (List ℕ)) → Dataflow → List NamedText → ℕ → ℕ → Type 0
IsAskedBehind told flow [] before after = ⊥
IsAskedBehind told flow (named ∷ others) before after =
    (after ≡ one_more before) ⊎ (HasRead told flow named × IsAskedBehind told flow others (one_more before) after)

-- A folder was asked for the text of a flow, and for more only where those before are accepted, each once and in this order.
abbrev pub IsAskedInTurn : Option (List ℕ → Option (List ℕ)) → List ℕ → List NamedText → ℕ → ℕ → Type 0
IsAskedInTurn told name others before after =
    (after ≡ one_more before) ⊎ ((flow : Dataflow) × HasFlow told name flow × IsAskedBehind told flow others (one_more before) after)

-- ---- what a command reads

-- these are the generated texts of the seed and the size
pub record AreGenerated (seeded : Seeded) (texts : Texts) : Type 0 where
  pub drawn : texts ≡ texts_of seeded.size (words_from seeded.seed)
  pub size : seeded.size ≤ accepted_size_limit

-- the folder has these texts under their names, where it tells its texts; or they are generated
abbrev pub HasTexts : Option (List ℕ → Option (List ℕ)) → Origin → Texts → Type 0
HasTexts told (in_folder name others) texts = IsText told name texts.flow × AreTextsThere told others texts
HasTexts told (generated seeded) texts = AreGenerated seeded texts

-- the texts are accepted, of which the flow's declares this dataflow; those that are not read do not count
abbrev pub Accepts : Origin → Texts → Dataflow → Type 0
Accepts (in_folder name others) texts flow = flows.IsAcceptedFlow texts.flow flow × AreReadFor flow others texts
Accepts (generated seeded) texts flow = AreAccepted texts flow

-- the first of the texts that is not accepted is refused so; generated texts are accepted
abbrev pub Refuses : Option (List ℕ → Option (List ℕ)) → Origin → Refusal → Type 0
Refuses told (in_folder name others) refusal = IsFirstTextRefused told name others refusal
Refuses told (generated seeded) refusal = ⊥

-- A folder is asked no more often than this, if its calls were counted from the first number to the second: once, and once more for each
-- text behind accepted ones; and never for generated texts.
abbrev pub AsksNoMore : Option (List ℕ → Option (List ℕ)) → Origin → ℕ → ℕ → Type 0
AsksNoMore told (in_folder name others) before after = IsAskedInTurn told name others before after
AsksNoMore told (generated seeded) before after = after ≡ before
