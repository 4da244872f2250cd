-- A command is one value of a record: where its texts are, and what it makes of them.
use Rattle.std.specs.Prelude.{◌≡◌, ℕ, Bool, true, false, if◌then◌else◌, List, [], ◌∷◌, Option, Some, None, option_and_then, codes}
use Rattle.std.specs.Str.{bytes_eq}

-- the names of the three texts of a run
pub record TextNames : Type 0 where
  pub flow : List ℕ
  pub inputs : List ℕ
  pub schedule : List ℕ

-- the names of the texts of a flow and its inputs
pub record SystemNames : Type 0 where
  pub flow : List ℕ
  pub inputs : List ℕ

-- the seed and the size of generated texts
pub record Seeded : Type 0 where
  pub seed : ℕ
  pub size : ℕ

-- ---- what a command reads

-- as what a text is read, where the flow is known: as inputs or as a schedule of it
pub data ReadAs : Type 0 where
  as_inputs : ReadAs
  as_schedule : ReadAs

-- a text behind that of a flow: its name in the folder, and as what it is read
pub record NamedText : Type 0 where
  pub name : List ℕ
  pub read : ReadAs

-- where a command has its texts: in the folder, that of a flow under the first name, and behind it these in their order; or they are
-- generated
pub data Origin : Type 0 where
  in_folder : List ℕ → List NamedText → Origin
  generated : Seeded → Origin

-- ---- how steps are taken and told

-- where a run begins: in the first state of the machine, where nothing was counted
pub data Start : Type 0 where
  at_first : Start

-- what is told of a step, by the state before it: the lines of its effect; and, with certificates, behind those of a recovery's cuts why
-- they are the largest
pub data Showing : Type 0 where
  by_effect : Showing
  with_certificates : Showing

-- how steps are taken: whether they go on where the store fails in one, or end there; and what is told of each
pub record Course : Type 0 where
  pub goes_on : Bool
  pub showing : Showing

-- each told by its effect
abbrev pub shown_by_effect : Bool → Course
shown_by_effect goes_on = record { goes_on = goes_on; showing = by_effect }

-- each told so; the first fault of the store ends the run
abbrev pub up_to_fault : Showing → Course
up_to_fault showing = record { goes_on = false; showing = showing }

-- what is told last: how many steps there were; the same, and in how many the store failed; or what came of generated texts
pub data LastLine : Type 0 where
  of_steps : LastLine
  of_faults : LastLine
  of_seed : Seeded → LastLine

-- how a run is taken and told: where it begins, how its steps are taken, whether what is told of each is written, and what is last
pub record Manner : Type 0 where
  pub start : Start
  pub course : Course
  pub is_seen : Bool
  pub last : LastLine

-- each step by its lines; the first fault of the store ends the run
abbrev pub by_lines : Manner
by_lines = record { start = at_first; course = shown_by_effect false; is_seen = true; last = of_steps }

-- the same through faults of the store, which are told by lines of their own
abbrev pub through_faults : Manner
through_faults = record { start = at_first; course = shown_by_effect true; is_seen = true; last = of_faults }

-- each step by its lines, and a recovery by a certificate besides; the first fault of the store ends the run
abbrev pub by_reasons : Manner
by_reasons = record { start = at_first; course = up_to_fault with_certificates; is_seen = true; last = of_steps }

-- what came of all in one line; the first fault of the store ends the run
abbrev pub in_one_line : Seeded → Manner
in_one_line seeded =
    record { start = at_first; course = shown_by_effect false; is_seen = false; last = of_seed seeded }

-- ---- what a command makes of its texts

-- a command takes the steps of the schedule, and tells them in this manner; or it takes none, and tells what the flow denotes of its
-- inputs, or lists the nodes of the flow
pub data Task : Type 0 where
  takes_steps : Manner → Task
  tells_denotation : Task
  lists_nodes : Task

-- ---- a command

-- what a command reads and does: where its texts are, each read before the next is fetched, so that the first that is not accepted is
-- refused by the rules of its reader; and what it makes of accepted texts
pub record Command : Type 0 where
  pub texts : Origin
  pub task : Task

-- the three texts of a run: of a flow, of its inputs and of a schedule
abbrev pub three_texts : TextNames → Origin
three_texts names =
    in_folder names.flow (record { name = names.inputs; read = as_inputs } ∷ record { name = names.schedule; read = as_schedule } ∷ [])

-- the texts of a flow and its inputs
abbrev pub two_texts : SystemNames → Origin
two_texts names = in_folder names.flow (record { name = names.inputs; read = as_inputs } ∷ [])

-- ---- the commands

-- a command that takes the steps of three texts, under its word: `WORD FLOW INPUTS SCHEDULE`
pub record RunVerb : Type 0 where
  pub word : List ℕ
  pub manner : Manner

-- `run`: each step by its lines; the first fault of the store ends it. `endure`: the same through faults of the store, which are told by
-- lines of their own. `explain`: as `run`, and each recovery by a certificate besides
abbrev pub run_verbs : List RunVerb
run_verbs =
    record { word = codes "run"; manner = by_lines } ∷ record { word = codes "endure"; manner = through_faults }
    ∷ record { word = codes "explain"; manner = by_reasons } ∷ []

-- the manner of a word, if it is one of these
abbrev pub manner_by : List RunVerb → List ℕ → Option Manner
manner_by [] word = None
manner_by (verb ∷ verbs) word = if bytes_eq word verb.word then Some verb.manner else manner_by verbs word

-- the steps of three texts, in this manner
abbrev pub run : Manner → TextNames → Command
run manner names = record { texts = three_texts names; task = takes_steps manner }

-- `gen SEED SIZE`: the steps of generated texts, and one line on what came of them; the first fault of the store ends it
abbrev pub generate : Seeded → Command
generate seeded = record { texts = generated seeded; task = takes_steps (in_one_line seeded) }

-- `denote FLOW INPUTS`: what the flow denotes of its inputs
abbrev pub denote : SystemNames → Command
denote names = record { texts = two_texts names; task = tells_denotation }

-- `check FLOW`: the nodes of the flow
abbrev pub check : List ℕ → Command
check name = record { texts = in_folder name []; task = lists_nodes }

-- ---- questions that are asked of a command

-- how steps are told, if some are taken
abbrev pub manner_in : Task → Option Manner
manner_in (takes_steps manner) = Some manner
manner_in tells_denotation = None
manner_in lists_nodes = None

-- how a command tells the steps that it takes, if it takes some
abbrev pub manner_of : Command → Option Manner
manner_of command = manner_in command.task

-- the command takes steps up to the first fault of its store, and writes nothing that is told of one
abbrev pub IsUnseen : Option Command → Type 0
IsUnseen command =
    (manner : Manner) × (option_and_then manner_of command ≡ Some manner) × (manner.course.goes_on ≡ false) × (manner.is_seen ≡ false)

-- the command goes on through faults of its store
abbrev pub GoesOnThrough : Option Command → Type 0
GoesOnThrough command = (manner : Manner) × (option_and_then manner_of command ≡ Some manner) × (manner.course.goes_on ≡ true)

-- the texts are in the folder, so that it is asked for one
abbrev pub are_in_folder : Origin → Bool
are_in_folder (in_folder flow others) = true
are_in_folder (generated seeded) = false

-- the command asks the folder for a text
abbrev pub asks_folder : Command → Bool
asks_folder command = are_in_folder command.texts
