-- The forms of the commands, as `clap` is told them, and the command that its matches name.
use Rattle.std.specs.Prelude.{ℕ, true, false, if◌then◌else◌, List, [], ◌∷◌, ◌++◌, map, Option, Some, None, option_map, option_and_then, codes}
use Rattle.std.specs.Str.{bytes_eq}
use Rattle.fw_lines.specs.Spelling.{number_of}
use Rattle.clap.specs.Simple.{App, Shape, new_rule, new_shape}
use Rattle.clap.specs.Walk.{Row, Rule, first_of}
use Rattle.fw_command.specs.Command.{Command, Manner, RunVerb, TextNames, SystemNames, run_verbs, manner_by, run, denote, check}
use Rattle.fw_command.specs.Words.{generate_by}

-- an operand, which has to be there
abbrev pub operand : List ℕ → Rule
operand name = record (new_rule name) { required = true }

-- a command's word and its operands
abbrev pub form : List ℕ → List (List ℕ) → Shape
form word operands = record (new_shape word) { rules = map operand operands }

-- the operands of a run
abbrev pub three_names : List (List ℕ)
three_names = codes "flow" ∷ codes "inputs" ∷ codes "schedule" ∷ []

-- the program, without a command: its words are those after its name, and none asks for help
abbrev pub program : Shape
program = record (new_shape (codes "falkirk")) { no_binary_name = true; disable_help_flag = true; disable_help_subcommand = true }

-- the forms of the commands
abbrev pub command_forms : List Shape
command_forms = map (λ (verb : RunVerb). form verb.word three_names) run_verbs
    ++ form (codes "gen") (codes "seed" ∷ codes "size" ∷ []) ∷ form (codes "denote") (codes "flow" ∷ codes "inputs" ∷ [])
    ∷ form (codes "check") (codes "flow" ∷ []) ∷ []

-- the program with them
abbrev pub forms : App
forms = record { top = record program { is_leaf = false }; subs = command_forms }

-- the names of the three texts of a run, if all are there
abbrev pub names_by : Option (List ℕ) → Option (List ℕ) → Option (List ℕ) → Option TextNames
names_by (Some flow) (Some inputs) (Some schedule) = Some (record { flow = flow; inputs = inputs; schedule = schedule })
names_by flow inputs schedule = None

-- those that were matched
abbrev pub names_matched : List Row → Option TextNames
names_matched rows = names_by (first_of (codes "flow") rows) (first_of (codes "inputs") rows) (first_of (codes "schedule") rows)

-- the names of a flow and its inputs, if both are there
abbrev pub two_names_by : Option (List ℕ) → Option (List ℕ) → Option SystemNames
two_names_by (Some flow) (Some inputs) = Some (record { flow = flow; inputs = inputs })
two_names_by flow inputs = None

-- those that were matched
abbrev pub two_names_matched : List Row → Option SystemNames
two_names_matched rows = two_names_by (first_of (codes "flow") rows) (first_of (codes "inputs") rows)

-- generated texts, if a seed and a size are there
abbrev pub generate_matched : Option (List ℕ) → Option (List ℕ) → Option Command
generate_matched (Some seed) (Some size) = generate_by (number_of seed) (number_of size)
generate_matched seed size = None

-- the steps of three texts in a manner, if both are there
abbrev pub run_named : Option Manner → Option TextNames → Option Command
run_named (Some manner) names = option_map (run manner) names
run_named None names = None

-- the command of a form's word, with what was matched of its operands
abbrev pub command_matched : List ℕ → List Row → Option Command
command_matched word rows =
    if bytes_eq word (codes "gen") then generate_matched (first_of (codes "seed") rows) (first_of (codes "size") rows)
    else (if bytes_eq word (codes "denote") then option_map denote (two_names_matched rows)
    else (if bytes_eq word (codes "check") then option_map check (first_of (codes "flow") rows)
    else run_named (manner_by run_verbs word) (names_matched rows)))

-- the command that the matches name
abbrev pub matched_command : Option (List ℕ × List Row) → Option Command
matched_command matched = option_and_then (λ form. command_matched form.0 form.1) matched
