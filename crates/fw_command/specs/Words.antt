-- The words of a command.
use Rattle.std.specs.Prelude.{ℕ, ◌≤◌, nat_le, Bool, false, not, ◌&&◌, ◌==◌, if◌then◌else◌, List, [], ◌∷◌, map, Option, Some, None, option_map, codes}
use Rattle.std.specs.Option.{option_or}
use Rattle.std.specs.Str.{bytes_eq}
use Rattle.std.specs.Borrow.{Bor}
use Rattle.fw_lines.specs.declared.numeral.Number.{Number}
use Rattle.fw_lines.specs.declared.numeral.Number.TheVariants.{Value}
use Rattle.fw_lines.specs.Spelling.{number_of}
use Rattle.fw_generate.specs.Laws.{accepted_size_limit}
use Rattle.fw_command.specs.Command.{Command, Manner, Seeded, SystemNames, TextNames, manner_by, run_verbs, run, generate, denote, check}
use Rattle.fw_command.specs.Manner.{seeded_in, told_in}
use Rattle.fw_command.specs.declared.words.DenoteWords.{DenoteWords}
use Rattle.fw_command.specs.declared.words.RunWords.{RunWords}
use Rattle.fw_command.specs.declared.words.CommandWords.{CommandWords}
use Rattle.fw_command.specs.declared.words.CommandWords.TheVariants.{Run, Generate, Denote, Check}

-- the bytes of the words
abbrev pub words_in : List (Bor (List ℕ)) → List (List ℕ)
words_in words = map (λ word. word.now) words

-- an operand is not empty and does not begin with a dash
abbrev pub is_operand : List ℕ → Bool
is_operand [] = false
is_operand (byte ∷ bytes) = not (byte == 45)

-- a check, if the words are `check` and an operand
abbrev pub check_of : List (List ℕ) → Option Command
check_of (word ∷ flow ∷ []) = if bytes_eq word (codes "check") && is_operand flow then Some (check flow) else None
check_of words = None

-- the size is one of those of which texts are generated
abbrev pub is_size : ℕ → Bool
is_size size = nat_le 1 size && nat_le size accepted_size_limit

-- generated texts, if these are a seed and a size
abbrev pub generate_by : Number → Number → Option Command
generate_by (Value seed) (Value size) = if is_size size then Some (generate (record { seed = seed; size = size })) else None
generate_by seed size = None

-- they are run, if the words are `gen`, a number and a size
abbrev pub gen_of : List (List ℕ) → Option Command
gen_of (word ∷ seed ∷ size ∷ []) = if bytes_eq word (codes "gen") then generate_by (number_of seed) (number_of size) else None
gen_of words = None

-- a denotation, if the words are `denote` and two operands
abbrev pub denote_of : List (List ℕ) → Option Command
denote_of (word ∷ flow ∷ inputs ∷ []) =
    if bytes_eq word (codes "denote") && is_operand flow && is_operand inputs then Some (denote (record { flow = flow; inputs = inputs })) else None
denote_of words = None

-- a run, if the words are the word of one and three operands
abbrev pub run_of : List (List ℕ) → Option Command
run_of (word ∷ flow ∷ inputs ∷ schedule ∷ []) =
    if is_operand flow && is_operand inputs && is_operand schedule
    then option_map (λ (manner : Manner). run manner (record { flow = flow; inputs = inputs; schedule = schedule })) (manner_by run_verbs word)
    else None
run_of words = None

-- the command that words are, if they are one
abbrev pub command_of : List (List ℕ) → Option Command
command_of words = option_or (check_of words) (option_or (denote_of words) (option_or (gen_of words) (run_of words)))

-- the names of the texts of a held run, if the words are `hold` and three operands
abbrev pub held_of : List (List ℕ) → Option TextNames
held_of (word ∷ flow ∷ inputs ∷ schedule ∷ []) =
    if bytes_eq word (codes "hold") && is_operand flow && is_operand inputs && is_operand schedule
    then Some (record { flow = flow; inputs = inputs; schedule = schedule })
    else None
held_of words = None

-- the names that parsed words give
abbrev pub text_names_in : RunWords → TextNames
text_names_in words = record { flow = words.flow.now; inputs = words.inputs.now; schedule = words.schedule.now }

abbrev pub system_names_in : DenoteWords → SystemNames
system_names_in words = record { flow = words.flow.now; inputs = words.inputs.now }

-- the size of what is generated, if texts are, is one of those that there are
abbrev pub IsOfSize : CommandWords → Type 0
IsOfSize (Generate words) = words.size ≤ accepted_size_limit
IsOfSize words = Unit {0}

-- the command that parsed words give
abbrev pub command_in : CommandWords → Command
command_in (Run manner names) = run (told_in manner) (text_names_in names)
command_in (Generate words) = generate (seeded_in words)
command_in (Denote names) = denote (system_names_in names)
command_in (Check flow) = check flow.now
