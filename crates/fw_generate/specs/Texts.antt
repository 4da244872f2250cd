-- The generated texts, by the words that are drawn for them.
use Rattle.std.specs.Prelude.{ℕ, ◌+◌, ◌==◌, List, [], ◌∷◌, ◌++◌, codes, if◌then◌else◌, slice_index_or}
use Rattle.std.specs.Fmt.{decimal}
use Rattle.std.specs.List.{flat_map}
use Rattle.fw_lines.specs.Written.{WordLine, text_of}
use Rattle.fw_generate.specs.Draws.{Words, Drawing, draw, drawn, drawn_times, ◌>>=◌}

-- ---- the flow

-- the names of the flow's nodes, in their order
abbrev pub generated_node_names : List (List ℕ)
generated_node_names =
    codes "src" ∷ codes "ent" ∷ codes "mix" ∷ codes "inc" ∷ codes "fb" ∷ codes "lv" ∷ codes "add" ∷ codes "seq" ∷ codes "led"
    ∷ codes "out" ∷ codes "run" ∷ codes "tot" ∷ []

-- the flow, which is the same for each seed and size
abbrev pub flow_text : List ℕ
flow_text =
    codes "loop l max 3\n"
    ++ codes "node src input\n"
    ++ codes "node ent enter l policy none\n"
    ++ codes "node mix concat loop l policy logged\n"
    ++ codes "node inc select value < 700 set value value plus 100 loop l policy full\n"
    ++ codes "node fb feedback l policy none\n"
    ++ codes "node lv leave l policy none\n"
    ++ codes "node add sum policy lazy\n"
    ++ codes "node seq sequence policy eager\n"
    ++ codes "node led ledger policy logged\n"
    ++ codes "node out output number\n"
    ++ codes "node run total policy lazy\n"
    ++ codes "node tot output epoch\n"
    ++ codes "edge a src ent\n"
    ++ codes "edge b ent mix\n"
    ++ codes "edge c fb mix\n"
    ++ codes "edge d mix inc\n"
    ++ codes "edge e inc fb\n"
    ++ codes "edge f inc lv\n"
    ++ codes "edge g lv add\n"
    ++ codes "edge h add seq\n"
    ++ codes "edge i seq led\n"
    ++ codes "edge j led out\n"
    ++ codes "edge k lv run\n"
    ++ codes "edge l run tot\n"

-- ---- the inputs

-- a rec, `KEY:VALUE`: its key is below 16, its value below 1,000
unfoldable pub rec_word : Drawing (List ℕ)
rec_word = do
  key ← draw 16
  value ← draw 1000
  drawn (decimal key ++ (codes ":" ++ decimal value))

-- a line `batch src` with up to seven recs
unfoldable pub batch_line : Drawing WordLine
batch_line = do
  count ← draw 8
  recs ← drawn_times count rec_word
  drawn (codes "batch" ∷ codes "src" ∷ recs)

-- as many of these lines as the size says
abbrev pub batch_lines : ℕ → Drawing (List WordLine)
batch_lines size = drawn_times size batch_line

-- ---- the schedule

-- a line `auto A`, with A from 8 to 39
unfoldable pub auto_line : Drawing WordLine
auto_line = do
  more ← draw 32
  drawn (codes "auto" ∷ decimal (8 + more) ∷ [])

-- the lines `fail P` and `recover`, where P is one of the nodes
unfoldable pub failure_lines : Drawing (List WordLine)
failure_lines = do
  place ← draw 12
  drawn ((codes "fail" ∷ slice_index_or generated_node_names place [] ∷ []) ∷ (codes "recover" ∷ []) ∷ [])

-- the line `checkpoint P` for each of four nodes
abbrev pub checkpoint_lines : List WordLine
checkpoint_lines =
    (codes "checkpoint" ∷ codes "add" ∷ []) ∷ (codes "checkpoint" ∷ codes "run" ∷ []) ∷ (codes "checkpoint" ∷ codes "mix" ∷ [])
    ∷ (codes "checkpoint" ∷ codes "led" ∷ []) ∷ []

-- the line `collect`
abbrev pub collect_line : WordLine
collect_line = codes "collect" ∷ []

-- what a number below 16 asks for: at 0 a failure, at 1 checkpoints, at 2 a collection, else nothing
unfoldable pub lines_for : ℕ → Drawing (List WordLine)
lines_for number =
    if number == 0 then failure_lines
    else (if number == 1 then drawn checkpoint_lines
    else (if number == 2 then drawn (collect_line ∷ [])
    else drawn []))

-- a line `auto A`, and what a number that is drawn then asks for
unfoldable pub round_lines : Drawing (List WordLine)
round_lines = do
  auto ← auto_line
  number ← draw 16
  others ← lines_for number
  drawn (auto ∷ others)

-- the last lines
abbrev pub last_lines : List WordLine
last_lines = (codes "auto" ∷ codes "1000000000" ∷ []) ∷ collect_line ∷ []

-- as many rounds as the size says, and the last lines
abbrev pub schedule_lines : ℕ → Drawing (List WordLine)
schedule_lines size = do
  rounds ← drawn_times size round_lines
  drawn (flat_map (λ lines. lines) rounds ++ last_lines)

-- ---- the three texts

-- the three texts
pub record Texts : Type 0 where
  pub flow : List ℕ
  pub inputs : List ℕ
  pub schedule : List ℕ

-- the three texts of a size, with the words that are left: first the inputs are drawn, then the schedule
abbrev pub texts_drawn : ℕ → Drawing Texts
texts_drawn size = do
  inputs ← batch_lines size
  schedule ← schedule_lines size
  drawn (record { flow = flow_text; inputs = text_of inputs; schedule = text_of schedule })

-- the three texts of a size
abbrev pub texts_of : ℕ → Words → Texts
texts_of size words = (texts_drawn size words).0
