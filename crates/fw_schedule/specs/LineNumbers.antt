-- On which lines of its text the items of a schedule stand.
use Rattle.std.specs.Prelude.{◌≡◌, ℕ, ◌<◌, Bool, true, false, List, [], ◌∷◌, map, filter, Ok}
use Rattle.std.specs.List.{Contains, AllPairs, AllZip}
use Rattle.fw_lines.specs.Lines.{Said, said_lines}
use Rattle.fw_flow.specs.Dataflow.{Dataflow}
use Rattle.fw_schedule.specs.declared.item.Item.{Item}
use Rattle.fw_schedule.specs.Grammar.{item_of}

-- whether there are words
abbrev pub has_words : List (List ℕ) → Bool
has_words [] = false
has_words (word ∷ words) = true

-- the numbers of those lines that have words
abbrev pub numbers_said : List Said → List ℕ
numbers_said lines = map (λ (line : Said). line.number) (filter (λ (line : Said). has_words line.words) lines)

-- the numbers of the lines of a text that have words, counted from 1
abbrev pub line_numbers : List ℕ → List ℕ
line_numbers text = numbers_said (said_lines text)

-- the item is what the one of the lines that has this number asks for
pub record IsItemOnLine (lines : List Said) (flow : Dataflow) (item : Item) (number : ℕ) : Type 0 where
  pub line : Said
  pub there : Contains lines line
  pub numbered : line.number ≡ number
  pub asks : item_of flow line.words ≡ Ok item

-- the items of a text stand on its lines with words, one on each, and these ascend
pub record StandOnLines (text : List ℕ) (flow : Dataflow) (items : List Item) : Type 0 where
  pub each : AllZip (IsItemOnLine (said_lines text) flow) items (line_numbers text)
  pub ascending : AllPairs (λ (one later : ℕ). one < later) (line_numbers text)
