-- Laws of the grammar of flows.
use Rattle.std.specs.Prelude.{◌≡◌, ℕ, Bool, true, ◌||◌, List}
use Rattle.std.specs.List.{list_all}
use Rattle.fw_lines.specs.Lines.{is_line_feed, is_allowed}
use Rattle.fw_flow.specs.Declaring.{Declaration}
use Rattle.fw_flow.specs.Dataflow.{Dataflow}
use Rattle.fw_flow_text.specs.Grammar.{AreWordsOf, IsAcceptedFlow}

-- the bytes that a text may have: LF, and those that a line may have
abbrev pub is_in_texts : ℕ → Bool
is_in_texts b = is_line_feed b || is_allowed b

-- an accepted text has no other byte than these, in a comment neither
abbrev pub AcceptedTextsHaveAllowedBytes : Type 0
AcceptedTextsHaveAllowedBytes = (text : List ℕ) (flow : Dataflow) → IsAcceptedFlow text flow → list_all is_in_texts text ≡ true

-- words are those of at most one declaration
abbrev pub WordsDeclareOneThing : Type 0
WordsDeclareOneThing =
    (words : List (List ℕ)) (first second : Declaration) → AreWordsOf words first → AreWordsOf words second → first ≡ second
