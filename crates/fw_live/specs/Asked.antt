-- What a line of a session asks for, and the rule that it breaks.
use Rattle.std.specs.Prelude.{ℕ, ◌-◌, ◌^◌, nat_le, nat_lt, not, Bool, List, [], ◌∷◌, length, take, if◌then◌else◌, Option, Some, None, Result, Ok, Err, codes}
use Rattle.std.specs.List.{prefix_len}
use Rattle.std.specs.Str.{bytes_eq}
use Rattle.fw_bag.specs.declared.rec.Rec.{Rec}
use Rattle.fw_lines.specs.declared.refusal.Code.{Code}
use Rattle.fw_lines.specs.declared.refusal.Code.TheVariants.{S1, S2, I5}
use Rattle.fw_lines.specs.Inputs.{inputs_line_fault, source_said, batch_of}
use Rattle.fw_lines.specs.Lines.{said_by, is_line_feed}
use Rattle.fw_lines.specs.Sources.{node_named}
use Rattle.fw_lines.specs.Spelling.{is_name}
use Rattle.fw_flow.specs.Dataflow.{Dataflow}
use Rattle.fw_flow.specs.Sources.{sources_of}
use Rattle.fw_schedule.specs.declared.item.Item.{Item}
use Rattle.fw_schedule.specs.Grammar.{item_of, within_limit}
use Rattle.fw_live.specs.declared.rule.LineRule.{LineRule}
use Rattle.fw_live.specs.declared.rule.LineRule.TheVariants.{OfText, Length, Closed}

-- what a line does before it takes steps: nothing; it feeds a source this batch; it closes one; or it shows where the session stands
pub data Change : Type 0 where
  none : Change
  feeds : ℕ → List Rec → Change
  closes : ℕ → Change
  shows : Change

-- what a line asks for: a change, and then the steps of an item, if there is one
pub record Asked : Type 0 where
  pub change : Change
  pub item : Option Item

-- a change alone
abbrev pub of_change : Change → Result Asked LineRule
of_change change = Ok (record { change = change; item = None })

-- ---- by its words alone

-- a batch of a source, or the rule of inputs that is broken
abbrev pub feeding : Option Code → Option ℕ → List Rec → Result Asked LineRule
feeding (Some code) source recs = Err (OfText code)
feeding None (Some s) recs = of_change (feeds s recs)
feeding None None recs = of_change none

-- the end of a source; S2, unless there is one
abbrev pub closing : Option ℕ → Result Asked LineRule
closing (Some s) = of_change (closes s)
closing None = Err (OfText S2)

-- what `close` and these words ask for; S1, unless they are one name
abbrev pub closing_by : List (List ℕ × ℕ) → List (List ℕ) → Result Asked LineRule
closing_by sources [] = Err (OfText S1)
closing_by sources (name ∷ []) = if is_name name then closing (node_named sources name) else Err (OfText S1)
closing_by sources (name ∷ word ∷ words) = Err (OfText S1)

-- what `show` and these words ask for; S1, unless there are none
abbrev pub showing_by : List (List ℕ) → Result Asked LineRule
showing_by [] = of_change shows
showing_by (word ∷ words) = Err (OfText S1)

-- the steps of a line of a schedule, or the rule of schedules that is broken
abbrev pub stepping : Result Item Code → Result Asked LineRule
stepping (Ok item) = Ok (record { change = none; item = Some item })
stepping (Err code) = Err (OfText code)

-- what the words of a line of inputs ask for
abbrev pub feeding_by : List (List ℕ × ℕ) → List (List ℕ) → Result Asked LineRule
feeding_by sources words = feeding (inputs_line_fault sources 0 words) (source_said sources words) (batch_of words)

-- what the words of a line of a schedule ask for
abbrev pub stepping_by : Dataflow → List (List ℕ) → Result Asked LineRule
stepping_by flow [] = of_change none
stepping_by flow (verb ∷ words) = stepping (within_limit 0 (item_of flow (verb ∷ words)))

-- What words ask for, or the first rule that they break by themselves: those of inputs where `batch` is the first, those of `close` and of
-- `show`, and else those of a schedule, each of this line alone. No word asks for nothing.
abbrev pub asked_by : Dataflow → List (List ℕ) → Result Asked LineRule
asked_by flow [] = of_change none
asked_by flow (verb ∷ words) =
    if bytes_eq verb (codes "batch") then feeding_by (sources_of flow) (verb ∷ words)
    else (if bytes_eq verb (codes "close") then closing_by (sources_of flow) words
    else (if bytes_eq verb (codes "show") then showing_by words else stepping_by flow (verb ∷ words)))

-- ---- by its length

-- the most bytes of a line
abbrev pub line_limit : ℕ
line_limit = 1048576

-- a line without what stands behind its first line feed
abbrev pub first_line : List ℕ → List ℕ
first_line bytes = take (prefix_len (λ b. not (is_line_feed b)) bytes) bytes

-- what a line asks for, or the first rule that it breaks: that of its length first
abbrev pub asked_in : Dataflow → List ℕ → Result Asked LineRule
asked_in flow line = if nat_lt line_limit (length line) then Err Length else asked_by flow (said_by line)

-- A line that came in: its bytes, or nothing where it was too long.
abbrev pub LineIn : Type 0
LineIn = Option (List ℕ)

abbrev pub asked_for : Dataflow → LineIn → Result Asked LineRule
asked_for flow None = Err Length
asked_for flow (Some bytes) = asked_in flow (first_line bytes)

-- ---- by what is open

-- the rule that a change breaks, by which sources are open and how many batches came: the source is open, and to one that is fed came
-- fewer than 2^20 - 1
abbrev pub change_fault : (ℕ → Bool) → (ℕ → ℕ) → Change → Option LineRule
change_fault opened came none = None
change_fault opened came shows = None
change_fault opened came (feeds s recs) = if opened s then (if nat_le (2 ^ 20 - 1) (came s) then Some (OfText I5) else None) else Some Closed
change_fault opened came (closes s) = if opened s then None else Some Closed

-- what is asked for, unless its change breaks a rule
abbrev pub unless_fault : Option LineRule → Asked → Result Asked LineRule
unless_fault (Some rule) asked = Err rule
unless_fault None asked = Ok asked

abbrev pub allowed : (ℕ → Bool) → (ℕ → ℕ) → Result Asked LineRule → Result Asked LineRule
allowed opened came (Ok asked) = unless_fault (change_fault opened came asked.change) asked
allowed opened came (Err rule) = Err rule
