-- What a session answers to a line.
use Rattle.std.specs.Prelude.{
  ◌≡◌,
  ◌≢◌,
  ℕ,
  ◌+◌,
  ◌-◌,
  ◌^◌,
  min,
  Bool,
  true,
  false,
  not,
  if◌then◌else◌,
  List,
  [],
  ◌++◌,
  length,
  Option,
  Some,
  None,
  is_some,
  Result,
  Ok,
  Err,
  codes,
}
use Rattle.std.specs.Fmt.{decimal}
use Rattle.std.specs.Option.{option_or}
use Rattle.fw_lines.specs.Refusal.{code_text}
use Rattle.fw_flow.specs.Counting.{how_many}
use Rattle.fw_flow.specs.Dataflow.{Dataflow, node_at}
use Rattle.fw_schedule.specs.declared.item.Item.{Item}
use Rattle.fw_schedule.specs.declared.item.Item.TheVariants.{Auto}
use Rattle.fw_schedule.specs.Schedule.{step_limit}
use Rattle.fw_model.specs.Steps.{Outcome, did, idle}
use Rattle.fw_run.specs.Printed.{outcomes_text, idle_count}
use Rattle.fw_session.specs.Story.{Story, after_feed, after_close}
use Rattle.fw_live.specs.declared.rule.LineRule.{LineRule}
use Rattle.fw_live.specs.declared.rule.LineRule.TheVariants.{OfText, Length, Closed}
use Rattle.fw_live.specs.declared.counts.LineCounts.{LineCounts}
use Rattle.fw_live.specs.Asked.{Asked, Change, none, feeds, closes, shows, LineIn, asked_for, allowed}
use Rattle.fw_live.specs.ShowText.{show_text}
use Rattle.fw_live.specs.Taken.{Ending, all, failed, spoiled, EndsBoth}
use Rattle.fw_living.specs.Life.{came_in_story}

-- ---- an answer

-- what a line came to: what was told of its change, the outcomes of its steps, and how these ended; and whether it only looked
pub record Turn : Type 0 where
  pub told : List ℕ
  pub outcomes : List Outcome
  pub ending : Ending
  pub looks : Bool

-- an answer: the line breaks a rule; or what it came to
pub data Answer : Type 0 where
  refused : LineRule → Answer
  turned : Turn → Answer

-- ---- its text

-- `fed SOURCE EPOCH`, `closed SOURCE EPOCH`
abbrev pub fed_line : Dataflow → ℕ → ℕ → List ℕ
fed_line flow s epoch = codes "fed " ++ ((node_at flow s).name ++ (codes " " ++ (decimal epoch ++ codes "\n")))

abbrev pub closed_line : Dataflow → ℕ → ℕ → List ℕ
closed_line flow s epoch = codes "closed " ++ ((node_at flow s).name ++ (codes " " ++ (decimal epoch ++ codes "\n")))

-- the lines of a change in a story
abbrev pub change_text : Dataflow → Story → Change → List ℕ
change_text flow story none = []
change_text flow story (feeds s recs) = fed_line flow s (came_in_story flow story s)
change_text flow story (closes s) = closed_line flow s (came_in_story flow story s)
change_text flow story shows = show_text flow story

-- the code of a rule
abbrev pub rule_text : LineRule → List ℕ
rule_text (OfText code) = code_text code
rule_text Length = codes "L1"
rule_text Closed = codes "L2"

-- `refused CODE line NUMBER`
abbrev pub refused_line : LineRule → ℕ → List ℕ
refused_line rule number = codes "refused " ++ (rule_text rule ++ (codes " line " ++ (decimal number ++ codes "\n")))

-- the line that ends an answer: `done STEPS`, `fault` or `damaged ID`
abbrev pub ending_text : Ending → ℕ → List ℕ
ending_text all done = codes "done " ++ (decimal done ++ codes "\n")
ending_text failed done = codes "fault\n"
ending_text (spoiled id) done = codes "damaged " ++ (decimal id ++ codes "\n")

-- a count, which stays at 2^64 - 1 where it gets there
abbrev pub saturated : ℕ → ℕ
saturated count = min count (2 ^ 64 - 1)

-- whether a step was done
abbrev pub is_done : Outcome → Bool
is_done (did effect) = true
is_done idle = false

-- how many steps were done
abbrev pub done_count : List Outcome → ℕ
done_count outcomes = how_many is_done outcomes

-- what a line came to, as its lines
abbrev pub turn_text : Dataflow → Turn → List ℕ
turn_text flow turn = turn.told ++ (outcomes_text flow turn.outcomes ++ ending_text turn.ending (saturated (done_count turn.outcomes)))

-- the lines of an answer to the line with this number
abbrev pub answer_text : Dataflow → ℕ → Answer → List ℕ
answer_text flow number (refused rule) = refused_line rule number
answer_text flow number (turned turn) = turn_text flow turn

-- ---- what is counted

-- how the steps of a line ended is counted: the one in which the store failed, and the first record that was damaged is kept
abbrev pub counts_ended : Ending → LineCounts → LineCounts
counts_ended all counts = counts
counts_ended failed counts = record counts { steps = saturated (counts.steps + 1); faults = saturated (counts.faults + 1) }
counts_ended (spoiled id) counts = record counts { damaged = option_or counts.damaged (Some id) }

-- the steps of a line are counted
abbrev pub counts_stepped : List Outcome → LineCounts → LineCounts
counts_stepped outcomes counts =
    record counts { steps = saturated (counts.steps + length outcomes); idle = saturated (counts.idle + idle_count outcomes) }

-- what a line came to is counted
abbrev pub counts_turned : Turn → LineCounts → LineCounts
counts_turned turn counts = counts_ended turn.ending (counts_stepped turn.outcomes counts)

-- a line more
abbrev pub with_line : LineCounts → LineCounts
with_line counts = record counts { lines = saturated (counts.lines + 1) }

-- one line more was answered
abbrev pub counts_after : Answer → LineCounts → LineCounts
counts_after (refused rule) counts = with_line counts
counts_after (turned turn) counts = counts_turned turn (with_line counts)

-- ---- where nothing went wrong

-- the store did not fail in a line that was answered so
abbrev pub IsFaultless : Answer → Type 0
IsFaultless (refused rule) = Unit {0}
IsFaultless (turned turn) = turn.ending ≢ failed

-- no record was damaged in a line that was answered so
abbrev pub IsUnharmed : Answer → Type 0
IsUnharmed (refused rule) = Unit {0}
IsUnharmed (turned turn) = (id : ℕ) → turn.ending ≢ spoiled id

-- ---- what is kept

-- the lines that are kept behind an answer: those of what the steps of the line showed; where it is refused or only looked, those that were
-- kept before
abbrev pub lines_kept : Dataflow → List ℕ → Answer → List ℕ
lines_kept flow kept (refused rule) = kept
lines_kept flow kept (turned turn) = if turn.looks then kept else outcomes_text flow turn.outcomes

-- ---- which answer it is

-- what a line asks for in a story, or the rule that it breaks there
abbrev pub asks : Dataflow → Story → LineIn → Result Asked LineRule
asks flow story line = allowed story.now.opened (came_in_story flow story) (asked_for flow line)

-- the story behind a change
abbrev pub after_change : Change → Story → Story
after_change none story = story
after_change (feeds s recs) story = after_feed s recs story
after_change (closes s) story = after_close s story
after_change shows story = story

-- the steps to rest behind a line, where lines are to end so
abbrev pub rest_item : Bool → Option Item
rest_item false = None
rest_item true = Some (Auto step_limit)

-- whether steps to rest follow a line that asks for this change: a look changes nothing
abbrev pub rests_behind : Bool → Change → Bool
rests_behind rests none = rests
rests_behind rests (feeds s recs) = rests
rests_behind rests (closes s) = rests
rests_behind rests shows = false

-- whether a change is none, or a look, behind which no steps to rest follow
abbrev pub is_quiet : Bool → Change → Bool
is_quiet rests none = not rests
is_quiet rests (feeds s recs) = false
is_quiet rests (closes s) = false
is_quiet rests shows = true

-- whether a line only looks: it asks for no batch, for no end of an input, and for no step
abbrev pub is_look : Bool → Asked → Bool
is_look rests asked = if is_some asked.item then false else is_quiet rests asked.change

-- From a story what a line asks for came to this, and leads to the next one.
pub record Turns (rests : Bool) (flow : Dataflow) (story : Story) (asked : Asked) (turn : Turn) (next : Story) : Type 0 where
  pub told : turn.told ≡ change_text flow story asked.change
  pub looks : turn.looks ≡ is_look rests asked
  pub ends : EndsBoth flow (after_change asked.change story) asked.item (rest_item (rests_behind rests asked.change)) turn.ending turn.outcomes next

-- by what a line asks for: it is refused, and the story stays; or it comes to this
abbrev pub IsAnswerTo : Bool → Dataflow → Story → Result Asked LineRule → Answer → Story → Type 0
IsAnswerTo rests flow story (Err rule) answer next = (answer ≡ refused rule) × (next ≡ story)
IsAnswerTo rests flow story (Ok asked) answer next = (turn : Turn) × (answer ≡ turned turn) × Turns rests flow story asked turn next

-- From a story a line is answered so, and leads to the next one.
abbrev pub IsLineAnswer : Bool → Dataflow → Story → LineIn → Answer → Story → Type 0
IsLineAnswer rests flow story line answer next = IsAnswerTo rests flow story (asks flow story line) answer next
