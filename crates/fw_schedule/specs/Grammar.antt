-- The grammar of schedules: what each line asks for, and the rules that it may break.
use Rattle.std.specs.Prelude.{◌≡◌, ℕ, ◌+◌, nat_le, List, [], ◌∷◌, if◌then◌else◌, Option, Some, None, Result, Ok, Err, codes}
use Rattle.std.specs.List.{filter_map}
use Rattle.std.specs.Result.{result_ok, result_err}
use Rattle.std.specs.Str.{bytes_eq}
use Rattle.std.specs.Str.Parse.{digits_value}
use Rattle.fw_lines.specs.declared.refusal.Code.{Code}
use Rattle.fw_lines.specs.declared.refusal.Code.TheVariants.{S1, S4}
use Rattle.fw_lines.specs.declared.refusal.Refusal.{Refusal}
use Rattle.fw_lines.specs.Faults.{Rules, BreaksNone, IsFirstRefusal}
use Rattle.fw_lines.specs.Lines.{Said, said_lines}
use Rattle.fw_lines.specs.Spelling.{is_numeral}
use Rattle.fw_flow.specs.declared.step.Step.{Step}
use Rattle.fw_flow.specs.Dataflow.{Dataflow}
use Rattle.fw_schedule.specs.declared.item.Item.{Item}
use Rattle.fw_schedule.specs.declared.item.Item.TheVariants.{One, Auto}
use Rattle.fw_schedule.specs.Schedule.{steps_in, step_count, step_limit}
use Rattle.fw_schedule.specs.Steps.{step_of}

-- what `auto` and these words ask for; S1, unless they are one number, of any length
abbrev pub auto_of : List (List ℕ) → Result Item Code
auto_of [] = Err S1
auto_of (number ∷ []) = if is_numeral number then Ok (Auto (digits_value 10 number)) else Err S1
auto_of (number ∷ word ∷ words) = Err S1

-- the step as an item
abbrev pub one_step : Result Step Code → Result Item Code
one_step (Ok step) = Ok (One step)
one_step (Err code) = Err code

-- what words ask for, or the first rule that they break by themselves
abbrev pub item_of : Dataflow → List (List ℕ) → Result Item Code
item_of flow [] = Err S1
item_of flow (verb ∷ words) = if bytes_eq verb (codes "auto") then auto_of words else one_step (step_of flow verb words)

-- what lines ask for, in order
abbrev pub items_of : Dataflow → List Said → List Item
items_of flow lines = filter_map (λ line. result_ok (item_of flow line.words)) lines

-- what is asked for behind so many steps; S4, if its own are too many with them
abbrev pub within_limit : ℕ → Result Item Code → Result Item Code
within_limit count (Ok item) = if nat_le (count + steps_in item) step_limit then Ok item else Err S4
within_limit count (Err code) = Err code

-- the rule that a line of these words breaks behind so many steps; a line without words breaks none
abbrev pub schedule_words_fault : Dataflow → ℕ → List (List ℕ) → Option Code
schedule_words_fault flow count [] = None
schedule_words_fault flow count (word ∷ words) = result_err (within_limit count (item_of flow (word ∷ words)))

-- the rule that a line breaks behind the steps of the lines before it
abbrev pub schedule_fault : Dataflow → List Said → Said → Option Code
schedule_fault flow before line = schedule_words_fault flow (step_count (items_of flow before)) line.words

-- the longest text, in bytes
abbrev pub schedule_size_limit : ℕ
schedule_size_limit = 16777216

-- what is asked of a schedule of the flow
abbrev pub schedule_rules : Dataflow → Rules
schedule_rules flow = record { most = schedule_size_limit; too_long = S4; breaks = λ before line code. schedule_fault flow before line ≡ Some code }

-- the text has the form of a schedule of the flow, and the items are what its lines ask for
pub record IsAcceptedSchedule (text : List ℕ) (flow : Dataflow) (items : List Item) : Type 0 where
  pub sound : BreaksNone (schedule_rules flow) text
  pub value : items ≡ items_of flow (said_lines text)

-- the refusal is the first rule of schedules of the flow that the text breaks
abbrev pub IsRefusedSchedule : List ℕ → Dataflow → Refusal → Type 0
IsRefusedSchedule text flow refusal = IsFirstRefusal (schedule_rules flow) text refusal
