-- What a run prints.
use Rattle.std.specs.Prelude.{ℕ, Bool, true, false, List, ◌++◌, length, codes}
use Rattle.std.specs.Fmt.{decimal}
use Rattle.std.specs.List.{flat_map}
use Rattle.fw_flow.specs.Counting.{how_many}
use Rattle.fw_flow.specs.Dataflow.{Dataflow}
use Rattle.fw_model.specs.Steps.{Outcome, did, idle}
use Rattle.fw_running.specs.EffectText.{outcome_text}

-- the lines of what comes of steps, in order
abbrev pub outcomes_text : Dataflow → List Outcome → List ℕ
outcomes_text flow outcomes = flat_map (outcome_text flow) outcomes

-- whether a step was not enabled
abbrev pub is_idle : Outcome → Bool
is_idle (did effect) = false
is_idle idle = true

-- how many steps were not enabled
abbrev pub idle_count : List Outcome → ℕ
idle_count outcomes = how_many is_idle outcomes

-- `done steps STEPS idle IDLE`
abbrev pub done_line : ℕ → ℕ → List ℕ
done_line steps idle_steps = codes "done steps " ++ (decimal steps ++ (codes " idle " ++ (decimal idle_steps ++ codes "\n")))

-- the whole text of a run: the lines of what comes of its steps, and how many steps there were and how many were idle
abbrev pub run_text : Dataflow → List Outcome → List ℕ
run_text flow outcomes = outcomes_text flow outcomes ++ done_line (length outcomes) (idle_count outcomes)
