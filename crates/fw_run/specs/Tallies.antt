-- What came of steps, counted.
use Rattle.std.specs.Prelude.{◌≡◌, ℕ, ◌+◌, ◌^◌, ◌<◌, ◌≤◌, Bool, true, false, List, [], ◌∷◌, ◌++◌, length, codes}
use Rattle.std.specs.Fmt.{decimal}
use Rattle.fw_bag.specs.declared.rec.Rec.{Rec}
use Rattle.fw_bag.specs.Keyed.{plus}
use Rattle.fw_flow.specs.Counting.{how_many}
use Rattle.fw_model.specs.Steps.{acked, cuts, Outcome, did}
use Rattle.fw_run.specs.declared.tally.StepCounts.{StepCounts}
use Rattle.fw_run.specs.Reports.{Report, faults_in, shown_in}
use Rattle.fw_run.specs.Printed.{idle_count, done_line}
use Rattle.fw_command.specs.Command.{Seeded, LastLine, of_steps, of_faults, of_seed}

-- nodes were restored
abbrev pub is_recovered : Outcome → Bool
is_recovered (did (cuts choice)) = true
is_recovered outcome = false

-- an output acknowledged a stamp
abbrev pub is_acknowledgement : Outcome → Bool
is_acknowledgement (did (acked o t recs)) = true
is_acknowledgement outcome = false

-- the sum of the values of recs
abbrev pub rec_sum : List Rec → ℕ
rec_sum [] = 0
rec_sum (rec ∷ recs) = plus rec.value (rec_sum recs)

-- the sum of the values that were acknowledged
abbrev pub shown_sum : Outcome → ℕ
shown_sum (did (acked o t recs)) = rec_sum recs
shown_sum outcome = 0

abbrev pub acknowledged_sum : List Outcome → ℕ
acknowledged_sum [] = 0
acknowledged_sum (outcome ∷ outcomes) = plus (shown_sum outcome) (acknowledged_sum outcomes)

-- how many steps there were, how many were not enabled, how many recoveries and acknowledgements, and the sum of what was
-- acknowledged
abbrev pub tally_of : List Outcome → StepCounts
tally_of outcomes = record {
  steps = length outcomes;
  idle = idle_count outcomes;
  cuts = how_many is_recovered outcomes;
  acks = how_many is_acknowledgement outcomes;
  sum = acknowledged_sum outcomes;
  faults = 0;
}

-- so are steps through faults of the store counted: of one in which it failed nothing is shown
abbrev pub tally_shown : List Report → StepCounts
tally_shown reports = record {
  steps = length reports;
  idle = idle_count (shown_in reports);
  cuts = how_many is_recovered (shown_in reports);
  acks = how_many is_acknowledgement (shown_in reports);
  sum = acknowledged_sum (shown_in reports);
  faults = faults_in reports;
}

-- a tally with one step more, in which the store failed
abbrev pub with_fault : StepCounts → StepCounts
with_fault tally = record {
  steps = tally.steps + 1;
  idle = tally.idle;
  cuts = tally.cuts;
  acks = tally.acks;
  sum = tally.sum;
  faults = tally.faults + 1;
}

-- two tallies as one
abbrev pub with_tally : StepCounts → StepCounts → StepCounts
with_tally one other = record {
  steps = one.steps + other.steps;
  idle = one.idle + other.idle;
  cuts = one.cuts + other.cuts;
  acks = one.acks + other.acks;
  sum = plus one.sum other.sum;
  faults = one.faults + other.faults;
}

-- each count is one of the steps, and the sum is a number of 64 bits
pub record AreOfSteps (tally : StepCounts) : Type 0 where
  pub idle : tally.idle ≤ tally.steps
  pub cuts : tally.cuts ≤ tally.steps
  pub acks : tally.acks ≤ tally.steps
  pub sum : tally.sum < 2 ^ 64
  pub faults : tally.faults ≤ tally.steps

-- `steps STEPS idle IDLE cuts CUTS acks ACKS sum SUM`
abbrev pub tally_text : StepCounts → List ℕ
tally_text tally =
    codes "steps " ++ (decimal tally.steps ++ (codes " idle " ++ (decimal tally.idle ++ (codes " cuts " ++ (decimal tally.cuts
    ++ (codes " acks " ++ (decimal tally.acks ++ (codes " sum " ++ decimal tally.sum))))))))

-- `gen seed SEED size SIZE steps STEPS idle IDLE cuts CUTS acks ACKS sum SUM`
abbrev pub summary_line : Seeded → StepCounts → List ℕ
summary_line seeded tally =
    codes "gen seed " ++ (decimal seeded.seed ++ (codes " size " ++ (decimal seeded.size ++ (codes " " ++ (tally_text tally ++ codes "\n")))))

-- ---- last lines

-- `done steps STEPS idle IDLE faults FAULTS`
abbrev pub endured_line : StepCounts → List ℕ
endured_line tally =
    codes "done steps " ++ (decimal tally.steps ++ (codes " idle " ++ (decimal tally.idle ++ (codes " faults " ++ (decimal tally.faults ++ codes "\n")))))

-- the last line of a run whose steps were counted so
abbrev pub last_line : LastLine → StepCounts → List ℕ
last_line of_steps tally = done_line tally.steps tally.idle
last_line of_faults tally = endured_line tally
last_line (of_seed seeded) tally = summary_line seeded tally
