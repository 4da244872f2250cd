-- That what the headline asks of a schedule can be met, of any system.
use Rattle.std.proofs.Common.{ℕ, ◌+◌, ◌≤◌, [], ◌∷◌, refl, arith}
use Rattle.fw_flow.specs.Dataflow.{System}
use Rattle.fw_schedule.specs.declared.item.Item.TheVariants.{Auto}
use Rattle.fw_model.specs.Denotation.{Family}
use Rattle.fw_rest.specs.StepsToRest.{steps_enough}
use Rattle.fw_run.specs.Headline.{EndInAuto}

-- a schedule of one line of `auto` that asks for enough steps ends in enough `auto`
pub ends_in_auto : (sys : System) (family : Family) → EndInAuto sys family (Auto (steps_enough sys family 0) ∷ [])
ends_in_auto sys family =
    let n = steps_enough sys family 0 in
    record { earlier = []; counts = n ∷ []; parts = refl; live = refl; enough = enough n }
  where
    enough : (n : ℕ) → n ≤ n + 0
    enough n = omega arith
