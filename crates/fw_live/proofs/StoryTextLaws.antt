-- What a session shows is the text of a run.
use Rattle.std.proofs.Common.{◌≡◌, List, [], ◌∷◌, ◌++◌, length, map, refl, sym, ap, ◌∙◌}
use Rattle.std.proofs.lemmas.List.{length-map}
use Rattle.std.specs.List.{flat_map}
use Rattle.fw_flow.specs.declared.step.Step.{Step}
use Rattle.fw_flow.specs.Dataflow.{System, Dataflow}
use Rattle.fw_schedule.specs.declared.item.Item.TheVariants.{One}
use Rattle.fw_model.specs.Machine.{Machine}
use Rattle.fw_model.specs.Steps.{Effect, Outcome, did, Run}
use Rattle.fw_running.specs.EffectText.{effect_text}
use Rattle.fw_feeding.specs.Feeding.{with_batches}
use Rattle.fw_feeding.specs.FedRuns.{steps_among}
use Rattle.fw_session.proofs.StoryLaws.{stories_are_runs}
use Rattle.fw_run.specs.Items.{ComesTo}
use Rattle.fw_run.specs.Printed.{outcomes_text, idle_count, done_line}
use Rattle.fw_live.specs.StoryText.{StoriesPrintAsRuns}

-- steps as items come to these steps
comes : (sys : System) (state : Machine) (steps : List Step) (outcomes : List Outcome) (last : Machine) → Run sys state steps outcomes last
    → ComesTo sys state (map One steps) steps last
comes sys state [] [] last r = (refl, r)
comes sys state [] (outcome ∷ outcomes) last r = absurd r
comes sys state (step ∷ steps) [] last r = absurd r
comes sys state (step ∷ steps) (outcome ∷ outcomes) last r =
    (step ∷ [], r.0, steps, (outcome, r.1, refl), comes sys r.0 steps outcomes last r.2, refl)

pub text-of-effects : (flow : Dataflow) (effects : List Effect) → flat_map (effect_text flow) effects ≡ outcomes_text flow (map did effects)
text-of-effects flow [] = refl
text-of-effects flow (effect ∷ effects) = ap (λ text. effect_text flow effect ++ text) (text-of-effects flow effects)

none-idle : (effects : List Effect) → 0 ≡ idle_count (map did effects)
none-idle [] = refl
none-idle (effect ∷ effects) = none-idle effects

pub stories_print : StoriesPrintAsRuns
stories_print flow story k end on =
    let run = stories_are_runs flow story k end on in
    let effects = story.effects in
    record {
      steps = steps_among story.actions;
      last = story.now.state;
      comes = comes (with_batches flow end) _ (steps_among story.actions) (map did effects) story.now.state run;
      outcomes = map did effects;
      run = run;
      text = ap (λ text. text ++ done_line (length effects) 0) (text-of-effects flow effects)
          ∙ ap (λ n. outcomes_text flow (map did effects) ++ done_line n 0) (sym (length-map effects did))
          ∙ ap (λ n. outcomes_text flow (map did effects) ++ done_line (length (map did effects)) n) (none-idle effects);
    }
