-- A story goes on by a start.
use Rattle.std.proofs.Common.{◌≡◌, ℕ, Bool, List, map, refl, sym, ap, subst, ◌∙◌, inl, inr}
use Rattle.fw_bag.specs.declared.rec.Rec.{Rec}
use Rattle.fw_flow.specs.declared.choice.Choice.{Choice}
use Rattle.fw_flow.specs.declared.step.Step.TheVariants.{Fail, Recover}
use Rattle.fw_flow.specs.Dataflow.{Dataflow, node_ids}
use Rattle.fw_model.specs.Machine.{Machine, first_state}
use Rattle.fw_model.specs.Reached.{IsReached}
use Rattle.fw_model.specs.Steps.{Effect, cuts, silent, did, idle, Outcome, LeadsTo, StepsTo}
use Rattle.fw_feeding.specs.FedRuns.{FedMachine, steps_among}
use Rattle.fw_feeding.proofs.OpenRunLaws.{open-runs_are_runs}
use Rattle.fw_regain.specs.Down.{down}
use Rattle.fw_regain.proofs.DownLaws.{go-down}
use Rattle.fw_session.specs.Story.{Story, IsStory, system_now, after_step}
use Rattle.fw_session.proofs.FedRunningLaws.{story-run}
use Rattle.fw_session.proofs.StoryLaws.{story-stepped}
use Rattle.fw_lasting.specs.Again.{IsStoryDown, IsStartBehind}
use Rattle.fw_lasting.specs.LawsOfLasting.{StoriesStartAgain}

-- steps lead to the state of a story
pub story-reached : (flow : Dataflow) (story : Story) → IsStory flow story → IsReached (system_now flow story) story.now.state
story-reached flow story k =
    let sys = system_now flow story in
    (steps_among story.actions, map did story.effects, open-runs_are_runs story.now.opened sys (first_state sys) (steps_among story.actions) story.effects story.now.state (story-run flow story k))

-- behind one in which every node was failed, a recovery goes on
restores : (flow : Dataflow) (story fallen : Story) → IsStory flow fallen → IsStoryDown flow story fallen → fallen.now.opened ≡ story.now.opened
    → fallen.now.batches ≡ story.now.batches → fallen.now.state ≡ down (system_now flow story) story.now.state
    → (choice : Choice) (state : Machine) → (leads : LeadsTo (system_now flow story) (down (system_now flow story) story.now.state) Recover state (cuts choice))
    → (next : Story) × IsStartBehind flow story choice next × IsStory flow next × (next.now ≡ record story.now { state = state })
restores flow story fallen k falls o b s choice state leads =
    let here : LeadsTo (system_now flow fallen) fallen.now.state Recover state (cuts choice) =
    subst (λ bs. LeadsTo (record { flow = flow; batches = bs }) fallen.now.state Recover state (cuts choice)) (sym b)
    (subst (λ m. LeadsTo (system_now flow story) m Recover state (cuts choice)) (sym s) leads) in
    let make : (ℕ → Bool) → List (List (List Rec)) → FedMachine = λ f bs. record { opened = f; batches = bs; state = state } in (
      after_step Recover (cuts choice) state fallen,
      record { fallen = fallen; falls = falls; state = state; recovers = leads; restored = refl },
      story-stepped flow fallen k Recover (cuts choice) state tt here,
      ap (λ f. make f fallen.now.batches) o ∙ ap (make story.now.opened) b,
    )

pub stories_start_again : StoriesStartAgain
stories_start_again flow story k choice state leads =
    let sys = system_now flow story in
    let falls = go-down sys story.now.state (story-reached flow story k) in
    by falls.0 falls.1
  where
    by : (outcome : Outcome) → StepsTo (system_now flow story) story.now.state (Fail (node_ids flow)) (down (system_now flow story) story.now.state) outcome
        → (next : Story) × IsStartBehind flow story choice next × IsStory flow next × (next.now ≡ record story.now { state = state })
    by (did effect) fails =
        let sys = system_now flow story in
        let low = down sys story.now.state in
        let quiet : LeadsTo sys story.now.state (Fail (node_ids flow)) low silent =
        subst (λ (e : Effect). LeadsTo sys story.now.state (Fail (node_ids flow)) low e) fails.5 fails in
        let fallen = after_step (Fail (node_ids flow)) silent low story in
        restores flow story fallen (story-stepped flow story k (Fail (node_ids flow)) silent low tt quiet) (inr refl) refl refl refl choice state leads
    by idle same = restores flow story story k (inl (refl, same.1)) refl refl (sym same.1) choice state leads
