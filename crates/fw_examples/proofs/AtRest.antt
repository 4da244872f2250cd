-- The laws of rest, applied to the running total whose output failed.
use Rattle.std.proofs.Common.{◌≡◌, ℕ, zero, suc, ◌≤◌, List, ◌∷◌, ◌++◌, refl, lit<, inl, arith}
use Rattle.fw_lemmas.proofs.Numbers.{at_most-refl}
use Rattle.fw_flow.specs.Dataflow.{batches_of, in_edges, kind_of, receiver, sender}
use Rattle.fw_flow.specs.declared.step.Step.TheVariants.{Recover}
use Rattle.fw_flow.specs.KeyParts.{is_carried, part_of}
use Rattle.fw_model.specs.Carried.{carried_timed}
use Rattle.fw_model.specs.LawsOfRuns.{RunsGoOn}
use Rattle.fw_model.specs.Machine.{Machine, events, first_state}
use Rattle.fw_model.specs.Reached.{IsReached}
use Rattle.fw_model.specs.Steps.{Outcome}
use Rattle.fw_rest.specs.Left.{HasNoRegroup}
use Rattle.fw_rest.specs.Rest.{RecoversAndGoesOn}
use Rattle.fw_rest.specs.StepsToRest.{steps_to_rest, steps_in_all}
use Rattle.fw_examples.specs.AtRest.{RestApplies}
use Rattle.fw_examples.specs.Flows.{out}
use Rattle.fw_examples.specs.RunningTotal.{outcomes_to_failure, output_failed, run_to_out, steps_to_failure, totals, totals_denoted}
use Rattle.fw_examples.proofs.Witnesses.{failure_is_reached, recovery_is_reached, totals_are_well_formed}

same_at_most : (x y : ℕ) → x ≡ y → x ≤ y
same_at_most x y e = omega arith

no_regroup : HasNoRegroup totals.flow
unfolding kind_of
no_regroup zero n e = cc
no_regroup (suc zero) n e = cc
no_regroup (suc (suc zero)) n e = cc
no_regroup (suc (suc (suc p))) n e = cc

rested_is_reached : RunsGoOn → (also : List Outcome) (rested : Machine) → RecoversAndGoesOn totals output_failed 136 also rested → IsReached totals rested
rested_is_reached law also rested g = (
  steps_to_failure ++ Recover ∷ g.steps,
  outcomes_to_failure ++ also,
  law totals (first_state totals) output_failed rested steps_to_failure (Recover ∷ g.steps) outcomes_to_failure also failure_is_reached.reached g.runs,
)

pub rest_applies : RestApplies
unfolding kind_of receiver sender batches_of in_edges steps_in_all carried_timed is_carried part_of
rest_applies =
    let system = totals_are_well_formed in
    let formed = system.well_formed in
    let denoted = system.denoted in
    let reached = failure_is_reached.reached in
    record {
      due = refl;
      enough = refl;
      few = λ law. law totals totals_denoted formed denoted (events output_failed.history) recovery_is_reached.legal;
      comes = λ one law.
          let most = steps_to_rest totals totals_denoted output_failed in
          let taken = one totals formed steps_to_failure outcomes_to_failure output_failed reached most in
          (taken.1, law totals totals_denoted formed denoted output_failed (steps_to_failure, outcomes_to_failure, reached) most (at_most-refl most) taken.0 taken.1 taken.2);
      goes_on = λ law. law totals formed output_failed (steps_to_failure, outcomes_to_failure, reached) 136;
      rests = λ law also last g. law totals totals_denoted formed denoted output_failed (steps_to_failure, outcomes_to_failure, reached) 136 (same_at_most _ 136 refl) also last g;
      all = λ law also last g.
          (law totals totals_denoted formed denoted steps_to_failure outcomes_to_failure output_failed reached 136 (same_at_most _ 136 refl) also last g out (lit< tt) refl).0;
      shown = λ law also last g.
          (law totals totals_denoted formed denoted steps_to_failure outcomes_to_failure output_failed reached 136 (same_at_most _ 136 refl) also last g out (lit< tt) refl).1.batches
          refl run_to_out refl 4 (inl (lit< tt));
      stamps = λ law also last g.
          (law totals totals_denoted formed denoted steps_to_failure outcomes_to_failure output_failed reached 136 (same_at_most _ 136 refl) also last g out (lit< tt) refl).1.stamps;
      asks = λ runs law also rested g. law totals formed rested (rested_is_reached runs also rested g) 138;
      left = λ runs comes law also rested g last asked.
          let r = comes totals totals_denoted formed denoted output_failed (steps_to_failure, outcomes_to_failure, reached) 136 (same_at_most _ 136 refl) also rested g in
          law totals totals_denoted formed denoted no_regroup rested (rested_is_reached runs also rested g) r.0 r.1 138 (same_at_most _ 138 refl) last asked;
    }
