-- What the laws of progress say of the running total.
use Rattle.std.proofs.Common.{arith, lit<, refl, suc, zero, ℕ, true, false, [], ◌∷◌, ◌≡◌, nat_lt}
use Rattle.std.proofs.lemmas.Bool.{and_from, and_parts, false≢true}
use Rattle.std.proofs.lemmas.Bool.Decides.{nat_tests}
use Rattle.fw_time.specs.Stamp.{Stamp, in_domain}
use Rattle.fw_frontier.specs.Front.{inside}
use Rattle.fw_flow.specs.Dataflow.{batches_of, bounds_of, greatest_number, kind_of, receiver, sender}
use Rattle.fw_flow.specs.Projection.{first_coordinate}
use Rattle.fw_flow.specs.declared.event.Event.TheVariants.{Inject as Injected}
use Rattle.fw_model.specs.LawsOfProgress.{IsStuck}
use Rattle.fw_model.specs.Machine.{events}
use Rattle.fw_examples.specs.Applied.{ProgressApplies}
use Rattle.fw_examples.specs.RunningTotal.{output_failed, totals, two_epochs}
use Rattle.fw_examples.specs.Witnesses.{complete_then, complete_two}
use Rattle.fw_examples.proofs.Settling.{from_phi}
use Rattle.fw_examples.proofs.Witnesses.{more_is_complete, totals_are_well_formed, two_epochs_are_complete}

below_two : (n : ℕ) (t : Stamp) → in_domain (record { greatest = n ∷ []; sides = false }) t ≡ true → nat_lt (first_coordinate t) 2 ≡ true → inside ((2 ∷ []) ∷ []) t ≡ true
below_two n [] d k = refl
below_two n (x ∷ []) d k = grind (arith, nat_tests)
below_two n (x ∷ y ∷ t) d k = absurd (false≢true (and_parts _ false d).1)

two_are_stuck : (p : ℕ) → IsStuck totals two_epochs complete_two p
unfolding kind_of receiver sender batches_of bounds_of
two_are_stuck zero t is = and_from _ _ is.of_domain (below_two greatest_number t is.of_domain (and_parts _ _ (is.source refl)).1)
two_are_stuck (suc zero) t is = from_phi totals two_epochs 0 (complete_two 0) refl t (is.arrives 0 (lit< tt) refl)
two_are_stuck (suc (suc zero)) t is = from_phi totals two_epochs 1 (complete_two 1) refl t (is.arrives 1 (lit< tt) refl)
two_are_stuck (suc (suc (suc p))) t is = and_from _ _ is.of_domain refl

pub progress_applies : ProgressApplies
progress_applies =
    let flow = totals_are_well_formed.well_formed.flow in
    let two = two_epochs_are_complete in
    record {
      complete = λ law. law totals two_epochs complete_two flow two.admissible two_are_stuck;
      others_stuck = λ law p n. law totals two_epochs (Injected 0 2) complete_two (two.enabled, two.legal) two.admissible p n (two_are_stuck p);
      notifiable = λ law. law totals (events output_failed.history) complete_then more_is_complete.complete;
    }
