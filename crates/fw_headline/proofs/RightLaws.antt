-- What is true wherever steps lead from the first state of a well-formed system.
use Rattle.std.proofs.Common.{◌≡◌, ℕ, Bool, true, List, map, sym, ◌∙◌, ap, subst}
use Rattle.fw_flow.specs.declared.choice.Choice.{Choice}
use Rattle.fw_flow.specs.declared.step.Step.{Step}
use Rattle.fw_flow.specs.declared.step.Step.TheVariants.{Recover, Collect}
use Rattle.fw_flow.specs.Dataflow.{System}
use Rattle.fw_flow.specs.WellFormed.{IsWellFormedSystem}
use Rattle.fw_rest.proofs.FinishLaws.{all-comes}
use Rattle.fw_headline.proofs.BasesLaws.{cuts-kept_with_bases}
use Rattle.fw_headline.proofs.RunLaws.{one-run}
use Rattle.fw_headline.specs.Right.{IsAllThere, IsRight, EveryRunIsRight}
use Rattle.fw_model.proofs.ChoosingLaws.{kept-is_ever, recovery-has_choice, failed-recovered, reached-one_next, never-falls}
use Rattle.fw_model.proofs.DenotationLaws.{denotation-exists, denotation-only}
use Rattle.fw_model.proofs.DomainLaws.{has_epochs}
use Rattle.fw_model.proofs.CollectedLaws.{collected-forgotten}
use Rattle.fw_model.proofs.LargestLaws.{largest-exists}
use Rattle.fw_model.proofs.RecoveryLaws.{runs-legal, acknowledged-denoted}
use Rattle.fw_model.proofs.RestoringLaws.{never-collected, cut_batches-outside, events-logged, logs-hold}
use Rattle.fw_model.proofs.RunLaws.{acknowledgements-in_order}
use Rattle.fw_model.specs.Choice.{View, kept, ever, IsCandidate, IsLargest, IsWatermark}
use Rattle.fw_model.specs.Denotation.{rounds}
use Rattle.fw_model.specs.Machine.{Machine, first_state, is_failed}
use Rattle.fw_model.specs.Measure.{enough_rounds}
use Rattle.fw_model.specs.Steps.{Effect, cuts, lows, Outcome, did, StepsTo, Run, front_of_cut}

-- what a recovery shows is what it chose
cuts-one : (one other : Choice) → cuts one ≡ cuts other → one ≡ other
cuts-one one other e = ap shown_choice e
  where
    shown_choice : Effect → Choice
    shown_choice (cuts choice) = choice
    shown_choice effect = one

-- what a collection shows is the watermark that it took
lows-one : (one other : Choice) → lows one ≡ lows other → one ≡ other
lows-one one other e = ap shown_choice e
  where
    shown_choice : Effect → Choice
    shown_choice (lows choice) = choice
    shown_choice effect = one

cuts-largest : (sys : System) → IsWellFormedSystem sys → (steps : List Step) (outcomes : List Outcome) (state : Machine) → Run sys (first_state sys) steps outcomes state
    → (after : Machine) (choice : Choice) → StepsTo sys state Recover after (did (cuts choice))
    → (view : View) → IsLargest sys state (IsCandidate sys state (is_failed state) view) choice
cuts-largest sys w steps outcomes state r after choice t view =
    let among : View → Type 0 = λ view. IsLargest sys state (IsCandidate sys state (is_failed state) view) choice in
    let of_kept : among kept = subst (IsLargest sys state (IsCandidate sys state (is_failed state) kept)) (sym (cuts-one choice t.1 t.8)) t.5 in
    elim view as among [
      | kept ↦ of_kept
      | ever ↦ (kept-is_ever sys w steps outcomes state r (is_failed state) choice).0 of_kept
    ]

shows-watermark : (sys : System) (state after : Machine) (choice : Choice) → StepsTo sys state Collect after (did (lows choice))
    → IsWatermark sys state choice × (after.low ≡ map front_of_cut choice.cuts)
shows-watermark sys state after choice t =
    let same : t.0 ≡ choice = sym (lows-one choice t.0 t.4) in (
      subst (IsWatermark sys state) same t.1,
      ap (λ (m : Machine). m.low) t.3 ∙ ap (λ (c : Choice). map front_of_cut c.cuts) same,
    )

largest-chosen : (sys : System) → IsWellFormedSystem sys → (steps : List Step) (outcomes : List Outcome) (state : Machine) → Run sys (first_state sys) steps outcomes state
    → (lost : ℕ → Bool) → (choice : Choice) × IsLargest sys state (IsCandidate sys state lost kept) choice
largest-chosen sys w steps outcomes state r lost =
    let c = recovery-has_choice sys w steps outcomes state r lost in
    largest-exists sys state lost kept c.chains c.choice c.consistent

all-there : (sys : System) → IsWellFormedSystem sys → (steps : List Step) (outcomes : List Outcome) (state : Machine) → Run sys (first_state sys) steps outcomes state
    → (lost : ℕ → Bool) (choice : Choice) → IsLargest sys state (IsCandidate sys state lost kept) choice → IsAllThere sys state lost choice
all-there sys w steps outcomes state r lost choice l = record {
  of_ever = (kept-is_ever sys w steps outcomes state r lost choice).0 l;
  checkpoints = cuts-kept_with_bases sys w steps outcomes state r lost choice l;
  logged_events = events-logged sys w steps outcomes state r lost choice l;
  messages = logs-hold sys w steps outcomes state r lost choice l;
  batches = cut_batches-outside sys w steps outcomes state r lost choice l;
}

pub run-right : (sys : System) → IsWellFormedSystem sys → (steps : List Step) (outcomes : List Outcome) (state : Machine) → Run sys (first_state sys) steps outcomes state
    → IsRight sys outcomes state
run-right sys w steps outcomes state r = record {
  legal = runs-legal sys steps outcomes state w.flow (has_epochs sys w) r;
  in_order = acknowledgements-in_order sys steps outcomes state r;
  denoted = λ family d. acknowledged-denoted sys family w d steps outcomes state r;
  next = reached-one_next sys w steps outcomes state r;
  recovers = failed-recovered sys w steps outcomes state r;
  largest = cuts-largest sys w steps outcomes state r;
  chosen = largest-chosen sys w steps outcomes state r;
  restored = all-there sys w steps outcomes state r;
  watermark = largest-chosen sys w steps outcomes state r (λ p. true);
  shown = shows-watermark sys state;
  never_falls = never-falls sys w steps outcomes state r;
  below = collected-forgotten sys w steps outcomes state r;
  never_collected = never-collected sys w steps outcomes state r;
}

-- the headline
pub runs-right : EveryRunIsRight
runs-right sys w = record {
  denotation = (rounds sys (enough_rounds sys.flow), denotation-exists sys w.flow);
  no_other = λ one other. denotation-only sys one other w.flow;
  one_run = one-run sys w;
  right = run-right sys w;
  comes = λ steps outcomes state r family d. all-comes sys family w d steps outcomes state r;
}
