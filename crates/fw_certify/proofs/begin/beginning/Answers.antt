use Rattle.std.proofs.Common.{◌≡◌, ℕ, ◌<◌, [], length, sym, subst}
use Rattle.fw_frontier.specs.Front.{IsFrontOf}
use Rattle.fw_flow.specs.declared.choice.Choice.{Choice}
use Rattle.fw_flow.specs.Dataflow.{bounds_of}
use Rattle.fw_model.specs.Machine.{front_of}
use Rattle.fw_model.specs.Choice.{IsCanonicalCut, cut_of}
use Rattle.fw_model.specs.Certificates.{IsBeginning, IsGreatestOffered}
use Rattle.fw_model.specs.Covers.{set_of}
use Rattle.fw_model.specs.Lowerings.{choice_of}
use Rattle.fw_model.specs.Offers.{IsOffered}
use Rattle.fw_certify.proofs.BeginLaws.{all-canonical, begins}
use Rattle.fw_certify.proofs.CodeLaws.{found-one}
use Rattle.fw_certify.proofs.begin.beginning.Goals as goal

pub all_kept-requires-clause-one_each : goal.all_kept-requires-clause-one_each
all_kept-requires-clause-one_each c =
    let flow = c.args.flow.now in
    let offers = c.args.offers.now in
    let found = found-one c.in_ok-cuts.field-0 c.in-Some.cuts
    ((start : Choice) → IsBeginning flow (IsOffered flow offers) start → ⊥) (λ cuts. (length cuts.items ≡ length flow.nodes) × ((p : ℕ) → p < length flow.nodes → IsGreatestOffered flow (IsOffered flow offers) p (cut_of (choice_of cuts.items []) p))) c.in-Some.is c.in_ok-cuts.ensures in
    subst (λ xs. length xs ≡ length c.args.flow.now.nodes) (sym c.deref.ensures.value) found.0

pub all_kept-requires-clause-canonical : goal.all_kept-requires-clause-canonical
all_kept-requires-clause-canonical c =
    let flow = c.args.flow.now in
    let offers = c.args.offers.now in
    let found = found-one c.in_ok-cuts.field-0 c.in-Some.cuts
    ((start : Choice) → IsBeginning flow (IsOffered flow offers) start → ⊥) (λ cuts. (length cuts.items ≡ length flow.nodes) × ((p : ℕ) → p < length flow.nodes → IsGreatestOffered flow (IsOffered flow offers) p (cut_of (choice_of cuts.items []) p))) c.in-Some.is c.in_ok-cuts.ensures in
    subst (λ xs. (p : ℕ) → p < length flow.nodes → IsCanonicalCut (bounds_of flow p) (cut_of (choice_of xs []) p)) (sym c.deref.ensures.value) (all-canonical flow c.args.offers.now c.in-Some.cuts.items (length flow.nodes) found.1)

pub returns-in_ok-notices-in-Some : goal.returns-in_ok-notices-in-Some
returns-in_ok-notices-in-Some c =
    let flow = c.args.flow.now in
    let offers = c.args.offers.now in
    let found = found-one c.in_ok-cuts.field-0 c.in-Some.cuts
    ((start : Choice) → IsBeginning flow (IsOffered flow offers) start → ⊥) (λ cuts. (length cuts.items ≡ length flow.nodes) × ((p : ℕ) → p < length flow.nodes → IsGreatestOffered flow (IsOffered flow offers) p (cut_of (choice_of cuts.items []) p))) c.in-Some.is c.in_ok-cuts.ensures in
    let kept = subst (λ xs. (p : ℕ) → p < length flow.nodes → IsFrontOf (bounds_of flow p) (front_of c.in_ok-notices-in-Some.notices.items p) (set_of flow p (cut_of (choice_of xs []) p))) c.deref.ensures.value c.in_ok-notices-in-Some.ensures.kept in
    begins flow c.args.offers.now c.in-Some.cuts.items c.in_ok-notices-in-Some.notices.items found.0 c.in_ok-notices-in-Some.ensures.one_each found.1 kept
