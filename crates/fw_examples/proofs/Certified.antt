-- Certificates of the running total, and a dead end.
use Rattle.std.proofs.Common.{[], lit<, refl, true, ◌∷◌, ◌≡◌, Some, sym, ap, subst, ◌∙◌, inl, arith}
use Rattle.std.proofs.lemmas.Bool.{false≢true}
use Rattle.fw_frontier.specs.Front.{IsFrontOf}
use Rattle.fw_frontier.specs.Frontier.{everything}
use Rattle.fw_flow.specs.Dataflow.{batches_of, bounds_of, in_edges, kind_of, out_edges, policy_of, receiver, sender}
use Rattle.fw_flow.specs.Projection.{phi_by_count}
use Rattle.fw_flow.specs.declared.choice.Choice.{Choice}
use Rattle.fw_flow.specs.declared.choice.Cut.{Cut}
use Rattle.fw_flow.specs.declared.choice.Cut.TheVariants.{At, Present}
use Rattle.fw_flow.specs.declared.choice.Offer.{Offer}
use Rattle.fw_flow.specs.declared.trail.Lowering.{Lowering}
use Rattle.fw_flow.specs.declared.side.Inclusion.TheVariants.{OfCut, OfNote}
use Rattle.fw_flow.specs.declared.side.Limit.TheVariants as limit
use Rattle.fw_flow.specs.declared.side.Side.TheVariants.{Discarded}
use Rattle.fw_model.specs.Certificates.{IsBeginning, IsDeadEnd, IsGreatestOffered, IsTrailBy}
use Rattle.fw_model.specs.Choice.{IsCutWithin, kept, until}
use Rattle.fw_model.specs.Inclusions.{Holds, inclusions_to}
use Rattle.fw_model.specs.LawsOfPoorerTrails.{CertificateByOffersAboveIsCertificate}
use Rattle.fw_model.specs.Lowerings.{IsCutLeft, LeadRight}
use Rattle.fw_model.specs.Machine.{is_failed}
use Rattle.fw_model.specs.Offers.{IsOffered, covers_of}
use Rattle.fw_offers.proofs.FrontLaws.{all_is_everything, within_everything}
use Rattle.fw_certify.specs.Checked.{IsVerdict, said_inclusion}
use Rattle.fw_certify.specs.declared.checker.Verdict.TheVariants.{No}
use Rattle.fw_certify.proofs.EntryLaws.{said-one}
use Rattle.fw_examples.specs.Certified.{CertificatesApply, IsCertificateOfTotals, certificate_of_totals, held_lowering, offer_without_checkpoint, offers_without_checkpoint}
use Rattle.fw_examples.specs.OffersOfTotals.{offer_of_input, offer_of_output, offer_of_total, offers_of_totals}
use Rattle.fw_examples.specs.RunningTotal.{output_failed, total_flow, totals, two_epochs_kept}
use Rattle.fw_examples.specs.Trails.{trail_of_totals}
use Rattle.fw_examples.proofs.Floors.{offers_are_above}
use Rattle.fw_examples.proofs.Fronts.{by_three, canonical_by}
use Rattle.fw_examples.proofs.OffersOfTotals.{checkpoints_are_offered}
use Rattle.fw_examples.proofs.Trails.{all_hold, all_lowered, all_offered, beside_output, beyond, epochs, run_cut, run_left, run_note_left, src_left, src_note_left}
use Rattle.fw_examples.proofs.Witnesses.{totals_are_well_formed}

-- where it begins, whatever the running total lists
begins_with : (o : Offer) → o.present ≡ true → IsBeginning total_flow (IsOffered total_flow (offer_of_input ∷ o ∷ offer_of_output ∷ [])) all_offered
unfolding kind_of policy_of bounds_of
begins_with o stays = record {
  one_cut_each = refl;
  one_notice_each = refl;
  cuts = by_three _ (record { offered = refl; greatest = λ x of. tt }) (record { offered = stays; greatest = λ x of. tt }) output;
  notices = by_three _ all all (record { canonical = canonical_by _ (until 2) refl; same = λ t. refl });
}
  where
    all : IsFrontOf epochs [] (everything epochs)
    all = record { canonical = tt; same = λ t i. all_is_everything epochs i t }

    within : (x : Cut) → IsOffered total_flow (offer_of_input ∷ o ∷ offer_of_output ∷ []) 2 x → IsCutWithin total_flow 2 x (At (until 2))
    within Present of = absurd (false≢true of)
    within (At f) of = of.1.1

    output : IsGreatestOffered total_flow (IsOffered total_flow (offer_of_input ∷ o ∷ offer_of_output ∷ [])) 2 (At (until 2))
    output = record { offered = (canonical_by _ (until 2) refl, ((λ t i. i), (λ t i. i))); greatest = within }

begins : IsBeginning total_flow (IsOffered total_flow offers_of_totals) all_offered
begins = begins_with offer_of_total refl

-- ---- the lowerings in another order

abbrev run_told : Choice
run_told = beside_output Present (At (until 2)) [] (until 2)

abbrev both_lowered : Choice
both_lowered = beside_output (At (until 2)) (At (until 2)) [] (until 2)

leads : LeadRight total_flow (covers_of total_flow offers_of_totals) (IsOffered total_flow offers_of_totals) all_offered certificate_of_totals two_epochs_kept
unfolding kind_of policy_of bounds_of receiver sender in_edges out_edges inclusions_to batches_of phi_by_count
leads = (
  run_cut,
  record { inclusion = OfCut (Discarded 1); of_flow = lit< tt; told = refl; fails = beyond _ refl; greatest = run_left [] []; with_it = refl },
  (
    run_told,
    record { inclusion = OfNote (limit.Own 1); of_flow = lit< tt; told = refl; fails = beyond _ refl; greatest = run_note_left Present []; with_it = refl },
    (
      both_lowered,
      record { inclusion = OfCut (Discarded 0); of_flow = lit< tt; told = refl; fails = beyond _ refl; greatest = src_left [] (until 2); with_it = refl },
      (
        two_epochs_kept,
        record { inclusion = OfNote (limit.Own 0); of_flow = lit< tt; told = refl; fails = beyond _ refl; greatest = src_note_left (until 2); with_it = refl },
        refl,
      ),
    ),
  ),
)

certificate : IsCertificateOfTotals certificate_of_totals two_epochs_kept
certificate = record { start = all_offered; begins = begins; leads = leads; ends = all_hold }

by_trail : IsTrailBy total_flow (covers_of total_flow offers_of_totals) (IsOffered total_flow offers_of_totals) trail_of_totals two_epochs_kept
by_trail = record { start = all_offered; begins = begins; leads = all_lowered; ends = all_hold }

-- ---- a wrong lowering

note_holds : Holds total_flow (covers_of total_flow offers_of_totals) all_offered (OfNote (limit.Own 0))
unfolding kind_of policy_of bounds_of
note_holds t k = within_everything epochs [] t k

wrong : IsVerdict total_flow (covers_of total_flow offers_of_totals) (IsOffered total_flow offers_of_totals) (held_lowering ∷ []) two_epochs_kept (No 0)
wrong = inl (record {
  first = omega arith;
  start = all_offered;
  begins = begins;
  mid = all_offered;
  leads = refl;
  wrong = λ l next at low.
      let both : Some held_lowering ≡ Some l = at in
      let same : l ≡ held_lowering = cc in
      low.fails (subst (Holds total_flow (covers_of total_flow offers_of_totals) all_offered)
      (sym (said-one total_flow l low.inclusion low.told ∙ ap (λ (x : Lowering). said_inclusion x.node x.by) same)) note_holds);
  end = λ e. absurd (omega arith);
})

-- ---- a dead end

dead_end : IsDeadEnd total_flow (covers_of total_flow offers_without_checkpoint) (IsOffered total_flow offers_without_checkpoint) [] (Discarded 1)
unfolding kind_of policy_of bounds_of receiver sender in_edges out_edges phi_by_count
dead_end = record { start = all_offered; begins = begins_with offer_without_checkpoint refl; end = all_offered; leads = refl; of_flow = lit< tt; none = none }
  where
    none : (x : Cut) → IsCutLeft total_flow (covers_of total_flow offers_without_checkpoint) (IsOffered total_flow offers_without_checkpoint) all_offered (Discarded 1) x → ⊥
    none Present is = beyond _ refl is.meets
    none (At f) is = absurd is.offered.1

-- ---- the whole

pub certificates_apply : CertificatesApply
certificates_apply =
    let flow = totals_are_well_formed.well_formed.flow in
    let in_state = λ (law : CertificateByOffersAboveIsCertificate).
    (law totals output_failed (is_failed output_failed) two_epochs_kept offers_of_totals certificate_of_totals two_epochs_kept flow offers_are_above).0 certificate in
    record {
      trail = by_trail;
      by_trail = λ law. law total_flow offers_of_totals trail_of_totals two_epochs_kept by_trail;
      certificate = certificate;
      largest = λ law. law total_flow offers_of_totals certificate_of_totals two_epochs_kept flow certificate;
      agree = λ law ls end is. law total_flow offers_of_totals ls certificate_of_totals end two_epochs_kept flow is certificate;
      exactly_of_state = λ law. (law totals output_failed (is_failed output_failed) offers_of_totals certificate_of_totals two_epochs_kept flow checkpoints_are_offered.same).0 certificate;
      wrong = wrong;
      of_state = in_state;
      largest_of_state = λ by law. law totals output_failed (is_failed output_failed) kept certificate_of_totals two_epochs_kept flow (in_state by);
      dead_end = dead_end;
      none = λ law choice is. law total_flow offers_without_checkpoint [] (Discarded 1) choice flow dead_end is;
    }
