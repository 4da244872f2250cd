use Rattle.std.proofs.Common.{Some, Option, sym, ◌∙◌, ap}
use Rattle.std.specs.List.{filter_map}
use Rattle.fw_flow.specs.declared.choice.Cut.{Cut}
use Rattle.fw_offers_text.specs.ClaimDraft.{ClaimTold}
use Rattle.fw_offers_text.specs.declared.claim.Ending.TheVariants as ending
use Rattle.fw_offers_text.proofs.ClaimLaws.{claim_left, claim_largest}
use Rattle.fw_offers_text.proofs.claim_draft.ClaimDraft.into_claim.Goals.{in-Some, in-None+in_ok-all_told-in-None}
use Rattle.fw_offers_text.proofs.claim_draft.ClaimDraft.into_claim.Goals as goal

pub returns : goal.returns
returns c =
    let lowerings = c.of-2.ensures ∙ ap (λ (told : ClaimTold). told.lowerings) c.self.view_is in
    let left = ap (λ (told : ClaimTold). told.none_left) c.self.view_is in
    let cuts = ap (λ (told : ClaimTold). told.cuts) c.self.view_is in
    elim c.match-none_left.branch [
      | in-Some w ↦ claim_left c.args.self c.of-2.result c.match-none_left.ending lowerings (ap Some w.ending-is ∙ sym w.in-Some.is ∙ left)
      | in-None+in_ok-all_told-in-None w ↦
          claim_largest c.args.self c.of-2.result c.match-none_left.ending w.in_ok-all_told-in-None.field-0.items lowerings (sym w.in-None.is ∙ left) (w.ending-is ∙ ap ending.Largest w.of.ensures)
          (w.in_ok-all_told-in-None.ensures ∙ ap (filter_map (λ (cut : Option Cut). cut)) cuts)
    ]
