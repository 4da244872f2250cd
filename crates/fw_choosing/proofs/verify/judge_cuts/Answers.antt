use Rattle.std.proofs.Common.{length, ap, subst, ◌∙◌}
use Rattle.std.specs.Prelude.{string_bytes}
use Rattle.fw_model.specs.Lowerings.{choice_of}
use Rattle.fw_model.specs.Offers.{IsOffered, covers_of}
use Rattle.fw_certify.specs.Checked.{IsVerdict}
use Rattle.fw_choosing.specs.Choices.{wrong_line}
use Rattle.fw_choosing.proofs.ChoiceLaws.{cuts-not_shown}
use Rattle.fw_choosing.proofs.verify.judge_cuts.Goals as goal

pub returns : goal.returns
returns c =
    let flow = c.args.flow.now in
    let offers = c.args.offers.now in
    let ls = c.args.lowerings.now in
    let verdict = subst (IsVerdict flow (covers_of flow offers) (IsOffered flow offers) ls (choice_of c.args.cuts c.in_ok-notices.notices)) c.in-No.is c.in_ok-verdict.ensures.exact in
    cuts-not_shown flow offers ls c.args.cuts c.in_ok-notices.notices c.in-No.at (string_bytes c.in_ok-wrong-in-No.wrong) c.in_ok-notices.ensures verdict
    (c.in_ok-wrong-in-No.ensures ∙ ap (λ xs. wrong_line (length xs) c.in-No.at) c.as_slice-count.ensures)
