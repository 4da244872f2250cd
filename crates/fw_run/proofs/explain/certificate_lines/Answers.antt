use Rattle.std.proofs.Common.{length, ap, subst, ◌∙◌}
use Rattle.std.specs.Prelude.{string_bytes}
use Rattle.std.proofs.lemmas.Result.{IfOk-weaker}
use Rattle.fw_model.specs.Offers.{IsOffered, covers_of}
use Rattle.fw_certify.specs.Checked.{IsVerdict}
use Rattle.fw_certify.specs.CertificateText.{down_lines}
use Rattle.fw_run.specs.Explained.{IsJudgedText}
use Rattle.fw_run.proofs.ReasonLaws.{judged-bytes}
use Rattle.fw_run.proofs.explain.certificate_lines.Goals as goal

pub returns : goal.returns
returns c =
    let flow = c.args.flow.now in
    let os = c.args.outlook.now.candidates.items in
    let trail = c.args.outlook.now.descent.trail in
    let choice = c.args.outlook.now.descent.choice in
    let exact = subst (λ os. IsVerdict flow (covers_of flow os) (IsOffered flow os) c.in_ok-certificate.certificate choice c.in_ok-verdict.verdict) c.deref.ensures.value c.in_ok-verdict.ensures.exact in
    let judged = subst (λ ls. IsVerdict flow (covers_of flow os) (IsOffered flow os) ls choice c.in_ok-verdict.verdict) c.in_ok-certificate.ensures exact in
    let lines = c.display-lines.ensures ∙ ap (down_lines flow) c.in_ok-certificate.ensures in
    let count = ap length (c.as_slice.ensures ∙ c.in_ok-certificate.ensures) in
    IfOk-weaker c.format.result _ (λ text. IsJudgedText flow os trail choice (string_bytes text))
    (λ text e. (c.in_ok-verdict.verdict, judged, e ∙ judged-bytes flow trail c.in_ok-verdict.verdict _ _ _ lines count c.word_of-word.ensures)) c.format.ensures.ok
