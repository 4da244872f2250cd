use Rattle.std.proofs.Common.{◌≡◌, length, ap, ◌∙◌}
use Rattle.std.specs.Prelude.{string_bytes}
use Rattle.std.proofs.lemmas.Result.{IfOk-weaker}
use Rattle.fw_certify.specs.CertificateText.{down_lines}
use Rattle.fw_choosing.specs.Choices as spec
use Rattle.fw_choosing.proofs.ChoiceLaws.{none-bytes}
use Rattle.fw_choosing.proofs.text.none_text.Goals as goal

pub returns : goal.returns
returns c =
    let flow = c.args.flow.now in
    let lines = c.display-lines.ensures ∙ ap (down_lines flow) c.in_ok-certificate.ensures in
    let count = ap length (c.as_slice.ensures ∙ c.in_ok-certificate.ensures) in
    IfOk-weaker c.format.result _ (λ text. string_bytes text ≡ spec.none_text flow c.args.trail.now c.args.node c.args.by)
    (λ text e. e ∙ none-bytes flow c.args.trail.now c.args.node c.args.by _ _ lines count) c.format.ensures.ok
