use Rattle.std.proofs.Common.{◌≡◌, ◌∙◌}
use Rattle.std.specs.Prelude.{string_bytes}
use Rattle.std.proofs.lemmas.Result.{IfOk-weaker}
use Rattle.fw_choosing.specs.Choices as spec
use Rattle.fw_choosing.proofs.ChoiceLaws.{wrong-bytes}
use Rattle.fw_choosing.proofs.text.wrong_line.Goals as goal

pub returns : goal.returns
returns c = IfOk-weaker c.format.result _ (λ text. string_bytes text ≡ spec.wrong_line c.args.count c.args.at) (λ text e. e ∙ wrong-bytes c.args.count c.args.at) c.format.ensures.ok
