use Rattle.std.proofs.Common.{None, ap, ◌∙◌}
use Rattle.std.specs.Prelude.{string_bytes}
use Rattle.fw_choosing.specs.Choices as spec
use Rattle.fw_choosing.proofs.ChoiceLaws.{bare-no_choice}
use Rattle.fw_choosing.proofs.choose.nothing_offered.Goals as goal

pub returns : goal.returns
returns c =
    let flow = c.args.flow.now in
    let printed = c.in_ok-text.ensures ∙ ap (λ ls. spec.none_text flow ls c.args.node None) (c.of-trail.ensures ∙ c.new.ensures.items) in
    bare-no_choice flow c.args.offers.now (string_bytes c.in_ok-text.text) c.args.node c.requires.there c.requires.bare c.requires.first printed
