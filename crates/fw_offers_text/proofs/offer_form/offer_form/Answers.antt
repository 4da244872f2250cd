use Rattle.std.proofs.Common.{◌≡◌, false, ap, ◌∙◌}
use Rattle.fw_flow.specs.FullNames.{is_full_name}
use Rattle.fw_offers_text.proofs.FormLaws.{too_few_of_offer, no_name_of_offer}
use Rattle.fw_offers_text.proofs.offer_form.offer_form.Goals as goal

pub returns-in_default : goal.returns-in_default
returns-in_default c = too_few_of_offer c.words.inside.text.now c.words.inside.spans.now c.args.words.now c.words.view_is c.in_default.len_below

pub returns-then-not-is_full_name : goal.returns-then-not-is_full_name
returns-then-not-is_full_name c =
    no_name_of_offer c.words.inside.text.now c.words.inside.spans.now c.args.words.now _ c.words.view_is c.in-len2-up.len_at_least
    (c.if-not-is_full_name.ensures ∙ ap is_full_name (c.bytes.ensures ∙ c.of-name.ensures))
