use Rattle.fw_offers_text.proofs.FormLaws.{too_few_words}
use Rattle.fw_offers_text.proofs.certificate_form.certificate_form.Goals as goal

pub returns-in_default : goal.returns-in_default
returns-in_default c = too_few_words c.words.inside.text.now c.words.inside.spans.now c.args.words.now c.words.view_is c.in_default.len_below
