use Rattle.std.proofs.Common.{sym, ◌∙◌}
use Rattle.fw_schedule.specs.Stamps.{is_stamp}
use Rattle.fw_offers_text.proofs.FormLaws.{each_word, all_pass, some_fails}
use Rattle.fw_offers_text.proofs.words.Words.stamps.Goals as goal

pub invariant_of-result : goal.invariant_of-result
invariant_of-result c = sym (each_word is_stamp c.self.inside.text.now c.self.inside.spans.now c.are_stamps.result c.are_stamps.ensures) ∙ c.if-are_stamps.true

pub returns-then-are_stamps : goal.returns-then-are_stamps
returns-then-are_stamps c = all_pass is_stamp c.self.inside.text.now c.self.inside.spans.now c.args.self.now c.are_stamps.result c.self.view_is c.are_stamps.ensures c.if-are_stamps.true

pub returns-else-are_stamps : goal.returns-else-are_stamps
returns-else-are_stamps c = some_fails is_stamp c.self.inside.text.now c.self.inside.spans.now c.args.self.now c.are_stamps.result c.self.view_is c.are_stamps.ensures c.if-are_stamps.false
