use Rattle.std.proofs.Common.{sym, ◌∙◌}
use Rattle.fw_offers_text.specs.Words.{is_count}
use Rattle.fw_offers_text.proofs.FormLaws.{each_word, all_pass, some_fails}
use Rattle.fw_offers_text.proofs.words.Words.counts.Goals as goal

pub invariant_of-result : goal.invariant_of-result
invariant_of-result c = sym (each_word is_count c.self.inside.text.now c.self.inside.spans.now c.are_counts.result c.are_counts.ensures) ∙ c.if-are_counts.true

pub returns-then-are_counts : goal.returns-then-are_counts
returns-then-are_counts c = all_pass is_count c.self.inside.text.now c.self.inside.spans.now c.args.self.now c.are_counts.result c.self.view_is c.are_counts.ensures c.if-are_counts.true

pub returns-else-are_counts : goal.returns-else-are_counts
returns-else-are_counts c = some_fails is_count c.self.inside.text.now c.self.inside.spans.now c.args.self.now c.are_counts.result c.self.view_is c.are_counts.ensures c.if-are_counts.false
