use Rattle.std.proofs.Common.{◌≡◌, true, get_or, [], ◌∙◌, ap, subst}
use Rattle.std.specs.List.{list_all}
use Rattle.fw_bag.specs.Bag.{BagState}
use Rattle.fw_offers_text.specs.Statements.{count_spelled, is_count_small}
use Rattle.fw_offers_text.specs.Words.{is_count}
use Rattle.fw_offers_text.proofs.CheckedLaws.{part_word, part_below, word_passes, counted_more, counted_fails}
use Rattle.fw_offers_text.proofs.stamp.counts_in.Goals as goal

pub count_in-requires : goal.count_in-requires
count_in-requires c =
    let word : c.of.result.now ≡ get_or c.args.words.now c.loop-word.word-index [] = c.of.ensures ∙ part_word _ _ _ _ _ [] c.words.view_is c.loop-word-test.true in
    let below = part_below _ _ _ _ c.words.view_is c.loop-word-test.true in
    ap is_count word ∙ word_passes is_count c.args.words.now c.loop-word.word-index [] (subst (λ ws. list_all is_count ws ≡ true) c.words.view_is c.words.invariant) below

pub returns-in_default : goal.returns-in_default
returns-in_default c =
    counted_fails count_spelled is_count_small c.args.words.now c.loop-word.word-index c.loop-word.counts.recs c.of.result.now (part_below _ _ _ _ c.words.view_is c.loop-word-test.true) c.loop-word.invariant
    (c.of.ensures ∙ part_word _ _ _ _ _ [] c.words.view_is c.loop-word-test.true) c.in_default.ensures

pub loop-word-preserved : goal.loop-word-preserved
loop-word-preserved c =
    counted_more count_spelled is_count_small c.args.words.now c.loop-word.word-index c.loop-word.counts.recs c.add.new.self.recs c.of.result.now c.in-Some.count (part_below _ _ _ _ c.words.view_is c.loop-word-test.true)
    c.loop-word.invariant (c.of.ensures ∙ part_word _ _ _ _ _ [] c.words.view_is c.loop-word-test.true) c.in-Some.ensures (ap (λ (b : BagState). b.recs) c.in_ok-add.ensures.ok)
