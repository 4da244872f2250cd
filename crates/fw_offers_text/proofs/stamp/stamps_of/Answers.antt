use Rattle.std.proofs.Common.{◌≡◌, true, get_or, [], ◌∙◌, ap, subst}
use Rattle.std.specs.List.{list_all}
use Rattle.fw_schedule.specs.Stamps.{is_stamp, stamp_spelled}
use Rattle.fw_time.specs.Stamp.{in_domain}
use Rattle.fw_offers_text.proofs.CheckedLaws.{part_word, part_below, word_passes, taken_more, taken_fails}
use Rattle.fw_offers_text.proofs.stamp.stamps_of.Goals as goal

pub stamp_in-requires : goal.stamp_in-requires
stamp_in-requires c =
    let word : c.of.result.now ≡ get_or c.args.words.now c.loop-word.word-index [] = c.of.ensures ∙ part_word _ _ _ _ _ [] c.words.view_is c.loop-word-test.true in
    let below = part_below _ _ _ _ c.words.view_is c.loop-word-test.true in
    ap is_stamp word ∙ word_passes is_stamp c.args.words.now c.loop-word.word-index [] (subst (λ ws. list_all is_stamp ws ≡ true) c.words.view_is c.words.invariant) below

pub returns-in_default : goal.returns-in_default
returns-in_default c =
    taken_fails stamp_spelled (in_domain c.args.bounds.now) c.args.words.now c.loop-word.word-index c.loop-word.stamps.items c.of.result.now (part_below _ _ _ _ c.words.view_is c.loop-word-test.true) c.loop-word.invariant
    (c.of.ensures ∙ part_word _ _ _ _ _ [] c.words.view_is c.loop-word-test.true) c.in_default.ensures

pub loop-word-preserved : goal.loop-word-preserved
loop-word-preserved c =
    taken_more stamp_spelled (in_domain c.args.bounds.now) c.args.words.now c.loop-word.word-index c.loop-word.stamps.items c.push.new.self.items c.of.result.now c.in-Some.stamp (part_below _ _ _ _ c.words.view_is c.loop-word-test.true)
    c.loop-word.invariant (c.of.ensures ∙ part_word _ _ _ _ _ [] c.words.view_is c.loop-word-test.true) c.in-Some.ensures c.in_ok-push.ensures.items
