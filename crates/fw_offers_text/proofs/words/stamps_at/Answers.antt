use Rattle.std.proofs.Common.{arith}
use Rattle.std.proofs.lemmas.List.Sums.{prefix_len-le-length}
use Rattle.fw_lines.specs.Lines.{bytes_at}
use Rattle.fw_schedule.specs.Stamps.{is_stamp}
use Rattle.fw_offers_text.proofs.FormLaws.{no_stamps, some_stamps, stamps_pass}
use Rattle.fw_offers_text.proofs.words.stamps_at.Goals as goal

pub returns-then-count-eq0 : goal.returns-then-count-eq0
returns-then-count-eq0 c = no_stamps c.words.inside.text.now c.words.inside.spans.now c.args.words.now c.stamps_before-count.result c.words.view_is c.stamps_before-count.ensures c.if-count-eq0.true

pub split_at-requires : goal.split_at-requires
split_at-requires c = omega (arith, c.stamps_before-count.ensures, prefix_len-le-length (λ word. is_stamp (bytes_at c.words.inside.text.now word)) c.words.inside.spans.now)

pub invariant_of-stamps : goal.invariant_of-stamps
invariant_of-stamps c = stamps_pass c.words.inside.text.now c.words.inside.spans.now c.split_at.result.0.now c.stamps_before-count.result c.stamps_before-count.ensures c.split_at.ensures.front

pub returns : goal.returns
returns c =
    some_stamps c.words.inside.text.now c.words.inside.spans.now c.split_at.result.0.now c.split_at.result.1.now c.args.words.now c.of.result c.stamps_before-count.result c.words.view_is c.stamps_before-count.ensures
    (omega (arith, c.if-count-eq0.false)) c.split_at.ensures.front c.split_at.ensures.back c.of.ensures
