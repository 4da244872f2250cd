use Rattle.std.proofs.Common.{ap, ◌∙◌}
use Rattle.fw_bag.specs.Bag.{BagState, bag_sum}
use Rattle.fw_border.proofs.RecsLaws.{bag_sum-nothing}
use Rattle.fw_border.proofs.source.copied.Goals as goal

pub returns : goal.returns
returns c =
    let recs = c.args.bag.now.recs in
    ap (λ (s : BagState). s.recs) c.in_ok-union.ensures.ok ∙ ap (λ (s : BagState). bag_sum recs s.recs) c.new-copy.ensures ∙ bag_sum-nothing recs c.len-len.ensures.ascending
