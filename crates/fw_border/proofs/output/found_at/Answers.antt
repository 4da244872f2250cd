use Rattle.std.proofs.Common.{sym, ap, ◌∙◌}
use Rattle.std.specs.Option.{option_map}
use Rattle.fw_bag.specs.Bag.{BagState}
use Rattle.fw_border.proofs.RecsLaws.{numbered-lookup, recs_lent}
use Rattle.fw_border.proofs.output.found_at.Goals as goal

pub returns : goal.returns
returns c =
    recs_lent c.get.result ∙ ap (option_map (λ (b : BagState). b.recs)) c.get.ensures.value ∙ sym (numbered-lookup c.args.x c.args.recs.now.entries)
