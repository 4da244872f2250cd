use Rattle.std.proofs.Common.{not, rules}
use Rattle.std.proofs.lemmas.Fn.{filter_same}
use Rattle.fw_time.specs.Stamp.{leq}
use Rattle.fw_frontier.proofs.tops.remove_below.Goals as goal

pub returns : goal.returns
returns c =
    filter_same _ (λ s. not (leq s c.args.t.now)) _ (λ x b f' k. search rules) _ _ c.retain.ensures.filtered
