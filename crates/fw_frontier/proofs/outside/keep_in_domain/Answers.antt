use Rattle.std.proofs.Common.{rules}
use Rattle.std.proofs.lemmas.Fn.{filter_same}
use Rattle.fw_time.specs.Stamp.{in_domain}
use Rattle.fw_frontier.proofs.outside.keep_in_domain.Goals as goal

pub returns : goal.returns
returns c =
    filter_same _ (in_domain c.args.bounds.now) _ (λ x b f' k. search rules) _ _ c.retain.ensures.filtered
