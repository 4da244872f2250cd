use Rattle.std.proofs.Common.{rules}
use Rattle.std.proofs.lemmas.List.Sorted.{IsNonDecreasingBy-from_sort_by_key}
use Rattle.fw_frontier.proofs.planes.points_of.Goals as goal

pub returns-clause-ascending : goal.returns-clause-ascending
returns-clause-ascending c = IsNonDecreasingBy-from_sort_by_key (λ v. v.x) _ c.sort_unstable_by_key.ensures.sorted (λ a r q k. search rules)
