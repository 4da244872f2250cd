use Rattle.std.proofs.Common.{rules}
use Rattle.std.specs.Ordering.{is_lt}
use Rattle.std.proofs.lemmas.List.Sorted.{answers_always}
use Rattle.fw_record.specs.Sound.{logged_cmp}
use Rattle.fw_record.proofs.OrderLaws.{logged_ranks, sorted_follow}
use Rattle.fw_record.proofs.logged.Log.sorted.Goals as goal

pub returns-clause-in_order : goal.returns-clause-in_order
returns-clause-in_order c =
    sorted_follow c.sort_unstable_by.new.self.items
    (c.sort_unstable_by.ensures.sorted (λ x y. is_lt (logged_cmp x y)) logged_ranks (answers_always _ _ _ (λ f a r next called. search rules)))
