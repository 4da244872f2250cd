use Rattle.std.proofs.Common.{ap, ◌∙◌}
use Rattle.fw_lemmas.proofs.Results.{on_err}
use Rattle.fw_lines.specs.Batches.{recs_of_bags}
use Rattle.fw_lines.proofs.BatchLaws.{recs_found, pushed, kept, recs_of-push, some_found}
use Rattle.fw_lines.proofs.batches.push_batch.Goals as goal

pub returns-in_err-push-in-Some-clause-err : goal.returns-in_err-push-in-Some-clause-err
returns-in_err-push-in-Some-clause-err c =
    let new = c.get_mut.follows.lender c.push.new.self in
    on_err c.from_residual.result _ (kept c.args.of_node.now.entries new.entries c.args.node c.push.new.self ((c.get_mut.follows.holds c.push.new.self).3 (some_found _ _ c.in-Some.ensures.value)).0 (ap recs_of_bags c.in_err-push-in-Some.ensures.items ∙ ap recs_found c.in-Some.ensures.value))

pub returns-in_ok-push-in-Some-clause-ok : goal.returns-in_ok-push-in-Some-clause-ok
returns-in_ok-push-in-Some-clause-ok c =
    let new = c.get_mut.follows.lender c.push.new.self in
    pushed c.args.of_node.now.entries new.entries c.args.node c.push.new.self c.args.batch ((c.get_mut.follows.holds c.push.new.self).3 (some_found _ _ c.in-Some.ensures.value)).0 (recs_of-push c.in-Some.batches.now.items c.push.new.self.items c.args.batch _ c.in_ok-push-in-Some.ensures.items (ap recs_found c.in-Some.ensures.value))

pub returns-in_ok-insert-in-None-clause-ok : goal.returns-in_ok-insert-in-None-clause-ok
returns-in_ok-insert-in-None-clause-ok c =
    pushed c.args.of_node.now.entries c.insert.new.self.entries c.args.node c.push-in-None.new.self c.args.batch (rw c.get_mut.follows.holds-at-none at c.in_ok-insert-in-None.ensures.updates.0) (recs_of-push c.new-batches.result.items c.push-in-None.new.self.items c.args.batch _ c.in_ok-push-in-None.ensures.items (ap recs_of_bags c.new-batches.ensures.items ∙ ap recs_found c.in-None.ensures.value))
