use Rattle.std.proofs.Common.{sym, ap, ◌∙◌}
use Rattle.fw_policy.specs.Offering.{record_in}
use Rattle.fw_policy.proofs.CodeLaws.{held_kept, held_left, held_none}
use Rattle.fw_policy.proofs.offering.add_written.Goals as goal

pub returns-in_ok-push-in-Checkpoint : goal.returns-in_ok-push-in-Checkpoint
returns-in_ok-push-in-Checkpoint c = λ rs a.
    held_kept c.args.low.now rs c.args.records.now.items c.push.new.self.items c.in-Checkpoint.recorded c.in_ok-copy-in-Checkpoint.field-0 _ _ c.args.written.now a c.in-Checkpoint.is
    (sym c.subset.ensures.test ∙ c.if-subset.true) c.in_ok-copy-in-Checkpoint.ensures c.in_ok-push-in-Checkpoint.ensures.items

pub returns-else-subset : goal.returns-else-subset
returns-else-subset c = λ rs a.
    held_left c.args.low.now rs c.args.records.now.items c.in-Checkpoint.recorded _ _ c.args.written.now a c.in-Checkpoint.is (sym c.subset.ensures.test ∙ c.if-subset.false)

pub returns-in-Event : goal.returns-in-Event
returns-in-Event c = λ rs a.
    held_none c.args.low.now rs c.args.records.now.items (record_in c.args.written.now) a (ap record_in c.in-Event.is)
