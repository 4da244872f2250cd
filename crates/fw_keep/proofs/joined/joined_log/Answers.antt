use Rattle.std.proofs.Common.{ap, ◌++◌, ◌∙◌}
use Rattle.fw_keep.specs.Joined.{log_of_record}
use Rattle.fw_keep.proofs.JoinedLaws.{messages_more}
use Rattle.fw_keep.proofs.joined.joined_log.Goals as goal

pub loop-record-preserved : goal.loop-record-preserved
loop-record-preserved c =
    messages_more log_of_record c.args.under.now c.loop-record.record-index c.record-item.result c.loop-record.messages.items c.add_messages.new.messages.items
    c.loop-record-test.true c.record-item.is (c.in_ok-add_messages.ensures ∙ ap (λ ms. c.loop-record.messages.items ++ ms) c.log_of_record.ensures)
    ∙ c.loop-record.invariant
