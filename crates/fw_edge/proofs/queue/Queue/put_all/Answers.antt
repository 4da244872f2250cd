use Rattle.std.proofs.Common.{rules, ap}
use Rattle.fw_edge.specs.Messages.{MessagesState}
use Rattle.fw_edge.proofs.PiledLaws.{put_after-none, put_after-more}
use Rattle.fw_edge.proofs.queue.Queue.put_all.Goals as goal

pub loop-message-init : goal.loop-message-init
loop-message-init c = record { partly = put_after-none _ _; refused = search rules }

pub loop-message-preserved : goal.loop-message-preserved
loop-message-preserved c =
    let state = c.in_ok-put.ensures.ok in
    record {
      partly = put_after-more _ _ _ _ _ c.in-Some.message _ c.in-Some.ensures.items (ap (λ (s : MessagesState). s.messages) state) c.loop-message.invariant.partly;
      refused = ap (λ (s : MessagesState). s.refused) state;
    }
