use Rattle.fw_events.specs.Outgoing.{outgoing_messages}
use Rattle.fw_events.proofs.SendingLaws.{sends-one_ok}
use Rattle.fw_events.proofs.sending.send_on.Goals as goal

pub returns-clause-sent : goal.returns-clause-sent
returns-clause-sent c =
    sends-one_ok c.log_sent.result c.args.edge c.args.node (outgoing_messages c.args.outgoing.now)
    c.args.running.now c.put_live.new.running c.log_sent.new.running
    c.put_live.ensures.others c.log_sent.ensures.others c.put_live.ensures.down c.in_ok-put_live.ensures.live c.log_sent.ensures.again c.log_sent.ensures.never
