use Rattle.fw_events.proofs.NoticingLaws.{first_finds}
use Rattle.fw_events.proofs.notification.next_notice.Goals as goal

pub returns-clause-found : goal.returns-clause-found
returns-clause-found c =
    first_finds c.args.running.now c.refresh.new.self c.args.node c.in_ok-found.found c.in_ok-refresh.ensures.up c.in_ok-found.ensures.exact
