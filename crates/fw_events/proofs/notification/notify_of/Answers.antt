use Rattle.std.proofs.lemmas.Result.{err_from_is_err_and}
use Rattle.fw_running.proofs.StepLaws.{ok-unfaulted, part-err, part-later, part-refused}
use Rattle.fw_events.proofs.NoticingLaws.{notice-done, notice-leaves}
use Rattle.fw_running.proofs.DrawnLaws.{draws_kept}
use Rattle.fw_events.proofs.notification.notify_of.Goals as goal

pub returns-in_err-log_notice-clause-takes : goal.returns-in_err-log_notice-clause-takes
returns-in_err-log_notice-clause-takes g c = λ sys state s live enabled.
    let p = err_from_is_err_and c.from_residual.result c.from_residual.ensures.1 in
    rw (p.1, p.2) (notice-leaves (Unit {0}) sys c.args.running.now c.log_notice.new.running (g.K.Store.view c.args.store.now).records (g.K.Store.view c.log_notice.new.store).records state
    c.args.node c.args.at.now c.in_err-log_notice.field-0.0 s c.log_notice.ensures.others c.in_err-log_notice.ensures.stays c.in_err-log_notice.ensures.part.undamaged)

pub returns-in_err-log_notice-clause-part : goal.returns-in_err-log_notice-clause-part
returns-in_err-log_notice-clause-part g c = part-err c.in_err-log_notice.ensures.part c.from_residual.ensures.1

pub returns-in_err-hear-clause-part : goal.returns-in_err-hear-clause-part
returns-in_err-hear-clause-part g c =
    part-refused c.in_ok-log_notice.ensures.part c.hear.ensures.keep c.hear.ensures.flow c.from_residual-in_err-hear.ensures.1

pub returns-clause-part : goal.returns-clause-part
returns-clause-part g c = part-later c.in_ok-log_notice.ensures.part c.hear.ensures.keep c.hear.ensures.flow tt ok-unfaulted

pub returns-clause-takes : goal.returns-clause-takes
returns-clause-takes g c =
    notice-done c.args.running.now c.log_notice.new.running c.hear.new.running (g.K.Store.view c.args.store.now).records (g.K.Store.view c.log_notice.new.store).records
    c.args.node c.args.at.now c.log_notice.ensures.others c.in_ok-log_notice.ensures.logged c.hear.ensures.keep c.in_ok-hear.ensures.takes

pub returns-in_err-hear-clause-draws : goal.returns-in_err-hear-clause-draws
returns-in_err-hear-clause-draws g c = draws_kept c.log_notice.ensures.draws c.hear.ensures.keep

pub returns-clause-draws : goal.returns-clause-draws
returns-clause-draws g c = draws_kept c.log_notice.ensures.draws c.hear.ensures.keep

pub returns-in_err-log_notice-clause-draws : goal.returns-in_err-log_notice-clause-draws
returns-in_err-log_notice-clause-draws g c = c.log_notice.ensures.draws
