use Rattle.std.proofs.Common.{sym, subst}
use Rattle.std.proofs.lemmas.Result.{IfOk-at_ok}
use Rattle.fw_progress.specs.History.{AreKeptAdmissible}
use Rattle.fw_progress.specs.Start.{AreLargest}
use Rattle.fw_progress.proofs.StartLaws.{largest-stands}
use Rattle.fw_progress.proofs.progress.Progress.rebuild.Goals as goal

pub returns-clause-complete : goal.returns-clause-complete
returns-clause-complete c = λ sys h e s.
    let flow = c.args.flow.now in
    let found = IfOk-at_ok (λ fronts. AreLargest flow c.args.counts fronts.items) c.in_ok-self-inside.was c.largest-kept.ensures in
    let both = largest-stands flow c.args.counts c.in_ok-self-inside.field-0.items c.flow_is_well_formed.ensures c.requires.counts found sys h e s in
    (record { counts = s; kept = subst (AreKeptAdmissible sys h c.in_ok-self-inside.field-0.items) (sym c.new.ensures) both.0 }, both.1)
