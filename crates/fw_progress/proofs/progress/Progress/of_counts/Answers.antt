use Rattle.std.proofs.Common.{sym, subst}
use Rattle.fw_progress.specs.History.{AreKeptAdmissible}
use Rattle.fw_progress.proofs.StartLaws.{largest-stands}
use Rattle.fw_progress.proofs.progress.Progress.of_counts.Goals as goal

pub returns-clause-complete : goal.returns-clause-complete
returns-clause-complete c = λ sys h e s.
    let kept = c.in_ok-kept.kept.items in
    let both = largest-stands c.args.flow.now c.args.counts kept c.flow_is_well_formed.ensures c.requires.counts c.in_ok-kept.ensures sys h e s in
    (record { counts = s; kept = subst (AreKeptAdmissible sys h kept) (sym c.new.ensures) both.0 }, both.1)
