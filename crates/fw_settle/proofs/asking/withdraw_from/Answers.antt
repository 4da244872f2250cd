use Rattle.std.proofs.Common.{◌≡◌, ◌<◌, length, get_or, ap, subst, ◌∙◌}
use Rattle.fw_keep.specs.Catalogue.{KeepState}
use Rattle.fw_running.specs.Drawn.{supply}
use Rattle.fw_settle.proofs.WithdrawLaws.{withdrawn-some}
use Rattle.fw_settle.proofs.asking.withdraw_from.Goals as goal

pub returns-clause-withdrawn : goal.returns-clause-withdrawn
returns-clause-withdrawn c = λ before more is long fly.
    let entries = c.args.running.now.parts.keep.entries in
    let read = c.entries-entries.result.now in
    let first = get_or read c.args.count c.index-entries-count.result in
    let there : c.args.count < length entries = subst (λ es. c.args.count < length es) c.entries-entries.ensures.all c.if-count-entries.false in
    let got : first ≡ get_or read c.args.count first = subst (λ x. x ≡ get_or read c.args.count x) c.index-entries-count.is c.index-entries-count.is in
    ap (λ (k : KeepState). k.entries) c.withdraw.ensures.gone
    ∙ withdrawn-some entries c.args.count first c.entries-entries.ensures.catalogue.ascending there
    (subst (λ es. first ≡ get_or es c.args.count first) c.entries-entries.ensures.all got) before more is long fly

pub returns-clause-draws : goal.returns-clause-draws
returns-clause-draws c = ap supply c.withdraw.ensures.gone
