use Rattle.std.proofs.Common.{◌==◌, ap, sym, ◌∙◌}
use Rattle.std.proofs.lemmas.Result.{IfOk-weaker}
use Rattle.std.specs.Option.{option_copied}
use Rattle.fw_monitor.proofs.SentKeptLaws.{is_same, one_cause_is, sent_kept-below}
use Rattle.fw_monitor.proofs.lower.without_sent.Goals as goal

pub returns-in-Some : goal.returns-in-Some
returns-in-Some c =
    let m = c.args.m.now in
    let edge = is_same (m.edge == c.args.edge) c.ne.result c.ne.ensures c.if-ne.false in
    let cause = one_cause_is m c.in-Some.t.now c.stamps.result.now (c.requires.one_cause edge) c.stamps.ensures
    (sym (ap option_copied c.in-Some.is) ∙ c.first.ensures.value) in
    IfOk-weaker c.below.result _ _
    (λ f is. sent_kept-below c.args.from.now c.args.to.now c.args.edge c.args.left c.args.bound.now f m c.in-Some.t.now c.requires.left edge
    (sym c.is_inside.ensures ∙ c.if-is_inside.false) cause is)
    c.below.ensures
