use Rattle.std.proofs.Common.{◌↔◌, sym, subst}
use Rattle.std.specs.Prelude.{IsTrue}
use Rattle.std.proofs.lemmas.Result.{IfOk-weaker}
use Rattle.fw_model.specs.History.{IsComplete}
use Rattle.fw_model.specs.Machine.{family_of}
use Rattle.fw_progress.specs.History.{StandsForHistory}
use Rattle.fw_progress.specs.Notices.{CanNotify}
use Rattle.fw_progress.specs.Progress.{Standing, IsOfFlow}
use Rattle.fw_progress.proofs.NoticeLaws.{notice-asked}
use Rattle.fw_progress.proofs.ProgressLaws.{notify-read}
use Rattle.fw_progress.proofs.progress.Progress.can_notify.Goals as goal

pub returns-clause-exact : goal.returns-clause-exact
returns-clause-exact c = λ sys h e s.
    let flow = c.args.flow.now in
    let now : Standing = record { counts = c.self.inside.counts; settled = c.self.inside.settled.items; kept = c.self.inside.kept.items; work = c.self.inside.work; refused = c.self.inside.refused } in
    let fresh = c.in_ok-freshen.ensures.fresh in
    let stands = fresh.complete sys h e s in
    let one = subst (λ (x : Standing). StandsForHistory sys h x) (sym c.self.view_is) stands.0 in
    let other = subst (λ (x : Standing). IsComplete sys h (family_of flow x.kept)) (sym c.self.view_is) stands.1 in
    let o = subst (λ (x : Standing). IsOfFlow flow x) (sym c.self.view_is) (c.freshen.ensures.progress fresh.ready) in
    let is = notify-read flow now c.flow_is_well_formed.ensures o sys h e one other c.args.node c.requires.there c.args.at.now c.requires.at in
    IfOk-weaker c.may_notify-can.result _ _
    (λ can k.
    let k2 = subst (λ fs. IsTrue can ↔ CanNotify flow c.self.inside.counts fs c.args.node c.args.at.now) c.deref.ensures.value k in
    (λ i. is.1 (k2.0 i), λ n. k2.1 (is.0 n))) c.may_notify-can.ensures

pub returns-clause-next : goal.returns-clause-next
returns-clause-next c = λ sys h e s.
    IfOk-weaker c.may_notify-can.result _ _ (λ can k. (λ i. notice-asked sys h c.args.node c.args.at.now (k.0 i), λ n. k.1 n.enabled)) (returns-clause-exact c sys h e s)
