use Rattle.std.proofs.Common.{sym, subst}
use Rattle.std.proofs.lemmas.Result.{IfOk-weaker}
use Rattle.fw_model.specs.History.{IsComplete}
use Rattle.fw_model.specs.Machine.{family_of}
use Rattle.fw_progress.specs.History.{StandsForHistory}
use Rattle.fw_progress.specs.Notices.{IsFirstOwed}
use Rattle.fw_progress.specs.Progress.{Standing, IsOfFlow}
use Rattle.fw_progress.proofs.NoticeLaws.{first-domain}
use Rattle.fw_progress.proofs.ProgressLaws.{first-read}
use Rattle.fw_progress.proofs.progress.Progress.first_notice.Goals as goal

pub returns-clause-of_domain : goal.returns-clause-of_domain
returns-clause-of_domain c =
    let flow = c.args.flow.now in
    let fresh = c.in_ok-freshen.ensures.fresh in
    let o = subst (λ (x : Standing). IsOfFlow flow x) (sym c.self.view_is) (c.freshen.ensures.progress fresh.ready) in
    IfOk-weaker c.first_notice-first.result _ _
    (λ first k. first-domain flow c.self.inside.counts c.deref.result.now o.counts c.args.node c.requires.there first k) c.first_notice-first.ensures

pub returns-clause-exact : goal.returns-clause-exact
returns-clause-exact c = λ sys h e s.
    let flow = c.args.flow.now in
    let now : Standing = record { counts = c.self.inside.counts; settled = c.self.inside.settled.items; kept = c.self.inside.kept.items; work = c.self.inside.work; refused = c.self.inside.refused } in
    let fresh = c.in_ok-freshen.ensures.fresh in
    let stands = fresh.complete sys h e s in
    let one = subst (λ (x : Standing). StandsForHistory sys h x) (sym c.self.view_is) stands.0 in
    let other = subst (λ (x : Standing). IsComplete sys h (family_of flow x.kept)) (sym c.self.view_is) stands.1 in
    let o = subst (λ (x : Standing). IsOfFlow flow x) (sym c.self.view_is) (c.freshen.ensures.progress fresh.ready) in
    IfOk-weaker c.first_notice-first.result _ _
    (λ first k.
    first-read flow now c.flow_is_well_formed.ensures o sys h e one other c.args.node c.requires.there first
    (subst (λ fs. IsFirstOwed flow c.self.inside.counts fs c.args.node first) c.deref.ensures.value k)) c.first_notice-first.ensures
