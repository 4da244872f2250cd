use Rattle.std.proofs.Common.{refl, sym, ap, subst, ◌∙◌}
use Rattle.std.proofs.lemmas.Result.{IfOk-weaker}
use Rattle.fw_progress.specs.History.{StandsForHistory}
use Rattle.fw_progress.specs.Progress.{Standing, IsOfFlow}
use Rattle.fw_progress.proofs.ProgressLaws.{refreshed_stands}
use Rattle.fw_progress.proofs.progress.Progress.refresh.Goals as goal

pub returns-clause-complete : goal.returns-clause-complete
returns-clause-complete g c = λ sys h e s.
    let flow = c.args.flow.now in
    let old : Standing = record { counts = c.self.inside.counts; settled = c.self.inside.settled.items; kept = c.self.inside.kept.items; work = c.self.inside.work; refused = c.self.inside.refused } in
    let new : Standing = record { counts = c.self.inside.counts; settled = c.self.inside.settled.items; kept = c.refresh-growths.new.fronts.items; work = c.refresh-growths.new.work; refused = c.is_err-self-inside.result } in
    let o = subst (IsOfFlow flow) (sym c.self.view_is) (c.requires.progress (sym (ap (λ (s : Standing). s.refused) c.self.view_is) ∙ c.if-self.false)) in
    IfOk-weaker c.refresh-growths.result _ _
    (λ growths r. refreshed_stands flow old new growths.items c.args.steps.now c.refresh-growths.new.steps c.flow_is_well_formed.ensures o refl r sys h e (subst (StandsForHistory sys h) (sym c.self.view_is) s))
    c.refresh-growths.ensures
