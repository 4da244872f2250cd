use Rattle.std.proofs.Common.{refl, sym, ap, subst, ◌∙◌}
use Rattle.std.specs.Prelude.{IfOk}
use Rattle.fw_flow.specs.declared.event.Event.TheVariants.{Notify}
use Rattle.fw_progress.specs.History.{FollowsEvent}
use Rattle.fw_progress.specs.Progress.{Standing, IsOfFlow}
use Rattle.fw_progress.proofs.ProgressLaws.{ok-holds, both-ok, notified_of, notified_follows}
use Rattle.fw_progress.proofs.progress.Progress.notified.Goals as goal

pub returns-clause-progress : goal.returns-clause-progress
returns-clause-progress c = λ k.
    let flow = c.args.flow.now in
    let o = subst (IsOfFlow flow) (sym c.self.view_is) (c.requires.progress (sym (ap (λ (s : Standing). s.refused) c.self.view_is) ∙ c.if-self.false)) in
    ok-holds c.notify-told.result c.is_err-self-inside.result _ _ c.is_err-self-inside.ensures.value k c.notify-told.ensures.counts (λ u d.
    ok-holds c.notify-told.result c.is_err-self-inside.result _ _ c.is_err-self-inside.ensures.value k c.notify-told.ensures.work (λ x put.
    notified_of flow c.args.node c.args.at.now c.args.sent.now _ _ o c.requires.there c.requires.sent d put refl refl))

pub returns-clause-follows : goal.returns-clause-follows
returns-clause-follows c =
    let flow = c.args.flow.now in
    let old : Standing = record { counts = c.self.inside.counts; settled = c.self.inside.settled.items; kept = c.self.inside.kept.items; work = c.self.inside.work; refused = c.self.inside.refused } in
    let new : Standing = record { counts = c.notify-told.new.counts; settled = c.self.inside.settled.items; kept = c.self.inside.kept.items; work = c.notify-told.new.work; refused = c.is_err-self-inside.result } in
    let ok = both-ok c.notify-told.result _ _ (FollowsEvent flow (Notify c.args.node c.args.at.now) c.args.sent.now old new) (λ d put. notified_follows flow c.args.node c.args.at.now c.args.sent.now old new c.flow_is_well_formed.ensures c.requires.there d put refl) c.notify-told.ensures.counts c.notify-told.ensures.work in
    subst (λ (s : Standing). IfOk c.notify-told.result (λ u. FollowsEvent flow (Notify c.args.node c.args.at.now) c.args.sent.now s new)) c.self.view_is ok
