use Rattle.std.proofs.Common.{[], ◌∷◌, subst, sym}
use Rattle.fw_flow.specs.declared.event.Event.TheVariants.{Deliver, Inject, Notify}
use Rattle.fw_progress.specs.Trace.{TracesFollow}
use Rattle.fw_examples.specs.RunningTotal.{valued_at_epoch}
use Rattle.fw_examples.proofs.Traced.{ten, traces_of_two}
use Rattle.fw_examples.proofs.traces_of_totals.two_epochs_are_traced.Goals as goal

pub returns : goal.returns
returns c =
    let flow = c.in_ok-flow.field-0 in
    let none = c.in_ok-traces.traces in
    let empty = c.injected.new.self in
    let sent = c.injected-2.new.self in
    let came = c.delivered.new.self in
    let told = c.notified.new.self in
    let out = c.delivered-2.new.self in
    traces_of_two flow none empty sent came told out (sym c.in_ok-flow.ensures) c.in_ok-traces.ensures.none
    (subst (λ p. TracesFollow flow (Inject p 0) [] none empty) c.at-source.ensures c.in_ok-injected.ensures.follows)
    (subst (λ t. TracesFollow flow (Inject 0 1) ((t, ten) ∷ []) empty sent) c.new.ensures
    (subst (λ p. TracesFollow flow (Inject p 1) ((c.new.result, ten) ∷ []) empty sent) c.at-source.ensures c.in_ok-injected-2.ensures.follows))
    (subst (λ e. TracesFollow flow (Deliver e (valued_at_epoch 1 10)) [] sent came) c.at.ensures (c.in_ok-delivered.ensures.follows (valued_at_epoch 1 10) (sym c.new-epoch.ensures)))
    (subst (λ t. TracesFollow flow (Notify 1 t) ((1 ∷ [], ten) ∷ []) came told) c.new-epoch.ensures
    (subst (λ t. TracesFollow flow (Notify 1 c.new-epoch.result) ((t, ten) ∷ []) came told) c.new.ensures
    (subst (λ p. TracesFollow flow (Notify p c.new-epoch.result) ((c.new.result, ten) ∷ []) came told) c.at-total.ensures c.in_ok-notified.ensures.follows)))
    (subst (λ e. TracesFollow flow (Deliver e (valued_at_epoch 1 10)) [] told out) c.at-2.ensures (c.in_ok-delivered-2.ensures.follows (valued_at_epoch 1 10) (sym c.new-epoch.ensures)))
