use Rattle.std.proofs.Common.{◌≡◌, false, Err, ap, refl, subst, sym, ◌∙◌}
use Rattle.std.specs.Option.{option_copied}
use Rattle.fw_flow.specs.declared.kind.Policy.TheVariants as policy
use Rattle.fw_flow.specs.declared.step.Step.TheVariants.{Deliver}
use Rattle.fw_flow.specs.Dataflow.{Dataflow, policy_of, receiver}
use Rattle.fw_running.specs.declared.running.Running.{Running}
use Rattle.fw_running.specs.Kept.{is_down}
use Rattle.fw_running.proofs.AnswerLaws.{left-answers}
use Rattle.fw_running.proofs.NeedsLaws.{delivery-asks}
use Rattle.fw_running.proofs.SameStateLaws.{unasked-stands}
use Rattle.fw_running.proofs.StepLaws.{stays-shaped, step-did, step-fails, step-idle, step-refused}
use Rattle.fw_events.proofs.AskedLaws.{next-at, none_next}
use Rattle.fw_events.proofs.DeliverLaws.{at-receiver, delivery-done, found-enabled, none-delivers}
use Rattle.fw_running.proofs.DrawnLaws.{draws_failed, draws_kept}
use Rattle.fw_events.proofs.delivery.deliver.Goals as goal

pub returns-in_default-clause-answers : goal.returns-in_default-clause-answers
returns-in_default-clause-answers g c =
    let old = c.args.running.now in
    step-idle refl c.requires.stored refl refl c.requires.shaped (λ sys state s trust.
    none-delivers sys old (g.K.Store.view c.args.store.now).records state c.args.edge (option_copied c.args.at) s c.requires.shaped.one_each.parts.queues
    (none_next old c.args.edge (option_copied c.args.at) c.in_default.ensures))

pub log_delivery-requires-clause-at : goal.log_delivery-requires-clause-at
log_delivery-requires-clause-at g c =
    let old = c.args.running.now in
    next-at old old c.args.edge c.dst-node.result (option_copied c.args.at) c.in-Some.field-0 c.requires.shaped refl c.dst-node.ensures c.in-Some.ensures

pub take_in-requires-clause-at : goal.take_in-requires-clause-at
take_in-requires-clause-at g c =
    next-at c.args.running.now c.log_delivery.new.running c.args.edge c.dst-node.result (option_copied c.args.at) c.in-Some.field-0 c.requires.shaped
    (ap (λ (r : Running). r.flow) c.log_delivery.ensures.others) c.dst-node.ensures c.in-Some.ensures

pub returns-in_err-log_delivery-clause-answers : goal.returns-in_err-log_delivery-clause-answers
returns-in_err-log_delivery-clause-answers g c =
    let old = c.args.running.now in
    let new = c.log_delivery.new.running in
    let before = (g.K.Store.view c.args.store.now).records in
    let after = (g.K.Store.view c.log_delivery.new.store).records in
    let step = Deliver c.args.edge (option_copied c.args.at) in
    let e = c.in_err-log_delivery.field-0.0 in
    let log = c.in_err-log_delivery.ensures in
    let at = at-receiver c.args.running.now.flow c.args.edge c.dst-node.ensures log.part in
    step-fails refl refl at c.from_residual.ensures.1 (stays-shaped {T = Unit {0}} (Err e) new log.shaped)
    (λ sys state s. left-answers (Unit {0}) sys state step e new after log.part.undamaged (λ failed. (
      delivery-asks sys state c.args.edge (option_copied c.args.at)
          (subst (λ (flow : Dataflow). policy_of flow (receiver flow c.args.edge) ≡ policy.Full) s.apart.flow (at.calls failed))
          (found-enabled sys state c.args.edge (option_copied c.args.at) c.in-Some.field-0 old before s c.requires.shaped c.in-Some.ensures),
      unasked-stands sys old new before after state s log.others log.stays,
    )))

pub returns-in_err-take_in-clause-answers : goal.returns-in_err-take_in-clause-answers
returns-in_err-take_in-clause-answers g c =
    step-refused refl refl (at-receiver c.args.running.now.flow c.args.edge c.dst-node.ensures c.in_ok-log_delivery.ensures.part) c.take_in.ensures.keep c.take_in.ensures.flow
    c.from_residual-in_err-take_in.ensures.1

pub returns-clause-answers : goal.returns-clause-answers
returns-clause-answers g c =
    let old = c.args.running.now in
    let log = c.in_ok-log_delivery.ensures in
    let live : is_down old c.dst-node.result ≡ false = sym c.is_failed.ensures ∙ c.if-is_failed.false in
    step-did refl refl (at-receiver c.args.running.now.flow c.args.edge c.dst-node.ensures log.part) c.take_in.ensures.keep c.take_in.ensures.flow c.in_ok-take_in.ensures.shaped (λ sys state s trust.
    delivery-done sys state c.args.edge c.dst-node.result (option_copied c.args.at) c.in-Some.field-0 old c.log_delivery.new.running c.take_in.new.running
    (g.K.Store.view c.args.store.now).records (g.K.Store.view c.log_delivery.new.store).records s c.requires.shaped c.dst-node.ensures live c.in-Some.ensures
    log.others log.logged c.take_in.ensures.keep c.in_ok-take_in.ensures.takes)

pub returns-in_err-take_in-clause-draws : goal.returns-in_err-take_in-clause-draws
returns-in_err-take_in-clause-draws g c = draws_failed _ _ c.from_residual-in_err-take_in.ensures.1 (draws_kept c.log_delivery.ensures.draws c.take_in.ensures.keep)

pub returns-clause-draws : goal.returns-clause-draws
returns-clause-draws g c = draws_kept c.log_delivery.ensures.draws c.take_in.ensures.keep

pub returns-in_err-log_delivery-clause-draws : goal.returns-in_err-log_delivery-clause-draws
returns-in_err-log_delivery-clause-draws g c = draws_failed _ _ c.from_residual.ensures.1 c.log_delivery.ensures.draws
