use Rattle.std.proofs.Common.{◌≡◌, ◌<◌, true, false, Err, Ok, Option, ap, length, refl, subst, sym, ◌∙◌}
use Rattle.std.specs.Option.{option_copied}
use Rattle.fw_time.specs.Stamp.{Stamp}
use Rattle.fw_flow.specs.declared.kind.Policy.TheVariants as policy
use Rattle.fw_flow.specs.Dataflow.{Dataflow, kind_of, policy_of, is_notified_kind}
use Rattle.fw_rollback.specs.declared.parts.Parts.{Parts}
use Rattle.fw_running.specs.Drawn.{supply}
use Rattle.fw_running.specs.Kept.{is_down}
use Rattle.fw_running.proofs.BroughtUpLaws.{brought_up_shaped}
use Rattle.fw_running.proofs.StepLaws.{step-did, step-fails, step-idle, step-refused_first}
use Rattle.fw_events.specs.Noticing.{FindsNotice}
use Rattle.fw_events.proofs.NoticingLaws.{fault-answers, none_notified, notice_follows, notice-taken_up, notified_declared}
use Rattle.fw_running.proofs.DrawnLaws.{draws_failed, draws_from, draws_same}
use Rattle.fw_events.proofs.notification.notify.Goals as goal

pub find_notice-requires-clause-there : goal.find_notice-requires-clause-there
find_notice-requires-clause-there g c =
    let old = c.args.running.now in
    let kind : is_notified_kind (kind_of old.flow c.args.node) ≡ true = ap is_notified_kind (sym c.kind.ensures) ∙ sym c.is_notified.ensures ∙ c.if-not-is_notified.false in
    notified_declared old.flow c.args.node kind

pub returns-in_err-at-clause-answers : goal.returns-in_err-at-clause-answers
returns-in_err-at-clause-answers g c =
    step-refused_first refl c.requires.stored (ap (λ (parts : Parts). parts.keep) c.find_notice.ensures.parts) c.find_notice.ensures.flow c.from_residual.ensures.1

pub returns-in_default-clause-answers : goal.returns-in_default-clause-answers
returns-in_default-clause-answers g c =
    let old = c.args.running.now in
    let up = c.find_notice.new.running in
    step-idle refl c.requires.stored (ap (λ (parts : Parts). parts.keep) c.find_notice.ensures.parts) c.find_notice.ensures.flow
    (brought_up_shaped old up c.requires.shaped c.in_ok-at.ensures.up) (λ sys state s trust.
    none_notified sys old up (g.K.Store.view c.args.store.now).records state c.args.node (option_copied c.args.at) s c.in_ok-at.ensures.up
    (subst (λ (found : Option Stamp). FindsNotice old.flow old.progress c.args.node (option_copied c.args.at) found) c.in_default.is c.in_ok-at.ensures.found))

pub notify_of-requires-clause-shaped : goal.notify_of-requires-clause-shaped
notify_of-requires-clause-shaped g c = brought_up_shaped c.args.running.now c.find_notice.new.running c.requires.shaped c.in_ok-at.ensures.up

pub notify_of-requires-clause-there : goal.notify_of-requires-clause-there
notify_of-requires-clause-there g c =
    let old = c.args.running.now in
    let kind : is_notified_kind (kind_of old.flow c.args.node) ≡ true = ap is_notified_kind (sym c.kind.ensures) ∙ sym c.is_notified.ensures ∙ c.if-not-is_notified.false in
    subst (λ (f : Dataflow). c.args.node < length f.nodes) (sym c.find_notice.ensures.flow) (notified_declared old.flow c.args.node kind)

pub returns-in_err-notify_of-clause-answers : goal.returns-in_err-notify_of-clause-answers
returns-in_err-notify_of-clause-answers g c =
    let old = c.args.running.now in
    let up = c.find_notice.new.running in
    let new = c.notify_of.new.running in
    let before = (g.K.Store.view c.args.store.now).records in
    let after = (g.K.Store.view c.notify_of.new.store).records in
    let at = option_copied c.args.at in
    let t = c.in-Some.at in
    let e = c.in_err-notify_of.field-0.0 in
    let heard = c.in_err-notify_of.ensures in
    let live : is_down old c.args.node ≡ false = sym c.is_failed.ensures ∙ c.if-is_failed.false in
    let found = subst (λ (o : Option Stamp). FindsNotice old.flow old.progress c.args.node at o) c.in-Some.is c.in_ok-at.ensures.found in
    step-fails refl c.find_notice.ensures.flow heard.part c.from_residual-in_err-notify_of.ensures.1 heard.shaped (λ sys state s.
    fault-answers (Unit {0}) sys state c.args.node t at e old new before after s live found
    (λ failed. subst (λ (flow : Dataflow). policy_of flow c.args.node ≡ policy.Full) c.find_notice.ensures.flow (heard.part.calls failed))
    (notice-taken_up {T = Unit {0}} sys state c.args.node at t old up new before after (Err e) s live c.in_ok-at.ensures.up found heard.takes))

pub returns-clause-answers : goal.returns-clause-answers
returns-clause-answers g c =
    let old = c.args.running.now in
    let up = c.find_notice.new.running in
    let new = c.notify_of.new.running in
    let before = (g.K.Store.view c.args.store.now).records in
    let after = (g.K.Store.view c.notify_of.new.store).records in
    let at = option_copied c.args.at in
    let t = c.in-Some.at in
    let heard = c.in_ok-notify_of.ensures in
    let live : is_down old c.args.node ≡ false = sym c.is_failed.ensures ∙ c.if-is_failed.false in
    let found = subst (λ (o : Option Stamp). FindsNotice old.flow old.progress c.args.node at o) c.in-Some.is c.in_ok-at.ensures.found in
    step-did refl c.find_notice.ensures.flow heard.part refl refl heard.shaped (λ sys state s trust.
    notice_follows sys state c.args.node at t old up new before after s live found
    (notice-taken_up {T = Unit {0}} sys state c.args.node at t old up new before after (Ok c.in_ok-notify_of.field-0) s live c.in_ok-at.ensures.up found
    heard.takes))

pub returns-in_err-at-clause-draws : goal.returns-in_err-at-clause-draws
returns-in_err-at-clause-draws g c = draws_same (ap (λ (parts : Parts). supply parts.keep) c.find_notice.ensures.parts)

pub returns-in_default-clause-draws : goal.returns-in_default-clause-draws
returns-in_default-clause-draws g c = draws_same (ap (λ (parts : Parts). supply parts.keep) c.find_notice.ensures.parts)

pub returns-in_err-notify_of-clause-draws : goal.returns-in_err-notify_of-clause-draws
returns-in_err-notify_of-clause-draws g c =
    draws_failed _ _ c.from_residual-in_err-notify_of.ensures.1 (draws_from c.notify_of.ensures.draws (ap (λ (parts : Parts). supply parts.keep) c.find_notice.ensures.parts))

pub returns-clause-draws : goal.returns-clause-draws
returns-clause-draws g c = draws_from c.notify_of.ensures.draws (ap (λ (parts : Parts). supply parts.keep) c.find_notice.ensures.parts)
