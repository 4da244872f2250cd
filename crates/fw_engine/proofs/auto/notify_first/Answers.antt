use Rattle.std.proofs.Common.{Option, Result, ap, refl, subst, sym}
use Rattle.fw_keep.specs.Stored.{IsStored}
use Rattle.fw_rollback.specs.declared.parts.Parts.{Parts}
use Rattle.fw_running.specs.declared.fault.EngineFault.{EngineFault}
use Rattle.fw_running.specs.declared.stepped.Stepped.{Stepped}
use Rattle.fw_running.specs.Drawn.{supply}
use Rattle.fw_running.specs.Steps.{MayCallByItself}
use Rattle.fw_running.proofs.StepLaws.{ok-unfaulted, part-err, part-later, part-may, part-of, part-refused_first}
use Rattle.fw_engine.specs.declared.auto.Notice.{Notice}
use Rattle.fw_engine.specs.Engine.{StepDraws}
use Rattle.fw_engine.specs.Searching.{AnswersEarlier, IsFirstNotified}
use Rattle.fw_engine.proofs.DrawnLaws.{draws-behind, draws-none, draws-notified}
use Rattle.fw_engine.proofs.QuietLaws.{notification-may_call_later}
use Rattle.fw_engine.proofs.TakenFirstLaws.{from-err, notify-err, notify-first, notify-later}
use Rattle.fw_engine.proofs.auto.notify_first.Goals as goal

pub returns-in_err-notice-clause-part : goal.returns-in_err-notice-clause-part
returns-in_err-notice-clause-part g c =
    part-refused_first c.requires.stored (ap (λ (parts : Parts). parts.keep) c.first_notice.ensures.parts) c.first_notice.ensures.flow c.from_residual.ensures.1

pub returns-in_default-clause-takes : goal.returns-in_default-clause-takes
returns-in_default-clause-takes g c =
    let old = c.args.running.now in
    notify-later old c.first_notice.new.running c.settle_first.new.running (g.K.Store.view c.args.store.now).records (g.K.Store.view c.settle_first.new.store).records
    c.settle_first.result c.in_ok-notice.ensures.searched
    (subst (λ (found : Option Notice). IsFirstNotified old found) c.in_default.is c.in_ok-notice.ensures.first) c.settle_first.ensures.takes

pub returns-in_err-notify_of-clause-takes : goal.returns-in_err-notify_of-clause-takes
returns-in_err-notify_of-clause-takes g c = λ sys state s none.
    let old = c.args.running.now in
    let new = c.notify_of.new.running in
    let after = (g.K.Store.view c.notify_of.new.store).records in
    let first = subst (λ (found : Option Notice). IsFirstNotified old found) c.in-Some.is c.in_ok-notice.ensures.first in
    from-err c.from_residual-in_err-notify_of.result c.in_err-notify_of.field-0.0 (λ (r : Result Stepped EngineFault). AnswersEarlier sys state r new after)
    c.from_residual-in_err-notify_of.ensures.1
    (notify-err (Unit {0}) old c.first_notice.new.running new (g.K.Store.view c.args.store.now).records after c.in-Some.notice.node c.in-Some.notice.at
    c.in_err-notify_of.field-0.0 c.in_ok-notice.ensures.searched first.0 first.1 c.in_err-notify_of.ensures.part.calls c.in_err-notify_of.ensures.takes sys state s none)

pub returns-clause-takes : goal.returns-clause-takes
returns-clause-takes g c =
    let old = c.args.running.now in
    let first = subst (λ (found : Option Notice). IsFirstNotified old found) c.in-Some.is c.in_ok-notice.ensures.first in
    notify-first _ old c.first_notice.new.running c.notify_of.new.running (g.K.Store.view c.args.store.now).records (g.K.Store.view c.notify_of.new.store).records
    c.in-Some.notice.node c.in-Some.notice.at c.in_ok-notify_of.field-0 c.in_ok-notice.ensures.searched first.0 first.1 c.in_ok-notify_of.ensures.takes

pub returns-in_default-clause-part : goal.returns-in_default-clause-part
returns-in_default-clause-part g c = part-of MayCallByItself c.first_notice.ensures.flow c.settle_first.ensures.part

pub returns-in_err-notify_of-clause-part : goal.returns-in_err-notify_of-clause-part
returns-in_err-notify_of-clause-part g c =
    let old = c.args.running.now in
    let first = subst (λ (found : Option Notice). IsFirstNotified old found) c.in-Some.is c.in_ok-notice.ensures.first in
    part-err (part-of MayCallByItself c.first_notice.ensures.flow
    (part-may (notification-may_call_later old.flow c.first_notice.new.running.flow c.in-Some.notice.node c.first_notice.ensures.flow first.0.owing.there)
    c.in_err-notify_of.ensures.part))
    c.from_residual-in_err-notify_of.ensures.1

pub returns-clause-part : goal.returns-clause-part
returns-clause-part g c =
    let old = c.args.running.now in
    let first = subst (λ (found : Option Notice). IsFirstNotified old found) c.in-Some.is c.in_ok-notice.ensures.first in
    part-later (part-of MayCallByItself c.first_notice.ensures.flow
    (part-may (notification-may_call_later old.flow c.first_notice.new.running.flow c.in-Some.notice.node c.first_notice.ensures.flow first.0.owing.there)
    c.in_ok-notify_of.ensures.part))
    refl refl tt ok-unfaulted

pub settle_first-requires-clause-stored : goal.settle_first-requires-clause-stored
settle_first-requires-clause-stored g c =
    subst (λ (parts : Parts). IsStored parts.keep (g.K.Store.view c.args.store.now).records) (sym c.first_notice.ensures.parts) c.requires.stored

pub notify_of-requires-clause-stored : goal.notify_of-requires-clause-stored
notify_of-requires-clause-stored g c =
    subst (λ (parts : Parts). IsStored parts.keep (g.K.Store.view c.args.store.now).records) (sym c.first_notice.ensures.parts) c.requires.stored

pub returns-in_err-notice-clause-draws : goal.returns-in_err-notice-clause-draws
returns-in_err-notice-clause-draws g c =
    draws-none c.args.running.now c.first_notice.new.running (g.K.Store.view c.args.store.now).records _
    (ap (λ (parts : Parts). supply parts.keep) c.first_notice.ensures.parts)

pub returns-in_default-clause-draws : goal.returns-in_default-clause-draws
returns-in_default-clause-draws g c =
    draws-behind c.args.running.now c.first_notice.new.running c.settle_first.new.running (g.K.Store.view c.args.store.now).records
    (g.K.Store.view c.settle_first.new.store).records c.settle_first.result c.first_notice.ensures.flow
    (ap (λ (parts : Parts). supply parts.keep) c.first_notice.ensures.parts) c.settle_first.ensures.draws

pub returns-in_err-notify_of-clause-draws : goal.returns-in_err-notify_of-clause-draws
returns-in_err-notify_of-clause-draws g c =
    let old = c.args.running.now in
    let new = c.notify_of.new.running in
    let before = (g.K.Store.view c.args.store.now).records in
    let after = (g.K.Store.view c.notify_of.new.store).records in
    from-err c.from_residual-in_err-notify_of.result c.in_err-notify_of.field-0.0 (λ (r : Result Stepped EngineFault). StepDraws old before r new after)
    c.from_residual-in_err-notify_of.ensures.1
    (draws-notified old c.first_notice.new.running new before after c.requires.shaped.well_formed
    (ap (λ (parts : Parts). supply parts.keep) c.first_notice.ensures.parts) c.in_err-notify_of.ensures.draws)

pub returns-clause-draws : goal.returns-clause-draws
returns-clause-draws g c =
    draws-notified c.args.running.now c.first_notice.new.running c.notify_of.new.running (g.K.Store.view c.args.store.now).records
    (g.K.Store.view c.notify_of.new.store).records c.requires.shaped.well_formed (ap (λ (parts : Parts). supply parts.keep) c.first_notice.ensures.parts)
    c.in_ok-notify_of.ensures.draws
