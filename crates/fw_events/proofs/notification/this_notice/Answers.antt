use Rattle.std.proofs.Common.{◌≡◌, false, Some, ap, subst, sym, ◌∙◌}
use Rattle.fw_time.specs.declared.stamp.Bounds.{Bounds}
use Rattle.fw_time.specs.Stamp.{Stamp, in_domain}
use Rattle.fw_flow.specs.Dataflow.{bounds_of}
use Rattle.fw_model.specs.Steps.{IsNextNotice}
use Rattle.fw_running.proofs.BroughtUpLaws.{still_up}
use Rattle.fw_events.proofs.NoticingLaws.{asked_finds, none_outside}
use Rattle.fw_events.proofs.notification.this_notice.Goals as goal

pub returns-then-not-in_domain-clause-found : goal.returns-then-not-in_domain-clause-found
returns-then-not-in_domain-clause-found c =
    let mid = c.refresh.new.self in
    let out : in_domain (bounds_of mid.flow c.args.node) c.args.at.now ≡ false =
    ap (λ (b : Bounds). in_domain b c.args.at.now) (sym c.domain.ensures) ∙ sym c.in_domain.ensures ∙ c.if-not-in_domain.true in
    none_outside c.args.running.now mid c.args.node c.args.at.now c.in_ok-refresh.ensures.up c.requires.there out

pub returns-then-branch-clause-up : goal.returns-then-branch-clause-up
returns-then-branch-clause-up c =
    still_up c.args.running.now c.refresh.new.self c.can_notify.new.self c.in_ok-refresh.ensures.up c.in_ok-can_notify.ensures.fresh
    (c.can_notify.ensures.progress c.in_ok-can_notify.ensures.fresh.ready)

pub returns-then-branch-clause-found : goal.returns-then-branch-clause-found
returns-then-branch-clause-found c = λ sys h e s.
    let at = c.args.at.now in
    let found = asked_finds c.args.running.now c.refresh.new.self c.args.node at c.in_ok-refresh.ensures.up c.in_ok-can_notify.field-0 c.if-branch.true
    c.in_ok-can_notify.ensures.next in
    subst (λ (t : Stamp). IsNextNotice sys h c.args.node (Some at) t) (sym c.copy.ensures) (found sys h e s)

pub returns-else-branch-clause-up : goal.returns-else-branch-clause-up
returns-else-branch-clause-up c =
    still_up c.args.running.now c.refresh.new.self c.can_notify.new.self c.in_ok-refresh.ensures.up c.in_ok-can_notify.ensures.fresh
    (c.can_notify.ensures.progress c.in_ok-can_notify.ensures.fresh.ready)
