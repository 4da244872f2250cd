use Rattle.std.proofs.Common.{sym, subst, ◌∙◌}
use Rattle.fw_edge.specs.Stamps.{counted_stamps}
use Rattle.fw_recover.proofs.CountedLaws.{IsCountedSoFar, counted-all, counted-in, counted-more, counted-none}
use Rattle.fw_recover.proofs.rebuild.pending_in.Goals as goal

pub loop-at-init : goal.loop-at-init
loop-at-init c =
    let all = counted_stamps c.args.queue.now.messages in
    subst (λ left. IsCountedSoFar all left c.new-tally.result) (sym (c.into_iter-at-iterator.ensures.into_iter_gives ∙ c.stamps-at-items.ensures))
    (subst (IsCountedSoFar all all) (sym c.new-tally.ensures) (counted-none all))

pub loop-at-preserved : goal.loop-at-preserved
loop-at-preserved c =
    counted-more (counted_stamps c.args.queue.now.messages) c.loop-at.at-iterator c.next.new.self c.loop-at.tally c.add_many.new.self c.in-Some.at.now c.in-Some.count
    c.loop-at.invariant c.in-Some.ensures.steps c.in_ok-add_many.ensures.ok

pub returns-clause-counted : goal.returns-clause-counted
returns-clause-counted c = λ t. counted-all c.args.queue.now.messages c.loop-at.at-iterator c.loop-at.tally c.loop-at.invariant c.in-None.ensures.steps.0 t

pub returns-clause-domain : goal.returns-clause-domain
returns-clause-domain c = λ bounds a. (c.loop-at.invariant.domain bounds (counted-in bounds c.args.queue.now.messages a)).0
