use Rattle.std.proofs.Common.{ℕ, ◌+◌, Option, ap, subst, arith}
use Rattle.fw_time.specs.Stamp.{Stamp}
use Rattle.fw_engine.specs.Searching.{HasNoneBefore, IsNoticeOf}
use Rattle.fw_engine.proofs.SearchLaws.{none_before, none_more, notice-before, searched-nothing, searched-on}
use Rattle.fw_engine.proofs.auto.first_notice.Goals as goal

pub loop-next-init : goal.loop-next-init
loop-next-init c =
    let old = c.args.running.now in
    record {
      searched = searched-nothing old;
      shaped = c.requires;
      before = none_before old old 0 c.owing_from-next.result (searched-nothing old) c.requires (λ p l. absurd (omega (arith, l))) c.owing_from-next.ensures;
    }

pub returns-in-Some-2-clause-searched : goal.returns-in-Some-2-clause-searched
returns-in-Some-2-clause-searched c =
    searched-on c.args.running.now c.loop-next.running c.notice_of.new.running c.loop-next.invariant.searched c.in_ok-at.ensures.searched

pub returns-in-Some-2-clause-first : goal.returns-in-Some-2-clause-first
returns-in-Some-2-clause-first c =
    let old = c.args.running.now in
    let running = c.loop-next.running in (
      notice-before old running c.in-Some.node c.in-Some-2.at c.loop-next.invariant.searched
          (subst (λ (found : Option Stamp). IsNoticeOf running c.in-Some.node found) c.in-Some-2.is c.in_ok-at.ensures.found),
      (subst (λ (next : Option ℕ). HasNoneBefore old next) c.in-Some.is c.loop-next.invariant.before).1,
    )

pub loop-next-preserved : goal.loop-next-preserved
loop-next-preserved c =
    let old = c.args.running.now in
    let running = c.loop-next.running in
    let new = c.notice_of.new.running in
    let n = c.in-Some.node in
    let k = c.place.result + 1 in
    let found = searched-on old running new c.loop-next.invariant.searched c.in_ok-at.ensures.searched in
    record {
      searched = found;
      shaped = c.in_ok-at.ensures.shaped;
      before = none_before old new k c.owing_from-next-in-Some.result found c.in_ok-at.ensures.shaped
          (none_more old running n k (ap (λ p. p + 1) c.place.ensures) c.loop-next.invariant.searched
          (subst (λ (next : Option ℕ). HasNoneBefore old next) c.in-Some.is c.loop-next.invariant.before).1
          (subst (λ (notice : Option Stamp). IsNoticeOf running n notice) c.in_default-2.is c.in_ok-at.ensures.found))
          c.owing_from-next-in-Some.ensures;
    }
