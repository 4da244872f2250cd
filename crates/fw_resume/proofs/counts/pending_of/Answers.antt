use Rattle.std.proofs.Common.{◌∙◌, ◌++◌, ℕ, List, map, ap, sym, subst}
use Rattle.fw_time.specs.Stamp.{Stamp}
use Rattle.fw_progress.specs.Counts.{pending_of}
use Rattle.fw_resume.specs.Counted.{HaveSmallCounts, pending_on}
use Rattle.fw_resume.proofs.CountedLaws.{pending_none, pending_more}
use Rattle.fw_resume.proofs.counts.pending_of.Goals as goal

pub loop-place-init : goal.loop-place-init
loop-place-init c = (pending_none c.args.progress.now.counts c.new-all.result.items c.new-all.ensures.items, subst HaveSmallCounts (sym c.new-all.ensures.items) tt)

pub loop-place-preserved : goal.loop-place-preserved
loop-place-preserved c =
    let counts = c.args.progress.now.counts in
    let old = c.loop-place.all.items in (
      pending_more counts c.loop-place.place old c.add_pending.new.all.items c.pending.result.now c.loop-place.invariant.0
          (c.in_ok-add_pending.ensures.added ∙ ap (λ n. old ++ map (pending_on n) c.deref.result.now) c.at-edge.ensures
          ∙ ap (λ (xs : List (Stamp × ℕ)). old ++ map (pending_on c.loop-place.place) xs) (c.deref.ensures.value ∙ c.in_ok-listed.ensures.all))
          (c.pending.ensures ∙ ap (λ n. pending_of counts n) c.at-edge.ensures) c.listed.ensures.in_order,
      c.in_ok-add_pending.ensures.small c.loop-place.invariant.1,
    )
