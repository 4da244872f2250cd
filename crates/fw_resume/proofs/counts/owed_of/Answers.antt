use Rattle.std.proofs.Common.{◌∙◌, ◌++◌, ℕ, List, map, ap}
use Rattle.fw_time.specs.Stamp.{Stamp}
use Rattle.fw_progress.specs.Counts.{owed_of}
use Rattle.fw_resume.specs.Counted.{owed_to}
use Rattle.fw_resume.proofs.CountedLaws.{owed_none, owed_more}
use Rattle.fw_resume.proofs.counts.owed_of.Goals as goal

pub loop-place-init : goal.loop-place-init
loop-place-init c = owed_none c.args.progress.now.counts c.new-all.result.items c.new-all.ensures.items

pub loop-place-preserved : goal.loop-place-preserved
loop-place-preserved c =
    let counts = c.args.progress.now.counts in
    let old = c.loop-place.all.items in
    owed_more counts c.loop-place.place old c.add_owed.new.all.items c.owed.result.now c.loop-place.invariant
    (c.in_ok-add_owed.ensures ∙ ap (λ n. old ++ map (owed_to n) c.deref.result.now) c.at-node.ensures
    ∙ ap (λ (xs : List (Stamp × ℕ)). old ++ map (owed_to c.loop-place.place) xs) (c.deref.ensures.value ∙ c.in_ok-listed.ensures.all))
    (c.owed.ensures ∙ ap (λ n. owed_of counts n) c.at-node.ensures) c.listed.ensures.in_order
