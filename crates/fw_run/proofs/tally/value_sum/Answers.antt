use Rattle.std.proofs.Common.{sym, ◌∙◌, ap}
use Rattle.std.proofs.lemmas.Map.Iter.{rest_more}
use Rattle.fw_bag.specs.Keyed.{plus}
use Rattle.fw_run.proofs.TallyLaws.{plus-plus, nothing_first, rec_sum-fits}
use Rattle.fw_run.specs.Tallies.{rec_sum}
use Rattle.fw_run.proofs.tally.value_sum.Goals as goal

pub loop-rec-init : goal.loop-rec-init
loop-rec-init c =
    let recs = c.into_iter-rec-iterator.result in
    nothing_first (rec_sum recs) (rec_sum-fits recs) ∙ ap rec_sum c.into_iter-rec-iterator.ensures.into_iter_gives

pub loop-rec-preserved : goal.loop-rec-preserved
loop-rec-preserved c =
    let rec = c.in-Some.rec in
    let more = rest_more (λ r. r) c.loop-rec.rec-iterator c.next.new.self c.next.result rec c.in-Some.is c.next.ensures.steps in
    plus-plus c.loop-rec.sum rec.value (rec_sum c.next.new.self) ∙ sym (ap (λ rest. plus c.loop-rec.sum (rec_sum rest)) more) ∙ c.loop-rec.invariant
