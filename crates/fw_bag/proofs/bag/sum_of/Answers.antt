use Rattle.std.proofs.Common.{subst}
use Rattle.std.proofs.lemmas.Map.Iter.{rest_more}
use Rattle.std.specs.Map.Iter.{deref_pair}
use Rattle.fw_bag.specs.Bag.{IsPositive}
use Rattle.fw_bag.proofs.CountLaws.{bag_sum_step}
use Rattle.fw_bag.proofs.bag.sum_of.Goals as goal

pub loop-rec-preserved : goal.loop-rec-preserved
loop-rec-preserved c =
    let more = rest_more deref_pair c.loop-rec.rec-iterator c.next.new.self c.next.result (c.in-Some.rec, c.in-Some.copies) c.in-Some.is c.next.ensures.steps in
    record {
      tally = c.add_copies.ensures.tally;
      rest_positive = (subst IsPositive more c.loop-rec.invariant.rest_positive).1;
      summed = bag_sum_step _ _ _ _ _ _ _ more c.in_ok-add_copies.ensures.ok c.loop-rec.invariant.summed;
    }
