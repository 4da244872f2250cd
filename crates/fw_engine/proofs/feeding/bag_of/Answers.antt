use Rattle.std.proofs.Common.{◌+◌, drop, get_or, ◌∙◌, sym, ap, subst}
use Rattle.std.proofs.lemmas.List.{drop_more}
use Rattle.fw_bag.specs.declared.rec.Rec.{Rec}
use Rattle.fw_bag.specs.Bag.{bag_sum}
use Rattle.fw_bag.proofs.BagLaws.{bag_sum-with_rec}
use Rattle.fw_lines.specs.Batches.{IsBatch}
use Rattle.fw_lines.proofs.BatchLaws.{IsBatch-with_rec}
use Rattle.fw_engine.proofs.feeding.bag_of.Goals as goal

pub loop-rec-preserved : goal.loop-rec-preserved
loop-rec-preserved c =
    let recs = c.args.recs.now in
    let i = c.loop-rec.rec-index in
    let bag = c.loop-rec.bag.recs in
    let d : Rec = record { key = 0; value = 0 } in
    let put = c.in_ok-put.ensures in
    record {
      summed = ap (bag_sum (drop (i + 1) recs)) put.put ∙ bag_sum-with_rec (get_or recs i d) (drop (i + 1) recs) bag ∙ sym (ap (λ rs. bag_sum rs bag) (drop_more recs i d c.loop-rec-test.true)) ∙ c.loop-rec.invariant.summed;
      batch = subst IsBatch (sym put.put) (IsBatch-with_rec (get_or recs i d) bag put.small c.loop-rec.invariant.batch);
    }
