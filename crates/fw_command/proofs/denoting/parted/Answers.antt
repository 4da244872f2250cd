use Rattle.std.proofs.Common.{◌+◌, [], ◌∷◌, ◌∙◌, ap, subst, sym, rules}
use Rattle.std.specs.List.Sorted.{IsNonDecreasingBy}
use Rattle.std.proofs.Math.Dec.{leb}
use Rattle.std.proofs.lemmas.List.Sorted.{IsPartitionPoint-from_clause, IsPartitionedBy-leb, IsNonDecreasingBy-drop}
use Rattle.fw_time.specs.Stamp.{same}
use Rattle.fw_flow.specs.WholeBags.{Timed, timed_where}
use Rattle.fw_command.specs.DenotationText.{after_epoch}
use Rattle.fw_command.proofs.EpochPartLaws.{IsEpochsEnd, recs_before, recs_later}
use Rattle.fw_command.proofs.denoting.parted.Goals as goal

pub returns : goal.returns
returns c =
    let rest = c.args.rest.now in
    let epoch = c.args.epoch in
    let i = c.partition_point-end.result in
    let end : IsEpochsEnd epoch rest i =
    IsPartitionPoint-from_clause (λ (r : Timed). leb (after_epoch r.at) (epoch + 1)) _ _ c.partition_point-end.ensures.partitioned
    (IsPartitionedBy-leb (λ (r : Timed). after_epoch r.at) rest (epoch + 1) c.requires.ordered) (λ a r q k. search rules) in
    record {
      of_epoch = ap (timed_where (same (epoch ∷ []))) c.split_at.ensures.front ∙ recs_before epoch rest i end;
      of_later = λ x l. ap (timed_where (same (x ∷ []))) c.split_at.ensures.back ∙ recs_later epoch x rest i end l;
      ordered = subst (IsNonDecreasingBy (λ (r : Timed). after_epoch r.at)) (sym c.split_at.ensures.back) (IsNonDecreasingBy-drop (λ (r : Timed). after_epoch r.at) i rest c.requires.ordered);
    }
