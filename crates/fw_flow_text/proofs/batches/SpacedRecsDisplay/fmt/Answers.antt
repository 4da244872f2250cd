use Rattle.std.proofs.Common.{[], ◌∷◌, ◌++◌, sym, ◌∙◌, ap, append_assoc, rules}
use Rattle.std.proofs.Output.{has_written_of_eq, has_written_append}
use Rattle.std.proofs.lemmas.Map.Iter.{rest_more}
use Rattle.fw_flow_text.proofs.BatchesTextLaws.{recs_more}
use Rattle.fw_flow_text.proofs.batches.SpacedRecsDisplay.fmt.Goals as goal

pub loop-rec-preserved : goal.loop-rec-preserved
loop-rec-preserved g c =
    let so_far = c.loop-rec.yielded in
    let rec = c.in-Some.rec in
    let more = rest_more (λ r. r) c.loop-rec.rec-iterator c.next.new.self c.next.result rec c.in-Some.is c.next.ensures.steps in (
      λ p. has_written_of_eq _ _ _ _ _ (sym (recs_more so_far rec)) (has_written_append _ _ _ _ _ _ (c.loop-rec.invariant.0 p) (search rules)),
      append_assoc so_far (rec ∷ []) c.next.new.self ∙ ap (λ rest. so_far ++ rest) (sym more) ∙ c.loop-rec.invariant.1,
    )
