use Rattle.std.proofs.Common.{List, Option, sym, ap, subst, ◌≡◌, ◌∙◌}
use Rattle.std.specs.Prelude.{filter}
use Rattle.std.proofs.lemmas.Result.{IfOk-weaker}
use Rattle.fw_flow.specs.declared.key_part.KeyPart.{KeyPart}
use Rattle.fw_flow.specs.Dataflow.{receiver, sender}
use Rattle.fw_flow.specs.KeyParts.{is_of_part_if, part_of}
use Rattle.fw_flow.specs.WholeBags.{Timed, in_order}
use Rattle.fw_model.proofs.CarriedLaws.{carried_timed-is, filter-in_order}
use Rattle.fw_denote.specs.Holding.{bag_sent_by}
use Rattle.fw_denote.proofs.outputs.on_edge.Goals as goal

abbrev kept : Option KeyPart → List Timed → List Timed
kept part rs = filter (λ (r : Timed). is_of_part_if part r.rec.key) rs

pub returns-clause-recs : goal.returns-clause-recs
returns-clause-recs c =
    let flow = c.args.flow.now in
    let bags = c.args.bags.now in
    let e = c.args.edge in
    IfOk-weaker c.of_part.result _ _
    (λ rs h. h ∙ ap (λ part. kept part c.bag_of.result.now) (c.part.ensures ∙ ap (part_of flow) c.dst.ensures)
    ∙ ap (kept (part_of flow (receiver flow e))) (c.bag_of.ensures.recs ∙ ap (bag_sent_by bags) c.src.ensures)
    ∙ sym (carried_timed-is flow e (bag_sent_by bags (sender flow e))))
    c.of_part.ensures

pub returns-clause-in_order : goal.returns-clause-in_order
returns-clause-in_order c =
    IfOk-weaker c.of_part.result _ _
    (λ rs h. subst (λ (xs : List Timed). in_order xs ≡ xs) (sym h)
    (filter-in_order (λ (r : Timed). is_of_part_if c.part.result r.rec.key) c.bag_of.result.now c.bag_of.ensures.in_order))
    c.of_part.ensures
