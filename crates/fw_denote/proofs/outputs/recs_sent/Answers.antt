use Rattle.std.proofs.Common.{ℕ, [], List, map, sym, ap, ◌∙◌, subst, arith}
use Rattle.std.proofs.lemmas.Result.{IfOk-weaker}
use Rattle.fw_bag.specs.Bag.{BagState}
use Rattle.fw_bag.specs.declared.rec.Rec.{Rec}
use Rattle.fw_lines.specs.Batches.{batches_at}
use Rattle.fw_flow.specs.Dataflow.{batches_of, system_of}
use Rattle.fw_flow.specs.WholeBags.{Timed, in_order, outputs_of_kind}
use Rattle.fw_denote.specs.Domains.{AreIn}
use Rattle.fw_denote.specs.Holding.{family_held}
use Rattle.fw_denote.proofs.WholeLaws.{none_come, batches_there, few_batches, by_edges, comes_in, many_come, nil_below}
use Rattle.fw_denote.proofs.outputs.recs_sent.Goals as goal

pub sent-requires-clause-few : goal.sent-requires-clause-few
sent-requires-clause-few c =
    few_batches c.args.flow.now c.args.batches.now c.requires.system c.args.node c.requires.there c.of.result.now
    (c.of.ensures ∙ ap (batches_at c.args.batches.now) c.place.ensures)

pub sent-requires-in-len1-clause-in_domain : goal.sent-requires-in-len1-clause-in_domain
sent-requires-in-len1-clause-in_domain c =
    let flow = c.args.flow.now in
    let kind = c.kind-kind.result in
    subst (λ (rs : List Timed). AreIn flow kind rs)
    (sym (c.deref.ensures.value ∙ c.in_ok-rs-in-len1.ensures.recs ∙ ap (family_held flow c.args.bags.now) c.edge-item.is))
    (comes_in flow c.requires.system.flow c.args.bags.now c.requires.held c.args.node kind c.in_edges-edges.result.now 0 c.edge-item.result
    c.kind-kind.ensures c.in_edges-edges.ensures (omega arith))

pub returns-in-empty : goal.returns-in-empty
returns-in-empty c =
    let flow = c.args.flow.now in
    let kind = c.kind-kind.result in
    let e = c.of.ensures ∙ ap (batches_at c.args.batches.now) c.place.ensures ∙ sym (batches_there flow c.args.batches.now c.args.node c.requires.there) in
    IfOk-weaker c.sent.result _ _
    (λ recs h. h ∙ ap in_order (none_come flow kind (map (λ (b : BagState). b.recs) c.of.result.now) ∙ ap (λ (bs : List (List Rec)). outputs_of_kind flow kind bs []) e)
    ∙ sym (by_edges flow c.args.batches.now c.args.bags.now c.args.node kind [] c.kind-kind.ensures
    (sym (nil_below c.in_edges-edges.result.now c.in-empty.len_below) ∙ c.in_edges-edges.ensures)))
    c.sent.ensures

pub returns-in_default : goal.returns-in_default
returns-in_default c =
    let flow = c.args.flow.now in
    let kind = c.kind-kind.result in
    let edges : List ℕ = c.in_edges-edges.result.now in
    IfOk-weaker c.joint.result _ _
    (λ recs h. ap in_order (h ∙ sym (many_come flow c.requires.system.flow c.args.node c.requires.there kind edges c.kind-kind.ensures c.in_edges-edges.ensures c.in_default.len_at_least
    (batches_of (system_of flow c.args.batches.now) c.args.node) (map (family_held flow c.args.bags.now) edges)))
    ∙ sym (by_edges flow c.args.batches.now c.args.bags.now c.args.node kind edges c.kind-kind.ensures c.in_edges-edges.ensures))
    c.joint.ensures
