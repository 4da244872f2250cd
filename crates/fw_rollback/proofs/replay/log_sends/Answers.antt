use Rattle.std.proofs.Common.{◌+◌, sym, ap, subst, ◌∙◌, arith}
use Rattle.std.proofs.lemmas.List.{take_all}
use Rattle.fw_keep.specs.Catalogue.{AreAscending, is_id_among}
use Rattle.fw_node.specs.Sends.{messages_of}
use Rattle.fw_rollback.proofs.ListLaws.{out_edges-ascend, out_edge-there, among_out_edges, not_among_out_edges, not_among_first}
use Rattle.fw_rollback.proofs.LogLaws.{edges-more, edges-others}
use Rattle.fw_rollback.proofs.replay.log_sends.Goals as goal

pub log_each-requires : goal.log_each-requires
log_each-requires c =
    let there = out_edge-there c.args.flow.now c.args.node c.out_edges-edges.result.now c.loop-edge.edge-index c.edge-item.result c.out_edges-edges.ensures c.loop-edge-test.true c.edge-item.is in
    omega (arith, there, c.requires, c.loop-edge.invariant.each)

pub loop-edge-preserved : goal.loop-edge-preserved
loop-edge-preserved c =
    let flow = c.args.flow.now in
    let edges = c.out_edges-edges.result.now in
    let rises : AreAscending edges = subst AreAscending (sym c.out_edges-edges.ensures) (out_edges-ascend flow c.args.node) in
    let i = c.loop-edge.edge-index in
    record {
      logged = edges-more flow c.args.low.now (messages_of c.args.cause.now c.args.sends.now) edges i c.edge-item.result c.args.logs.now c.loop-edge.logs c.log_each.new.logs
          c.loop-edge-test.true c.edge-item.is rises c.loop-edge.invariant.logged c.loop-edge.invariant.others c.in_ok-log_each.ensures.logged c.log_each.ensures.others;
      others = edges-others edges i c.edge-item.result c.args.logs.now c.loop-edge.logs c.log_each.new.logs c.loop-edge-test.true c.edge-item.is
          c.loop-edge.invariant.others c.log_each.ensures.others;
      each = c.log_each.ensures.each ∙ c.loop-edge.invariant.each;
    }

pub returns-in_err-log_each-clause-others : goal.returns-in_err-log_each-clause-others
returns-in_err-log_each-clause-others c = λ e n.
    let edges = c.out_edges-edges.result.now in
    let i = c.loop-edge.edge-index in
    edges-others edges i c.edge-item.result c.args.logs.now c.loop-edge.logs c.log_each.new.logs c.loop-edge-test.true c.edge-item.is
    c.loop-edge.invariant.others c.log_each.ensures.others e
    (not_among_first edges (i + 1) e (ap (is_id_among e) c.out_edges-edges.ensures ∙ not_among_out_edges c.args.flow.now c.args.node e n))

pub returns-clause-logged : goal.returns-clause-logged
returns-clause-logged c = λ e l s ms h.
    c.loop-edge.invariant.logged e
    (ap (is_id_among e) (take_all c.loop-edge.edge-index c.out_edges-edges.result.now c.loop-edge-test.false ∙ c.out_edges-edges.ensures)
    ∙ among_out_edges c.args.flow.now c.args.node e l s) ms h

pub returns-clause-others : goal.returns-clause-others
returns-clause-others c = λ e n.
    c.loop-edge.invariant.others e
    (ap (is_id_among e) (take_all c.loop-edge.edge-index c.out_edges-edges.result.now c.loop-edge-test.false ∙ c.out_edges-edges.ensures)
    ∙ not_among_out_edges c.args.flow.now c.args.node e n)
