use Rattle.std.proofs.Common.{◌<◌, ◌+◌, true, Bool, length, set, Vec, Global, inl, inr, sym, subst, ◌∙◌, arith}
use Rattle.std.proofs.lemmas.Bool.{not-true, not-false}
use Rattle.fw_flow.specs.declared.ids.NodeId.{NodeId}
use Rattle.fw_progress.specs.Leap.{is_node_marked}
use Rattle.fw_progress.proofs.LedLaws.{IsSpreading, out_edge, set-marked, spread_none, spread_same, spread_more, spread_all}
use Rattle.fw_progress.proofs.leap.mark_receivers.Goals as goal
use Rattle.fw_progress.proofs.leap.mark_receivers.Goals.{then-is_as_deep+then-mark+in_ok-push, else-is_as_deep, else-is_as_deep-via-then-is_as_deep+else-mark, else-is_as_deep-via-else-is_as_deep}

abbrev Marks : Type 0
Marks = Vec Bool Global

abbrev Found : Type 0
Found = Vec NodeId Global

pub loop-edge-init : goal.loop-edge-init
loop-edge-init c =
    spread_none c.args.flow.now c.args.feedback c.args.node c.out_edges-edges.result.now c.args.marks.now.items c.args.found.now.items c.out_edges-edges.ensures c.requires.marked c.requires.marking

pub mark-requires : goal.mark-requires
mark-requires c =
    let flow = c.args.flow.now in
    let edge = out_edge flow c.args.node c.out_edges-edges.result.now c.loop-edge.edge-index c.edge-item.result c.out_edges-edges.ensures c.loop-edge-test.true c.edge-item.is in
    let there = c.flow_is_well_formed.ensures.receivers_declared c.edge-item.result edge.0 in
    omega (arith, there, c.dst-receiver.ensures, c.loop-edge.invariant.marking.one_each)

pub loop-edge-preserved : goal.loop-edge-preserved
loop-edge-preserved c =
    let flow = c.args.flow.now in
    let p = c.args.feedback in
    let node = c.args.node in
    let edges = c.out_edges-edges.result.now in
    let k = c.loop-edge.edge-index in
    let e = c.edge-item.result in
    let r = c.dst-receiver.result in
    let old = c.args.marks.now.items in
    let began = c.args.found.now.items in
    let marks = c.loop-edge.marks.items in
    let found = c.loop-edge.found.items in
    let so_far = c.loop-edge.invariant in
    let at = λ (ms : Marks) (fs : Found). IsSpreading flow p node edges (k + 1) old began ms.items fs.items in
    elim c.if-is_as_deep.branch [
      | then-is_as_deep+then-mark+in_ok-push w ↦
          let there : r < length flow.nodes = subst (λ n. n < length flow.nodes) (sym c.dst-receiver.ensures) (c.flow_is_well_formed.ensures.receivers_declared e (out_edge flow node edges k e c.out_edges-edges.ensures c.loop-edge-test.true c.edge-item.is).0) in
          let new = not-true (is_node_marked marks r) (sym w.mark.ensures.new ∙ w.if-mark.true) in
          subst (λ ms. at ms c.if-is_as_deep.found) (sym w.marks-is)
          (subst (at w.mark.new.marks) (sym w.found-is)
          (subst (λ ms. IsSpreading flow p node edges (k + 1) old began ms w.push.new.self.items) (sym w.mark.ensures.marked)
          (subst (IsSpreading flow p node edges (k + 1) old began (set marks r true)) (sym w.in_ok-push.ensures.items)
          (spread_more flow p node edges k e r old began marks found c.out_edges-edges.ensures c.loop-edge-test.true c.edge-item.is c.dst-receiver.ensures there
          (sym c.is_as_deep.ensures ∙ w.if-is_as_deep.true) new so_far))))
      | else-is_as_deep w ↦
          subst (λ ms. at ms c.if-is_as_deep.found) (sym w.marks-is)
          (subst (at w.else-is_as_deep.marks) (sym w.found-is) (elim w.else-is_as_deep.branch [
            | else-is_as_deep-via-then-is_as_deep+else-mark v ↦
                let before = not-false (is_node_marked marks r) (sym v.mark.ensures.new ∙ v.if-mark.false) in
                subst (λ ms. at ms c.loop-edge.found) (sym v.marks-is)
                (subst (λ ms. IsSpreading flow p node edges (k + 1) old began ms found) (sym (v.mark.ensures.marked ∙ set-marked marks r before))
                (spread_same flow p node edges k e r old began marks found c.loop-edge-test.true c.edge-item.is c.dst-receiver.ensures (inr before) so_far))
            | else-is_as_deep-via-else-is_as_deep v ↦
                subst (λ ms. at ms c.loop-edge.found) (sym v.marks-is)
                (spread_same flow p node edges k e r old began marks found c.loop-edge-test.true c.edge-item.is c.dst-receiver.ensures (inl (sym c.is_as_deep.ensures ∙ v.if-is_as_deep.false)) so_far)
          ]))
    ]

pub returns-clause-marking : goal.returns-clause-marking
returns-clause-marking c =
    spread_all c.args.flow.now c.args.feedback c.args.node c.out_edges-edges.result.now c.loop-edge.edge-index c.args.marks.now.items c.args.found.now.items
    c.loop-edge.marks.items c.loop-edge.found.items c.loop-edge-test.false c.loop-edge.invariant
