use Rattle.std.proofs.Common.{◌≤◌, take, subst, arith}
use Rattle.std.proofs.lemmas.List.{take_all}
use Rattle.std.specs.List.{AllByRecursion}
use Rattle.fw_lemmas.proofs.Each.{each-weaker, each-taken}
use Rattle.fw_flow.specs.declared.side.Inclusion.{Inclusion}
use Rattle.fw_model.specs.Inclusions.{node_of}
use Rattle.fw_monitor.proofs.worklist.first_node.Goals as goal

pub loop-inclusion-init : goal.loop-inclusion-init
loop-inclusion-init c = (omega arith, tt)

pub loop-inclusion-preserved : goal.loop-inclusion-preserved
loop-inclusion-preserved c =
    let flow = c.args.flow.now in
    let all = c.args.inclusions.now in
    let before = c.loop-inclusion.first in
    let first = c.earlier-first.result in
    let P : Inclusion → Type 0 = λ i. first ≤ node_of flow i in
    let less : first ≤ before = c.earlier-first.ensures.one in
    let here : P c.inclusion-item.result = omega (arith, c.earlier-first.ensures.other, c.node_of.ensures) in (
      omega (arith, less, c.loop-inclusion.invariant.0),
      each-taken P all c.loop-inclusion.inclusion-index c.inclusion-item.result c.loop-inclusion-test.true c.inclusion-item.is
          (each-weaker (λ i. before ≤ node_of flow i) P (take c.loop-inclusion.inclusion-index all) (λ i l. omega arith) c.loop-inclusion.invariant.1) here,
    )

pub returns-clause-node : goal.returns-clause-node
returns-clause-node c = c.loop-inclusion.invariant.0

pub returns-clause-each : goal.returns-clause-each
returns-clause-each c =
    let P : Inclusion → Type 0 = λ i. c.loop-inclusion.first ≤ node_of c.args.flow.now i in
    subst (AllByRecursion P) (take_all c.loop-inclusion.inclusion-index c.args.inclusions.now c.loop-inclusion-test.false) c.loop-inclusion.invariant.1
