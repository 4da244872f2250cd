use Rattle.std.proofs.Common.{◌≡◌, ℕ, List, length, sym, ap, subst}
use Rattle.fw_running.specs.ReadyState.{ReadyState}
use Rattle.fw_running.specs.Places.{HasAllBelow}
use Rattle.fw_running.proofs.PlaceLaws.{more_below}
use Rattle.fw_running.proofs.ready.Ready.put_all.Goals as goal

pub loop-place-preserved : goal.loop-place-preserved
loop-place-preserved c = record {
  owing = more_below _ _ _ _ c.at.ensures c.loop-place.invariant.owing c.in_ok-put_node.ensures.owing;
  growing = more_below _ _ _ _ c.at.ensures c.loop-place.invariant.growing c.in_ok-put_node.ensures.growing;
  outputs = more_below _ _ _ _ c.at.ensures c.loop-place.invariant.outputs c.in_ok-put_node.ensures.outputs;
  inputs = more_below _ _ _ _ c.at.ensures c.loop-place.invariant.inputs c.in_ok-put_node.ensures.inputs;
}

pub loop-place-2-preserved : goal.loop-place-2-preserved
loop-place-2-preserved c =
    let same : (f : ReadyState → List ℕ) → f c.put_edge.new.self ≡ f (record c.loop-place-2.self { edges = c.put_edge.new.self.edges }) =
    λ f. ap f c.in_ok-put_edge.ensures.others in
    let all : ℕ → List ℕ → Type 0 = HasAllBelow in
    let n : ℕ = length c.args.flow.now.nodes in
    record {
      edges = more_below _ _ _ _ c.at-in-loop-place-2.ensures c.loop-place-2.invariant.edges c.in_ok-put_edge.ensures.put;
      owing = subst (all n) (sym (same (λ r. r.owing))) c.loop-place-2.invariant.owing;
      growing = subst (all n) (sym (same (λ r. r.growing))) c.loop-place-2.invariant.growing;
      outputs = subst (all n) (sym (same (λ r. r.outputs))) c.loop-place-2.invariant.outputs;
      inputs = subst (all n) (sym (same (λ r. r.inputs))) c.loop-place-2.invariant.inputs;
    }
