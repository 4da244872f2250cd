-- The out-edges of a node.
use Rattle.std.proofs.Common.{◌≡◌, ℕ, zero, suc, ◌+◌, ◌<◌, Bool, true, false, ◌==◌, cond, List, [], ◌∷◌, length, get_or, refl, subst, arith}
use Rattle.std.specs.List.{AllByRecursion}
use Rattle.std.proofs.lemmas.Bool.{eqb-true, eq-eqb}
use Rattle.fw_flow.specs.declared.node.Edge.{Edge}
use Rattle.fw_flow.specs.Dataflow.{Dataflow, sender, edges_from, out_edges}
use Rattle.fw_flow.proofs.PickedEdges.{picked-at, picked-from}

-- what holds of each out-edge of a node holds of each edge that it sends on
pub out_edges-at : (P : ℕ → Type 0) (flow : Dataflow) (p : ℕ) → AllByRecursion P (out_edges flow p) → (e : ℕ) → e < length flow.edges → sender flow e ≡ p → P e
unfolding out_edges sender
out_edges-at P flow p a e l r =
    let at : P (0 + e) = picked-at (λ k fs. edges_from k fs p) (λ d. d.sender) p (λ k d fs. refl) P 0 flow.edges (record { name = []; sender = length flow.nodes; receiver = length flow.nodes }) a e l r in
    subst P (omega arith) at

pub out_edges-from : (P : ℕ → Type 0) (flow : Dataflow) (p : ℕ) → ((e : ℕ) → e < length flow.edges → sender flow e ≡ p → P e) → AllByRecursion P (out_edges flow p)
unfolding out_edges sender
out_edges-from P flow p h =
    picked-from (λ k fs. edges_from k fs p) (λ d. d.sender) p (λ k. refl) (λ k d fs. refl) P 0 flow.edges (record { name = []; sender = length flow.nodes; receiver = length flow.nodes }) (λ e l r. subst P (omega arith) (h e l r))
