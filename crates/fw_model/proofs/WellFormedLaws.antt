-- What senders of a well-formed dataflow are.
use Rattle.std.proofs.Common.{◌≡◌, ℕ, zero, suc, ◌+◌, ◌<◌, ◌≤◌, ◌==◌, List, [], ◌∷◌, length, get_or, refl, inl, inr, ◌⊎◌, arith}
use Rattle.std.proofs.lemmas.Bool.{cond_both, eqb-false}
use Rattle.fw_flow.specs.Kind.{Kind}
use Rattle.fw_flow.specs.declared.kind.Kind.TheVariants.{OutputEpoch, OutputNumber, Feedback, Sequence, Regroup}
use Rattle.fw_flow.specs.declared.node.Edge.{Edge}
use Rattle.fw_flow.specs.Dataflow.{Dataflow, kind_of, sender, max_of, edges_from, out_edges}
use Rattle.fw_flow.specs.WellFormed.{IsLoopDeclared, IsOutDegree, IsGroupSize}
use Rattle.fw_model.specs.LawsOfSending.{SendersOfWellFormed}
use Rattle.fw_model.specs.Sending.{SendsByStamp, SendsByCount}

edges_from-some : (es : List Edge) (n e p : ℕ) (d : Edge) → e < length es → (get_or es e d).sender ≡ p → 1 ≤ length (edges_from n es p)
edges_from-some [] n e p d l k = absurd (omega arith)
edges_from-some (x ∷ es) n zero p d l k =
    cond_both (x.sender == p) (n ∷ edges_from (n + 1) es p) (edges_from (n + 1) es p) (λ ds. 1 ≤ length ds)
    (λ h. omega arith) (λ h. absurd (eqb-false x.sender p h k))
edges_from-some (x ∷ es) n (suc e) p d l k =
    let h = edges_from-some es (n + 1) e p d (omega arith) k in
    cond_both (x.sender == p) (n ∷ edges_from (n + 1) es p) (edges_from (n + 1) es p) (λ ds. 1 ≤ length ds) (λ i. omega arith) (λ i. h)

out_edges-some : (flow : Dataflow) (e : ℕ) → e < length flow.edges → 1 ≤ length (out_edges flow (sender flow e))
unfolding out_edges sender
out_edges-some flow e l = edges_from-some flow.edges 0 e _ _ l refl

sender_kind : (flow : Dataflow) (kind : Kind) (n : ℕ) → IsLoopDeclared flow kind → ((l : ℕ) → l < length flow.loops → 1 ≤ max_of flow l)
    → IsGroupSize kind → 1 ≤ n → IsOutDegree kind n → SendsByCount kind ⊎ SendsByStamp flow kind
sender_kind flow OutputEpoch n l m g k d = absurd (omega arith)
sender_kind flow OutputNumber n l m g k d = absurd (omega arith)
sender_kind flow Sequence n l m g k d = inl refl
sender_kind flow (Feedback r) n l m g k d = inr (m r l)
sender_kind flow (Regroup r) n l m g k d = inr g.0
sender_kind flow kind n l m g k d = inr tt

pub senders_well_formed : SendersOfWellFormed
senders_well_formed flow w e l =
    let p = sender flow e in
    let q = w.senders_declared e l in
    sender_kind flow (kind_of flow p) (length (out_edges flow p)) (w.loops_declared p q) (λ r i. (w.limits.counters r i).0)
    (w.limits.groups p q) (out_edges-some flow e l) (w.out_degrees p q)
