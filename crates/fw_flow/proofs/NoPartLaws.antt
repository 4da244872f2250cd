-- A flow without replicas: one node after the other has no part of the keys, and past the last node none has.
use Rattle.std.proofs.Common.{◌≡◌, inl, inr, ℕ, ◌+◌, ◌<◌, ◌≤◌, length, None, ap, subst, arith}
use Rattle.std.proofs.lemmas.Bool.{cases_lt}
use Rattle.std.proofs.lemmas.List.{get_or_past}
use Rattle.fw_flow.specs.Dataflow.{Dataflow, idle_node}
use Rattle.fw_flow.specs.Flow.{HasNoParts}
use Rattle.fw_flow.specs.KeyParts.{part_of, part_of_node}

part-past : (flow : Dataflow) (p : ℕ) → length flow.nodes ≤ p → part_of flow p ≡ None
unfolding part_of
part-past flow p past = ap part_of_node (get_or_past flow.nodes p idle_node past)

-- the first nodes have none, and the next one
pub no_parts_more : (flow : Dataflow) (n : ℕ) → ((p : ℕ) → p < n → part_of flow p ≡ None) → part_of flow n ≡ None → (p : ℕ) → p < n + 1 → part_of flow p ≡ None
no_parts_more flow n before next p lt =
    elim (cases_lt p n) [
      | inl old ↦ before p old
      | inr last ↦ subst (λ q. part_of flow q ≡ None) (omega (arith, lt, last)) next
    ]

-- none of all nodes has one
pub no_parts_all : (flow : Dataflow) → ((p : ℕ) → p < length flow.nodes → part_of flow p ≡ None) → HasNoParts flow
no_parts_all flow each p =
    elim (cases_lt p (length flow.nodes)) [
      | inl inside ↦ each p inside
      | inr past ↦ part-past flow p past
    ]
