-- The ids of batches.
use Rattle.std.proofs.Common.{◌≡◌, ◌≢◌, ◌⊎◌, inl, inr, ℕ, true, ◌-◌, ◌^◌, ◌<◌, ◌≤◌, arith}
use Rattle.std.proofs.lemmas.Bool.{cases_lt}
use Rattle.fw_flow.specs.Dataflow.{Dataflow, is_input_kind, kind_of}
use Rattle.fw_flow.specs.WellFormed.{IsWellFormed}
use Rattle.fw_hold.specs.Kept.{root_id}
use Rattle.std.proofs.Math.Nat.{mod-lt}
use Rattle.fw_session.proofs.StoryLaws.{input-there}
use Rattle.fw_came.specs.Came.{batch_id}

-- those of two batches of two sources, or of one, are two
pub ids-apart : (s q x y : ℕ) → x < 2 ^ 24 → y < 2 ^ 24 → (q ≢ s) ⊎ (y ≢ x) → batch_id q y ≡ batch_id s x → ⊥
ids-apart s q x y l m apart e = elim (cases_lt q s) [
  | inl lt ↦ omega (arith, lt, l, m, e)
  | inr ge ↦ elim (cases_lt s q) [
    | inl gt ↦ omega (arith, gt, l, m, e)
    | inr le ↦
        let same : q ≡ s = omega (arith, ge, le) in
        elim apart [
          | inl n ↦ n same
          | inr n ↦ n (omega (arith, e, same))
        ]
  ]
]

-- an input's place is below 256
input-few : (flow : Dataflow) (s : ℕ) → IsWellFormed flow → is_input_kind (kind_of flow s) ≡ true → s < 256
input-few flow s w k = let there = input-there flow s k in omega (arith, there, w.limits.nodes)

-- the ids of roots are the last two
root_id-last : (turn : ℕ) → 2 ^ 64 - 2 ≤ root_id turn
root_id-last turn = omega (arith, mod-lt turn {m = 2} (omega arith))

-- none is that of a root
pub not-root : (flow : Dataflow) (s x turn : ℕ) → IsWellFormed flow → is_input_kind (kind_of flow s) ≡ true → x < 2 ^ 24 → root_id turn ≡ batch_id s x → ⊥
not-root flow s x turn w k l e =
    let few = input-few flow s w k in
    let large = root_id-last turn in
    omega (arith, few, l, e, large)
