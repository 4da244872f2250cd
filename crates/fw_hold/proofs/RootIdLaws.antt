-- The two ids of roots, in turn.
use Rattle.std.proofs.Common.{◌≡◌, ◌⊎◌, inl, inr, ℕ, zero, suc, ◌+◌, ◌-◌, ◌%◌, ◌^◌, ◌<◌, ◌≤◌, refl, sym, ◌∙◌, ap, arith}
use Rattle.std.proofs.Math.Nat.{add-mod_right, mod-add-div, mod-lt}
use Rattle.fw_hold.specs.Found.{IsRootId}
use Rattle.fw_hold.specs.Kept.{root_id}

-- a rest by two is 0 or 1
pub rest : (turn : ℕ) → (turn % 2 ≡ 0) ⊎ (turn % 2 ≡ 1)
rest turn = by (turn % 2) (mod-lt turn {m = 2} (omega arith))
  where
    by : (r : ℕ) → r < 2 → (r ≡ 0) ⊎ (r ≡ 1)
    by zero lt = inl refl
    by (suc zero) lt = inr refl
    by (suc (suc r)) lt = absurd (omega (arith, lt))

-- the id of a turn's root is one of the two
pub root_id-one : (turn : ℕ) → IsRootId (root_id turn)
root_id-one turn = elim (rest turn) [
  | inl e ↦ inl (ap (λ r. 2 ^ 64 - 1 - r) e)
  | inr e ↦ inr (ap (λ r. 2 ^ 64 - 1 - r) e)
]

-- two turns later it is the same
pub root_id-again : (turn : ℕ) → root_id (turn + 2) ≡ root_id turn
root_id-again turn = ap (λ r. 2 ^ 64 - 1 - r) (add-mod_right turn 2)

-- that of the next turn is the other
pub root_id-other : (turn : ℕ) → root_id turn ≡ root_id (turn + 1) → ⊥
root_id-other turn e =
    omega (arith, e, mod-add-div turn 2, mod-add-div (turn + 1) 2, mod-lt turn {m = 2} (omega arith), mod-lt (turn + 1) {m = 2} (omega arith))

-- no id that is drawn comes near
pub root_id-large : (turn : ℕ) → 2 ^ 63 ≤ root_id turn
root_id-large turn = omega (arith, mod-lt turn {m = 2} (omega arith))

-- one of the two ids is that of a turn, or of the next one
pub root_id-either : (turn id : ℕ) → IsRootId id → (id ≡ root_id turn) ⊎ (id ≡ root_id (turn + 1))
root_id-either turn id h = elim (rest turn) [
  | inl e ↦ elim h [
    | inl f ↦ inl (f ∙ ap (λ r. 2 ^ 64 - 1 - r) (sym e))
    | inr f ↦ inr (f ∙ omega (arith, e, mod-add-div turn 2, mod-add-div (turn + 1) 2, mod-lt (turn + 1) {m = 2} (omega arith)))
  ]
  | inr e ↦ elim h [
    | inl f ↦ inr (f ∙ omega (arith, e, mod-add-div turn 2, mod-add-div (turn + 1) 2, mod-lt (turn + 1) {m = 2} (omega arith)))
    | inr f ↦ inl (f ∙ ap (λ r. 2 ^ 64 - 1 - r) (sym e))
  ]
]
