-- What comes in turn on two in-edges.
use Rattle.std.proofs.Common.{◌≡◌, ℕ, ◌+◌, ◌≤◌, Bool, true, false, cond, ◌==◌, List, [], ◌∷◌, refl, sym, ap, ◌∙◌, arith}
use Rattle.std.proofs.lemmas.Bool.Decides.{nat_tests}
use Rattle.fw_time.specs.Stamp.{Stamp}
use Rattle.fw_time.specs.Sending.{side_stamp}
use Rattle.fw_bag.specs.Arrivals.{Arrival, arrivals_inside}
use Rattle.fw_numbered.specs.LawsOfZips.{how_many_on, AreInTurn, HasLesserNumbers, InsideIsInTurn}

fewer : (b : Bool) (k n : ℕ) → cond b (k + 1) k ≤ n → k ≤ n
fewer true k n l = omega arith
fewer false k n l = l

-- all that came on a side is inside, where a number is that is not below it
all-kept : (f : Stamp → Bool) → HasLesserNumbers f → (side n : ℕ) → f (side_stamp side n) ≡ true → (came : List Arrival) → AreInTurn came
    → how_many_on side came ≤ n → how_many_on side (arrivals_inside f came) ≡ how_many_on side came
all-kept f c side n h [] t l = refl
all-kept f c side n h (a ∷ came) t l = by (all-kept f c side n h came t.2 (fewer (a.side == side) (how_many_on side came) n l)) (a.side == side) refl
  where
    either : (b : Bool) → (a.side == side) ≡ false → how_many_on side (cond b (a ∷ arrivals_inside f came) (arrivals_inside f came)) ≡ how_many_on side (arrivals_inside f came)
    either true e = ap (λ x. cond x (how_many_on side (arrivals_inside f came) + 1) (how_many_on side (arrivals_inside f came))) e
    either false e = refl

    by : how_many_on side (arrivals_inside f came) ≡ how_many_on side came → (b : Bool) → (a.side == side) ≡ b
        → how_many_on side (cond (f a.at) (a ∷ arrivals_inside f came) (arrivals_inside f came))
        ≡ cond (a.side == side) (how_many_on side came + 1) (how_many_on side came)
    by same true e =
        let is : a.side ≡ side = grind (arith, nat_tests) in
        let few = fewer (a.side == side) (how_many_on side came) n l in
        let kept : f a.at ≡ true =
        ap f t.1 ∙ ap (λ s. f (side_stamp s (how_many_on s came))) is ∙ c side (how_many_on side came) n few h in
        ap (λ b. how_many_on side (cond b (a ∷ arrivals_inside f came) (arrivals_inside f came))) kept
        ∙ ap (λ k. cond (a.side == side) (k + 1) k) same
    by same false e =
        either (f a.at) e ∙ same ∙ sym (ap (λ x. cond x (how_many_on side came + 1) (how_many_on side came)) e)

pub inside_in_turn : InsideIsInTurn
inside_in_turn f c [] t = tt
inside_in_turn f c (a ∷ came) t = by (inside_in_turn f c came t.2) (f a.at) refl
  where
    by : AreInTurn (arrivals_inside f came) → (b : Bool) → f a.at ≡ b
        → AreInTurn (cond b (a ∷ arrivals_inside f came) (arrivals_inside f came))
    by rest true e = (
      t.0,
      t.1 ∙ ap (side_stamp a.side) (sym (all-kept f c a.side (how_many_on a.side came) (sym (ap f t.1) ∙ e) came t.2 (same-most (how_many_on a.side came)))),
      rest,
    )
      where
        same-most : (k : ℕ) → k ≤ k
        same-most k = omega arith
    by rest false e = rest
