-- Tests, and what follows from their answers.
use Rattle.std.proofs.Common.{◌≡◌, Bool, true, false, refl, sym, ◌∙◌, ◌||◌, ◌&&◌, not, ℕ, cond, ◌↔◌}
use Rattle.std.proofs.lemmas.Bool.{both_ways}

-- no test has both answers: the kit's `both_ways` with its sides turned
pub two_ways : (b : Bool) → b ≡ true → b ≡ false → ⊥
two_ways b p q = both_ways b q p

-- tests are the same where each passes if the other does
pub same_tests : (a b : Bool) → (a ≡ true → b ≡ true) → (b ≡ true → a ≡ true) → a ≡ b
same_tests true true p q = refl
same_tests true false p q = sym (p refl)
same_tests false true p q = q refl
same_tests false false p q = refl

-- what the wider of two tests leaves out, the narrower one leaves out
pub passes-not : (j k : Bool) → (j ≡ true → k ≡ true) → k ≡ false → j ≡ false
passes-not true k h e = sym (h refl) ∙ e
passes-not false k h e = refl

-- the first two of three in either order
pub or_swap : (a b c : Bool) → (a || (b || c)) ≡ (b || (a || c))
or_swap true true c = refl
or_swap true false c = refl
or_swap false b c = refl

-- of two tests that pass together the first passes
pub first_holds : (a b : Bool) → (a && b) ≡ true → a ≡ true
first_holds true b e = refl
first_holds false b e = absurd (cc)

-- and so does the second
pub second_holds : (a b : Bool) → (a && b) ≡ true → b ≡ true
second_holds true b e = e
second_holds false b e = absurd (cc)

-- an implication of tests, from what it says
pub implies-from : (a b : Bool) → (a ≡ true → b ≡ true) → (not a || b) ≡ true
implies-from true b h = h refl
implies-from false b h = refl

-- the first branch may be another number that is the same where it is taken
pub cond-one : (b : Bool) (m n o : ℕ) → (b ≡ true → m ≡ n) → cond b m o ≡ cond b n o
cond-one true m n o e = e refl
cond-one false m n o e = refl

-- statements that follow from each other, one step further
pub both-lead : {A B C : Type 0} → A ↔ B → B ↔ C → A ↔ C
both-lead f g = (λ a. g.0 (f.0 a), λ c. f.1 (g.1 c))
