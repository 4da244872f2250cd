-- The place of a root is found again.
use Rattle.std.proofs.Common.{◌≡◌, ◌⊎◌, inl, inr, ℕ, zero, suc, ◌+◌, ◌-◌, ◌<◌, ◌≤◌, Bool, true, false, cond, nat_lt, List, [], ◌∷◌, length, slice_get, Some, None, refl, sym, ◌∙◌, ap, subst, arith}
use Rattle.std.specs.List.{AllByRecursion, AllPairs}
use Rattle.std.proofs.lemmas.Bool.{cases_lt, lt-ltb, le-ltb}
use Rattle.std.proofs.lemmas.List.Elements.{recursion_from_All}
use Rattle.std.proofs.lemmas.Option.{same_Some}
use Rattle.fw_schedule.specs.declared.item.Item.{Item}
use Rattle.fw_schedule.specs.Schedule.{steps_in}
use Rattle.fw_keep.specs.Catalogue.{AreAscending}
use Rattle.fw_hold.specs.Kept.{AreSinglesOf, line_at, line_behind, ended_before, singles_of}

-- numbers that ascend, by recursion
pub ascending : (numbers : List ℕ) → AllPairs (λ a b. a < b) numbers → AreAscending numbers
ascending [] h = tt
ascending (n ∷ ns) h = (
  recursion_from_All (λ m. n < m) ns (λ k d within. h 0 (suc k) d (omega arith) (omega (arith, within))),
  ascending ns (λ i j d lt within. h (suc i) (suc j) d (omega (arith, lt)) (omega (arith, within))),
)

-- a number that is below all of these is below the line of each place among them
below : (n m : ℕ) (numbers : List ℕ) (ended : ℕ) → AllByRecursion (λ k. n < k) (m ∷ numbers) → n < line_at (m ∷ numbers) ended
below n m numbers zero all = all.0
below n m [] (suc ended) all = omega (arith, all.0)
below n m (k ∷ numbers) (suc ended) all = below n k numbers ended all.1

-- so many lines stand before the line of a place
pub found_again : (numbers : List ℕ) (ended : ℕ) → AreAscending numbers → ended ≤ length numbers → ended_before numbers (line_at numbers ended) ≡ ended
found_again [] zero asc le = refl
found_again [] (suc ended) asc le = absurd (omega (arith, le))
found_again (n ∷ ns) zero asc le = ap (λ b. cond b (1 + ended_before ns n) 0) (le-ltb n n (omega arith))
found_again (n ∷ []) (suc zero) asc le = ap (λ b. cond b (1 + 0) 0) (lt-ltb n (n + 1) (omega arith))
found_again (n ∷ []) (suc (suc ended)) asc le = absurd (omega (arith, le))
found_again (n ∷ m ∷ ns) (suc ended) asc le =
    ap (λ b. cond b (1 + ended_before (m ∷ ns) (line_at (m ∷ ns) ended)) 0) (lt-ltb n (line_at (m ∷ ns) ended) (below n m ns ended asc.0))
    ∙ omega (arith, found_again (m ∷ ns) ended asc.1 (omega (arith, le)))

behind_at : (numbers : List ℕ) (i n : ℕ) → suc i ≡ length numbers → slice_get numbers i ≡ Some n → n + 1 ≡ line_behind numbers
behind_at [] i n l e = absurd (omega (arith, l))
behind_at (m ∷ []) zero n l e = ap (λ k. k + 1) (sym (same_Some m n e))
behind_at (m ∷ []) (suc i) n l e = absurd (omega (arith, l))
behind_at (m ∷ k ∷ ns) zero n l e = absurd (omega (arith, l))
behind_at (m ∷ k ∷ ns) (suc i) n l e = behind_at (k ∷ ns) i n (omega (arith, l)) e

-- the line behind the last of some
pub behind_last : (numbers : List ℕ) (n : ℕ) → Some n ≡ slice_get numbers (length numbers - 1) → n + 1 ≡ line_behind numbers
behind_last [] n e = absurd (let no : Some n ≡ None = e in cc)
behind_last (m ∷ ns) n e = behind_at (m ∷ ns) (length (m ∷ ns) - 1) n (omega arith) (sym e)

-- ---- where a run stands

-- what is taken for single steps are some of the item
pub singles_are : (items : List Item) (said : ℕ) → AreSinglesOf items (singles_of items said)
singles_are [] said = refl
singles_are (item ∷ items) said = elim (cases_lt said (steps_in item)) [
  | inl lt ↦ subst (λ b. (cond b said 0 ≡ 0) ⊎ (cond b said 0 < steps_in item)) (sym (lt-ltb said (steps_in item) lt)) (inr lt)
  | inr le ↦ subst (λ b. (cond b said 0 ≡ 0) ⊎ (cond b said 0 < steps_in item)) (sym (le-ltb said (steps_in item) le)) (inl refl)
]

-- no more lines stand before a line than there are
pub ended_few : (numbers : List ℕ) (line : ℕ) → ended_before numbers line ≤ length numbers
ended_few [] line = omega arith
ended_few (n ∷ ns) line = by (ended_few ns line) (nat_lt n line)
  where
    by : ended_before ns line ≤ length ns → (b : Bool) → cond b (1 + ended_before ns line) 0 ≤ suc (length ns)
    by more true = omega (arith, more)
    by more false = omega arith
