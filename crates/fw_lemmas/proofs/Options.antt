-- What is there or not.
use Rattle.std.proofs.Common.{◌≡◌, ℕ, List, [], Option, Some, None, ap, Bool, true, false, cond, refl, sym, unwrap_or}

-- texts that are there are the same where their options are
pub some-is : (a b : List ℕ) → Some a ≡ Some b → a ≡ b
some-is a b e = ap of_some e
  where
    of_some : Option (List ℕ) → List ℕ
    of_some None = []
    of_some (Some x) = x

-- what is 0 where it is not found is read as it is
pub found_or_none : (b : Bool) (n : ℕ) → (b ≡ false → n ≡ 0) → unwrap_or (cond b (Some n) None) 0 ≡ n
found_or_none true n h = refl
found_or_none false n h = sym (h refl)
