-- Parts of texts between separators.
use Rattle.std.proofs.Common.{◌≡◌, ℕ, ◌+◌, ◌-◌, ◌<◌, ◌≤◌, Bool, not, List, [], ◌∷◌, length, take, drop, sym, ◌∙◌, ap, arith, length-take, length-drop, slice_range}
use Rattle.std.proofs.lemmas.List.{take-take, drop-take, drop-drop}
use Rattle.std.proofs.lemmas.List.Splits.{slice_split_first, slice_split_none}
use Rattle.std.proofs.lemmas.List.Sums.{prefix_len_passes}
use Rattle.std.specs.List.{slice_split, prefix_len}
use Rattle.std.proofs.lemmas.Bool.{not-true}

pub length-slice_range : (xs : List ℕ) (from to : ℕ) → to ≤ length xs → length (slice_range xs from to) ≡ to - from
length-slice_range xs from to h = omega (arith, length-take (to - from) (drop from xs), length-drop from xs)

-- where no separator is met there is one part
pub one_part : (p : ℕ → Bool) (xs : List ℕ) → prefix_len (λ b. not (p b)) xs ≡ length xs → slice_split p xs ≡ xs ∷ []
one_part p xs e =
    slice_split_none p xs (λ k d h. not-true (p _) (prefix_len_passes (λ b. not (p b)) xs k d (omega (arith, e, h))))

-- what follows the n bytes and the separator
pub behind : (xs : List ℕ) (from to n : ℕ) → from + n < to → drop (n + 1) (slice_range xs from to) ≡ slice_range xs (from + n + 1) to
behind xs from to n h =
    let whole : to - from ≡ (n + 1) + (to - (from + n + 1)) = omega arith in
    let place : from + (n + 1) ≡ from + n + 1 = omega arith in
    ap (λ k. drop (n + 1) (take k (drop from xs))) whole
    ∙ drop-take (n + 1) (to - (from + n + 1)) (drop from xs)
    ∙ ap (take (to - (from + n + 1))) (drop-drop (n + 1) from xs)
    ∙ ap (λ k. take (to - (from + n + 1)) (drop k xs)) place

-- the n bytes before the separator
pub before : (xs : List ℕ) (from to n : ℕ) → from + n < to → take n (slice_range xs from to) ≡ slice_range xs from (from + n)
before xs from to n h =
    let short : n ≤ to - from = omega arith in
    let long : n ≡ from + n - from = omega arith in
    take-take n (to - from) (drop from xs) short ∙ ap (λ k. take k (drop from xs)) long

-- where a separator is met after n bytes they are the first part
pub first_part : (p : ℕ → Bool) (xs : List ℕ) (from to n : ℕ) → to ≤ length xs → n ≡ prefix_len (λ b. not (p b)) (slice_range xs from to) → from + n < to → slice_split p (slice_range xs from to) ≡ slice_range xs from (from + n) ∷ slice_split p (slice_range xs (from + n + 1) to)
first_part p xs from to n within e h =
    let ys = slice_range xs from to in
    let inside : prefix_len (λ b. not (p b)) ys < length ys = omega (arith, e, length-slice_range xs from to within) in
    slice_split_first p ys 0 inside
    ∙ ap (λ k. take k ys ∷ slice_split p (drop (k + 1) ys)) (sym e)
    ∙ ap (λ zs. zs ∷ slice_split p (drop (n + 1) ys)) (before xs from to n h)
    ∙ ap (λ zs. slice_range xs from (from + n) ∷ slice_split p zs) (behind xs from to n h)
