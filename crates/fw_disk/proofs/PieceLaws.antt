-- Bytes that are cut in pieces.
use Rattle.std.proofs.Common.{◌≡◌, ℕ, ◌<◌, ◌==◌, Bool, false, List, [], ◌∷◌, ◌++◌, length, refl, ap, ◌∙◌, eq-eqb, arith}
use Rattle.std.specs.List.{All, slice_split, position_or_len, before_first, after_first}
use Rattle.std.proofs.lemmas.List.Splits.{slice_split_none, slice_split_at, slice_split_first, length-slice_split}
use Rattle.std.proofs.lemmas.List.Sums.{fails_before_first}
use Rattle.fw_disk.specs.Pieces.{but_last, pieces}

but_last-cons : (x : List ℕ) (parts : List (List ℕ)) → 0 < length parts → but_last (x ∷ parts) ≡ x ∷ but_last parts
but_last-cons x [] l = absurd (omega arith)
but_last-cons x (part ∷ parts) l = refl

module _ (byte : ℕ) where
  abbrev is_it : ℕ → Bool
  is_it b = b == byte

  some_part : (text : List ℕ) → 0 < length (slice_split is_it text)
  some_part text = omega (arith, length-slice_split is_it text)

  pub pieces_none : (text : List ℕ) → position_or_len (λ b. b == byte) text ≡ length text → pieces byte text ≡ []
  pieces_none text e = ap but_last (slice_split_none is_it text (λ k d l. fails_before_first is_it text k d (omega (arith, e, l))))

  pub pieces_first : (text : List ℕ) → position_or_len (λ b. b == byte) text < length text
      → pieces byte text ≡ before_first (λ b. b == byte) text ∷ pieces byte (after_first (λ b. b == byte) text)
  pieces_first text l =
      ap but_last (slice_split_first is_it text 0 l) ∙ but_last-cons (before_first is_it text) (slice_split is_it (after_first is_it text)) (some_part (after_first is_it text))

  pub pieces_at : (piece rest : List ℕ) → All (λ b. (b == byte) ≡ false) piece → pieces byte (piece ++ byte ∷ rest) ≡ piece ∷ pieces byte rest
  pieces_at piece rest h = ap but_last (slice_split_at is_it piece byte rest h (eq-eqb byte byte refl)) ∙ but_last-cons piece (slice_split is_it rest) (some_part rest)
