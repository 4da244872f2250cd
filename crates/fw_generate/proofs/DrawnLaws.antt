-- What is true of all that is drawn in a row.
use Rattle.std.proofs.Common.{◌≡◌, ℕ, zero, suc, ◌*◌, ◌≤◌, List, [], ◌∷◌, length, refl, ap, arith}
use Rattle.std.proofs.lemmas.List.{length-append}
use Rattle.std.specs.List.{AllByRecursion, flat_map}
use Rattle.fw_generate.specs.Draws.{Words, Drawing, drawn_times}

pub drawn-each : {A : Type 0} (P : A → Type 0) (drawing : Drawing A) → ((words : Words) → P (drawing words).0) → (count : ℕ) (words : Words)
    → AllByRecursion P (drawn_times count drawing words).0
drawn-each P drawing each zero words = tt
drawn-each P drawing each (suc count) words = (each words, drawn-each P drawing each count (drawing words).1)

pub length-drawn : {A : Type 0} (drawing : Drawing A) (count : ℕ) (words : Words) → length (drawn_times count drawing words).0 ≡ count
length-drawn drawing zero words = refl
length-drawn drawing (suc count) words = ap suc (length-drawn drawing count (drawing words).1)

-- parts of at most so many bytes each
pub joined_length : {A : Type 0} (as_text : A → List ℕ) (most : ℕ) (xs : List A) → AllByRecursion (λ x. length (as_text x) ≤ most) xs
    → length (flat_map as_text xs) ≤ most * length xs
joined_length as_text most [] each = omega arith
joined_length as_text most (x ∷ xs) each = omega (arith, length-append (as_text x) (flat_map as_text xs), each.0, joined_length as_text most xs each.1)
