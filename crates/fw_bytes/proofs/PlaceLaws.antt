-- The first broken field begins in the bytes, or at their end.
use Rattle.std.proofs.Common.{ℕ, zero, suc, ◌≤◌, Bool, true, false, cond, List, [], ◌∷◌, ◌++◌, length, drop, take, Some, None, Ok, Err, arith}
use Rattle.std.specs.Prelude.{◌&&◌, nat_lt}
use Rattle.std.specs.Int.{Width, w32, w64, byte_len, from_be_bytes}
use Rattle.std.proofs.lemmas.List.{length-drop}
use Rattle.fw_bytes.specs.Fields.{Field, byte_of, number_field, coords_of, stamp_field, sent_count_of}
use Rattle.fw_bytes.specs.Reading.{Reading, ◌>>=◌, kept_if, any, many_of}
use Rattle.fw_bytes.specs.Exact.{FieldLeaves, Leaves}
use Rattle.fw_bytes.specs.Fields as field

-- ---- fields

-- a reader of fields leaves no more bytes than it is given
abbrev pub StaysInside : {A : Type 0} → (List ℕ → Field A) → Type 0
StaysInside read = (n : ℕ) (bytes : List ℕ) → length bytes ≤ n → FieldLeaves n (read bytes)

pub field_then : {A B : Type 0} (n : ℕ) (f : Field A) (k : A × List ℕ → Field B) → FieldLeaves n f → ((x : A × List ℕ) → length x.1 ≤ n → FieldLeaves n (k x)) → FieldLeaves n (field.◌>>=◌ f k)
field_then n None k h go = tt
field_then n (Some x) k h go = go x h

pub byte_inside : StaysInside byte_of
byte_inside n [] le = tt
byte_inside n (b ∷ rest) le = omega arith

pub number_inside : (w : Width) → StaysInside (number_field w)
number_inside w n bytes le =
    elim (nat_lt (length bytes) (byte_len w)) as (λ b. FieldLeaves n (cond b None (Some (from_be_bytes w (take (byte_len w) bytes), drop (byte_len w) bytes)))) [
      | true ↦ tt
      | false ↦ omega (arith, length-drop (byte_len w) bytes)
    ]

pub coords_inside : (k : ℕ) (before : List ℕ) → StaysInside (coords_of k before)
unfolding coords_of
coords_inside zero before n bytes le = le
coords_inside (suc k) before n bytes le =
    field_then n (number_field w32 bytes) (λ c. coords_of k (before ++ c.0 ∷ []) c.1) (number_inside w32 n bytes le) (λ c le'. coords_inside k (before ++ c.0 ∷ []) n c.1 le')

pub stamp_inside : StaysInside stamp_field
unfolding stamp_field
stamp_inside n bytes le =
    field_then n (byte_of bytes) (λ k. cond (nat_lt 0 k.0 && nat_lt k.0 5) (coords_of k.0 [] k.1) None) (byte_inside n bytes le) (λ k le'.
    elim (nat_lt 0 k.0 && nat_lt k.0 5) as (λ b. FieldLeaves n (cond b (coords_of k.0 [] k.1) None)) [ true ↦ coords_inside k.0 [] n k.1 le' | false ↦ tt ])

pub sent_count_inside : StaysInside sent_count_of
unfolding sent_count_of
sent_count_inside n bytes le =
    field_then n (stamp_field bytes) (λ v0. field.◌>>=◌ (number_field w64 v0.1) (λ v1. Some (record { cause = v0.0; count = v1.0 }, v1.1))) (stamp_inside n bytes le) (λ s0 l0.
    field_then n (number_field w64 s0.1) (λ v1. Some (record { cause = s0.0; count = v1.0 }, v1.1)) (number_inside w64 n s0.1 l0) (λ s1 l1.
    l1))

-- ---- readings

-- a reader leaves no more bytes than it is given, and finds broken what lies in them
abbrev pub ReadsInside : {A : Type 0} → (List ℕ → Reading A) → Type 0
ReadsInside read = (n : ℕ) (bytes : List ℕ) → length bytes ≤ n → Leaves n (read bytes)

pub inside_then : {A B : Type 0} (n : ℕ) (r : Reading A) (k : A × List ℕ → Reading B) → Leaves n r → ((x : A × List ℕ) → length x.1 ≤ n → Leaves n (k x)) → Leaves n (r >>= k)
inside_then n (Ok x) k h go = go x h
inside_then n (Err left) k h go = h

pub kept_inside : {A : Type 0} (rule : A → Bool) (n : ℕ) (bytes : List ℕ) (f : Field A) → length bytes ≤ n → FieldLeaves n f → Leaves n (kept_if rule bytes f)
kept_inside rule n bytes None le h = le
kept_inside rule n bytes (Some x) le h = elim (rule x.0) as (λ b. Leaves n (cond b (Ok x) (Err (length bytes)))) [ true ↦ h | false ↦ le ]

pub any_inside : {A : Type 0} (n : ℕ) (bytes : List ℕ) (f : Field A) → length bytes ≤ n → FieldLeaves n f → Leaves n (any bytes f)
any_inside n bytes None le h = le
any_inside n bytes (Some x) le h = h

pub many_inside : {A : Type 0} (part : List A → List ℕ → Reading A) → ((before : List A) → ReadsInside (part before)) → (k : ℕ) (before : List A) → ReadsInside (many_of part k before)
unfolding many_of
many_inside part each zero before n bytes le = le
many_inside part each (suc k) before n bytes le =
    inside_then n (part before bytes) (λ x. many_of part k (before ++ x.0 ∷ []) x.1) (each before n bytes le) (λ x le'. many_inside part each k (before ++ x.0 ∷ []) n x.1 le')

pub either_inside : {A : Type 0} (b : Bool) (n : ℕ) (p q : Reading A) → Leaves n p → Leaves n q → Leaves n (cond b p q)
either_inside true n p q h g = h
either_inside false n p q h g = g

-- a count and that many parts
pub counted_inside : {A : Type 0} (count : List ℕ → Field ℕ) → StaysInside count → (part : List A → List ℕ → Reading A)
    → ((before : List A) → ReadsInside (part before)) → ReadsInside (λ bytes. any bytes (count bytes) >>= λ n. many_of part n.0 [] n.1)
counted_inside count counted part each n bytes le =
    inside_then n (any bytes (count bytes)) (λ k. many_of part k.0 [] k.1) (any_inside n bytes (count bytes) le (counted n bytes le)) (λ k le'. many_inside part each k.0 [] n k.1 le')
