-- Reading and spelling agree both ways: what is read is spelled by the bytes before those that are left, what is spelled is read
-- again, and the first broken field begins in the bytes or at their end.
use Rattle.std.specs.Prelude.{◌≡◌, ℕ, ◌<◌, ◌≤◌, Bool, true, List, ◌++◌, length, get_or, Some, None, Ok, Err}
use Rattle.fw_bytes.specs.Fields.{Field}
use Rattle.fw_bytes.specs.Reading.{Reading}

-- each of these numbers is a byte
abbrev pub AreBytes : List ℕ → Type 0
AreBytes bytes = (i : ℕ) → get_or bytes i 0 < 256

-- the bytes are a text and then the rest
pub record AreSplit (bytes text rest : List ℕ) : Type 0 where
  pub parts : bytes ≡ text ++ rest
  pub rest_fits : AreBytes rest

-- at most so many bytes are after a field
abbrev pub FieldLeaves : {A : Type 0} → ℕ → Field A → Type 0
FieldLeaves most None = Unit {0}
FieldLeaves most (Some x) = length x.1 ≤ most

-- at most so many bytes are after what was read, or from the first broken field on
abbrev pub Leaves : {A : Type 0} → ℕ → Reading A → Type 0
Leaves most (Ok x) = length x.1 ≤ most
Leaves most (Err left) = left ≤ most

-- a field is read as it is spelled: it takes the text of a value of the form, and no other bytes, whatever comes after
pub record IsExactField {A : Type 0} (read : List ℕ → Field A) (text : A → List ℕ) (Fits : A → Type 0) : Type 0 where
  pub takes : (bytes : List ℕ) (x : A × List ℕ) → AreBytes bytes → read bytes ≡ Some x → AreSplit bytes (text x.0) x.1 × Fits x.0
  pub again : (a : A) (rest : List ℕ) → Fits a → read (text a ++ rest) ≡ Some (a, rest)
  pub inside : (most : ℕ) (bytes : List ℕ) → length bytes ≤ most → FieldLeaves most (read bytes)

-- the same of whatever is read
pub record IsExactReading {A : Type 0} (read : List ℕ → Reading A) (text : A → List ℕ) (Fits : A → Type 0) : Type 0 where
  pub takes : (bytes : List ℕ) (x : A × List ℕ) → AreBytes bytes → read bytes ≡ Ok x → AreSplit bytes (text x.0) x.1 × Fits x.0
  pub again : (a : A) (rest : List ℕ) → Fits a → read (text a ++ rest) ≡ Ok (a, rest)
  pub inside : (most : ℕ) (bytes : List ℕ) → length bytes ≤ most → Leaves most (read bytes)

-- the same of a part of a list, which has to be allowed after the parts before it
pub record IsExactPart {A : Type 0} (part : List A → List ℕ → Reading A) (text : A → List ℕ) (Fits : A → Type 0) (rule : List A → A → Bool) : Type 0 where
  pub takes : (before : List A) (bytes : List ℕ) (x : A × List ℕ) → AreBytes bytes → part before bytes ≡ Ok x
      → AreSplit bytes (text x.0) x.1 × Fits x.0 × (rule before x.0 ≡ true)
  pub again : (before : List A) (a : A) (rest : List ℕ) → Fits a → rule before a ≡ true → part before (text a ++ rest) ≡ Ok (a, rest)
  pub inside : (before : List A) (most : ℕ) (bytes : List ℕ) → length bytes ≤ most → Leaves most (part before bytes)
