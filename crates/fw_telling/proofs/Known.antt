-- What is known of a file's bytes.
use Rattle.std.proofs.Common.{◌≡◌, ℕ, List, Option, Some, None, IfSome, subst}
use Rattle.fw_telling.specs.declared.reading.Reading.{Reading}
use Rattle.fw_telling.specs.Read.{IsReadingOf, MayComeOf, bytes_read}

-- what holds of the bytes of a file holds of the bytes that are known of its name, if the file has these
pub through : (known left : Option (List ℕ)) (P : List ℕ → Type 0) → IfSome known (λ bytes. left ≡ Some bytes) → IfSome left P → IfSome known P
through None left P same h = tt
through (Some bytes) left P same h = subst (λ o. IfSome o P) same h

-- a reading of known bytes may come of them
pub read_known : (limit : ℕ) (known : Option (List ℕ)) (reading : Reading) → IfSome known (λ bytes. IsReadingOf limit bytes reading)
    → IfSome known (λ bytes. MayComeOf limit bytes reading)
read_known limit None reading h = tt
read_known limit (Some bytes) reading h = λ some. h

-- where nothing was read, that may come of any bytes
pub read_nothing : (limit : ℕ) (known : Option (List ℕ)) (reading : Reading) → bytes_read reading ≡ None → IfSome known (λ bytes. MayComeOf limit bytes reading)
read_nothing limit None reading e = tt
read_nothing limit (Some bytes) reading e = λ some. absurd (cc)
