-- What a function without memory gives.
use Rattle.std.specs.Prelude.{◌≡◌, ℕ, Result, Ok, Err}

-- what a function returned, seen by view, is what reading gives
abbrev pub Reads : {X Y : Type 0} → (X → Y) → Result X ℕ → Result Y ℕ → Type 0
Reads view (Ok x) reading = reading ≡ Ok (view x)
Reads view (Err left) reading = reading ≡ Err left
