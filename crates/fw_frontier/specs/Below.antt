-- The numbers below a limit.
use Rattle.std.specs.Prelude.{ℕ, Bool, true, nat_lt, Option, Some, None}

-- whether a number is below the limit, as each is where there is none
abbrev pub is_below : Option ℕ → ℕ → Bool
is_below None n = true
is_below (Some limit) n = nat_lt n limit
