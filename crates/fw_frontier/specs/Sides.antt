-- Frontiers of a domain with sides: a limit for each side.
use Rattle.std.specs.Prelude.{ℕ, ◌-◌, Bool, nat_eq, if◌then◌else◌, Option}
use Rattle.fw_frontier.specs.Below.{is_below}

-- whether the number that a time of a side stands for is below the limit of that side
abbrev pub is_below_side : (first second : Option ℕ) → (x y : ℕ) → Bool
is_below_side first second x y = if nat_eq y 0 then is_below first (x - 1) else is_below second (y - 1)
