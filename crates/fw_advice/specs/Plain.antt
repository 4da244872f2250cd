-- What may be written to a terminal.
use Rattle.std.specs.Prelude.{◌≡◌, ℕ, ◌≤◌, ◌⊎◌}

-- the byte ends a line, or is printed as one character: it begins no command of a terminal
abbrev pub IsPlain : ℕ → Type 0
IsPlain b = (b ≡ 10) ⊎ ((32 ≤ b) × (b ≤ 126))
