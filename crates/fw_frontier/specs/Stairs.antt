-- Frontiers of a loop by a step for each counter.
use Rattle.std.specs.Prelude.{◌≡◌, ℕ, ◌≤◌, Bool, true, List, slice_index_or}

-- each step lies within each before; the last one stands for all later counters
abbrev pub IsDescending : {F T : Type 0} → (F → T → Bool) → List F → F → Type 0
IsDescending {F} {T} inside steps last =
    (c d : ℕ) (t : T) → c ≤ d → inside (slice_index_or steps d last) t ≡ true → inside (slice_index_or steps c last) t ≡ true
