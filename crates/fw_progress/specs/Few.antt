-- The entries of a tally, of which one alone stands in place.
use Rattle.std.specs.Prelude.{ℕ, List, [], ◌∷◌}
use Rattle.fw_time.specs.Stamp.{Stamp}
use Rattle.fw_progress.specs.declared.tally.Few.{Few}
use Rattle.fw_progress.specs.declared.tally.Few.TheVariants.{One, Many}

-- the entries, in order
abbrev pub entries_of : Few → List (Stamp × ℕ)
entries_of (One s n) = (s, n) ∷ []
entries_of (Many counts) = counts.entries
