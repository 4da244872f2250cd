-- Frontiers of types of times, seen from the domain.
use Rattle.std.specs.Prelude.{◌≡◌, ℕ, Bool, List}
use Rattle.fw_time.specs.Stamp.{glb}
use Rattle.fw_time.specs.declared.stamp.Bounds.{Bounds}

-- past the domain the test goes on as at the domain's last stamps: no outside time lies past the domain
abbrev pub IsOfDomain : {T : Type 0} → (T → List ℕ) → (List ℕ → T) → Bounds → (T → Bool) → Type 0
IsOfDomain {T} coords of_coords bounds test = (t : T) → test t ≡ test (of_coords (glb (coords t) bounds.greatest))
