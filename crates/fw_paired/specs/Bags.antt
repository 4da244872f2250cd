-- Lists of the same elements, in whatever order.
use Rattle.std.specs.Prelude.{◌≡◌, ℕ, List}
use Rattle.std.specs.List.{sum_by}

-- the second list has the elements of the first one, each as often: whatever each of them weighs, both lists weigh as much
abbrev pub AreReordered : {X : Type 0} → List X → List X → Type 0
AreReordered {X} xs ys = (weight : X → ℕ) → sum_by weight xs ≡ sum_by weight ys
