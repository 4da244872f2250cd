-- What was written behind a text, by the words that were drawn for it.
use Rattle.std.specs.Prelude.{◌≡◌, ℕ, List, ◌++◌}
use Rattle.fw_generate.specs.Draws.{Words, Drawing}

-- what is drawn stands, as text, behind the bytes that were there, and the words that are left come next
pub record WritesDrawn {A : Type 0} (drawing : Drawing A) (as_text : A → List ℕ) (words left : Words) (old new : List ℕ) : Type 0 where
  pub behind : new ≡ old ++ as_text (drawing words).0
  pub after : left ≡ (drawing words).1
