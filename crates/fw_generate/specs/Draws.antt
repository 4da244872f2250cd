-- What is drawn from a stream of words, one after another.
use Rattle.std.specs.Prelude.{ℕ, zero, suc, ◌%◌, List, [], ◌∷◌}
use Rattle.rand_pcg.specs.Lcg.{Lcg, started, increment_of}
use Rattle.rand_pcg.specs.Pcg.{multiplier_64, pcg32}

-- a stream of words, each by its place
abbrev pub Words : Type 0
Words = ℕ → ℕ

-- what is drawn from a stream, with the words that are left
abbrev pub Drawing : Type 0 → Type 0
Drawing A = Words → A × Words

-- a number below n: the next word modulo n
unfoldable pub draw : ℕ → Drawing ℕ
draw n words = (words zero % n, λ place. words (suc place))

-- what is drawn without a word
abbrev pub drawn : {A : Type 0} → A → Drawing A
drawn value words = (value, words)

infixl 10 ◌>>=◌
-- the second drawing, which may depend on what the first one gives, behind the first
abbrev pub ◌>>=◌ : {A B : Type 0} → Drawing A → (A → Drawing B) → Drawing B
(first >>= next) words = let one = first words in next one.0 one.1

-- so many drawings of one thing, one after another
abbrev pub drawn_times : {A : Type 0} → ℕ → Drawing A → Drawing (List A)
drawn_times zero drawing = drawn []
drawn_times (suc count) drawing = do
  first ← drawing
  others ← drawn_times count drawing
  drawn (first ∷ others)

-- the words that a generator gives, from its state on
abbrev pub words_drawn : Lcg → Words
words_drawn g zero = (pcg32 g).0
words_drawn g (suc place) = words_drawn (pcg32 g).1 place

-- the words that the generator gives which is started with a seed, on stream 54
abbrev pub words_from : ℕ → Words
words_from seed = words_drawn (started 64 multiplier_64 seed (increment_of 64 54))
