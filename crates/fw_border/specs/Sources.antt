-- What is kept of the inputs of a dataflow.
use Rattle.std.specs.Prelude.{ℕ, ◌+◌, ◌-◌, ◌^◌, Bool, not, ◌&&◌, nat_lt, ◌==◌, if◌then◌else◌, List, [], ◌∷◌, ◌++◌, length, filter, Option, slice_index_or, slice_set}
use Rattle.std.specs.List.{enumerate_from, range_with_len}
use Rattle.std.specs.Map.{lookup}
use Rattle.fw_bag.specs.declared.rec.Rec.{Rec}
use Rattle.fw_frontier.specs.Front.{Front, inside}
use Rattle.fw_flow.specs.Counting.{how_many}
use Rattle.fw_flow.specs.declared.choice.Cut.{Cut}
use Rattle.fw_flow.specs.declared.choice.Cut.TheVariants.{Present, At}

-- of an input: how many batches it was given, how many of these were injected, and the batches that are not given up, by epoch
pub record SourceState : Type 0 where
  pub given : ℕ
  pub injected : ℕ
  pub held : List (ℕ × List Rec)

-- an input with these batches, of which none was injected or given up
abbrev pub unused_source : List (List Rec) → SourceState
unused_source batches = record { given = length batches; injected = 0; held = enumerate_from 0 batches }

-- the input at a place; without batches past the last one
abbrev pub source_at : List SourceState → ℕ → SourceState
source_at sources s = slice_index_or sources s (unused_source [])

-- the inputs with one changed
abbrev pub with_source : (SourceState → SourceState) → List SourceState → ℕ → List SourceState
with_source change sources s = slice_set sources s (change (source_at sources s))

-- the batch that is injected next: that of the epoch after those injected, if it is held
abbrev pub next_batch : SourceState → Option (List Rec)
next_batch source = lookup (λ x. source.injected == x) source.held

-- with one batch more injected, if there is one
abbrev pub advanced : SourceState → SourceState
advanced source = if nat_lt source.injected source.given then record source { injected = source.injected + 1 } else source

-- how many of the first n epochs are inside
abbrev pub epochs_inside : Front → ℕ → ℕ
epochs_inside f n = how_many (λ x. inside f (x ∷ [])) (range_with_len 0 n)

-- with those injections alone that lie within the cut
abbrev pub rolled_source : Cut → SourceState → SourceState
rolled_source Present source = source
rolled_source (At f) source = record source { injected = epochs_inside f source.injected }

-- without the batches of the epochs inside
abbrev pub given_up : Front → SourceState → SourceState
given_up f source = record source { held = filter (λ batch. not (inside f (batch.0 ∷ []))) source.held }

-- all but the last
abbrev pub without_last : {X : Type 0} → List X → List X
without_last [] = []
without_last (x ∷ []) = []
without_last (x ∷ y ∷ xs) = x ∷ without_last (y ∷ xs)

-- what is kept of a source that is fed a batch, which takes the place of its last one, with these behind it
abbrev pub fed_source : List Rec → List (List Rec) → SourceState → SourceState
fed_source recs behind source = record {
  given = source.given + length behind;
  injected = source.injected;
  held = without_last source.held ++ enumerate_from (source.given - 1) (recs ∷ behind);
}

-- whether another batch can take the place of the last one: it is held, and there can be one more
abbrev pub can_be_fed : SourceState → Bool
can_be_fed source = nat_lt 0 (length source.held) && nat_lt source.given (2 ^ 64 - 1)

-- with this batch in the place of the last one, and an empty one behind it, where that can be
abbrev pub fed_batch : List Rec → SourceState → SourceState
fed_batch recs source = if can_be_fed source then fed_source recs ([] ∷ []) source else source
