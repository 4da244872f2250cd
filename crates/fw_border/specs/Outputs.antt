-- What is kept of the outputs of a dataflow.
use Rattle.std.specs.Prelude.{ℕ, ◌+◌, ◌<◌, Bool, nat_lt, if◌then◌else◌, List, [], ◌∷◌, length, filter, unwrap_or, slice_index_or, slice_set}
use Rattle.std.specs.BTreeMap.{insert_entry, is_at}
use Rattle.std.specs.List.{AllByRecursion}
use Rattle.std.specs.List.Sorted.{IsStrictlySortedBy}
use Rattle.std.specs.Map.{keys_of, lookup, remove_entry}
use Rattle.std.specs.Ordering.{nat_cmp}
use Rattle.fw_bag.specs.declared.rec.Rec.{Rec}
use Rattle.fw_bag.specs.Bag.{with_rec}
use Rattle.fw_frontier.specs.Front.{inside}
use Rattle.fw_flow.specs.declared.choice.Cut.{Cut}
use Rattle.fw_flow.specs.declared.choice.Cut.TheVariants.{Present, At}

-- of an output: how many stamps it acknowledged, which is the next one, and its recs by stamp, which are bags
pub record OutputState : Type 0 where
  pub bound : ℕ
  pub recs : List (ℕ × List Rec)

-- the outputs, and whether memory was refused
pub record OutputsState : Type 0 where
  pub outputs : List OutputState
  pub refused : Bool

-- an output that acknowledged nothing and has no rec
abbrev pub new_output : OutputState
new_output = record { bound = 0; recs = [] }

-- the output at a place; one without recs past the last one
abbrev pub output_at : List OutputState → ℕ → OutputState
output_at outputs o = slice_index_or outputs o new_output

-- the outputs with one changed
abbrev pub with_output : (OutputState → OutputState) → List OutputState → ℕ → List OutputState
with_output change outputs o = slice_set outputs o (change (output_at outputs o))

-- the recs at a number, none where none is kept
abbrev pub recs_at_number : List (ℕ × List Rec) → ℕ → List Rec
recs_at_number recs x = unwrap_or (lookup (is_at (nat_cmp x)) recs) []

-- with one rec more at a number, if that is not acknowledged
abbrev pub with_rec_at : ℕ → Rec → OutputState → OutputState
with_rec_at x r output =
    if nat_lt x output.bound then output else record output { recs = insert_entry nat_cmp output.recs x (with_rec r (recs_at_number output.recs x)) }

-- the recs at the bound, which are acknowledged next
abbrev pub next_recs : OutputState → List Rec
next_recs output = recs_at_number output.recs output.bound

-- without the recs at the bound, which is one more
abbrev pub acknowledged : OutputState → OutputState
acknowledged output = record { bound = output.bound + 1; recs = remove_entry (is_at (nat_cmp output.bound)) output.recs }

-- with the recs alone that lie within the cut
abbrev pub rolled_output : Cut → OutputState → OutputState
rolled_output Present output = output
rolled_output (At f) output = record output { recs = filter (λ e. inside f (e.0 ∷ [])) output.recs }

-- without recs
abbrev pub cleared : OutputState → OutputState
cleared output = record output { recs = [] }

-- the numbers ascend with no two equal, and at each there is a rec
pub record AreByNumber (recs : List (ℕ × List Rec)) : Type 0 where
  pub ordered : IsStrictlySortedBy nat_cmp (keys_of recs)
  pub some : AllByRecursion (λ e. 0 < length e.1) recs
