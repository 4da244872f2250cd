-- A table of what a sequence sent, with its running totals.
use Rattle.std.specs.Prelude.{◌≡◌, ℕ, ◌+◌, ◌-◌, ◌^◌, min, List, [], ◌∷◌, map}
use Rattle.std.specs.List.Sorted.{IsNonDecreasingBy}
use Rattle.fw_flow.specs.declared.sent_table.SentInEpoch.{SentInEpoch}

-- no epoch stands before a lesser one
abbrev pub EpochsAscend : List (ℕ × ℕ) → Type 0
EpochsAscend table = IsNonDecreasingBy (λ entry. entry.0) table

-- the epochs with their counts
abbrev pub counts_of : List SentInEpoch → List (ℕ × ℕ)
counts_of entries = map (λ e. (e.epoch, e.count)) entries

-- each entry has the sum of the counts up to it, where so many were sent before
abbrev pub HasRunningSums : ℕ → List SentInEpoch → Type 0
HasRunningSums before [] = Unit {0}
HasRunningSums before (e ∷ es) = (e.total ≡ min (before + e.count) (2 ^ 64 - 1)) × HasRunningSums (before + e.count) es

-- the entries are in order, with their totals
pub record AreRunningSums (entries : List SentInEpoch) : Type 0 where
  pub in_order : EpochsAscend (counts_of entries)
  pub totals : HasRunningSums 0 entries
