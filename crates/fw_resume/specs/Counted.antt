-- What is pending, owed and sent, as lists of a root.
use Rattle.std.specs.Prelude.{◌≡◌, ℕ, ◌<◌, ◌^◌, List, length, map}
use Rattle.std.specs.List.{AllByRecursion, flat_map, range_with_len}
use Rattle.std.specs.List.Sorted.{IsStrictlySortedBy}
use Rattle.std.specs.Map.{keys_of}
use Rattle.fw_time.specs.Stamp.{Stamp, stamp_cmp}
use Rattle.fw_progress.specs.declared.counts.Counts.{Counts}
use Rattle.fw_progress.specs.Counts.{owed_of, pending_of}
use Rattle.fw_root.specs.declared.root.OwedAt.{OwedAt}
use Rattle.fw_root.specs.declared.root.PendingAt.{PendingAt}

-- so many messages at a stamp, pending on edge e
abbrev pub pending_on : ℕ → Stamp × ℕ → PendingAt
pending_on e entry = record { edge = e; at = entry.0; count = entry.1 }

-- a stamp, owed to node p
abbrev pub owed_to : ℕ → Stamp × ℕ → OwedAt
owed_to p entry = record { node = p; at = entry.0 }

-- These are the messages that are pending on the first n edges, edge by edge, by stamps that ascend.
pub record ArePendingOf (counts : Counts) (n : ℕ) (all : List PendingAt) : Type 0 where
  pub each : all ≡ flat_map (λ e. map (pending_on e) (pending_of counts e)) (range_with_len 0 n)
  pub in_order : (e : ℕ) → e < n → IsStrictlySortedBy stamp_cmp (keys_of (pending_of counts e))

-- 64 bits can say each of these numbers
abbrev pub HaveSmallCounts : List PendingAt → Type 0
HaveSmallCounts all = AllByRecursion (λ (p : PendingAt). p.count < 2 ^ 64) all

-- 64 bits can say how many these are, and each of their numbers.
pub record AreSmall (all : List PendingAt) : Type 0 where
  pub few : length all < 2 ^ 64
  pub counts : HaveSmallCounts all

-- These are the stamps that are owed to the first n nodes, node by node, in order.
pub record AreOwedOf (counts : Counts) (n : ℕ) (all : List OwedAt) : Type 0 where
  pub each : all ≡ flat_map (λ p. map (owed_to p) (owed_of counts p)) (range_with_len 0 n)
  pub in_order : (p : ℕ) → p < n → IsStrictlySortedBy stamp_cmp (keys_of (owed_of counts p))
