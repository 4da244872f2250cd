-- How what a sequence sent is told stamp by stamp.
use Rattle.std.specs.Prelude.{◌≡◌, ◌⊎◌, ℕ, ◌+◌, ◌-◌, ◌<◌, ◌^◌, Bool, true, false, not, List, [], ◌∷◌, ◌++◌, length, slice_get, nat_lt, Option}
use Rattle.std.specs.Option.{option_map_or}
use Rattle.fw_time.specs.Stamp.{Stamp, same}
use Rattle.fw_frontier.specs.Front.{Front, inside}
use Rattle.fw_frontier.specs.declared.state.SentCount.{SentCount}
use Rattle.fw_settle.specs.Checkpoints.{is_stamp_since}

-- whether the last of these counts is of a stamp
abbrev pub is_last_of : Stamp → List SentCount → Bool
is_last_of cause sends = option_map_or (λ (last : SentCount). same last.cause cause) (slice_get sends (length sends - 1)) false

-- the last count is taken out, if it is of a stamp, and is so many; it is none where it is of another one
abbrev pub HasTaken : Stamp → ℕ → List SentCount → List SentCount → Type 0
HasTaken cause count old new =
    (old ≡ new ++ record { cause = cause; count = count } ∷ []) ⊎ ((is_last_of cause old ≡ false) × (count ≡ 0) × (new ≡ old))

-- So many more are told of a stamp: with those of the last count, if it is of the stamp, and else by a count of their own.
pub record HasCount (cause : Stamp) (count : ℕ) (old new : List SentCount) : Type 0 where
  pub before : ℕ
  pub left : List SentCount
  pub taken : HasTaken cause before old left
  pub fits : before + count < 2 ^ 64
  pub put : new ≡ left ++ record { cause = cause; count = before + count } ∷ []

-- So many are told of an epoch, if it is inside and there are some.
pub record HasSends (is_inside : Bool) (epoch count : ℕ) (old new : List SentCount) : Type 0 where
  pub small : epoch < 2 ^ 32
  pub none : count ≡ 0 → new ≡ old
  pub out : is_inside ≡ false → new ≡ old
  pub some : (count ≡ 0 → ⊥) → is_inside ≡ true → HasCount (epoch ∷ []) count old new

-- the epochs inside are those below the limit
abbrev pub IsEpochLimit : Front → ℕ → Type 0
IsEpochLimit f limit = (epoch : ℕ) → epoch < 2 ^ 32 → nat_lt epoch limit ≡ inside f (epoch ∷ [])

-- the epochs from the first one on are those outside the front since which changes are told
abbrev pub IsFirstSince : Option Front → ℕ → Type 0
IsFirstSince since first = (epoch : ℕ) → epoch < 2 ^ 32 → not (nat_lt epoch first) ≡ is_stamp_since since (epoch ∷ [])
