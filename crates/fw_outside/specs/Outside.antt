-- What the calls of a folder, a store and a sink promise.
use Rattle.std.specs.Prelude.{◌≡◌, ◌⊎◌, ℕ, ◌+◌, ◌-◌, ◌^◌, ◌<◌, ◌≤◌, min, max, Option, Result, Ok, Err, List, ◌++◌, length, take, IfSome, IsSome, IsSomeAnd, option_map}
use Rattle.std.specs.Ordering.{nat_cmp}
use Rattle.std.specs.FinMap.{FinMap}
use Rattle.fw_outside.specs.declared.fault.Failed.{Failed as CallFailed}
use Rattle.fw_outside.specs.declared.fault.FetchFault.{FetchFault}
use Rattle.fw_outside.specs.declared.fault.FetchFault.TheVariants as fetch
use Rattle.fw_outside.specs.declared.fault.OutFault.{OutFault}
use Rattle.fw_outside.specs.declared.fault.OutFault.TheVariants.{Failed, NoMemory}

-- a count of faults or of refusals rose, or stood at the end of its type before
abbrev pub Rose : ℕ → ℕ → Type 0
Rose before after = (before < after) ⊎ (before ≡ 2 ^ 64 - 1)

-- a count with one more; at the end of its type, or above, it stays where it is
abbrev pub one_more : ℕ → ℕ
one_more count = max count (min (count + 1) (2 ^ 64 - 1))

-- how often a store or a sink has failed after a call that answered so: once more where it failed, and else as often as before
abbrev pub faults_after : {T : Type 0} → Result T OutFault → ℕ → ℕ
faults_after (Ok x) count = count
faults_after (Err Failed) count = one_more count
faults_after (Err NoMemory) count = count

-- how often a store has failed after it was asked so whether a record is there: once more where it failed, and else as often as before
abbrev pub has_faults_after : {T : Type 0} → Result T CallFailed → ℕ → ℕ
has_faults_after (Ok x) count = count
has_faults_after (Err failed) count = one_more count

-- how often a sink has refused after a call that answered so: once more where it refused, and else as often as before
abbrev pub refusals_after : {T : Type 0} → Result T OutFault → ℕ → ℕ
refusals_after (Ok x) count = count
refusals_after (Err fault) count = one_more count

-- how often a folder has failed after a call that answered so: once more where it failed, and else as often as before
abbrev pub fetch_faults_after : {T : Type 0} → Result T FetchFault → ℕ → ℕ
fetch_faults_after (Ok x) count = count
fetch_faults_after (Err fetch.Failed) count = one_more count
fetch_faults_after (Err fetch.TooLarge) count = count
fetch_faults_after (Err fetch.NoMemory) count = count

-- these bytes are the text under a name, where the folder tells its texts
abbrev pub IsText : Option (List ℕ → Option (List ℕ)) → List ℕ → List ℕ → Type 0
IsText texts name bytes = IfSome texts (λ text. text name ≡ Option.Some bytes)

-- the text under a name has more bytes than the limit, and begins with these, where the folder tells its texts
abbrev pub IsCutText : Option (List ℕ → Option (List ℕ)) → List ℕ → ℕ → List ℕ → Type 0
IsCutText texts name limit bytes =
    IfSome texts (λ text. IsSomeAnd (text name) (λ whole. (limit < length whole) × (bytes ≡ take (limit + 1) whole)))

-- What is known of a store: the bytes of each id, where it tells them; the id and the bytes that it gave last, if it gave any; and how
-- often it failed.
pub record StoreView : Type 0 where
  pub records : Option (FinMap nat_cmp (List ℕ))
  pub given : Option (ℕ × List ℕ)
  pub faults : ℕ

-- The records that a store tells after a call are those that it told before; it may have ceased to tell them.
abbrev pub StayIfTold : Option (FinMap nat_cmp (List ℕ)) → Option (FinMap nat_cmp (List ℕ)) → Type 0
StayIfTold before after = IsSome after → after ≡ before

-- What is known of a sink: all bytes that it has taken, where it tells them; how often it refused a write, by a fault or for
-- want of memory; and how often it failed.
pub record SinkView : Type 0 where
  pub taken : Option (List ℕ)
  pub refusals : ℕ
  pub faults : ℕ

-- a sink has taken this piece after what it had taken, where it tells that
abbrev pub Takes : Option (List ℕ) → List ℕ → Option (List ℕ) → Type 0
Takes before piece after = after ≡ option_map (λ taken. taken ++ piece) before

-- a sink has taken some first bytes of a piece, none of them or all perhaps
abbrev pub TakesPrefix : Option (List ℕ) → List ℕ → Option (List ℕ) → Type 0
TakesPrefix before piece after = (n : ℕ) × (n ≤ length piece) × Takes before (take n piece) after
