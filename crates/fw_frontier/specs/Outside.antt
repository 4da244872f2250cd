-- For the proofs of src/outside.rt: what the calls do to a list of outside stamps.
use Rattle.std.specs.Prelude.{ℕ, zero, suc, not, ◌+◌, if◌then◌else◌, nat_lt, nat_le, slice_index, [], ◌∷◌, filter}
use Rattle.std.specs.Ordering.{is_lt}
use Rattle.fw_time.specs.Stamp.{Stamp, leq, lub, stamp_raised_at, stamp_cmp}
use Rattle.fw_frontier.specs.Front.{Front, inside}

-- the list with a stamp before the first that comes after it
abbrev pub with_stamp : Stamp → Front → Front
with_stamp s [] = s ∷ []
with_stamp s (o ∷ os) = if is_lt (stamp_cmp s o) then s ∷ o ∷ os else (o ∷ with_stamp s os)

-- how many stamps of the list do not come after a stamp, up to the first that does
abbrev pub place_among : Stamp → Front → ℕ
place_among s [] = 0
place_among s (o ∷ os) = if is_lt (stamp_cmp s o) then 0 else suc (place_among s os)

-- a stamp more is outside: it takes the place of those that it is at most
unfoldable pub front_without : Stamp → Front → Front
front_without s os = if inside os s then with_stamp s (filter (λ o. not (leq s o)) os) else os

-- these stamps more are outside
abbrev pub front_without_all : Front → Front → Front
front_without_all [] os = os
front_without_all (s ∷ ss) os = front_without_all ss (front_without s os)

-- at how many places the second stamp is greater
abbrev pub rise_count : Stamp → Stamp → ℕ
rise_count [] t = 0
rise_count (x ∷ s) [] = 0
rise_count (x ∷ s) (y ∷ t) = (if nat_lt x y then 1 else 0) + rise_count s t

-- what is at least a stamp and one of the list that is greater at no more than one place is outside too
abbrev pub front_without_near : Stamp → Front → Front → Front
front_without_near s [] os = os
front_without_near s (p ∷ ps) os = front_without_near s ps (if nat_le (rise_count s p) 1 then front_without (lub s p) os else os)

-- the same for each stamp of the first list
abbrev pub front_without_all_near : Front → Front → Front → Front
front_without_all_near [] ps os = os
front_without_all_near (s ∷ ss) ps os = front_without_all_near ss ps (front_without_all (front_without_near s ps []) os)

-- outside is what has a greater coordinate than the stamp at one of the first places, below the domain's greatest
abbrev pub below_at : Stamp → Stamp → ℕ → Front
below_at s greatest zero = []
below_at s greatest (suc i) = if nat_lt (slice_index s i) (slice_index greatest i) then front_without (stamp_raised_at s i) (below_at s greatest i) else below_at s greatest i
