-- Which stamps, fronts and counts have a spelling: the form of each, and what may stand after what.
use Rattle.std.specs.Prelude.{◌≡◌, ℕ, ◌<◌, ◌^◌, Bool, true, not, ◌&&◌, ◌||◌, ◌==◌, ◌-◌, nat_lt, List, [], ◌∷◌, ◌++◌, length, slice_get}
use Rattle.std.specs.List.{AllByRecursion}
use Rattle.std.specs.Option.{option_map_or}
use Rattle.std.specs.Ordering.{is_lt}
use Rattle.fw_time.specs.Stamp.{Stamp, leq, stamp_cmp}
use Rattle.fw_frontier.specs.Front.{Front}
use Rattle.fw_frontier.specs.declared.state.SentCount.{SentCount}

-- ---- what may stand after what

-- the test holds between the last of these, if there is one, and the next
abbrev pub after_last : {A B : Type 0} → (A → B → Bool) → List A → B → Bool
after_last precedes xs x = option_map_or (λ last. precedes last x) (slice_get xs (length xs - 1)) true

-- a stamp may stand before another one in a front: as many coordinates, lesser in order, and not comparable
abbrev pub stands_before : Stamp → Stamp → Bool
stands_before o s = (length o == length s) && (is_lt (stamp_cmp o s) && not (leq o s || leq s o))

-- a stamp may come next in a front
abbrev pub may_follow_stamps : List Stamp → Stamp → Bool
may_follow_stamps [] s = true
may_follow_stamps (o ∷ os) s = stands_before o s && may_follow_stamps os s

-- stamps ascend strictly, and each count is at least 1
abbrev pub may_follow_counts : List SentCount → SentCount → Bool
may_follow_counts ss s = nat_lt 0 s.count && after_last (λ last next. is_lt (stamp_cmp last.cause next.cause)) ss s

-- each of the second list may come next after those before it
abbrev pub each_may_follow : {A : Type 0} → (List A → A → Bool) → List A → List A → Bool
each_may_follow rule before [] = true
each_may_follow rule before (x ∷ xs) = rule before x && each_may_follow rule (before ++ x ∷ []) xs

-- a list of fewer than so many parts, each of its form and each allowed after those before it
pub record IsList {A : Type 0} (limit : ℕ) (IsPart : A → Type 0) (rule : List A → A → Bool) (xs : List A) : Type 0 where
  pub few : length xs < limit
  pub parts : AllByRecursion IsPart xs
  pub follow : each_may_follow rule [] xs ≡ true

-- ---- the form of each part

-- a stamp has one to four coordinates of 32 bits
pub record IsStamp (s : Stamp) : Type 0 where
  pub some : 0 < length s
  pub few : length s < 5
  pub fit : AllByRecursion (λ c. c < 2 ^ 32) s

-- a front in its one spelling
abbrev pub IsFront : Front → Type 0
IsFront f = IsList (2 ^ 32) IsStamp may_follow_stamps f

-- a count of what was sent from a stamp
pub record IsSentCount (s : SentCount) : Type 0 where
  pub cause : IsStamp s.cause
  pub count : s.count < 2 ^ 64

-- counts of what was sent, in order
abbrev pub AreSentCounts : List SentCount → Type 0
AreSentCounts ss = IsList (2 ^ 32) IsSentCount may_follow_counts ss
