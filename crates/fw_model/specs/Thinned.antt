-- Stamps that are thinned inside a base, so that they cover the same.
use Rattle.std.specs.Prelude.{◌≡◌, Bool, true, false, List, filter}
use Rattle.std.specs.List.{AllByRecursion, Contains}
use Rattle.fw_time.specs.Stamp.{Stamp, leq}
use Rattle.fw_time.specs.declared.stamp.Bounds.{Bounds}
use Rattle.fw_frontier.specs.Frontier.{Frontier, Within, cover, meet}
use Rattle.fw_model.specs.Poorer.{IsPoorer}

-- a kept stamp inside the base that is this one or greater
pub record IsBelowKept (base : Frontier) (kept : List Stamp) (t : Stamp) : Type 0 where
  pub above : Stamp
  pub is_kept : Contains kept above
  pub inside : base above ≡ true
  pub below : leq t above ≡ true

-- The kept stamps are these thinned inside the base: each is one of these, each of these outside the base is kept, and each
-- inside it lies at or below a kept one that is inside.
pub record IsThinned (base : Frontier) (all kept : List Stamp) : Type 0 where
  pub among : AllByRecursion (Contains all) kept
  pub outside : AllByRecursion (λ t. base t ≡ false → Contains kept t) all
  pub inside : AllByRecursion (λ t. base t ≡ true → IsBelowKept base kept t) all

-- The same, where perhaps not the whole is asked: then of those inside the base some may be missing, and stand for nothing.
pub record IsThinnedIf (whole : Bool) (base : Frontier) (all kept : List Stamp) : Type 0 where
  pub among : AllByRecursion (Contains all) kept
  pub outside : AllByRecursion (λ t. base t ≡ false → Contains kept t) all
  pub inside : whole ≡ true → AllByRecursion (λ t. base t ≡ true → IsBelowKept base kept t) all

-- stamps that are thinned inside a base cover the same as all of them, inside each set that holds the base
abbrev pub ThinnedStampsCoverTheSame : Type 0
ThinnedStampsCoverTheSame = (bounds : Bounds) (base : Frontier) (all kept : List Stamp) → IsThinned base all kept
    → (f : Frontier) → Within base f → cover bounds (filter f kept) ≡ cover bounds (filter f all)

-- stamps of which some inside a base are missing cover no more than all do, which cover besides at most what those inside the base do
abbrev pub StampsOutsideCoverTheRest : Type 0
StampsOutsideCoverTheRest = (bounds : Bounds) (base : Frontier) (all kept : List Stamp) → IsThinnedIf false base all kept → (f : Frontier)
    → IsPoorer (cover bounds (filter f kept)) (cover bounds (filter f all)) (cover bounds (filter (meet f base) all))
