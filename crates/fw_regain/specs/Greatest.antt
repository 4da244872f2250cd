-- The greatest stamps inside a frontier stand for all stamps that it covers.
use Rattle.std.specs.Prelude.{◌≡◌, true, false, List}
use Rattle.std.specs.List.{AllByRecursion}
use Rattle.fw_time.specs.Stamp.{Stamp, lesser, in_domain}
use Rattle.fw_time.specs.declared.stamp.Bounds.{Bounds}
use Rattle.fw_frontier.specs.Frontier.{Frontier, cover}
use Rattle.fw_model.specs.Thinned.{IsThinned}

-- These are the greatest stamps of a domain inside a frontier: they cover it, each is the domain's, and none is lesser than another.
pub record AreGreatestIn (bounds : Bounds) (f : Frontier) (tops : List Stamp) : Type 0 where
  pub covering : (t : Stamp) → cover bounds tops t ≡ f t
  pub of_domain : AllByRecursion (λ s. in_domain bounds s ≡ true) tops
  pub greatest : AllByRecursion (λ s. AllByRecursion (λ t. lesser s t ≡ false) tops) tops

-- the greatest stamps inside a frontier that is the cover of some stamps are these stamps, thinned inside each base that has them all
abbrev pub GreatestStampsStandForAll : Type 0
GreatestStampsStandForAll = (bounds : Bounds) (base f : Frontier) (all tops : List Stamp) → AllByRecursion (λ s. in_domain bounds s ≡ true) all
    → AllByRecursion (λ s. base s ≡ true) all → ((t : Stamp) → f t ≡ cover bounds all t) → AreGreatestIn bounds f tops
    → IsThinned base all tops
