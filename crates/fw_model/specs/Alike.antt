-- Stamps of a node that send alike, and stamps that stand for where it sent.
use Rattle.std.specs.Prelude.{◌≡◌, ◌↔◌, ℕ, Bool, true, false, Option, List}
use Rattle.std.specs.List.{AllByRecursion, Contains}
use Rattle.fw_time.specs.Stamp.{Stamp, in_domain}
use Rattle.fw_frontier.specs.Frontier.{Frontier}
use Rattle.fw_flow.specs.Dataflow.{Dataflow, bounds_of, send_stamp}
use Rattle.fw_model.specs.Thinned.{IsThinnedIf}

-- a stamp of the list inside the base that sends at the same stamp as this one
pub record SendsAsOneIn (send : Stamp → Option Stamp) (base : Frontier) (ss : List Stamp) (t : Stamp) : Type 0 where
  pub one : Stamp
  pub there : Contains ss one
  pub inside : base one ≡ true
  pub same : send one ≡ send t

-- Two lists of stamps send alike from a base: outside it they have the same stamps, and each of either inside it sends at the same
-- stamp as one of the other that is inside it.
pub record SendAlike (send : Stamp → Option Stamp) (base : Frontier) (causes all : List Stamp) : Type 0 where
  pub outside : (t : Stamp) → base t ≡ false → Contains causes t ↔ Contains all t
  pub there : (t : Stamp) → Contains causes t → base t ≡ true → SendsAsOneIn send base all t
  pub back : (t : Stamp) → Contains all t → base t ≡ true → SendsAsOneIn send base causes t

-- The kept stamps stand for these causes of node p: they are thinned inside a base from stamps that send like the causes, and are of
-- its domain where these are. Where perhaps not the whole is asked they are thinned from the causes.
pub record StandForCauses (flow : Dataflow) (p : ℕ) (whole : Bool) (base : Frontier) (causes kept : List Stamp) : Type 0 where
  pub all : List Stamp
  pub alike : whole ≡ true → SendAlike (send_stamp flow p) base causes all
  pub same : whole ≡ false → all ≡ causes
  pub of_domain : AllByRecursion (λ t. in_domain (bounds_of flow p) t ≡ true) causes → AllByRecursion (λ t. in_domain (bounds_of flow p) t ≡ true) all
  pub thinned : IsThinnedIf whole base all kept
