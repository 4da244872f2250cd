-- Where the outside stamps of a frontier go when it is projected.
use Rattle.std.specs.Prelude.{◌≡◌, ℕ, ◌-◌, ◌<◌, ◌==◌, nat_lt, if◌then◌else◌, List, [], ◌∷◌, ◌++◌, length, Option, Some, None, option_to_list}
use Rattle.fw_time.specs.declared.stamp.Bounds.{Bounds}
use Rattle.fw_time.specs.Stamp.{Stamp, nest, outer, counter, origin}
use Rattle.fw_time.specs.Sending.{entered_stamp, fed_back_stamp, left_stamp}
use Rattle.fw_frontier.specs.Front.{Front}
use Rattle.fw_flow.specs.Kind.{Kind}
use Rattle.fw_flow.specs.declared.projection.Way.{Way}
use Rattle.fw_flow.specs.declared.projection.Way.TheVariants.{First, Next, NextAfterFirst, Before, Outer, OuterOfFirst}
use Rattle.fw_flow.specs.Dataflow.{Dataflow, kind_of, sender, receiver, domain_of_kind, out_domain_of_kind, bounds_of, bounds_of_domain, bounds_of_edge}
use Rattle.fw_flow.specs.WellFormed.{IsGroupSize}

-- the bounds are those of the domain and the out domain of a node of the kind, in some dataflow
pub record AreDomainsOf (kind : Kind) (from to : Bounds) : Type 0 where
  pub flow : Dataflow
  pub of_sender : from ≡ bounds_of_domain flow (domain_of_kind flow kind)
  pub of_receiver : to ≡ bounds_of_domain flow (out_domain_of_kind flow kind)

-- the kind of the sender of an edge, and the bounds of the domains of its sender and its receiver, which the edge joins
pub record AreEndsOf (flow : Dataflow) (edge : ℕ) (kind : Kind) (from to : Bounds) : Type 0 where
  pub is_kind : kind ≡ kind_of flow (sender flow edge)
  pub is_from : from ≡ bounds_of flow (sender flow edge)
  pub is_to : to ≡ bounds_of flow (receiver flow edge)
  pub is_out : to ≡ bounds_of_edge flow edge
  pub group : IsGroupSize kind
  pub domains : AreDomainsOf kind from to

-- a stamp that can go this way: into a loop, one that may get a counter
abbrev pub MayGo : Way → Stamp → Type 0
MayGo First s = (0 < length s) × (length s < 4)
MayGo way s = 0 < length s

-- where a stamp goes
abbrev pub image : Way → Stamp → Option Stamp
image First o = entered_stamp o
image (Next max) o = fed_back_stamp max o
image (NextAfterFirst max) o = if counter o == 0 then Some o else fed_back_stamp max o
image Before o = Some (nest (outer o) (counter o - 1))
image Outer o = left_stamp o
image OuterOfFirst o = if counter o == 0 then left_stamp o else None

-- where stamps go
abbrev pub images : Way → List Stamp → List Stamp
images way [] = []
images way (o ∷ os) = option_to_list (image way o) ++ images way os

-- outside of what is sent into a loop: at counter 0 what is outside, and all from counter 1 on
abbrev pub entered_outside : Bounds → Bounds → Front → Front
entered_outside sender receiver os = images First os ++ (if nat_lt 0 (counter receiver.greatest) then nest (origin sender.greatest) 1 ∷ [] else [])

-- the frontier of the numbers below a limit, or of all
abbrev pub front_until : Option ℕ → Front
front_until None = []
front_until (Some limit) = (limit ∷ []) ∷ []
