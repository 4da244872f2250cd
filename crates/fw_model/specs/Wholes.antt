-- What the model asks of what the nodes of a kind send in all, from the whole bags on their in-edges.
use Rattle.std.specs.Prelude.{◌≡◌, ◌+◌, ◌≤◌, Bool, true, false, List, length, map, filter, Option, Some, None, ℕ}
use Rattle.std.specs.List.{AllByRecursion}
use Rattle.fw_bag.specs.declared.rec.Rec.{Rec}
use Rattle.fw_time.specs.declared.stamp.Bounds.{Bounds}
use Rattle.fw_time.specs.Stamp.{Stamp, same, in_domain, leq}
use Rattle.fw_flow.specs.Kind.{Kind}
use Rattle.fw_flow.specs.Dataflow.{Dataflow, greatest_number, send_stamp_of_kind}
use Rattle.fw_flow.specs.WholeBags.{Timed}
use Rattle.fw_model.specs.Reads.{Reads, nothing_before, its_time, up_to_its_time, all_in_order, reads_of}
use Rattle.fw_model.specs.Weights.{weigh, one}

-- the timed recs whose stamp passes a test
abbrev pub part : (Stamp → Bool) → List Timed → List Timed
part test rs = filter (λ r. test r.at) rs

-- the timed recs are at stamps within the bounds
abbrev pub AreTimedWithin : Bounds → List Timed → Type 0
AreTimedWithin bounds rs = AllByRecursion (λ (r : Timed). in_domain bounds r.at ≡ true) rs

-- whether there is a send stamp, and it is this one
abbrev pub is_sent_at : Stamp → Option Stamp → Bool
is_sent_at t None = false
is_sent_at t (Some u) = same t u

-- Whether what came at s takes part in what a node makes at t, by what its events read: what is sent at t, or what is at t
-- or below.
abbrev pub takes_part : Reads → (Stamp → Option Stamp) → Stamp → Stamp → Bool
takes_part nothing_before send t s = is_sent_at t (send s)
takes_part its_time send t s = is_sent_at t (send s)
takes_part up_to_its_time send t s = leq s t
takes_part all_in_order send t s = leq s t

-- at the stamps that pass, the first has each rec at most as often as the second
abbrev pub IsFewerWhere : (Stamp → Bool) → List Timed → List Timed → Type 0
IsFewerWhere test xs ys = (u : Stamp) (r : Rec) → test u ≡ true → weigh (one u r) xs ≤ weigh (one u r) ys

-- at the stamps that pass, both have each rec as often
abbrev pub AgreeWhere : (Stamp → Bool) → List Timed → List Timed → Type 0
AgreeWhere test xs ys = (u : Stamp) (r : Rec) → test u ≡ true → weigh (one u r) xs ≡ weigh (one u r) ys

-- of bags that have fewer of what takes part, no more is made
abbrev pub MakesFewer : (Stamp → Stamp → Bool) → (List (List Timed) → List Timed) → Type 0
MakesFewer takes make = (t : Stamp) (x : Rec) (bag cag : ℕ → List Timed) (ds : List ℕ)
    → AllByRecursion (λ d. IsFewerWhere (takes t) (bag d) (cag d)) ds → weigh (one t x) (make (map bag ds)) ≤ weigh (one t x) (make (map cag ds))

-- of bags that agree at what takes part, the same is made
abbrev pub MakesTheSame : (Stamp → Stamp → Bool) → (List (List Timed) → List Timed) → Type 0
MakesTheSame takes make = (t : Stamp) (x : Rec) (bag cag : ℕ → List Timed) (ds : List ℕ)
    → AllByRecursion (λ d. AgreeWhere (takes t) (bag d) (cag d)) ds → weigh (one t x) (make (map bag ds)) ≡ weigh (one t x) (make (map cag ds))

-- What is made of whole bags, where `takes t s` says that what came at s takes part in what is made at t. Of bags within one
-- domain it is made within another. Of a node that reads its own time alone, what is made at a stamp is made of the parts of
-- the bags that take part in it. Of one that sends at once, fewer make fewer. Of each that is no input, no output and no
-- sequence, what is made at a stamp depends on what takes part in it.
pub record IsLawfulWhole (within out : Bounds) (takes : Stamp → Stamp → Bool) (alone at_once inner : Type 0)
    (whole : List (List Rec) → List (List Timed) → List Timed) : Type 0 where
  pub lands : (batches : List (List Rec)) (bags : List (List Timed)) → length batches ≤ greatest_number + 1
      → AllByRecursion (AreTimedWithin within) bags → AreTimedWithin out (whole batches bags)
  pub by_parts : alone → (batches : List (List Rec)) (bags : List (List Timed)) (t : Stamp)
      → part (same t) (whole batches bags) ≡ part (same t) (whole batches (map (part (takes t)) bags))
  pub fewer : at_once → (batches : List (List Rec)) → MakesFewer takes (whole batches)
  pub agrees : inner → (batches : List (List Rec)) → MakesTheSame takes (whole batches)

-- what takes part for a kind
abbrev pub takes_part_of : Dataflow → Kind → Stamp → Stamp → Bool
takes_part_of flow kind = takes_part (reads_of kind) (send_stamp_of_kind flow kind)
