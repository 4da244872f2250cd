-- Of which stamps nodes may be notified.
use Rattle.std.specs.Prelude.{◌≡◌, ℕ, ◌&&◌, Bool, true, false, List, Option, Some, None, find}
use Rattle.std.specs.List.{list_all, list_any}
use Rattle.std.specs.List.Sorted.{IsStrictlySortedBy}
use Rattle.std.specs.Map.{keys_of}
use Rattle.fw_time.specs.Stamp.{Stamp, lesser, in_domain, stamp_cmp}
use Rattle.fw_frontier.specs.Front.{Front, inside, IsFrontOf}
use Rattle.fw_flow.specs.declared.event.Event.{Event}
use Rattle.fw_flow.specs.Dataflow.{System, Dataflow, sender, in_edges, bounds_of}
use Rattle.fw_model.specs.History.{IsNotifiable}
use Rattle.fw_model.specs.Machine.{family_of}
use Rattle.fw_model.specs.Steps.{IsNextNotice}
use Rattle.fw_progress.specs.declared.counts.Counts.{Counts}
use Rattle.fw_progress.specs.Counts.{owed_of, come_by}
use Rattle.fw_progress.specs.Tally.{has_one}

-- the next stamp of which a node may be notified; none where it may be notified of none
abbrev pub IsFirstNotice : System → List Event → ℕ → Option Stamp → Type 0
IsFirstNotice sys h p None = (t : Stamp) → IsNotifiable sys h p t → ⊥
IsFirstNotice sys h p (Some t) = IsNextNotice sys h p None t

-- ---- for the proofs

-- whether on each in-edge of a node nothing is pending up to a stamp, and all came that can come
abbrev pub has_come : Dataflow → Counts → List Front → ℕ → Stamp → Bool
has_come flow counts fronts p t = list_all (λ e. come_by flow counts e (family_of flow fronts (sender flow e)) t) (in_edges flow p)

-- A node is owed a notification of a stamp and of no lesser one, and all has come up to it.
pub record CanNotify (flow : Dataflow) (counts : Counts) (fronts : List Front) (p : ℕ) (t : Stamp) : Type 0 where
  pub is_owed : has_one t (owed_of counts p) ≡ true
  pub none_lesser : list_any (λ s. lesser s t) (keys_of (owed_of counts p)) ≡ false
  pub comes : has_come flow counts fronts p t ≡ true

-- The first stamp, in order, that is owed to a node and up to which all has come; none where there is no such stamp.
pub record IsFirstOwed (flow : Dataflow) (counts : Counts) (fronts : List Front) (p : ℕ) (first : Option Stamp) : Type 0 where
  pub come : Front
  pub all_come : IsFrontOf (bounds_of flow p) come (λ t. in_domain (bounds_of flow p) t && has_come flow counts fronts p t)
  pub in_order : IsStrictlySortedBy stamp_cmp (keys_of (owed_of counts p))
  pub is_first : first ≡ find (inside come) (keys_of (owed_of counts p))
