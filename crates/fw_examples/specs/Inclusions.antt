-- The inclusions of a consistent choice one by one, and for each a short run after which a choice that lacks it alone is wrong.
use Rattle.std.specs.Prelude.{List, None, Some, [], length, ℕ, ◌<◌, ◌↔◌, ◌∷◌, ◌≡◌, ◌≢◌}
use Rattle.fw_frontier.specs.Front.{Front, IsCanonical}
use Rattle.fw_flow.specs.Dataflow.{System, bounds_of}
use Rattle.fw_flow.specs.declared.choice.Choice.{Choice}
use Rattle.fw_flow.specs.declared.choice.Cut.{Cut}
use Rattle.fw_flow.specs.declared.choice.Cut.TheVariants.{At, Present}
use Rattle.fw_flow.specs.declared.step.Step.TheVariants.{Deliver, Fail, Inject, Notify}
use Rattle.fw_model.specs.Choice.{ComesFromSender, HasItsNotices, IsChoiceWithin, IsConsistent, IsLargest, IsNoticeKept, LiesInReceiver, NoticeComesFromSender, cut_of, filtered_history}
use Rattle.fw_model.specs.Covers.{covers_in}
use Rattle.fw_model.specs.History.{IsLegal, pending_messages}
use Rattle.fw_model.specs.Machine.{Machine, events, first_state, front_of}
use Rattle.fw_model.specs.Steps.{Run, did, offers, silent}
use Rattle.fw_examples.specs.Flows.{pair, big, big_to_out, one_select, src, src_to_big, first_source, first_to_mix, low, mix_to_tot, second_source, second_to_low, tot, two_sources}

-- the five inclusions of a consistent choice
pub data Inclusion : Type 0 where
  of_delivered : Inclusion
  of_discarded : Inclusion
  of_notified : Inclusion
  of_own : Inclusion
  of_notices : Inclusion

-- the choice meets the inclusion
abbrev pub Meets : System → Machine → Choice → Inclusion → Type 0
Meets sys state choice of_delivered = (d : ℕ) → d < length sys.flow.edges → ComesFromSender sys.flow (covers_in sys state) choice d
Meets sys state choice of_discarded = (e : ℕ) → e < length sys.flow.edges → LiesInReceiver sys.flow (covers_in sys state) choice e
Meets sys state choice of_notified = (p : ℕ) → p < length sys.flow.nodes → HasItsNotices sys.flow (covers_in sys state) choice p
Meets sys state choice of_own = (p : ℕ) → p < length sys.flow.nodes → IsNoticeKept sys.flow choice p
Meets sys state choice of_notices = (d : ℕ) → d < length sys.flow.edges → NoticeComesFromSender sys.flow (covers_in sys state) choice d

-- the choice is from what is offered, and meets each inclusion but perhaps this one
pub record IsConsistentWithout (left_out : Inclusion) (sys : System) (state : Machine) (offers : ℕ → Cut → Type 0) (choice : Choice) : Type 0 where
  pub one_cut_each : length choice.cuts ≡ length sys.flow.nodes
  pub one_notice_each : length choice.notices ≡ length sys.flow.nodes
  pub offered : (p : ℕ) → p < length sys.flow.nodes → offers p (cut_of choice p)
  pub canonical : (p : ℕ) → p < length sys.flow.nodes → IsCanonical (bounds_of sys.flow p) (front_of choice.notices p)
  pub others : (inclusion : Inclusion) → inclusion ≢ left_out → Meets sys state choice inclusion

-- A choice is consistent where it is so but perhaps for one inclusion, and meets that one too.
abbrev pub LeavesOutOne : Type 0
LeavesOutOne =
    (left_out : Inclusion) (sys : System) (state : Machine) (choice : Choice)
    → IsConsistent sys state (offers sys state) choice
    ↔ (IsConsistentWithout left_out sys state (offers sys state) choice × Meets sys state choice left_out)

-- The first choice is the largest, and the second does not lie within it, though it is consistent but for the inclusion.
abbrev pub IsNeeded : Inclusion → System → Machine → Choice → Choice → Type 0
IsNeeded left_out sys state choice other =
    IsLargest sys state (offers sys state) choice
    × IsConsistentWithout left_out sys state (offers sys state) other
    × (IsChoiceWithin sys.flow other choice → ⊥)

-- the history that a recovery to the choice leaves could have come without a failure
abbrev pub LeavesAHistory : System → Machine → Choice → Type 0
LeavesAHistory sys state choice = IsLegal sys (events (filtered_history sys choice state.history))

-- The inclusion is needed, and the choice that lacks it leaves what could not have come without a failure.
abbrev pub IsNeededForHistories : Inclusion → System → Machine → Choice → Choice → Type 0
IsNeededForHistories left_out sys state choice other =
    IsNeeded left_out sys state choice other
    × LeavesAHistory sys state choice
    × (LeavesAHistory sys state other → ⊥)

-- the frontier of no stamp
abbrev pub no_stamp_front : Front
no_stamp_front = (0 ∷ []) ∷ []

-- the frontier of all stamps
abbrev pub all : Front
all = []

-- one select with one batch of a rec that is selected
abbrev pub one_selected : System
one_selected = one_select ((pair 1 20 ∷ []) ∷ [])

-- nothing is kept
abbrev pub nothing_kept : Choice
nothing_kept = record { cuts = At no_stamp_front ∷ At no_stamp_front ∷ At no_stamp_front ∷ []; notices = no_stamp_front ∷ no_stamp_front ∷ no_stamp_front ∷ [] }

-- the output alone stays as it is
abbrev pub output_kept : Choice
output_kept = record { cuts = At no_stamp_front ∷ At no_stamp_front ∷ Present ∷ []; notices = no_stamp_front ∷ no_stamp_front ∷ no_stamp_front ∷ [] }

-- the input and the output stay as they are
abbrev pub input_kept : Choice
input_kept = record { cuts = Present ∷ At no_stamp_front ∷ Present ∷ []; notices = no_stamp_front ∷ no_stamp_front ∷ no_stamp_front ∷ [] }

-- The output has a rec from the select, which failed and keeps nothing: without the first inclusion the output would keep
-- the rec, though nobody sent it.
abbrev pub DeliveredIsNeeded : Type 0
DeliveredIsNeeded =
    (state : Machine)
    × Run one_selected (first_state one_selected)
    (Inject src ∷ Deliver src_to_big None ∷ Deliver big_to_out None ∷ Fail (big ∷ []) ∷ [])
    (did silent ∷ did silent ∷ did silent ∷ did silent ∷ [])
    state
    × IsNeededForHistories of_delivered one_selected state nothing_kept output_kept

-- A rec is on its way to the select, which failed and keeps nothing: without the second inclusion the input would have sent
-- it, and it would be pending though the select lost it and the input cannot send it again. Histories do not show that.
abbrev pub DiscardedIsNeeded : Type 0
DiscardedIsNeeded =
    (state : Machine)
    × Run one_selected (first_state one_selected) (Inject src ∷ Fail (big ∷ []) ∷ []) (did silent ∷ did silent ∷ []) state
    × IsNeeded of_discarded one_selected state output_kept input_kept
    × LeavesAHistory one_selected state output_kept
    × LeavesAHistory one_selected state input_kept
    × (pending_messages one_selected (events (filtered_history one_selected output_kept state.history)) src_to_big ≡ [])
    × (pending_messages one_selected (events (filtered_history one_selected input_kept state.history)) src_to_big
    ≡ record { at = 0 ∷ []; rec = pair 1 20; causes = (0 ∷ []) ∷ [] } ∷ [])

-- two inputs with one batch each, of a rec that comes to the sum and one that does not
abbrev pub one_comes : System
one_comes = two_sources ((pair 1 5 ∷ []) ∷ []) ((pair 2 50 ∷ []) ∷ [])

-- The sum was notified of epoch 0 when both recs had come where they go, and then the select failed.
abbrev pub IsFailedAfterNotice : Machine → Type 0
IsFailedAfterNotice state =
    Run one_comes (first_state one_comes)
    (Inject first_source ∷ Inject second_source ∷ Deliver first_to_mix None ∷ Deliver second_to_low None ∷ Deliver mix_to_tot None
    ∷ Notify tot (Some (0 ∷ [])) ∷ Fail (low ∷ []) ∷ [])
    (did silent ∷ did silent ∷ did silent ∷ did silent ∷ did silent ∷ did silent ∷ did silent ∷ [])
    state

-- the second input, the select and the sum keep nothing
abbrev pub sum_undone : Choice
sum_undone = record {
  cuts = Present ∷ At no_stamp_front ∷ At no_stamp_front ∷ Present ∷ At no_stamp_front ∷ Present ∷ [];
  notices = all ∷ no_stamp_front ∷ no_stamp_front ∷ no_stamp_front ∷ no_stamp_front ∷ no_stamp_front ∷ [];
}

-- the sum stays as it is, with these frontiers of notifications
abbrev pub sum_kept : List Front → Choice
sum_kept notices = record { cuts = Present ∷ At no_stamp_front ∷ At no_stamp_front ∷ Present ∷ Present ∷ Present ∷ []; notices = notices }

-- Without the third inclusion the sum would keep its notification, though the epoch is to be delivered anew.
abbrev pub NotifiedIsNeeded : Type 0
NotifiedIsNeeded =
    (state : Machine) × IsFailedAfterNotice state
    × IsNeededForHistories of_notified one_comes state sum_undone (sum_kept (all ∷ no_stamp_front ∷ no_stamp_front ∷ no_stamp_front ∷ no_stamp_front ∷ no_stamp_front ∷ []))

-- Without the fourth it would keep it too, with all as the frontier of notifications at nodes that keep nothing.
abbrev pub OwnIsNeeded : Type 0
OwnIsNeeded =
    (state : Machine) × IsFailedAfterNotice state
    × IsNeededForHistories of_own one_comes state sum_undone (sum_kept (all ∷ all ∷ all ∷ all ∷ all ∷ all ∷ []))

-- Without the fifth it would keep it too, with all as its own frontier of notifications alone.
abbrev pub NoticesAreNeeded : Type 0
NoticesAreNeeded =
    (state : Machine) × IsFailedAfterNotice state
    × IsNeededForHistories of_notices one_comes state sum_undone (sum_kept (all ∷ no_stamp_front ∷ no_stamp_front ∷ no_stamp_front ∷ all ∷ no_stamp_front ∷ []))
