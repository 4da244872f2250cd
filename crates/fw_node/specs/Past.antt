-- What is known of a node's past.
use Rattle.std.specs.Prelude.{◌≡◌, ℕ, ◌+◌, Bool, true, not, ◌||◌, List, [], ◌∷◌, length, Some}
use Rattle.std.specs.List.{AllByRecursion}
use Rattle.fw_time.specs.Stamp.{Stamp, leq, same}
use Rattle.fw_bag.specs.declared.rec.Rec.{Rec}
use Rattle.fw_bag.specs.Arrivals.{Arrival, arrivals_inside, recs_where, recs_inside}
use Rattle.fw_bag.specs.Keyed.{sorted_recs}
use Rattle.fw_flow.specs.Kind.{Kind}
use Rattle.fw_flow.specs.declared.kind.Kind.TheVariants as kind
use Rattle.fw_flow.specs.Dataflow.{is_notified_kind}
use Rattle.fw_table.specs.Sent.{sent_if_at}
use Rattle.fw_table.specs.Sums.{sums_at_keys, sums_by_key}
use Rattle.fw_numbered.specs.Numbers.{recs_numbered}
use Rattle.fw_node.specs.Answers.{recs_at_notice}
use Rattle.fw_flow.specs.declared.event.Event.{Event}
use Rattle.fw_flow.specs.NodeFunction.{sequence_sent}
use Rattle.fw_model.specs.Told.{is_told}
use Rattle.fw_node.specs.Arrived.{arrived}

-- What is settled at a node, of which stamps it was notified, how many messages it sent if it numbers them, and what came to it,
-- the latest first.
pub record Past : Type 0 where
  pub settled : Stamp → Bool
  pub told : Stamp → Bool
  pub numbered : ℕ
  pub came : List Arrival

-- the past of a node with these in-edges, whose events were these, the latest first, where so much is settled
abbrev pub past_of : List ℕ → (Stamp → Bool) → List Event → Past
past_of ins settled before =
    record { settled = settled; told = is_told before; numbered = length (sequence_sent before); came = arrived ins before }

-- what came outside what is settled
abbrev pub unsettled : Past → List Arrival
unsettled past = arrivals_inside (λ s. not (past.settled s)) past.came

-- whether a stamp is settled, or the node was notified of it
abbrev pub is_taken : Past → Stamp → Bool
is_taken past s = past.settled s || past.told s

-- the past with an arrival more
abbrev pub with_arrival : Arrival → Past → Past
with_arrival a past = record past { came = a ∷ past.came }

-- the past with a notification more
abbrev pub with_notice : Stamp → Past → Past
with_notice t past = record past {
  told = λ s. same s t || past.told s;
  numbered = length (recs_numbered past.numbered (recs_at_notice kind.Sequence past.came t)) + past.numbered;
}

-- What a notification makes a node of the kind send, in ascending order, where this is its past.
abbrev pub notice_list : Kind → Past → Stamp → List (Stamp × Rec)
notice_list kind.Sequence past t = recs_numbered past.numbered (recs_at_notice kind.Sequence past.came t)
notice_list k past t = sent_if_at (Some t) (sorted_recs (recs_at_notice k past.came t))

-- At a total what came up to the stamp is what came at it, and at the stamps that are settled or were told.
abbrev pub IsSumOfTaken : Kind → Past → Stamp → Type 0
IsSumOfTaken kind.Total past t = recs_where (λ a. leq a.at t) past.came ≡ recs_inside (λ s. same s t || is_taken past s) past.came
IsSumOfTaken k past t = Unit {0}

-- A node that is notified was notified of each stamp inside at which something came.
abbrev pub IsToldWhereNotified : Kind → Past → (Stamp → Bool) → Type 0
IsToldWhereNotified k past f =
    is_notified_kind k ≡ true → AllByRecursion (λ (a : Arrival). f a.at ≡ true → past.told a.at ≡ true) past.came

-- the totals that a node of the kind keeps of these recs, in ascending order of the keys
abbrev pub totals_kept : Kind → List Rec → List Rec
totals_kept kind.Total rs = sums_by_key rs
totals_kept kind.Ledger rs = sums_by_key rs
totals_kept k rs = []

-- the totals that a node of the kind keeps of all the recs, of those keys alone that the first recs have
abbrev pub totals_changed : Kind → List Rec → List Rec → List Rec
totals_changed kind.Total since all = sums_at_keys since all
totals_changed kind.Ledger since all = sums_at_keys since all
totals_changed k since all = []

-- the past where so much is settled
abbrev pub with_settled : (Stamp → Bool) → Past → Past
with_settled settled past = record past { settled = settled }
