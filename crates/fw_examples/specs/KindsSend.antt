-- What nodes of the kinds that look at their earlier events send at one event, and in all.
use Rattle.std.specs.Prelude.{List, None, [], ℕ, ◌-◌, ◌^◌, ◌∷◌, ◌≡◌}
use Rattle.fw_bag.specs.declared.rec.Rec.{Rec}
use Rattle.fw_time.specs.Stamp.{Stamp}
use Rattle.fw_flow.specs.NodeFunction.{sends_of_kind}
use Rattle.fw_flow.specs.WholeBags.{Timed, in_order, outputs_of_kind}
use Rattle.fw_flow.specs.declared.event.Event.{Event}
use Rattle.fw_flow.specs.declared.event.Event.TheVariants.{Deliver, Notify}
use Rattle.fw_flow.specs.declared.event.Message.{Message}
use Rattle.fw_flow.specs.Kind.{Kind}
use Rattle.fw_flow.specs.declared.kind.Kind.TheVariants.{Distinct, Join, Ledger, Regroup, Sequence, Sum, Total}
use Rattle.fw_examples.specs.Flows.{no_batches, pair}
use Rattle.fw_examples.specs.Inclusions.{all}

-- an epoch or a number
abbrev pub at : ℕ → Stamp
at x = x ∷ []

-- a delivery on an edge of a rec at an epoch or a number
abbrev pub delivery_at : ℕ → ℕ → Rec → Event
delivery_at e x r = Deliver e (record { at = at x; rec = r; causes = at x ∷ [] })

-- a notification of an epoch; the node plays no part
abbrev pub notice : ℕ → Event
notice x = Notify 0 (at x)

-- a message at an epoch or a number, of an event at another one
abbrev pub message_from : ℕ → Rec → ℕ → Message
message_from x r cause = record { at = at x; rec = r; causes = at cause ∷ [] }

-- what an event makes a node of the kind send, after these earlier events of the node, the latest first
abbrev pub Sends : Kind → List Event → Event → List Message → Type 0
Sends kind before v messages = sends_of_kind no_batches kind before v ≡ messages

-- a rec at an epoch or a number
abbrev pub rec_at : ℕ → Rec → Timed
rec_at x r = record { at = at x; rec = r }

-- what a node of the kind sends in all for these bags on its in-edges, in order
abbrev pub SendsInAll : Kind → List (List Timed) → List Timed → Type 0
SendsInAll kind bags all = in_order (outputs_of_kind no_batches.flow kind [] bags) ≡ all

-- the first of equal recs at an epoch is sent on, the second is not
pub record DistinctSendsTheFirst : Type 0 where
  pub first : Sends (Distinct None) (delivery_at 0 1 (pair 1 5) ∷ delivery_at 0 0 (pair 1 6) ∷ []) (delivery_at 0 0 (pair 1 5)) (message_from 0 (pair 1 5) 0 ∷ [])
  pub second : Sends (Distinct None) (delivery_at 0 0 (pair 1 5) ∷ []) (delivery_at 0 0 (pair 1 5)) []
  pub all : SendsInAll (Distinct None) ((rec_at 1 (pair 1 5) ∷ rec_at 0 (pair 1 5) ∷ rec_at 0 (pair 1 5) ∷ []) ∷ [])
      (rec_at 0 (pair 1 5) ∷ rec_at 1 (pair 1 5) ∷ [])

-- a rec is joined with each rec of its key that came at its epoch on the other edge, equal ones each
pub record JoinSendsEachPair : Type 0 where
  pub pairs : Sends (Join None)
      (delivery_at 0 0 (pair 1 10) ∷ delivery_at 1 0 (pair 1 7) ∷ delivery_at 0 1 (pair 1 3) ∷ delivery_at 0 0 (pair 2 4) ∷ delivery_at 0 0 (pair 1 10) ∷ [])
      (delivery_at 1 0 (pair 1 2)) (message_from 0 (pair 1 12) 0 ∷ message_from 0 (pair 1 12) 0 ∷ [])
  pub all : SendsInAll (Join None)
      ((rec_at 0 (pair 1 10) ∷ rec_at 0 (pair 1 10) ∷ rec_at 1 (pair 1 3) ∷ []) ∷ (rec_at 0 (pair 1 1) ∷ rec_at 0 (pair 1 2) ∷ rec_at 0 (pair 2 5) ∷ []) ∷ [])
      (rec_at 0 (pair 1 11) ∷ rec_at 0 (pair 1 11) ∷ rec_at 0 (pair 1 12) ∷ rec_at 0 (pair 1 12) ∷ [])

-- a sum is of the values at its epoch alone, modulo 2^64; nothing is sent before the notification
pub record SumSendsAtTheEnd : Type 0 where
  pub before : Sends (Sum None) (delivery_at 0 0 (pair 7 1) ∷ []) (delivery_at 0 0 (pair 7 2)) []
  pub sum : Sends (Sum None) (delivery_at 0 0 (pair 7 1) ∷ delivery_at 0 1 (pair 7 5) ∷ delivery_at 0 0 (pair 7 (2 ^ 64 - 1)) ∷ []) (notice 0) (message_from 0 (pair 7 0) 0 ∷ [])
  pub all : SendsInAll (Sum None) ((rec_at 0 (pair 7 1) ∷ rec_at 1 (pair 7 5) ∷ rec_at 0 (pair 7 (2 ^ 64 - 1)) ∷ []) ∷ [])
      (rec_at 0 (pair 7 0) ∷ rec_at 1 (pair 7 5) ∷ [])

-- a total is of the values up to its epoch, for the keys at its epoch alone
pub record TotalSendsUpToNow : Type 0 where
  pub total : Sends Total (delivery_at 0 2 (pair 7 9) ∷ delivery_at 0 1 (pair 7 2) ∷ delivery_at 0 0 (pair 8 1) ∷ delivery_at 0 0 (pair 7 1) ∷ []) (notice 1)
      (message_from 1 (pair 7 3) 1 ∷ [])
  pub all : SendsInAll Total ((rec_at 0 (pair 7 1) ∷ rec_at 0 (pair 8 1) ∷ rec_at 1 (pair 7 2) ∷ []) ∷ [])
      (rec_at 0 (pair 7 1) ∷ rec_at 0 (pair 8 1) ∷ rec_at 1 (pair 7 3) ∷ [])

-- a sequence sends the recs of an epoch in order, at the numbers behind those that it sent
pub record SequenceSendsNumbers : Type 0 where
  pub first : Sends Sequence (delivery_at 0 1 (pair 1 1) ∷ delivery_at 0 0 (pair 1 2) ∷ delivery_at 0 0 (pair 1 1) ∷ []) (notice 0)
      (message_from 0 (pair 1 1) 0 ∷ message_from 1 (pair 1 2) 0 ∷ [])
  pub next : Sends Sequence
      (delivery_at 0 1 (pair 2 3) ∷ delivery_at 0 1 (pair 2 9) ∷ notice 0 ∷ delivery_at 0 0 (pair 1 2) ∷ delivery_at 0 0 (pair 1 1) ∷ []) (notice 1)
      (message_from 2 (pair 2 3) 1 ∷ message_from 3 (pair 2 9) 1 ∷ [])
  pub all : SendsInAll Sequence ((rec_at 1 (pair 2 9) ∷ rec_at 1 (pair 2 3) ∷ rec_at 0 (pair 5 2) ∷ []) ∷ [])
      (rec_at 0 (pair 5 2) ∷ rec_at 1 (pair 2 3) ∷ rec_at 2 (pair 2 9) ∷ [])

-- a ledger sends for each rec the sum of the values of its key so far
pub record LedgerSendsRunningTotals : Type 0 where
  pub total : Sends Ledger (delivery_at 0 2 (pair 2 3) ∷ delivery_at 0 1 (pair 1 2) ∷ delivery_at 0 0 (pair 1 1) ∷ []) (delivery_at 0 3 (pair 1 4)) (message_from 3 (pair 1 7) 3 ∷ [])
  pub all : SendsInAll Ledger ((rec_at 0 (pair 1 1) ∷ rec_at 1 (pair 1 2) ∷ rec_at 2 (pair 2 3) ∷ rec_at 3 (pair 1 4) ∷ []) ∷ [])
      (rec_at 0 (pair 1 1) ∷ rec_at 1 (pair 1 3) ∷ rec_at 2 (pair 2 3) ∷ rec_at 3 (pair 1 7) ∷ [])

-- regrouped by three, the numbers 6 to 8 are epoch 2
pub record RegroupSendsAtEpochs : Type 0 where
  pub one : Sends (Regroup 3) [] (delivery_at 0 7 (pair 1 7)) (message_from 2 (pair 1 7) 7 ∷ [])
  pub all : SendsInAll (Regroup 3) ((rec_at 2 (pair 1 3) ∷ rec_at 3 (pair 1 4) ∷ rec_at 8 (pair 1 9) ∷ []) ∷ [])
      (rec_at 0 (pair 1 3) ∷ rec_at 1 (pair 1 4) ∷ rec_at 2 (pair 1 9) ∷ [])
