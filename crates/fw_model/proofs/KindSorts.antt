-- The sorts of kinds that the laws tell apart: the tests by kind, and what a kind of a sort is.
use Rattle.std.proofs.Common.{◌≡◌, ℕ, Bool, true, false, List, [], ◌∷◌, Some, refl, sym, ap, not, ◌∙◌, inl, inr, ◌⊎◌, Option, None}
use Rattle.std.proofs.lemmas.Bool.{true≢false}
use Rattle.fw_lemmas.proofs.Bools.{two_ways}
use Rattle.fw_time.specs.Stamp.{Stamp}
use Rattle.fw_bag.specs.declared.rec.Rec.{Rec}
use Rattle.fw_flow.specs.Dataflow.{System, Dataflow, is_of_numbers, is_notified_kind, send_stamp_of_kind, is_output_kind, is_sequence_kind, out_domain_of_kind, is_loop, domain_within}
use Rattle.fw_flow.specs.NodeFunction.{event_stamp, recs_on, sends_of_kind, messages_at_some}
use Rattle.fw_flow.specs.Restoring.{restoring_of_policy}
use Rattle.fw_flow.specs.WellFormed.{may_keep_nothing, IsPolicyAllowed}
use Rattle.fw_flow.specs.WholeBags.{Timed, outputs_of_kind, joint_bag, recs_for_one, one_by_one}
use Rattle.fw_flow.specs.declared.event.Event.TheVariants.{Inject, Deliver, Notify}
use Rattle.fw_flow.specs.declared.event.Event.{Event}
use Rattle.fw_flow.specs.declared.event.Message.{Message}
use Rattle.fw_flow.specs.declared.kind.Kind.TheVariants.{Input, OutputEpoch, OutputNumber, Select, Concat, Distinct, Join, Sum, Enter, Feedback, Leave, Total, Sequence, Ledger, Regroup}
use Rattle.fw_flow.specs.Kind.{Kind}
use Rattle.fw_flow.specs.declared.kind.Policy.{Policy}
use Rattle.fw_flow.specs.declared.restoring.Restoring.TheVariants.{Anything}
use Rattle.fw_flow.specs.declared.kind.Policy.TheVariants as policy
use Rattle.fw_flow.proofs.Chains.{parent-no_number}
use Rattle.fw_model.specs.Sending.{SendsByCount, SendsByStamp, is_single_kind}

-- ---- sorts

-- whether a node of the kind is no input, no output and no sequence
abbrev pub is_inner : Kind → Bool
is_inner Input = false
is_inner OutputEpoch = false
is_inner OutputNumber = false
is_inner Sequence = false
is_inner kind = true

-- the kind is an input's, an output's, a sequence's, or of the others
abbrev pub Sort : Kind → Type 0
Sort kind = (kind ≡ Input) ⊎ ((is_output_kind kind ≡ true) ⊎ (SendsByCount kind ⊎ (is_inner kind ≡ true)))

pub sort_of : (kind : Kind) → Sort kind
sort_of Input = inl refl
sort_of OutputEpoch = inr (inl refl)
sort_of OutputNumber = inr (inl refl)
sort_of Sequence = inr (inr (inl refl))
sort_of kind = inr (inr (inr refl))

pub inner-not_output : (kind : Kind) → is_inner kind ≡ true → is_output_kind kind ≡ false
inner-not_output OutputEpoch k = cc
inner-not_output OutputNumber k = cc
inner-not_output kind k = refl

-- whether a node of the kind sends for each rec alone, as it comes
abbrev pub sends_one_by_one : Kind → Bool
sends_one_by_one (Select selection within) = true
sends_one_by_one (Concat within) = true
sends_one_by_one (Enter l) = true
sends_one_by_one (Feedback l) = true
sends_one_by_one (Leave l) = true
sends_one_by_one (Regroup n) = true
sends_one_by_one kind = false

-- whether a node of the kind sends at the deliveries, and more where more came
abbrev pub sends_at_once : Kind → Bool
sends_at_once (Distinct within) = true
sends_at_once (Join within) = true
sends_at_once kind = sends_one_by_one kind

-- whether a node of the kind sends sums of what came, once it is notified
abbrev pub sends_sums : Kind → Bool
sends_sums (Sum within) = true
sends_sums Total = true
sends_sums kind = false

-- the sorts of the kinds that are no input, no output and no sequence
abbrev pub InnerSort : Kind → Type 0
InnerSort kind = (sends_at_once kind ≡ true) ⊎ ((sends_sums kind ≡ true) ⊎ (kind ≡ Ledger))

pub inner_sort : (kind : Kind) → is_inner kind ≡ true → InnerSort kind
inner_sort (Sum n) k = inr (inl refl)
inner_sort Total k = inr (inl refl)
inner_sort Ledger k = inr (inr refl)
inner_sort (Distinct n) k = inl refl
inner_sort (Join n) k = inl refl
inner_sort (Select s n) k = inl refl
inner_sort (Concat n) k = inl refl
inner_sort (Enter l) k = inl refl
inner_sort (Feedback l) k = inl refl
inner_sort (Leave l) k = inl refl
inner_sort (Regroup n) k = inl refl
inner_sort kind k = absurd (cc)

pub once-not_notified : (kind : Kind) → sends_at_once kind ≡ true → is_notified_kind kind ≡ false
once-not_notified (Sum n) k = absurd (cc)
once-not_notified Total k = absurd (cc)
once-not_notified Sequence k = absurd (cc)
once-not_notified kind k = refl

pub sums-stamp : (sys : System) (kind : Kind) → sends_sums kind ≡ true → (u s : Stamp) → send_stamp_of_kind sys.flow kind u ≡ Some s → u ≡ s
sums-stamp sys (Sum n) k u s e = cc
sums-stamp sys Total k u s e = cc
sums-stamp sys kind k u s e = absurd (cc)

pub sums-notified : (kind : Kind) → sends_sums kind ≡ true → is_notified_kind kind ≡ true
sums-notified (Sum n) k = refl
sums-notified Total k = refl
sums-notified kind k = absurd (cc)

-- ---- a kind that sends by count

pub is_sequence : (kind : Kind) → is_sequence_kind kind ≡ true → SendsByCount kind
is_sequence Sequence e = refl
is_sequence kind e = absurd (cc)

-- a kind sends by count, or it is a single one
pub sends_by : (kind : Kind) → SendsByCount kind ⊎ (is_single_kind kind ≡ true)
sends_by Sequence = inl refl
sends_by kind = inr refl

-- a single kind is no sequence, and the other way round
pub single-no_sequence : (kind : Kind) → is_single_kind kind ≡ true → is_sequence_kind kind ≡ false
single-no_sequence Sequence s = absurd (cc)
single-no_sequence kind s = refl

pub no_sequence-single : (kind : Kind) → is_sequence_kind kind ≡ false → is_single_kind kind ≡ true
no_sequence-single kind n = ap not n

-- what a node of a single kind sends at an event, it sends at the send stamp
pub at_send_stamp : (sys : System) (kind : Kind) (before : List Event) (v : Event) → is_single_kind kind ≡ true
    → sends_of_kind sys kind before v ≡ messages_at_some (send_stamp_of_kind sys.flow kind (event_stamp v)) (event_stamp v) (recs_on sys kind before v)
at_send_stamp sys Sequence before v n = absurd (cc)
at_send_stamp sys kind before v n = refl

pub by_stamp-no_sequence : (flow : Dataflow) (kind : Kind) → SendsByStamp flow kind → is_sequence_kind kind ≡ false
by_stamp-no_sequence flow Sequence p = absurd p
by_stamp-no_sequence flow kind p = refl

pub by_stamp-single : (flow : Dataflow) (kind : Kind) → SendsByStamp flow kind → is_single_kind kind ≡ true
by_stamp-single flow Sequence p = absurd p
by_stamp-single flow kind p = refl

pub kept-single : (kind : Kind) → may_keep_nothing kind ≡ true → is_single_kind kind ≡ true
kept-single Sequence k = absurd (two_ways false k refl)
kept-single kind k = refl

-- a sequence keeps something
pub keeps_something : (p : Policy) → IsPolicyAllowed Sequence p → restoring_of_policy p ≡ Anything → ⊥
keeps_something policy.None a e = cc
keeps_something policy.Lazy a e = cc
keeps_something policy.Logged a e = cc
keeps_something policy.Eager a e = cc
keeps_something policy.Full a e = cc

-- ---- kinds whose messages are at a loop's times

-- a node whose messages are at a loop's times is no input, no output and no sequence
pub inner-from_loop : (flow : Dataflow) (kind : Kind) → is_loop (out_domain_of_kind flow kind) ≡ true → is_inner kind ≡ true
inner-from_loop flow Input k = cc
inner-from_loop flow OutputEpoch k = cc
inner-from_loop flow OutputNumber k = cc
inner-from_loop flow Sequence k = cc
inner-from_loop flow kind k = refl

-- ---- kinds whose messages are numbered

not_number : (within : Option ℕ) → is_of_numbers (domain_within within) ≡ true → ⊥
not_number None k = cc
not_number (Some l) k = cc

pub sends_numbers : (flow : Dataflow) (kind : Kind) → is_of_numbers (out_domain_of_kind flow kind) ≡ true → (SendsByCount kind ⊎ (kind ≡ Ledger)) ⊎ (kind ≡ OutputNumber)
sends_numbers flow Input k = absurd (cc)
sends_numbers flow OutputEpoch k = absurd (cc)
sends_numbers flow OutputNumber k = inr refl
sends_numbers flow (Select selection within) k = absurd (not_number within k)
sends_numbers flow (Concat within) k = absurd (not_number within k)
sends_numbers flow (Distinct within) k = absurd (not_number within k)
sends_numbers flow (Join within) k = absurd (not_number within k)
sends_numbers flow (Sum within) k = absurd (not_number within k)
sends_numbers flow (Enter l) k = absurd (cc)
sends_numbers flow (Feedback l) k = absurd (cc)
sends_numbers flow (Leave l) k = absurd (true≢false (sym k ∙ parent-no_number flow l))
sends_numbers flow Total k = absurd (cc)
sends_numbers flow Sequence k = inl (inl refl)
sends_numbers flow Ledger k = inl (inr refl)
sends_numbers flow (Regroup n) k = absurd (cc)

-- ---- kinds that send for each rec alone

-- what each event makes a node of such a kind send, and what it sends in all
pub record IsOneByOne (kind : Kind) : Type 0 where
  pub injected : (sys : System) (before : List Event) (p x : ℕ)
      → sends_of_kind sys kind before (Inject p x) ≡ messages_at_some (send_stamp_of_kind sys.flow kind (x ∷ [])) (x ∷ []) []
  pub delivered : (sys : System) (before : List Event) (e : ℕ) (m : Message)
      → sends_of_kind sys kind before (Deliver e m) ≡ messages_at_some (send_stamp_of_kind sys.flow kind m.at) m.at (recs_for_one kind m.rec)
  pub notified : (sys : System) (before : List Event) (p : ℕ) (t : Stamp)
      → sends_of_kind sys kind before (Notify p t) ≡ messages_at_some (send_stamp_of_kind sys.flow kind t) t []
  pub outputs : (flow : Dataflow) (batches : List (List Rec)) (bags : List (List Timed))
      → outputs_of_kind flow kind batches bags ≡ one_by_one flow kind (joint_bag bags)

pub one_by_one_kind : (kind : Kind) → sends_one_by_one kind ≡ true → IsOneByOne kind
one_by_one_kind (Select selection within) is = record { injected = λ sys before p x. refl; delivered = λ sys before e m. refl; notified = λ sys before p t. refl; outputs = λ flow batches bags. refl }
one_by_one_kind (Concat within) is = record { injected = λ sys before p x. refl; delivered = λ sys before e m. refl; notified = λ sys before p t. refl; outputs = λ flow batches bags. refl }
one_by_one_kind (Enter l) is = record { injected = λ sys before p x. refl; delivered = λ sys before e m. refl; notified = λ sys before p t. refl; outputs = λ flow batches bags. refl }
one_by_one_kind (Feedback l) is = record { injected = λ sys before p x. refl; delivered = λ sys before e m. refl; notified = λ sys before p t. refl; outputs = λ flow batches bags. refl }
one_by_one_kind (Leave l) is = record { injected = λ sys before p x. refl; delivered = λ sys before e m. refl; notified = λ sys before p t. refl; outputs = λ flow batches bags. refl }
one_by_one_kind (Regroup n) is = record { injected = λ sys before p x. refl; delivered = λ sys before e m. refl; notified = λ sys before p t. refl; outputs = λ flow batches bags. refl }
one_by_one_kind kind is = absurd (cc)
