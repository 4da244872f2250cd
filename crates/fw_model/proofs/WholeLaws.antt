-- What the nodes of each kind send in all is as the model asks: the laws of this with a case for each kind.
use Rattle.std.proofs.Common.{◌≡◌, true, false, refl, Some}
use Rattle.fw_lemmas.proofs.Bools.{two_ways}
use Rattle.fw_time.specs.Stamp.{Stamp, leq}
use Rattle.fw_time.specs.declared.stamp.Bounds.{Bounds}
use Rattle.fw_time.proofs.StampLaws.{leq-refl}
use Rattle.fw_flow.specs.Kind.{Kind}
use Rattle.fw_flow.specs.declared.kind.Kind.TheVariants.{Input, OutputEpoch, OutputNumber, Distinct, Join, Sum, Total, Sequence, Ledger}
use Rattle.fw_flow.specs.Dataflow.{Dataflow, domain_of_kind, out_domain_of_kind, bounds_of_domain, send_stamp_of_kind}
use Rattle.fw_flow.specs.WholeBags.{recs_for_one, outputs_of_kind}
use Rattle.fw_model.specs.Reads.{reads_of, reads_its_time_alone}
use Rattle.fw_model.specs.Wholes.{takes_part_of, IsLawfulWhole}
use Rattle.fw_model.proofs.KindSorts.{is_inner, sends_at_once}
use Rattle.fw_model.proofs.OutputLaws.{sent_at-some}
use Rattle.fw_model.proofs.SenderLaws.{sends_lawfully}
use Rattle.fw_model.proofs.ArrivalLaws.{SendsForDelivered}
use Rattle.fw_model.proofs.InputLaws.{each_injected}
use Rattle.fw_model.proofs.OwnStampLaws.{nothing_made}
use Rattle.fw_model.proofs.OneByOneLaws.{each_alone, one-arrives}
use Rattle.fw_model.proofs.DistinctLaws.{each_once, distinct-arrives}
use Rattle.fw_model.proofs.JoinLaws.{each_pair, join-arrives}
use Rattle.fw_model.proofs.SumLaws.{each_sum, each_total}
use Rattle.fw_model.proofs.NotifiedLaws.{sum-arrives, total-arrives}
use Rattle.fw_model.proofs.CountLaws.{each_numbered}
use Rattle.fw_model.proofs.LedgerLaws.{each_running, ledger-arrives}

-- the bounds of what comes to the nodes of a kind, and of what they send
abbrev pub bounds_in : Dataflow → Kind → Bounds
bounds_in flow kind = bounds_of_domain flow (domain_of_kind flow kind)

abbrev pub bounds_out : Dataflow → Kind → Bounds
bounds_out flow kind = bounds_of_domain flow (out_domain_of_kind flow kind)

-- they read their own time alone
abbrev pub ReadsAlone : Kind → Type 0
ReadsAlone kind = reads_its_time_alone (reads_of kind) ≡ true

-- they send at once
abbrev pub SendsAtOnce : Kind → Type 0
SendsAtOnce kind = sends_at_once kind ≡ true

-- they are no inputs, no outputs and no sequences
abbrev pub IsInner : Kind → Type 0
IsInner kind = is_inner kind ≡ true

-- what the nodes of a kind send in all is as the model asks
abbrev pub MakesLawfully : Dataflow → Kind → Type 0
MakesLawfully flow kind =
    IsLawfulWhole (bounds_in flow kind) (bounds_out flow kind) (takes_part_of flow kind) (ReadsAlone kind) (SendsAtOnce kind) (IsInner kind) (outputs_of_kind flow kind)

pub makes_lawfully : (flow : Dataflow) (kind : Kind) → MakesLawfully flow kind
makes_lawfully flow Input = each_injected (bounds_in flow Input) (takes_part_of flow Input) (ReadsAlone Input) (SendsAtOnce Input) (IsInner Input)
makes_lawfully flow OutputEpoch =
    nothing_made (bounds_in flow OutputEpoch) (bounds_out flow OutputEpoch) (takes_part_of flow OutputEpoch) (ReadsAlone OutputEpoch) (SendsAtOnce OutputEpoch) (IsInner OutputEpoch)
makes_lawfully flow OutputNumber =
    nothing_made (bounds_in flow OutputNumber) (bounds_out flow OutputNumber) (takes_part_of flow OutputNumber) (ReadsAlone OutputNumber) (SendsAtOnce OutputNumber) (IsInner OutputNumber)
makes_lawfully flow (Distinct within) = each_once (bounds_in flow (Distinct within)) (ReadsAlone (Distinct within)) (SendsAtOnce (Distinct within)) (IsInner (Distinct within))
makes_lawfully flow (Join within) = each_pair (bounds_in flow (Join within)) (ReadsAlone (Join within)) (SendsAtOnce (Join within)) (IsInner (Join within))
makes_lawfully flow (Sum within) = each_sum (bounds_in flow (Sum within)) (ReadsAlone (Sum within)) (SendsAtOnce (Sum within)) (IsInner (Sum within)) (λ k. two_ways false k refl)
makes_lawfully flow Total = each_total (bounds_in flow Total) (ReadsAlone Total) (SendsAtOnce Total) (IsInner Total) (λ k. two_ways false k refl) (λ k. two_ways false k refl)
makes_lawfully flow Sequence =
    each_numbered (bounds_in flow Sequence) (takes_part_of flow Sequence) (ReadsAlone Sequence) (SendsAtOnce Sequence) (IsInner Sequence)
    (λ k. two_ways false k refl) (λ k. two_ways false k refl) (λ k. two_ways false k refl)
makes_lawfully flow Ledger = each_running (bounds_in flow Ledger) (ReadsAlone Ledger) (SendsAtOnce Ledger) (IsInner Ledger) (λ k. two_ways false k refl) (λ k. two_ways false k refl)
makes_lawfully flow kind =
    each_alone (bounds_in flow kind) (bounds_out flow kind) (send_stamp_of_kind flow kind) (recs_for_one kind) (sends_lawfully flow kind).lands (ReadsAlone kind) (SendsAtOnce kind) (IsInner kind)

-- what a node sent at a stamp, of which it is owed no notice, is what its kind makes of what was delivered
pub arrives : (kind : Kind) → is_inner kind ≡ true → SendsForDelivered kind
arrives (Distinct within) k = distinct-arrives within
arrives (Join within) k = join-arrives within
arrives (Sum within) k = sum-arrives within
arrives Total k = total-arrives
arrives Ledger k = ledger-arrives
arrives kind k = one-arrives kind k

-- what takes part in what is made at a stamp sends at it or below
pub takes-sent : (flow : Dataflow) (kind : Kind) → is_inner kind ≡ true → (t u : Stamp) → takes_part_of flow kind t u ≡ true
    → (s : Stamp) × (send_stamp_of_kind flow kind u ≡ Some s) × (leq s t ≡ true)
takes-sent flow Total is t u k = (u, refl, k)
takes-sent flow Ledger is t u k = (u, refl, k)
takes-sent flow Sequence is t u k = absurd (two_ways false is refl)
takes-sent flow kind is t u k = (t, sent_at-some t (send_stamp_of_kind flow kind u) k, leq-refl t)
