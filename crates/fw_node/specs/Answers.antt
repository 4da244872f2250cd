-- What a node answers, from what came to it.
use Rattle.std.specs.Prelude.{not, ◌&&◌, ◌==◌, if◌then◌else◌, List, [], ◌∷◌, map, option_to_list}
use Rattle.fw_time.specs.Stamp.{Stamp, leq, same}
use Rattle.fw_bag.specs.declared.rec.Rec.{Rec}
use Rattle.fw_bag.specs.Arrivals.{Arrival, recs_where, arrivals_at, recs_of}
use Rattle.fw_bag.specs.Keyed.{plus, sorted_recs, is_among, joined_rec, value_sum, distinct_keys, sums_of}
use Rattle.fw_bag.specs.Select.{selected_rec}
use Rattle.fw_flow.specs.declared.event.Message.{Message}
use Rattle.fw_flow.specs.Kind.{Kind}
use Rattle.fw_flow.specs.declared.kind.Kind.TheVariants.{Select, Concat, Distinct, Join, Sum, Enter, Feedback, Leave, Total, Sequence, Ledger, Regroup}
use Rattle.fw_table.specs.declared.sent.Sent.{Sent}

-- the recs that a delivery makes a node of the kind send, from what came before
abbrev pub recs_for : Kind → List Arrival → Arrival → List Rec
recs_for (Select selection within) came a = option_to_list (selected_rec selection a.rec)
recs_for (Concat within) came a = a.rec ∷ []
recs_for (Enter l) came a = a.rec ∷ []
recs_for (Feedback l) came a = a.rec ∷ []
recs_for (Leave l) came a = a.rec ∷ []
recs_for (Regroup n) came a = a.rec ∷ []
recs_for (Distinct within) came a = if is_among a.rec (recs_of (arrivals_at a.at came)) then [] else a.rec ∷ []
recs_for (Join within) came a = joined_rec a.rec (recs_where (λ b. not (b.side == a.side) && same b.at a.at) came)
recs_for Ledger came a = record { key = a.rec.key; value = plus a.rec.value (value_sum a.rec.key (recs_of came)) } ∷ []
recs_for kind came a = []

-- the recs that a notification makes a node of the kind send, from what came
abbrev pub recs_at_notice : Kind → List Arrival → Stamp → List Rec
recs_at_notice (Sum within) came t = sums_of (distinct_keys (recs_of (arrivals_at t came))) (recs_of (arrivals_at t came))
recs_at_notice Total came t = sums_of (distinct_keys (recs_of (arrivals_at t came))) (recs_where (λ a. leq a.at t) came)
recs_at_notice Sequence came t = sorted_recs (recs_of (arrivals_at t came))
recs_at_notice kind came t = []

-- messages without their causes
abbrev pub without_causes : List Message → List (Stamp × Rec)
without_causes ms = map (λ (m : Message). (m.at, m.rec)) ms

-- recs at stamps as messages of one cause
abbrev pub caused_by : Stamp → List (Stamp × Rec) → List Message
caused_by cause sent = map (λ x. record { at = x.0; rec = x.1; causes = cause ∷ [] }) sent

-- the recs at their stamp
abbrev pub sent_list : Sent Stamp → List (Stamp × Rec)
sent_list sent = map (λ r. (sent.at, r)) sent.recs
