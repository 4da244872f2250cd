-- Of which kind the node of a table is.
use Rattle.std.proofs.Common.{◌≡◌, ◌<◌, Bool, true, false, cond, List, [], ◌∷◌, Some, refl}
use Rattle.fw_flow.specs.Dataflow.{Dataflow, send_stamp_of_kind, is_sequence_kind}
use Rattle.std.specs.declared.cmp.Ordering.{Ordering}
use Rattle.fw_time.specs.Stamp.{Stamp}
use Rattle.fw_flow.specs.Kind.{Kind}
use Rattle.fw_flow.specs.declared.kind.Kind.TheVariants as kind
use Rattle.fw_bag.specs.Arrivals.{Arrival, arrivals_inside}
use Rattle.fw_keyed.specs.Tables.{IsJoin, IsSum}
use Rattle.fw_keyed.specs.declared.sum.Sum.{Sum}
use Rattle.fw_keyed.specs.declared.join.Join.{Join}
use Rattle.fw_keyed.specs.Sides.{AreOfTwo}
use Rattle.fw_node.specs.declared.at_time.AtTime.{AtTime}
use Rattle.fw_node.specs.declared.at_time.AtTime.TheVariants as table
use Rattle.fw_node.specs.LawsOfAnswers.{IsPerTime}
use Rattle.fw_node.specs.TimedTable.{IsTimedTable}

module _ {T : Type 0} (cmp : T → T → Ordering) (coords : T → Stamp) (came : List Arrival) (P : Kind → Type 0) where
  -- a sum's table is that of a sum
  pub of_sum : (s : Sum T) (k : Kind) → IsTimedTable cmp coords (table.Sum s) k came
      → ((w : _) → IsSum cmp coords s came → P (kind.Sum w)) → P k
  of_sum s (kind.Sum w) r f = f w r
  of_sum s _ r f = absurd r

  -- a join's table is that of a join
  pub of_join : (s : Join T) (k : Kind) → IsTimedTable cmp coords (table.Join s) k came
      → ((w : _) → IsJoin cmp coords s came × AreOfTwo came → P (kind.Join w)) → P k
  of_join s (kind.Join w) r f = f w r
  of_join s _ r f = absurd r

two_cases : (a : Arrival) (kept : List Arrival) → a.side < 2 → AreOfTwo kept → (b : Bool) → AreOfTwo (cond b (a ∷ kept) kept)
two_cases a kept h k true = (h, k)
two_cases a kept h k false = k

-- what is kept of the arrivals on two sides is on two sides
pub two_inside : (keep : Stamp → Bool) (came : List Arrival) → AreOfTwo came → AreOfTwo (arrivals_inside keep came)
two_inside keep [] h = tt
two_inside keep (a ∷ came) h = two_cases a (arrivals_inside keep came) h.0 (two_inside keep came h.1) (keep a.at)

-- A kind that may be anywhere sends at the stamp of its event, what it sends needs what came there alone, and it numbers nothing.
pub record IsPlain (flow : Dataflow) (k : Kind) : Type 0 where
  pub here : (t : Stamp) → send_stamp_of_kind flow k t ≡ Some t
  pub per_time : IsPerTime k
  pub unnumbered : is_sequence_kind k ≡ false

pub timed_plain : {T : Type 0} (cmp : T → T → Ordering) (coords : T → Stamp) (flow : Dataflow) (s : AtTime T) (k : Kind) (came : List Arrival)
    → IsTimedTable cmp coords s k came → IsPlain flow k
timed_plain cmp coords flow (table.Select s) (kind.Select selection w) came r = record { here = λ t. refl; per_time = tt; unnumbered = refl }
timed_plain cmp coords flow (table.Select s) _ came r = absurd r
timed_plain cmp coords flow (table.Concat s) (kind.Concat w) came r = record { here = λ t. refl; per_time = tt; unnumbered = refl }
timed_plain cmp coords flow (table.Concat s) _ came r = absurd r
timed_plain cmp coords flow (table.Distinct s) (kind.Distinct w) came r = record { here = λ t. refl; per_time = tt; unnumbered = refl }
timed_plain cmp coords flow (table.Distinct s) _ came r = absurd r
timed_plain cmp coords flow (table.Join s) (kind.Join w) came r = record { here = λ t. refl; per_time = tt; unnumbered = refl }
timed_plain cmp coords flow (table.Join s) _ came r = absurd r
timed_plain cmp coords flow (table.Sum s) (kind.Sum w) came r = record { here = λ t. refl; per_time = tt; unnumbered = refl }
timed_plain cmp coords flow (table.Sum s) _ came r = absurd r
