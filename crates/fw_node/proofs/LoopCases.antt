-- Of which kind the node of a table in a loop is.
use Rattle.std.proofs.Common.{◌≡◌, false, List, refl}
use Rattle.std.specs.declared.cmp.Ordering.{Ordering}
use Rattle.fw_time.specs.Stamp.{Stamp}
use Rattle.fw_time.specs.declared.time.Nest.{Nest}
use Rattle.fw_bag.specs.Arrivals.{Arrival}
use Rattle.fw_flow.specs.Kind.{Kind}
use Rattle.fw_flow.specs.declared.kind.Kind.TheVariants as kind
use Rattle.fw_flow.specs.Dataflow.{Dataflow, is_sequence_kind}
use Rattle.fw_node.specs.declared.in_loop.InLoop.{InLoop}
use Rattle.fw_node.specs.declared.in_loop.InLoop.TheVariants as table
use Rattle.fw_node.specs.LawsOfAnswers.{IsPerTime}
use Rattle.fw_node.specs.LoopTable.{IsLoopTable}
use Rattle.fw_node.proofs.KindCases.{timed_plain}

-- what a kind in a loop sends needs what came at the stamp alone, and it numbers nothing
pub record IsLoopKind (k : Kind) : Type 0 where
  pub per_time : IsPerTime k
  pub unnumbered : is_sequence_kind k ≡ false

pub loop_kind : {T : Type 0} (cmp : Nest T → Nest T → Ordering) (coords : Nest T → Stamp) (flow : Dataflow) (s : InLoop T) (k : Kind) (came : List Arrival)
    → IsLoopTable cmp coords flow s k came → IsLoopKind k
loop_kind cmp coords flow (table.Here s) k came r =
    let p = timed_plain cmp coords flow s k came r in
    record { per_time = p.per_time; unnumbered = p.unnumbered }
loop_kind cmp coords flow (table.Feedback f) (kind.Feedback l) came r = record { per_time = tt; unnumbered = refl }
loop_kind cmp coords flow (table.Feedback f) _ came r = absurd r
loop_kind cmp coords flow (table.Leave f) (kind.Leave l) came r = record { per_time = tt; unnumbered = refl }
loop_kind cmp coords flow (table.Leave f) _ came r = absurd r
