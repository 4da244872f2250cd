-- Of which kind the node of a table is, where the kind looks past one time.
use Rattle.std.proofs.Common.{◌≡◌, subst}
use Rattle.fw_flow.specs.Kind.{Kind}
use Rattle.fw_flow.specs.declared.kind.Kind.TheVariants as kind
use Rattle.fw_flow.specs.Dataflow.{Dataflow}
use Rattle.fw_totals.specs.declared.total.Total.{Total}
use Rattle.fw_totals.specs.declared.ledger.Ledger.{Ledger}
use Rattle.fw_totals.specs.Total.{IsTotal}
use Rattle.fw_totals.specs.Ledger.{IsLedger}
use Rattle.fw_numbered.specs.declared.sequence.Sequence.{Sequence}
use Rattle.fw_numbered.specs.Sequence.{IsSequence}
use Rattle.fw_node.specs.declared.table.Table.{Table}
use Rattle.fw_node.specs.declared.table.Table.TheVariants as table
use Rattle.fw_node.specs.NodeTable.{IsNodeTable}
use Rattle.fw_node.specs.Past.{Past, is_taken}

-- what a table says, said of the same table
pub of_variant : (flow : Dataflow) (k : Kind) (past : Past) {s t : Table} → s ≡ t → IsNodeTable flow s k past → IsNodeTable flow t k past
of_variant flow k past e r = let P : Table → Type 0 = λ x. IsNodeTable flow x k past in subst P e r

module _ (flow : Dataflow) (past : Past) (P : Kind → Type 0) where
  -- a total's table is that of a total
  pub of_total : (x : Total) (k : Kind) → IsNodeTable flow (table.Total x) k past
      → (IsTotal past.settled (is_taken past) x past.came → P kind.Total) → P k
  of_total x kind.Total r f = f r
  of_total x _ r f = absurd r

  -- a sequence's is that of a sequence
  pub of_sequence : (x : Sequence) (k : Kind) → IsNodeTable flow (table.Sequence x) k past
      → (IsSequence (is_taken past) x past.came past.numbered → P kind.Sequence) → P k
  of_sequence x kind.Sequence r f = f r
  of_sequence x _ r f = absurd r

  -- and a ledger's that of a ledger
  pub of_ledger : (x : Ledger) (k : Kind) → IsNodeTable flow (table.Ledger x) k past
      → (IsLedger past.settled x past.came → P kind.Ledger) → P k
  of_ledger x kind.Ledger r f = f r
  of_ledger x _ r f = absurd r
