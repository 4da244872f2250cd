use Rattle.std.proofs.Common.{ap}
use Rattle.std.specs.Ordering.{nat_cmp}
use Rattle.std.specs.Map.{lookup}
use Rattle.std.specs.BTreeMap.{is_at}
use Rattle.fw_totals.specs.Totals.{total_in}
use Rattle.fw_totals.proofs.ledger.Ledger.new.Goals as goal

pub returns-clause-table : goal.returns-clause-table
returns-clause-table c = λ inside. record {
  table = c.new.ensures inside;
  running = λ q. ap (λ es. total_in (lookup (is_at (nat_cmp q)) es)) c.new-2.ensures.empty;
}
