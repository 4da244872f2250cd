use Rattle.std.proofs.Common.{◌≡◌}
use Rattle.fw_offers_text.specs.declared.statement.Statement.TheVariants.{Counts}
use Rattle.fw_offers_text.specs.Statements.{counts_spelled, in_its_domains, stated}
use Rattle.fw_offers_text.proofs.RecordingLaws.{ok_weaker}
use Rattle.fw_offers_text.proofs.TakenLaws.{stated_counts}
use Rattle.fw_offers_text.proofs.stating.statement_of.Goals as goal

pub returns-in-Some-node_spelled-4 : goal.returns-in-Some-node_spelled-4
returns-in-Some-node_spelled-4 c =
    ok_weaker (λ said. said ≡ in_its_domains c.args.flow.now (Counts c.in-Some-node_spelled-4.node (counts_spelled c.in-Counts.counts))) (λ said. said ≡ stated c.args.flow.now c.args.form) c.counts_of.result
    (λ said e. stated_counts c.args.flow.now c.args.form c.in-Counts.name c.bytes-in-Counts.result.now c.in-Counts.counts c.in-Some-node_spelled-4.node said c.in-Counts.is c.bytes-in-Counts.ensures c.in-Some-node_spelled-4.ensures e)
    (c.counts_of.ensures c.args.flow.now)
