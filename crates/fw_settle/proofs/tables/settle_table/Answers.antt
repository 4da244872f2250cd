use Rattle.std.proofs.Common.{◌≡◌, true, rules, refl, Some, subst}
use Rattle.std.specs.Prelude.{IfSome}
use Rattle.std.specs.List.{AllByRecursion}
use Rattle.fw_time.specs.Stamp.{in_domain}
use Rattle.fw_node.specs.declared.node.Node.{Node}
use Rattle.fw_running.specs.Kept.{table_of}
use Rattle.fw_settle.proofs.RecordLaws.{table-fits}
use Rattle.fw_settle.proofs.TableLaws.{table-shaped, table-settles, tables-there}
use Rattle.fw_settle.proofs.tables.settle_table.Goals as goal

pub settle-requires : goal.settle-requires
settle-requires c =
    let running = c.args.running.now in
    let got : table_of running c.args.node ≡ Some c.in-Some.table.now = search rules in
    subst (λ o. IfSome o (λ (node : Node). AllByRecursion (λ s. in_domain node.bounds s ≡ true) c.args.front.now)) got
    (table-fits running.flow c.args.node c.args.front.now (table_of running c.args.node) (c.requires.shaped.tables c.args.node c.requires.there) c.requires.front)

pub returns-in-Some-clause-shaped : goal.returns-in-Some-clause-shaped
returns-in-Some-clause-shaped c =
    let running = c.args.running.now in
    let got : table_of running c.args.node ≡ Some c.in-Some.table.now = search rules in
    table-shaped running _ c.args.node c.in-Some.table.now c.settle.new.self c.requires.shaped c.requires.there refl got refl (c.settle.ensures.node running.flow c.args.node)

pub returns-in-Some-clause-settled : goal.returns-in-Some-clause-settled
returns-in-Some-clause-settled c =
    let running = c.args.running.now in
    let got : table_of running c.args.node ≡ Some c.in-Some.table.now = search rules in
    table-settles c.settle.result c.args.node c.args.front.now running _ c.in-Some.table.now c.settle.new.self
    (tables-there running c.args.node c.requires.shaped c.requires.there) got refl c.settle.ensures.ok
