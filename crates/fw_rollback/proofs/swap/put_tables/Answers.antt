use Rattle.std.proofs.Common.{◌≡◌, Option, None, length, get_or, ◌∙◌, arith}
use Rattle.fw_node.specs.declared.node.Node.{Node}
use Rattle.fw_rollback.specs.Built.{table_after}
use Rattle.fw_rollback.proofs.PutLaws.{nothing_put, put_next, put_more, all_put}
use Rattle.fw_rollback.proofs.swap.put_tables.Goals as goal

pub loop-table-init : goal.loop-table-init
loop-table-init c =
    let none : Option Node = None in
    nothing_put none (λ q. (table_after c.args.choice.now) q (get_or c.args.tables.now q none) (get_or c.args.built q none)) c.args.built c.args.tables.now

pub put_table-requires : goal.put_table-requires
put_table-requires c =
    let none : Option Node = None in
    let next = put_next none (λ q. (table_after c.args.choice.now) q (get_or c.args.tables.now q none) (get_or c.args.built q none)) c.args.built c.args.tables.now c.loop-table.rest c.pop.new.self c.loop-table.tables c.in-Some.table c.loop-table.invariant c.in-Some.ensures.some in
    let place : c.at.result ≡ length c.pop.new.self = c.at.ensures ∙ c.len.ensures in
    omega (arith, next.1, place, c.requires.built, c.requires.each, c.loop-table.invariant.each)

pub loop-table-preserved : goal.loop-table-preserved
loop-table-preserved c =
    let none : Option Node = None in
    put_more none (table_after c.args.choice.now) c.args.built c.args.tables.now c.loop-table.rest c.pop.new.self c.loop-table.tables c.put_table.new.tables c.in-Some.table c.at.result
    c.loop-table.invariant c.in-Some.ensures.some (c.at.ensures ∙ c.len.ensures) c.put_table.ensures.each c.put_table.ensures.put c.put_table.ensures.others

pub returns-clause-put : goal.returns-clause-put
returns-clause-put c = λ q l.
    let none : Option Node = None in
    all_put none (λ q. (table_after c.args.choice.now) q (get_or c.args.tables.now q none) (get_or c.args.built q none)) c.args.built c.args.tables.now c.loop-table.rest c.loop-table.tables c.loop-table.invariant c.in_default.ensures.none q (omega (arith, l, c.requires.built))
