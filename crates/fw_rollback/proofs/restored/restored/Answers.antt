use Rattle.std.proofs.Common.{◌≡◌, ◌<◌, ◌++◌, ◌∙◌, List, length, sym, subst}
use Rattle.std.specs.List.{AllByRecursion}
use Rattle.fw_record.specs.declared.logged.Logged.{Logged}
use Rattle.fw_record.specs.Log.{logged_on}
use Rattle.fw_keep.specs.Chains.{changes_of}
use Rattle.fw_rollback.specs.Edges.{on_edge}
use Rattle.fw_rollback.specs.Restored.{log_of}
use Rattle.fw_rollback.proofs.BuildLaws.{first-serves, first-apart, logged-there, restored-chain, restored-none, up_to-parts}
use Rattle.fw_rollback.proofs.restored.restored.Goals as goal

pub log_recorded-requires : goal.log_recorded-requires
log_recorded-requires c =
    let flow = c.args.flow.now in
    let p = c.args.node in
    let log : List Logged = c.in-Some.checkpoint.now.log in
    let served = first-serves flow p c.args.records.now c.in-Some.checkpoint.now (up_to-parts c.args.front.now c.args.records.now c.in-Some.checkpoint.now c.in-Some.ensures).0 c.requires.serve in
    subst (λ (ls : List Logged). AllByRecursion (λ (l : Logged). l.edge < length c.args.logs.now) ls) (sym c.as_slice.ensures)
    (subst (λ n. AllByRecursion (λ (l : Logged). l.edge < n) log) (sym c.requires.each) (logged-there flow p log served))

pub returns-in_err-log_recorded-in-Some-clause-others : goal.returns-in_err-log_recorded-in-Some-clause-others
returns-in_err-log_recorded-in-Some-clause-others c = λ e n.
    c.log_recorded.ensures.others e
    (first-apart c.args.flow.now c.args.node c.args.records.now c.in-Some.checkpoint.now c.as_slice.result.now
    (up_to-parts c.args.front.now c.args.records.now c.in-Some.checkpoint.now c.in-Some.ensures).0 c.requires.serve c.as_slice.ensures e n)

pub returns-in_err-table-in-Some-clause-others : goal.returns-in_err-table-in-Some-clause-others
returns-in_err-table-in-Some-clause-others c = λ e n.
    c.log_recorded.ensures.others e
    (first-apart c.args.flow.now c.args.node c.args.records.now c.in-Some.checkpoint.now c.as_slice.result.now
    (up_to-parts c.args.front.now c.args.records.now c.in-Some.checkpoint.now c.in-Some.ensures).0 c.requires.serve c.as_slice.ensures e n)

pub returns-in_err-take_each-in-Some-clause-others : goal.returns-in_err-take_each-in-Some-clause-others
returns-in_err-take_each-in-Some-clause-others c = λ e n.
    c.take_each.ensures.others e n
    ∙ c.log_recorded.ensures.others e
    (first-apart c.args.flow.now c.args.node c.args.records.now c.in-Some.checkpoint.now c.as_slice.result.now
    (up_to-parts c.args.front.now c.args.records.now c.in-Some.checkpoint.now c.in-Some.ensures).0 c.requires.serve c.as_slice.ensures e n)

pub returns-in_ok-take_each-in-Some-clause-others : goal.returns-in_ok-take_each-in-Some-clause-others
returns-in_ok-take_each-in-Some-clause-others c = λ e n.
    c.take_each.ensures.others e n
    ∙ c.log_recorded.ensures.others e
    (first-apart c.args.flow.now c.args.node c.args.records.now c.in-Some.checkpoint.now c.as_slice.result.now
    (up_to-parts c.args.front.now c.args.records.now c.in-Some.checkpoint.now c.in-Some.ensures).0 c.requires.serve c.as_slice.ensures e n)

pub returns-in_ok-take_each-in-Some-clause-built : goal.returns-in_ok-take_each-in-Some-clause-built
returns-in_ok-take_each-in-Some-clause-built c =
    let flow = c.args.flow.now in
    let low = c.args.low.now in
    let first = c.in_ok-table-in-Some.table in
    let mid = c.log_recorded.new.logs in
    restored-chain flow low c.args.node c.args.front.now c.args.records.now c.in-Some.checkpoint.now first c.take_each.new.table c.args.logs.now mid c.take_each.new.logs
    c.in-Some.ensures c.requires.empty c.in_ok-table-in-Some.ensures.table c.in_ok-table-in-Some.ensures.node
    (λ e ms h.
    let P : List Logged → Type 0 = λ ls. on_edge mid e ≡ log_of flow low e (logged_on e ls ++ ms) in
    subst P c.as_slice.ensures (c.in_ok-log_recorded-in-Some.ensures.logged e ms h))
    c.in_ok-take_each-in-Some.ensures.chain c.take_each.ensures.node c.in_ok-take_each-in-Some.ensures.logged

pub returns-in-None-clause-built : goal.returns-in-None-clause-built
returns-in-None-clause-built c =
    restored-none c.args.flow.now c.args.low.now c.args.node c.args.front.now c.args.records.now (changes_of c.args.records.now) c.new.result c.args.logs.now c.in-None.ensures c.requires.empty
    c.new.ensures.table
