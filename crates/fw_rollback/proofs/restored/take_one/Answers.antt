use Rattle.std.proofs.Common.{◌≡◌, ◌≢◌, ◌<◌, ◌++◌, List, length, Result, Ok, Err, OnOk, sym, subst}
use Rattle.std.specs.List.{AllByRecursion, Contains}
use Rattle.fw_flow.specs.Dataflow.{out_edges}
use Rattle.fw_record.specs.declared.logged.Logged.{Logged}
use Rattle.fw_record.specs.declared.record.Record.{Record}
use Rattle.fw_record.specs.Log.{logged_on}
use Rattle.fw_keep.specs.Chains.{changes_in, logged_in_all, states_of}
use Rattle.fw_node.specs.ChainOf.{IsOfChain}
use Rattle.fw_rollback.specs.Asked.{CanServe}
use Rattle.fw_rollback.specs.Edges.{on_edge}
use Rattle.fw_rollback.specs.Restored.{log_of}
use Rattle.fw_rollback.proofs.BuildLaws.{logged-there, logged-apart, one-taken, one-logged}
use Rattle.fw_rollback.proofs.restored.take_one.Goals as goal

on-ok : {T E P : Type 0} (r : Result T E) → P → OnOk r P
on-ok (Ok x) p = p
on-ok (Err e) p = tt

pub log_recorded-requires : goal.log_recorded-requires
log_recorded-requires c =
    let flow = c.args.flow.now in
    let p = c.args.node in
    let log : List Logged = c.in-Changes.checkpoint.log in
    let served : AllByRecursion (λ (l : Logged). Contains (out_edges flow p) l.edge) log = subst (CanServe flow p) c.in-Changes.is c.requires.serve in
    subst (λ (ls : List Logged). AllByRecursion (λ (l : Logged). l.edge < length c.args.logs.now) ls) (sym c.as_slice.ensures)
    (subst (λ n. AllByRecursion (λ (l : Logged). l.edge < n) log) (sym c.requires.each) (logged-there flow p log served))

pub returns-in_err-log_recorded-in-Changes-clause-others : goal.returns-in_err-log_recorded-in-Changes-clause-others
returns-in_err-log_recorded-in-Changes-clause-others c = λ e n.
    let flow = c.args.flow.now in
    let p = c.args.node in
    let log : List Logged = c.in-Changes.checkpoint.log in
    let served : AllByRecursion (λ (l : Logged). Contains (out_edges flow p) l.edge) log = subst (CanServe flow p) c.in-Changes.is c.requires.serve in
    c.log_recorded.ensures.others e
    (subst (λ (ls : List Logged). AllByRecursion (λ (l : Logged). l.edge ≢ e) ls) (sym c.as_slice.ensures) (logged-apart flow p log served e n))

pub returns-in_ok-log_recorded-in-Changes-clause-others : goal.returns-in_ok-log_recorded-in-Changes-clause-others
returns-in_ok-log_recorded-in-Changes-clause-others c = λ e n.
    let flow = c.args.flow.now in
    let p = c.args.node in
    let log : List Logged = c.in-Changes.checkpoint.log in
    let served : AllByRecursion (λ (l : Logged). Contains (out_edges flow p) l.edge) log = subst (CanServe flow p) c.in-Changes.is c.requires.serve in
    c.log_recorded.ensures.others e
    (subst (λ (ls : List Logged). AllByRecursion (λ (l : Logged). l.edge ≢ e) ls) (sym c.as_slice.ensures) (logged-apart flow p log served e n))

pub returns-in_ok-log_recorded-in-Changes-clause-chain : goal.returns-in_ok-log_recorded-in-Changes-clause-chain
returns-in_ok-log_recorded-in-Changes-clause-chain c = λ f state done h.
    let flow = c.args.flow.now in
    let p = c.args.node in
    let node = c.args.table.now in
    let next = c.take_changes.new.self in
    subst (λ (r : Record). OnOk c.take_changes.result (IsOfChain flow p f state (done ++ states_of (changes_in r)) next)) (sym c.in-Changes.is)
    (one-taken flow p f state done c.in-Changes.checkpoint node next c.take_changes.result h (c.take_changes.ensures.ok flow p))

pub returns-in_ok-log_recorded-in-Changes-clause-logged : goal.returns-in_ok-log_recorded-in-Changes-clause-logged
returns-in_ok-log_recorded-in-Changes-clause-logged c = λ e ms h.
    let flow = c.args.flow.now in
    let low = c.args.low.now in
    let log = on_edge c.log_recorded.new.logs e in
    let got = subst (λ (ls : List Logged). log ≡ log_of flow low e (logged_on e ls ++ ms)) c.as_slice.ensures (c.in_ok-log_recorded-in-Changes.ensures.logged e ms h) in
    on-ok c.take_changes.result
    (subst (λ (r : Record). log ≡ log_of flow low e (ms ++ logged_in_all e (changes_in r))) (sym c.in-Changes.is)
    (one-logged flow low e c.in-Changes.checkpoint ms log got))
