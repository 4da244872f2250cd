use Rattle.std.proofs.Common.{List, sym, ap, subst, refl, ◌∙◌, ◌++◌}
use Rattle.std.proofs.lemmas.List.{append-nil, take_all}
use Rattle.fw_lemmas.proofs.Each.{each-at}
use Rattle.fw_record.specs.declared.record.Record.{Record}
use Rattle.fw_keep.specs.Chains.{changes_of, logged_in_all, states_of}
use Rattle.fw_node.specs.ChainOf.{IsOfChain}
use Rattle.fw_rollback.specs.Asked.{CanServe}
use Rattle.fw_rollback.specs.Restored.{log_of}
use Rattle.fw_rollback.proofs.BuildLaws.{taken-more, logged-more}
use Rattle.fw_rollback.proofs.restored.take_each.Goals as goal

pub loop-what-init : goal.loop-what-init
loop-what-init c = record {
  chain = λ f state h. h;
  node = λ h. h;
  logged = λ e ms h. h ∙ ap (log_of c.args.flow.now c.args.low.now e) (sym (append-nil ms));
  others = λ e n. refl;
  each = refl;
}

pub take_one-requires-clause-serve : goal.take_one-requires-clause-serve
take_one-requires-clause-serve c =
    subst (CanServe c.args.flow.now c.args.node) (sym c.what-item.is)
    (each-at (CanServe c.args.flow.now c.args.node) c.args.records.now c.loop-what.what-index c.what-item.result c.loop-what-test.true c.requires.serve)

pub loop-what-preserved : goal.loop-what-preserved
loop-what-preserved c =
    let flow = c.args.flow.now in
    let rs = c.args.records.now in
    let i = c.loop-what.what-index in
    let inv = c.loop-what.invariant in
    record {
      chain = taken-more flow c.args.node rs i c.what-item.result c.args.table.now c.loop-what.table c.take_one.new.table c.loop-what-test.true c.what-item.is
          inv.chain c.in_ok-take_one.ensures.chain;
      node = λ h. c.take_one.ensures.node (inv.node h);
      logged = logged-more flow c.args.low.now rs i c.what-item.result c.args.logs.now c.loop-what.logs c.take_one.new.logs c.loop-what-test.true c.what-item.is
          inv.logged c.in_ok-take_one.ensures.logged;
      others = λ e n. c.take_one.ensures.others e n ∙ inv.others e n;
      each = c.take_one.ensures.each ∙ inv.each;
    }

pub returns-clause-chain : goal.returns-clause-chain
returns-clause-chain c = λ f state h.
    let all = take_all c.loop-what.what-index c.args.records.now c.loop-what-test.false in
    subst (λ (rs : List Record). IsOfChain c.args.flow.now c.args.node f state (states_of (changes_of rs)) c.loop-what.table) all
    (c.loop-what.invariant.chain f state h)

pub returns-clause-logged : goal.returns-clause-logged
returns-clause-logged c = λ e ms h.
    let all = take_all c.loop-what.what-index c.args.records.now c.loop-what-test.false in
    c.loop-what.invariant.logged e ms h
    ∙ ap (λ (rs : List Record). log_of c.args.flow.now c.args.low.now e (ms ++ logged_in_all e (changes_of rs))) all
