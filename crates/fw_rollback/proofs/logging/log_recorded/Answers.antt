use Rattle.std.proofs.Common.{◌<◌, List, ◌++◌, length, sym, ap, subst, ◌∙◌, arith}
use Rattle.std.proofs.lemmas.List.{take_all}
use Rattle.fw_lemmas.proofs.Each.{each-at}
use Rattle.fw_record.specs.declared.logged.Logged.{Logged}
use Rattle.fw_record.specs.Log.{logged_on}
use Rattle.fw_rollback.specs.Restored.{log_of}
use Rattle.fw_rollback.proofs.LogLaws.{recorded-more, recorded-others}
use Rattle.fw_rollback.proofs.logging.log_recorded.Goals as goal

pub log_outside-requires : goal.log_outside-requires
log_outside-requires c =
    let there : (c.logged-item.result).edge < length c.args.logs.now =
    subst (λ (d : Logged). d.edge < length c.args.logs.now) (sym c.logged-item.is) (each-at (λ (d : Logged). d.edge < length c.args.logs.now) c.args.recorded.now c.loop-logged.logged-index c.logged-item.result c.loop-logged-test.true c.requires) in
    omega (arith, there, c.loop-logged.invariant.each)

pub loop-logged-preserved : goal.loop-logged-preserved
loop-logged-preserved c =
    let rs = c.args.recorded.now in
    let i = c.loop-logged.logged-index in
    record {
      logged = recorded-more c.args.flow.now c.args.low.now rs i c.logged-item.result c.copy.result c.args.logs.now c.loop-logged.logs c.log_outside.new.logs
          c.loop-logged-test.true c.logged-item.is c.copy.ensures c.loop-logged.invariant.logged c.in_ok-log_outside.ensures.logged c.log_outside.ensures.others;
      others = recorded-others rs i c.logged-item.result c.args.logs.now c.loop-logged.logs c.log_outside.new.logs c.loop-logged-test.true c.logged-item.is
          c.loop-logged.invariant.others c.log_outside.ensures.others;
      each = c.log_outside.ensures.each ∙ c.loop-logged.invariant.each;
    }

pub returns-clause-logged : goal.returns-clause-logged
returns-clause-logged c = λ e ms h.
    c.loop-logged.invariant.logged e ms h
    ∙ ap (λ (rs : List Logged). log_of c.args.flow.now c.args.low.now e (logged_on e rs ++ ms)) (take_all c.loop-logged.logged-index c.args.recorded.now c.loop-logged-test.false)
