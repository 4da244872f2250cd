use Rattle.std.proofs.Common.{◌<◌, [], ◌++◌, List, length, refl, sym, ap, ◌∙◌, arith}
use Rattle.std.proofs.lemmas.List.{take_all}
use Rattle.fw_flow.specs.declared.event.Message.{Message}
use Rattle.fw_model.specs.Carried.{carried}
use Rattle.fw_model.proofs.CarriedLaws.{carried-none}
use Rattle.fw_node.specs.Sends.{messages_of}
use Rattle.fw_node.proofs.MessageLaws.{messages-length}
use Rattle.fw_rollback.specs.Restored.{log_of}
use Rattle.fw_rollback.proofs.LogLaws.{sent-more}
use Rattle.fw_rollback.proofs.replay.log_each.Goals as goal

pub loop-place-init : goal.loop-place-init
loop-place-init c = record {
  logged = λ ms h. h ∙ ap (λ (xs : List Message). log_of c.args.flow.now c.args.low.now c.args.edge (xs ++ ms)) (sym (carried-none c.args.flow.now c.args.edge));
  others = λ e n. refl;
  each = refl;
}

pub log_at-requires-clause-place : goal.log_at-requires-clause-place
log_at-requires-clause-place c =
    omega (arith, c.loop-place-test.true, c.loop-place.auto.place-end, c.len-place-end.ensures, messages-length c.args.cause.now c.args.sends.now)

pub loop-place-preserved : goal.loop-place-preserved
loop-place-preserved c =
    let sent : List Message = messages_of c.args.cause.now c.args.sends.now in
    let none : Message = record { at = []; rec = record { key = 0; value = 0 }; causes = [] } in
    let l : c.loop-place.place < length sent =
    omega (arith, c.loop-place-test.true, c.loop-place.auto.place-end, c.len-place-end.ensures, messages-length c.args.cause.now c.args.sends.now) in
    record {
      logged = sent-more c.args.flow.now c.args.low.now c.args.edge sent c.loop-place.place none c.args.logs.now c.loop-place.logs c.log_at.new.logs l
          c.loop-place.invariant.logged (λ ms h. c.in_ok-log_at.ensures.logged ms none h);
      others = λ e n. c.log_at.ensures.others e n ∙ c.loop-place.invariant.others e n;
      each = c.log_at.ensures.each ∙ c.loop-place.invariant.each;
    }

pub returns-clause-logged : goal.returns-clause-logged
returns-clause-logged c = λ ms h.
    let sent : List Message = messages_of c.args.cause.now c.args.sends.now in
    c.loop-place.invariant.logged ms h
    ∙ ap (λ (xs : List Message). log_of c.args.flow.now c.args.low.now c.args.edge (carried c.args.flow.now c.args.edge xs ++ ms))
    (take_all c.loop-place.place sent
    (omega (arith, c.loop-place-test.false, c.loop-place.auto.place-end, c.len-place-end.ensures, messages-length c.args.cause.now c.args.sends.now)))
