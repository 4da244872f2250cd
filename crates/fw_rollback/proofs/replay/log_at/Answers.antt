use Rattle.std.proofs.Common.{◌≡◌, ◌++◌, ◌∷◌, [], List, get_or, sym, ap, subst, ◌∙◌}
use Rattle.std.specs.Prelude.{OnOk}
use Rattle.std.proofs.lemmas.Option.{get_or_from_slice_get}
use Rattle.fw_flow.specs.declared.event.Message.{Message}
use Rattle.fw_model.specs.Carried.{carried}
use Rattle.fw_model.proofs.CarriedLaws.{carried-in, carried-out}
use Rattle.fw_node.specs.Sends.{messages_of}
use Rattle.fw_rollback.specs.Edges.{on_edge}
use Rattle.fw_rollback.specs.Restored.{log_of}
use Rattle.fw_rollback.proofs.replay.log_at.Goals as goal

pub returns-then-not-carries-clause-logged : goal.returns-then-not-carries-clause-logged
returns-then-not-carries-clause-logged c = λ ms d h.
    let flow = c.args.flow.now in
    let e = c.args.edge in
    let sent : List Message = messages_of c.args.cause.now c.args.sends.now in
    let there : get_or sent c.args.place d ≡ c.in-Some.message = get_or_from_slice_get sent c.args.place c.in-Some.message d (sym c.message.ensures ∙ c.in-Some.is) in
    h ∙ sym (ap (λ (m : Message). log_of flow c.args.low.now e (carried flow e (m ∷ []) ++ ms)) there
    ∙ ap (λ (xs : List Message). log_of flow c.args.low.now e (xs ++ ms)) (carried-out flow e c.in-Some.message (sym c.carries.ensures ∙ c.if-not-carries.true)))

pub returns-clause-logged : goal.returns-clause-logged
returns-clause-logged c = λ ms d h.
    let flow = c.args.flow.now in
    let e = c.args.edge in
    let sent : List Message = messages_of c.args.cause.now c.args.sends.now in
    let there : get_or sent c.args.place d ≡ c.in-Some.message = get_or_from_slice_get sent c.args.place c.in-Some.message d (sym c.message.ensures ∙ c.in-Some.is) in
    let one = carried-in flow e c.in-Some.message (sym c.carries.ensures ∙ c.if-not-carries.false) in
    subst (λ (xs : List Message). OnOk c.log_outside.result (on_edge c.log_outside.new.logs e ≡ log_of flow c.args.low.now e (xs ++ ms)))
    (sym (ap (λ (m : Message). carried flow e (m ∷ [])) there ∙ one)) (c.log_outside.ensures.logged ms h)
