use Rattle.std.proofs.Common.{◌≡◌, [], ◌∷◌, ◌+◌, Bool, true, false, not, ◌&&◌, List, take, ap, sym, ◌∙◌, Some}
use Rattle.std.specs.Prelude.{filter, slice_get}
use Rattle.fw_flow.specs.declared.event.Message.{Message}
use Rattle.fw_flow.specs.KeyParts.{is_of_part_if}
use Rattle.fw_frontier.specs.Front.{inside}
use Rattle.fw_model.specs.Carried.{messages_of_part}
use Rattle.fw_model.specs.Filtering.{messages_outside}
use Rattle.fw_model.specs.SortedMessages.{with_message, with_messages}
use Rattle.fw_edge.specs.Messages.{MessagesState}
use Rattle.fw_events.specs.Outgoing.{outgoing_messages}
use Rattle.fw_events.proofs.SendingLaws.{message-there}
use Rattle.fw_stands.proofs.EventPutLaws.{kept-step, kept-skip, outside-part}
use Rattle.fw_events.proofs.sending.log_each.Goals.{then-is_logged+in_ok-append, else-is_logged}
use Rattle.fw_events.proofs.sending.log_each.Goals as goal

pub loop-one-preserved : goal.loop-one-preserved
loop-one-preserved c =
    let kept : Message → Bool = λ m. is_of_part_if c.args.part m.rec.key && not (inside c.args.low.now m.at) in
    let out = c.args.outgoing.now in
    let ms = outgoing_messages out in
    let i = c.loop-one.one-index in
    let x = c.one-item.result in
    let m : Message = record { at = x.0; rec = x.1; causes = out.cause.now ∷ [] } in
    let at : Some m ≡ slice_get ms i = message-there out.cause.now out.recs.now i x c.loop-one-test.true c.one-item.is in
    let now = c.loop-one.log.messages in
    let new = c.if-is_logged.log.messages in
    let old = c.args.log.now.messages in
    let put : List Message → List Message = λ xs. with_messages xs old in
    let before : now ≡ put (filter kept (take i ms)) = c.loop-one.invariant ∙ ap put (outside-part c.args.low.now c.args.part (take i ms)) in
    let after : new ≡ put (filter kept (take (i + 1) ms)) → new ≡ put (messages_outside (inside c.args.low.now) (messages_of_part c.args.part (take (i + 1) ms))) =
    λ h. h ∙ ap put (sym (outside-part c.args.low.now c.args.part (take (i + 1) ms))) in
    after (elim c.if-is_logged.branch [
      | then-is_logged+in_ok-append w ↦
          let is : kept m ≡ true = sym c.is_logged.ensures ∙ w.if-is_logged.true in
          let is_put : new ≡ with_message m now = ap (λ (q : MessagesState). q.messages) w.log-is ∙ ap (λ (q : MessagesState). q.messages) (w.in_ok-append.ensures.ok)
          ∙ ap (λ (n : Message). with_message n now) w.caused.ensures in
          kept-step kept ms i m now new old c.is_empty-none.ensures.ascending at is before is_put
      | else-is_logged w ↦
          let is : kept m ≡ false = sym c.is_logged.ensures ∙ w.if-is_logged.false in
          kept-skip kept ms i m now new old at is before (ap (λ (q : MessagesState). q.messages) w.log-is)
    ])
