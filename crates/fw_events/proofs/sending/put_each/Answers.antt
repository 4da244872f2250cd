use Rattle.std.proofs.Common.{◌≡◌, [], ◌∷◌, Bool, true, false, ap, sym, ◌∙◌, Some}
use Rattle.std.specs.Prelude.{slice_get}
use Rattle.fw_flow.specs.declared.event.Message.{Message}
use Rattle.fw_flow.specs.KeyParts.{is_of_part_if}
use Rattle.fw_model.specs.SortedMessages.{with_message}
use Rattle.fw_edge.specs.Messages.{MessagesState}
use Rattle.fw_events.specs.Outgoing.{outgoing_messages}
use Rattle.fw_events.proofs.SendingLaws.{message-there}
use Rattle.fw_stands.proofs.EventPutLaws.{kept-step, kept-skip}
use Rattle.fw_events.proofs.sending.put_each.Goals.{then-is_of_part+in_ok-put, else-is_of_part}
use Rattle.fw_events.proofs.sending.put_each.Goals as goal

pub loop-one-preserved : goal.loop-one-preserved
loop-one-preserved c =
    let mine : Message → Bool = λ m. is_of_part_if c.args.part m.rec.key in
    let out = c.args.outgoing.now in
    let ms = outgoing_messages out in
    let i = c.loop-one.one-index in
    let x = c.one-item.result in
    let m : Message = record { at = x.0; rec = x.1; causes = out.cause.now ∷ [] } in
    let at : Some m ≡ slice_get ms i = message-there out.cause.now out.recs.now i x c.loop-one-test.true c.one-item.is in
    let now = c.loop-one.queue.messages in
    let new = c.if-is_of_part.queue.messages in
    let old = c.args.queue.now.messages in
    elim c.if-is_of_part.branch [
      | then-is_of_part+in_ok-put w ↦
          let of_part : mine m ≡ true = sym c.is_of_part.ensures ∙ w.if-is_of_part.true in
          let put : new ≡ with_message m now = ap (λ (q : MessagesState). q.messages) w.queue-is ∙ ap (λ (q : MessagesState). q.messages) (w.in_ok-put.ensures.ok)
          ∙ ap (λ (n : Message). with_message n now) w.caused.ensures in
          kept-step mine ms i m now new old c.is_empty-none.ensures.ascending at of_part c.loop-one.invariant put
      | else-is_of_part w ↦
          let of_other : mine m ≡ false = sym c.is_of_part.ensures ∙ w.if-is_of_part.false in
          kept-skip mine ms i m now new old at of_other c.loop-one.invariant (ap (λ (q : MessagesState). q.messages) w.queue-is)
    ]
