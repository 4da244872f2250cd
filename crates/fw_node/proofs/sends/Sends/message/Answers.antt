use Rattle.std.proofs.Common.{◌≡◌, List, [], ◌∷◌, Some, sym, ap, ◌∙◌}
use Rattle.std.specs.List.{slice_get}
use Rattle.std.specs.Option.{option_map}
use Rattle.std.proofs.lemmas.Option.{slice_get-map}
use Rattle.fw_time.specs.Stamp.{Stamp}
use Rattle.fw_bag.specs.declared.rec.Rec.{Rec}
use Rattle.fw_flow.specs.declared.event.Message.{Message}
use Rattle.fw_node.specs.Sends.{sends_list}
use Rattle.fw_node.proofs.MessageLaws.{messages-caused}
use Rattle.fw_node.proofs.sends.Sends.message.Goals as goal

pub returns : goal.returns
returns c =
    let sent = sends_list c.args.self.now in
    let from : Stamp × Rec → Message = λ x. record { at = x.0; rec = x.1; causes = c.args.cause.now ∷ [] } in
    let causes : c.of.result ≡ c.args.cause.now ∷ [] = c.of.ensures ∙ ap (λ (s : Stamp). s ∷ []) c.copy.ensures in
    let here : Some (c.in_ok-at.at, c.in_ok-at.rec) ≡ slice_get sent c.args.place = sym (c.in_ok-at.was) ∙ c.get.ensures in
    ap (λ (cs : List Stamp). Some (record { at = c.in_ok-at.at; rec = c.in_ok-at.rec; causes = cs })) causes
    ∙ ap (option_map from) here ∙ sym (slice_get-map from sent c.args.place) ∙ sym (ap (λ (ms : List Message). slice_get ms c.args.place) (messages-caused c.args.cause.now c.args.self.now))
