use Rattle.std.proofs.Common.{arith, ◌∷◌, [], map, sym, ap, ◌∙◌}
use Rattle.fw_time.specs.Stamp.{Stamp as StampList}
use Rattle.fw_bag.specs.declared.rec.Rec.{Rec}
use Rattle.fw_flow.specs.declared.event.Event.TheVariants.{Inject}
use Rattle.fw_node.specs.Answers.{caused_by}
use Rattle.fw_node.proofs.MessageLaws.{sends-cause}
use Rattle.fw_node.proofs.NodeLaws.{injection_sends}
use Rattle.fw_table.specs.declared.sent.Sent.{Sent}
use Rattle.fw_time.specs.declared.stamp.Stamp.{Stamp}
use Rattle.fw_node.proofs.NodeOfLaws.{input-can_send}
use Rattle.fw_node.proofs.node.Node.inject.Goals as goal

pub returns-clause-sent : goal.returns-clause-sent
returns-clause-sent c = λ sys p before i b.
    let recs = ap (λ (t : StampList). map (λ (r : Rec). (t, r)) c.all-recs.result) c.new.ensures
    ∙ ap (λ rs. map (λ (r : Rec). (c.args.epoch ∷ [], r)) rs) (c.all-recs.ensures ∙ c.in_ok-from_slice.ensures.items ∙ sym b)
    ∙ sym (injection_sends sys p before c.args.epoch i) in
    ap (caused_by (c.args.epoch ∷ [])) recs ∙ sends-cause sys p before (Inject p c.args.epoch)

pub returns-clause-domain : goal.returns-clause-domain
returns-clause-domain c = λ flow p w i.
    let sent : Sent Stamp = record { at = c.new.result; recs = c.all-recs.result } in
    input-can_send flow p c.args.epoch sent w i (omega arith) c.new.ensures
