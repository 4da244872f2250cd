use Rattle.std.proofs.Common.{◌≡◌, true, ap, map, subst, sym, ◌∙◌}
use Rattle.fw_time.specs.Stamp.{Stamp, in_domain}
use Rattle.fw_bag.specs.declared.rec.Rec.{Rec}
use Rattle.fw_flow.specs.Dataflow.{bounds_of}
use Rattle.fw_node.specs.NodeOf.{CanBeSent}
use Rattle.fw_node.proofs.MessageLaws.{caused-at}
use Rattle.fw_events.proofs.SendLaws.{caused-each}
use Rattle.fw_events.proofs.sending.send.Goals as goal

pub send_each-requires-clause-causes : goal.send_each-requires-clause-causes
send_each-requires-clause-causes c =
    caused-each (λ t. in_domain (bounds_of c.args.running.now.flow c.args.node) t ≡ true) c.args.cause.now c.as_slice.result.now c.requires.cause

pub send_each-requires-clause-can_be_sent : goal.send_each-requires-clause-can_be_sent
send_each-requires-clause-can_be_sent c =
    subst (CanBeSent c.args.running.now.flow c.args.node)
    (sym (caused-at c.args.cause.now c.as_slice.result.now ∙ ap (map (λ (x : Stamp × Rec). x.0)) (c.as_slice.ensures ∙ c.in_ok-told.ensures))) c.requires.can_be_sent
