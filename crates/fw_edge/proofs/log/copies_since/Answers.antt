use Rattle.std.proofs.Common.{not, ◌&&◌, refl}
use Rattle.fw_frontier.specs.Front.{inside}
use Rattle.fw_flow.specs.declared.event.Message.{Message}
use Rattle.fw_flow.specs.Projection.{all_inside}
use Rattle.fw_edge.proofs.LogLaws.{copied-all}
use Rattle.fw_edge.proofs.log.copies_since.Goals as goal

pub returns : goal.returns
returns c =
    let test = λ (m : Message). not (all_inside (inside c.args.earlier.now) m.causes) && all_inside (inside c.args.f.now) m.causes in
    copied-all test c.loop-message.message-index c.args.messages.now c.args.messages.now c.loop-message.copies.items refl c.loop-message-test.false c.loop-message.invariant
