use Rattle.fw_flow.proofs.SendStampLaws.{entered_length}
use Rattle.fw_flow.proofs.flow.Flow.send_stamp_of_kind.Goals as goal

pub nest-requires : goal.nest-requires
nest-requires c = entered_length c.args.self.now c.args.kind c.in-Enter.field-0 c.args.t.now c.in-Enter.is c.requires.in_domain
