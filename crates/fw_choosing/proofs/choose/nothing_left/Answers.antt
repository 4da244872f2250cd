use Rattle.std.specs.Prelude.{string_bytes}
use Rattle.fw_choosing.proofs.ChoiceLaws.{dead_end-no_choice}
use Rattle.fw_choosing.proofs.choose.nothing_left.Goals as goal

pub returns : goal.returns
returns c =
    dead_end-no_choice c.args.flow.now c.args.offers.now (string_bytes c.in_ok-none_text.field-0) c.args.trail.now c.args.side c.owner.result c.cause_of.result
    c.flow_is_well_formed.ensures c.requires c.owner.ensures c.cause_of.ensures c.in_ok-none_text.ensures
