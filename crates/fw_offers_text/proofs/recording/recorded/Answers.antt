use Rattle.std.proofs.Common.{◌∙◌}
use Rattle.fw_offers_text.proofs.RecordingLaws.{recorded_as}
use Rattle.fw_offers_text.proofs.recording.recorded.Goals as goal

pub returns : goal.returns
returns c =
    recorded_as c.args.flow.now c.args.node c.args.front c.in_ok-notified_in.field-0 c.of.result c.of-2.result c.as_slice-covers.result.now c.args.covers.now c.as_slice-covers.ensures c.in_ok-notified_in.ensures (c.of.ensures ∙ c.in_ok-delivered_in.ensures)
    (c.of-2.ensures ∙ c.in_ok-discarded_in.ensures)
