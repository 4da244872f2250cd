use Rattle.fw_flow.proofs.PlainNameLaws.{inputs-plain}
use Rattle.fw_flow_text.proofs.BatchesReadLaws.{batches_written, given_of-system}
use Rattle.fw_flow_text.proofs.laws.batches_are_read_back.Goals as goal

pub returns : goal.returns
returns c =
    let flow = c.args.flow.now in
    let batches = c.args.batches.now in
    let written =
    batches_written flow batches (given_of-system flow batches c.requires.system c.names_are_distinct.ensures.nodes (inputs-plain flow c.names_are_plain.ensures.nodes)) c.requires.short in
    record { accepted = written.0; value = written.1 }
