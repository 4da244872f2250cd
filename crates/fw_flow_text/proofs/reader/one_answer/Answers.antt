use Rattle.fw_flow_text.proofs.ReadLaws.{accepted_or_refused, one_flow, one_refusal, some_answer}
use Rattle.fw_flow_text.proofs.reader.one_answer.Goals as goal

pub returns : goal.returns
returns c = record { some_answer = some_answer; exclusive = accepted_or_refused; one_flow = one_flow; one_refusal = one_refusal }
