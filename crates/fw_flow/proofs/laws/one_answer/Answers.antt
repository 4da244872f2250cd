use Rattle.fw_flow.proofs.Checks.{checked_or_refused, one_value, one_refusal}
use Rattle.fw_flow.proofs.AnswerLaws.{some_answer}
use Rattle.fw_flow.proofs.laws.one_answer.Goals as goal

pub returns : goal.returns
returns c = record { some_answer = some_answer; exclusive = checked_or_refused; one_value = one_value; one_refusal = one_refusal }
