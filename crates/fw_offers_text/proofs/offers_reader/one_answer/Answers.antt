use Rattle.fw_offers_text.proofs.OffersReadLaws.{accepted_or_refused, one_value, one_refusal, some_answer}
use Rattle.fw_offers_text.proofs.offers_reader.one_answer.Goals as goal

pub returns : goal.returns
returns c = record { some_answer = some_answer; exclusive = accepted_or_refused; one_value = one_value; one_refusal = one_refusal }
