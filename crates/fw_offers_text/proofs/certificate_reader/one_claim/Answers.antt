use Rattle.fw_offers_text.proofs.CertificateReadLaws.{accepted_or_refused, one_value, one_refusal, some_answer}
use Rattle.fw_offers_text.proofs.certificate_reader.one_claim.Goals as goal

pub returns : goal.returns
returns c = record { some_answer = some_answer; exclusive = accepted_or_refused; one_value = one_value; one_refusal = one_refusal }
