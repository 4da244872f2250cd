use Rattle.fw_rest.proofs.MostEventsLaws.{few_events}
use Rattle.fw_rest.proofs.laws.legal_histories_end.Goals as goal

pub returns : goal.returns
returns c = λ sys family w den h l. few_events sys h family w l den
