-- Where the nodes of each kind send is as the model asks: the one law of this with a case for each kind.
use Rattle.fw_flow.specs.Kind.{Kind}
use Rattle.fw_flow.specs.declared.kind.Kind.TheVariants.{OutputEpoch, OutputNumber, Enter, Feedback, Leave, Sequence, Regroup}
use Rattle.fw_flow.specs.Dataflow.{Dataflow, greatest_of_kind}
use Rattle.fw_model.specs.Sending.{SendsByStamp, SendsByCount}
use Rattle.fw_model.specs.Senders.{SendsLawfully}
use Rattle.fw_model.proofs.OwnStampLaws.{at_its_stamp, nowhere}
use Rattle.fw_model.proofs.EnterLaws.{entering}
use Rattle.fw_model.proofs.FeedbackLaws.{feeding_back}
use Rattle.fw_model.proofs.LeaveLaws.{leaving}
use Rattle.fw_model.proofs.RegroupLaws.{regrouping}
use Rattle.fw_model.proofs.CountLaws.{counting}

pub sends_lawfully : (flow : Dataflow) (kind : Kind) → SendsLawfully flow kind
sends_lawfully flow OutputEpoch = nowhere (greatest_of_kind flow OutputEpoch) (SendsByCount OutputEpoch)
sends_lawfully flow OutputNumber = nowhere (greatest_of_kind flow OutputNumber) (SendsByCount OutputNumber)
sends_lawfully flow (Enter loop) = entering flow loop
sends_lawfully flow (Feedback loop) = feeding_back flow loop
sends_lawfully flow (Leave loop) = leaving flow loop
sends_lawfully flow (Regroup size) = regrouping flow size
sends_lawfully flow Sequence = counting flow
sends_lawfully flow kind = at_its_stamp (greatest_of_kind flow kind) (SendsByStamp flow kind) (SendsByCount kind)
