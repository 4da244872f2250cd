use Rattle.std.proofs.Common.{ap, map}
use Rattle.fw_flow.specs.Dataflow.{Dataflow}
use Rattle.fw_flow_text.proofs.ReadLaws.{one_flow}
use Rattle.fw_generate.specs.Texts.{flow_text}
use Rattle.fw_generate.proofs.FlowLaws.{the_flow}
use Rattle.fw_generate.proofs.WellFormed.{flow_accepted}
use Rattle.fw_generate.proofs.laws.nodes_have_their_names.Goals as goal

pub returns : goal.returns
returns c flow accepted = ap (λ (f : Dataflow). map (λ node. node.name) f.nodes) (one_flow flow_text flow the_flow accepted flow_accepted)
