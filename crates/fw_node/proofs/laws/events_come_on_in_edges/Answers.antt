use Rattle.fw_node.proofs.OnEdgesLaws.{events_come_on_in_edges}
use Rattle.fw_node.proofs.laws.events_come_on_in_edges.Goals as goal

pub returns : goal.returns
returns c = events_come_on_in_edges
