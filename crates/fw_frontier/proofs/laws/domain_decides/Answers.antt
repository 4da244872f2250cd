use Rattle.fw_frontier.proofs.DomainLaws.{decides}
use Rattle.fw_frontier.proofs.laws.domain_decides.Goals as goal

pub returns : goal.returns
returns g c = λ b f h s plain. decides g.T.Time.coords g.T.Time.of_coords g.T.Time.dimension g.met.T.Time.same_dimension g.met.T.Time.all_coords b s plain (g.T.Frontier.Frontier.inside f) (g.T.Frontier.Frontier.inside h) (g.met.T.Frontier.Frontier.closed f)
