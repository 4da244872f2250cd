use Rattle.fw_frontier.proofs.DomainLaws.{trip}
use Rattle.fw_frontier.proofs.laws.round_trip.Goals as goal

pub returns : goal.returns
returns g c = λ b os ps f h k e n. trip g.T.Time.coords g.T.Time.of_coords g.T.Time.dimension g.met.T.Time.same_dimension g.met.T.Time.all_coords b h os ps (g.T.Frontier.Frontier.inside f) k e n
