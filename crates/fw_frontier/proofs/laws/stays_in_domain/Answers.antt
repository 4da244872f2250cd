use Rattle.std.proofs.Common.{◌∙◌, sym, ◌&&◌, ◌||◌, map}
use Rattle.fw_time.specs.Stamp.{glb}
use Rattle.fw_frontier.proofs.DomainLaws.{cut-ends, cover-ends, front-ends}
use Rattle.fw_frontier.proofs.laws.stays_in_domain.Goals as goal

pub returns-clause-constant : goal.returns-clause-constant
returns-clause-constant g c = λ b z v e t. e t ∙ sym (e (g.T.Time.of_coords (glb (g.T.Time.coords t) b.greatest)))

pub returns-clause-meet : goal.returns-clause-meet
returns-clause-meet g c = λ b x y z h k e t. e t ∙ (λ i. h t i && k t i) ∙ sym (e (g.T.Time.of_coords (glb (g.T.Time.coords t) b.greatest)))

pub returns-clause-join : goal.returns-clause-join
returns-clause-join g c = λ b x y z h k e t. e t ∙ (λ i. h t i || k t i) ∙ sym (e (g.T.Time.of_coords (glb (g.T.Time.coords t) b.greatest)))

pub returns-clause-cut : goal.returns-clause-cut
returns-clause-cut g c = λ b x z s e d. cut-ends g.T.Time.coords g.T.Time.of_coords g.T.Time.dimension g.met.T.Time.same_dimension g.met.T.Time.all_coords b e (g.T.Frontier.Frontier.inside x) (g.T.Frontier.Frontier.inside z) s d

pub returns-clause-cover : goal.returns-clause-cover
returns-clause-cover g c = λ b z tops e. cover-ends g.T.Time.coords g.T.Time.of_coords g.T.Time.dimension g.met.T.Time.same_dimension g.met.T.Time.all_coords b e (g.T.Frontier.Frontier.inside z) (map g.T.Time.coords tops)

pub returns-clause-front : goal.returns-clause-front
returns-clause-front g c = λ b z os e. front-ends g.T.Time.coords g.T.Time.of_coords g.T.Time.dimension g.met.T.Time.same_dimension g.met.T.Time.all_coords b e (g.T.Frontier.Frontier.inside z) os
