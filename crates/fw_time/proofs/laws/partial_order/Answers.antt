use Rattle.fw_time.proofs.StampLaws.{leq-refl, leq-trans, leq-antisym}
use Rattle.fw_time.proofs.laws.partial_order.Goals as goal

pub returns-clause-reflexive : goal.returns-clause-reflexive
returns-clause-reflexive g c = λ x. leq-refl (g.T.Time.coords x)

pub returns-clause-transitive : goal.returns-clause-transitive
returns-clause-transitive g c = λ x y z. leq-trans (g.T.Time.coords x) (g.T.Time.coords y) (g.T.Time.coords z)

pub returns-clause-antisymmetric : goal.returns-clause-antisymmetric
returns-clause-antisymmetric g c = λ x y h k. g.met.T.Time.same_coords x y (leq-antisym (g.T.Time.coords x) (g.T.Time.coords y) h k)
