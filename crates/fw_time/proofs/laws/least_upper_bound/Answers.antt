use Rattle.std.proofs.Common.{◌∙◌, sym}
use Rattle.fw_time.proofs.StampLaws.{lub-left, lub-right, lub-least}
use Rattle.fw_time.proofs.laws.least_upper_bound.Goals as goal

pub returns-clause-first : goal.returns-clause-first
returns-clause-first g c = λ x y. lub-left (g.T.Time.coords x) (g.T.Time.coords y) (g.met.T.Time.same_dimension x ∙ sym (g.met.T.Time.same_dimension y))

pub returns-clause-second : goal.returns-clause-second
returns-clause-second g c = λ x y. lub-right (g.T.Time.coords x) (g.T.Time.coords y) (g.met.T.Time.same_dimension x ∙ sym (g.met.T.Time.same_dimension y))

pub returns-clause-least : goal.returns-clause-least
returns-clause-least g c = λ x y z. lub-least (g.T.Time.coords x) (g.T.Time.coords y) (g.T.Time.coords z)
