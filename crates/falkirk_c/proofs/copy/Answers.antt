use Rattle.std.proofs.Common.{refl, arith, rules}
use Rattle.std.proofs.lemmas.Slice.{overwrites}
use Rattle.falkirk_c.proofs.copy.Goals as goal

pub returns-clause-copied : goal.returns-clause-copied
returns-clause-copied c = (λ fits. search (rules, overwrites), λ less. grind arith)
