-- What contracts see of the places where something may be done.
use Rattle.std.specs.Prelude.{ℕ, List}

-- places among which are those where something may be done: edges, nodes that are owed a notification, nodes whose kept frontier
-- may have more than is settled, outputs and inputs
pub record ReadyState : Type 0 where
  pub edges : List ℕ
  pub owing : List ℕ
  pub growing : List ℕ
  pub outputs : List ℕ
  pub inputs : List ℕ
