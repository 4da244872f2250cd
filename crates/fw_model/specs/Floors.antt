-- Floors: consistent choices below which it need not be known what happened.
use Rattle.std.specs.Prelude.{List}
use Rattle.fw_frontier.specs.Front.{Front}
use Rattle.fw_flow.specs.Dataflow.{System}
use Rattle.fw_model.specs.Choice.{IsConsistent, offers_of_writes}
use Rattle.fw_model.specs.Choosing.{choice_at}
use Rattle.fw_model.specs.Machine.{Machine}

-- With some notification frontiers the fronts are a consistent choice of what is kept, where every node counts as failed.
pub record IsFloor (sys : System) (state : Machine) (floor : List Front) : Type 0 where
  pub notices : List Front
  pub consistent : IsConsistent sys state (offers_of_writes sys state) (choice_at floor notices)
