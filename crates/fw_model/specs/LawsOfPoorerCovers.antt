-- Laws of poorer covers: where they lack nothing outside a consistent choice, they lead to the same choices, and lower the same.
use Rattle.std.specs.Prelude.{ℕ, Bool}
use Rattle.fw_flow.specs.declared.choice.Choice.{Choice}
use Rattle.fw_flow.specs.Dataflow.{System}
use Rattle.fw_flow.specs.WellFormed.{IsWellFormed}
use Rattle.fw_model.specs.Choice.{kept, IsCandidate, IsConsistent, IsLargest, IsLargestBy}
use Rattle.fw_model.specs.Covers.{Covers, covers_in}
use Rattle.fw_model.specs.Machine.{Machine}
use Rattle.fw_model.specs.Poorer.{ArePoorer}

-- the covers are poorer than those of the state, where these nodes count as failed, by at most what those of a consistent choice have
pub record ArePoorerIn (sys : System) (state : Machine) (lost : ℕ → Bool) (poor : Covers) (floor : Choice) : Type 0 where
  pub poorer : ArePoorer sys.flow poor (covers_in sys state) (IsCandidate sys state lost kept) floor
  pub consistent : IsConsistent sys state (IsCandidate sys state lost kept) floor

-- the largest choice by poorer covers is the largest one
abbrev pub PoorerCoversChooseTheSame : Type 0
PoorerCoversChooseTheSame = (sys : System) (state : Machine) (lost : ℕ → Bool) (poor : Covers) (floor choice : Choice) → IsWellFormed sys.flow
    → ArePoorerIn sys state lost poor floor
    → IsLargestBy sys.flow poor (IsCandidate sys state lost kept) choice → IsLargest sys state (IsCandidate sys state lost kept) choice

-- the largest choice is the largest one by poorer covers, if there is one by these
abbrev pub RicherCoversChooseTheSame : Type 0
RicherCoversChooseTheSame = (sys : System) (state : Machine) (lost : ℕ → Bool) (poor : Covers) (floor choice some : Choice) → IsWellFormed sys.flow
    → ArePoorerIn sys state lost poor floor
    → IsLargestBy sys.flow poor (IsCandidate sys state lost kept) some → IsLargest sys state (IsCandidate sys state lost kept) choice
    → IsLargestBy sys.flow poor (IsCandidate sys state lost kept) choice
