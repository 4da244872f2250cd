-- The laws of what is read.
use Rattle.std.specs.Prelude.{◌≡◌, List, ◌∷◌, ◌++◌, None}
use Rattle.fw_flow.specs.Dataflow.{Dataflow}
use Rattle.fw_model.specs.Offers.{AreOffersOf, RecordsAscend}
use Rattle.fw_offers_text.specs.declared.statement.Statement.{Statement}
use Rattle.fw_offers_text.specs.OffersGrammar.{offers_of}
use Rattle.fw_offers_text.specs.Statements.{statement_fault}

-- no statement breaks a rule, judged by those before it
abbrev pub BreakNoneSaid : Dataflow → List Statement → Type 0
BreakNoneSaid flow said =
    (before : List Statement) (s : Statement) (after : List Statement) → before ++ s ∷ after ≡ said → statement_fault flow before s ≡ None

-- what such statements offer is of the dataflow, and the records of each node ascend
abbrev pub SoundStatementsAreOffers : Type 0
SoundStatementsAreOffers =
    (flow : Dataflow) (said : List Statement) → BreakNoneSaid flow said
    → AreOffersOf flow (offers_of flow said) × RecordsAscend flow (offers_of flow said)
