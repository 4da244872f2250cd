-- What a node does, with its loop by its place or by its name.
use Rattle.std.specs.Prelude.{ℕ, List, Option, Some, None, option_map}
use Rattle.fw_flow.specs.declared.kind.Kind.{Kind as KindBy}
use Rattle.fw_flow.specs.declared.kind.Kind.TheVariants.{Input, OutputEpoch, OutputNumber, Select, Concat, Distinct, Join, Sum, Enter, Feedback, Leave, Total, Sequence, Ledger, Regroup}

-- what a node of a flow does, with its loop by its place
abbrev pub Kind : Type 0
Kind = KindBy ℕ

-- what a node does as it is declared, with its loop by its name
abbrev pub RawKind : Type 0
RawKind = KindBy (List ℕ)

-- the loop of a kind, if it has one: that in which a node of the kind stands, or that into which it leads, to whose next counter or
-- out of which
abbrev pub loop_of_kind : {L : Type 0} → KindBy L → Option L
loop_of_kind (Select selection within) = within
loop_of_kind (Concat within) = within
loop_of_kind (Distinct within) = within
loop_of_kind (Join within) = within
loop_of_kind (Sum within) = within
loop_of_kind (Enter l) = Some l
loop_of_kind (Feedback l) = Some l
loop_of_kind (Leave l) = Some l
loop_of_kind kind = None

-- the kind with the loop that f gives of its own
abbrev pub kind_map : {L M : Type 0} → (L → M) → KindBy L → KindBy M
kind_map f Input = Input
kind_map f OutputEpoch = OutputEpoch
kind_map f OutputNumber = OutputNumber
kind_map f (Select selection within) = Select selection (option_map f within)
kind_map f (Concat within) = Concat (option_map f within)
kind_map f (Distinct within) = Distinct (option_map f within)
kind_map f (Join within) = Join (option_map f within)
kind_map f (Sum within) = Sum (option_map f within)
kind_map f (Enter l) = Enter (f l)
kind_map f (Feedback l) = Feedback (f l)
kind_map f (Leave l) = Leave (f l)
kind_map f Total = Total
kind_map f Sequence = Sequence
kind_map f Ledger = Ledger
kind_map f (Regroup size) = Regroup size
