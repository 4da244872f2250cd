-- Laws of the denotation: what an out bag depends on, that there is exactly one denotation, which rounds reach, and at
-- which stamps its recs are.
use Rattle.std.specs.Prelude.{◌≡◌, ℕ, suc, ◌<◌, ◌≤◌, true, List, length}
use Rattle.std.specs.List.{AllByRecursion}
use Rattle.fw_time.specs.Stamp.{Stamp, same, in_domain}
use Rattle.fw_flow.specs.Dataflow.{System, Dataflow, sender, receiver, bounds_of, is_numbered, HasEpochs}
use Rattle.fw_flow.specs.WellFormed.{IsWellFormed}
use Rattle.fw_flow.specs.WholeBags.{Timed, timed_where, in_order, outputs_of}
use Rattle.fw_model.specs.Denotation.{Family, IsDenotation, rounds, bag_at, AreInOrder, AreNumberedFrom}
use Rattle.fw_model.specs.Measure.{enough_rounds, Measure}

-- each well-formed dataflow has a measure
abbrev pub MeasureExists : Type 0
MeasureExists = (flow : Dataflow) → IsWellFormed flow → Measure flow

-- two bags in order that have the same recs at each stamp are the same
abbrev pub RecsAtStampsDecideBag : Type 0
RecsAtStampsDecideBag = (bag other : List Timed) → in_order bag ≡ bag → in_order other ≡ other
    → ((t : Stamp) → timed_where (same t) bag ≡ timed_where (same t) other) → bag ≡ other

-- in a well-formed flow what a node sends on an edge at a stamp, by a family whose bags are in order, depends on the bags
-- on its in-edges at stamps of lesser measure alone
abbrev pub OutBagsDependOnLesserMeasure : Type 0
OutBagsDependOnLesserMeasure = (sys : System) (family other : Family) → IsWellFormed sys.flow → (by : Measure sys.flow)
    → AreInOrder family → AreInOrder other → (e : ℕ) → e < length sys.flow.edges → (t : Stamp)
    → ((d : ℕ) → d < length sys.flow.edges → receiver sys.flow d ≡ sender sys.flow e → (s : Stamp)
    → by.measure (sender sys.flow e) s < by.measure (receiver sys.flow e) t → bag_at family d s ≡ bag_at other d s)
    → timed_where (same t) (outputs_of sys family (sender sys.flow e)) ≡ timed_where (same t) (outputs_of sys other (sender sys.flow e))

-- two families that solve the equations of a well-formed flow are the same on each edge: the denotation is the only one
abbrev pub DenotationIsTheOnlyOne : Type 0
DenotationIsTheOnlyOne = (sys : System) (family other : Family) → IsWellFormed sys.flow
    → IsDenotation sys family → IsDenotation sys other → (e : ℕ) → family e ≡ other e

-- in a well-formed flow the family after enough rounds solves the equations
abbrev pub DenotationExists : Type 0
DenotationExists = (sys : System) → IsWellFormed sys.flow → IsDenotation sys (rounds sys (enough_rounds sys.flow))

-- a family that the next round leaves unchanged solves the equations
abbrev pub UnchangedRoundIsDenotation : Type 0
UnchangedRoundIsDenotation = (sys : System) (n : ℕ)
    → ((e : ℕ) → rounds sys (suc n) e ≡ rounds sys n e) → IsDenotation sys (rounds sys n)

-- once rounds have reached a solution, each later round is the same
abbrev pub LaterRoundsAreTheSame : Type 0
LaterRoundsAreTheSame = (sys : System) (n m : ℕ) → IsDenotation sys (rounds sys n) → n ≤ m
    → (e : ℕ) → rounds sys m e ≡ rounds sys n e

-- each bag of the denotation is in order
abbrev pub DenotationIsInOrder : Type 0
DenotationIsInOrder = (sys : System) (family : Family) → IsDenotation sys family → AreInOrder family

-- each timed rec of the denotation of a well-formed flow with epochs is at a stamp of the domain of its edge's receiver
abbrev pub DenotationIsInDomain : Type 0
DenotationIsInDomain = (sys : System) (family : Family) → IsWellFormed sys.flow → HasEpochs sys → IsDenotation sys family
    → (e : ℕ) → AllByRecursion (λ (r : Timed). in_domain (bounds_of sys.flow (receiver sys.flow e)) r.at ≡ true) (family e)

-- the timed recs of the denotation of a well-formed flow on a numbered edge are at the numbers from 0 on, one at each, in
-- order
abbrev pub DenotationIsNumbered : Type 0
DenotationIsNumbered = (sys : System) (family : Family) → IsWellFormed sys.flow → IsDenotation sys family
    → (e : ℕ) → is_numbered sys.flow e ≡ true → AreNumberedFrom 0 (family e)
