-- The denotation: the one family of bags, one for each edge, that solves the equations of the nodes.
use Rattle.std.specs.Prelude.{◌≡◌, ℕ, zero, suc, List, [], ◌+◌, ◌∷◌}
use Rattle.fw_time.specs.Stamp.{Stamp, same}
use Rattle.fw_bag.specs.declared.rec.Rec.{Rec}
use Rattle.fw_flow.specs.Dataflow.{System, sender}
use Rattle.fw_flow.specs.WholeBags.{Timed, outputs_of, timed_where, in_order}
use Rattle.fw_model.specs.Carried.{carried_timed}

-- a bag of timed recs for each edge
abbrev pub Family : Type 0
Family = ℕ → List Timed

-- Each source sends its batches at their epochs, and each other node sends what it makes of the bags on its in-edges; an edge carries
-- its part of that.
abbrev pub IsDenotation : System → Family → Type 0
IsDenotation sys family = (e : ℕ) → family e ≡ carried_timed sys.flow e (outputs_of sys family (sender sys.flow e))

-- the family after so many rounds of all equations, from empty bags
abbrev pub rounds : System → ℕ → Family
rounds sys zero e = []
rounds sys (suc n) e = carried_timed sys.flow e (outputs_of sys (rounds sys n) (sender sys.flow e))

-- the bag of a family on an edge at a stamp, ascending
abbrev pub bag_at : Family → ℕ → Stamp → List Rec
bag_at family e t = timed_where (same t) (family e)

-- each bag of the family is in order
abbrev pub AreInOrder : Family → Type 0
AreInOrder family = (e : ℕ) → in_order (family e) ≡ family e

-- the timed recs are at the numbers from n on, one at each, in order
abbrev pub AreNumberedFrom : ℕ → List Timed → Type 0
AreNumberedFrom n [] = Unit {0}
AreNumberedFrom n (r ∷ rs) = (r.at ≡ n ∷ []) × AreNumberedFrom (n + 1) rs
