-- What a run acknowledges at its outputs.
use Rattle.std.specs.Prelude.{◌≡◌, ◌⊎◌, ℕ, ◌<◌, ◌==◌, if◌then◌else◌, List, [], ◌∷◌, map, length}
use Rattle.std.specs.List.{flat_map, range_with_len}
use Rattle.fw_time.specs.Stamp.{Stamp}
use Rattle.fw_bag.specs.declared.rec.Rec.{Rec}
use Rattle.fw_flow.specs.Dataflow.{System, receiver}
use Rattle.fw_model.specs.Denotation.{bag_at, Family}
use Rattle.fw_model.specs.Steps.{Effect, silent, lows, cuts, acked, idle, Outcome, did}

-- what an output acknowledges is what the family has on the output's in-edge at the stamp
abbrev pub IsDenotedEffect : System → Family → Effect → Type 0
IsDenotedEffect sys family silent = Unit {0}
IsDenotedEffect sys family (acked o t recs) =
    (d : ℕ) → d < length sys.flow.edges → receiver sys.flow d ≡ o → recs ≡ bag_at family d t
IsDenotedEffect sys family (cuts choice) = Unit {0}
IsDenotedEffect sys family (lows choice) = Unit {0}

-- the same of what comes of a step
abbrev pub IsDenoted : System → Family → Outcome → Type 0
IsDenoted sys family (did effect) = IsDenotedEffect sys family effect
IsDenoted sys family idle = Unit {0}

-- the stamp that an effect acknowledges at output o, if it does
abbrev pub stamp_shown : ℕ → Effect → List Stamp
stamp_shown o silent = []
stamp_shown o (acked q t recs) = if q == o then t ∷ [] else []
stamp_shown o (cuts choice) = []
stamp_shown o (lows choice) = []

-- the stamp that an outcome acknowledges at output o, if it does
abbrev pub stamp_acknowledged : ℕ → Outcome → List Stamp
stamp_acknowledged o (did effect) = stamp_shown o effect
stamp_acknowledged o idle = []

-- the stamps that outcomes acknowledge at output o, in order
abbrev pub stamps_acknowledged : ℕ → List Outcome → List Stamp
stamps_acknowledged o outcomes = flat_map (stamp_acknowledged o) outcomes

-- the first so many epochs or numbers, in order
abbrev pub first_stamps : ℕ → List Stamp
first_stamps n = map (λ x. x ∷ []) (range_with_len 0 n)

-- one of the outcomes acknowledges output o at this stamp, and shows these recs
abbrev pub Shows : ℕ → Stamp → List Rec → List Outcome → Type 0
Shows o t recs [] = ⊥
Shows o t recs (outcome ∷ outcomes) = (outcome ≡ did (acked o t recs)) ⊎ Shows o t recs outcomes
