-- What is sent, as recs at stamps.
use Rattle.std.specs.Prelude.{List, [], Option, Some, None, map}
use Rattle.fw_time.specs.Stamp.{Stamp}
use Rattle.fw_bag.specs.declared.rec.Rec.{Rec}
use Rattle.fw_table.specs.declared.sent.Sent.{Sent}

-- what is sent, with the coordinates of its time
abbrev pub stamped : {U : Type 0} → (U → Stamp) → Sent U → List (Stamp × Rec)
stamped coords sent = map (λ r. (coords sent.at, r)) sent.recs

-- these recs at a stamp, if there is one
abbrev pub sent_if_at : Option Stamp → List Rec → List (Stamp × Rec)
sent_if_at None rs = []
sent_if_at (Some t) rs = map (λ r. (t, r)) rs
