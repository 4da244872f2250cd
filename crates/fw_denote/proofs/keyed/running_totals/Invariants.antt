use Rattle.std.proofs.Common.{◌≡◌, take, map}
use Rattle.fw_denote.specs.Numbers.{total_at, slot_of}
use Rattle.fw_flow.specs.WholeBags.{Timed}
use Rattle.fw_denote.proofs.keyed.running_totals.Given as goal

abbrev pub invariant-loop-r : goal.invariant-loop-r
invariant-loop-r l = l.sent.items
    ≡ map (λ (r : Timed). record { at = r.at; rec = record { key = r.rec.key; value = total_at l.rs (slot_of r) } }) (take l.r-index l.rs)
