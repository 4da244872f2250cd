-- Pairs of recs of one slot.
use Rattle.std.specs.Prelude.{List, map}
use Rattle.fw_bag.specs.Keyed.{plus}
use Rattle.fw_flow.specs.WholeBags.{Timed}

-- a timed rec with each of the others: its stamp and key, and the sum of both values
abbrev pub pair_recs : Timed → List Timed → List Timed
pair_recs x ys = map (λ (y : Timed). record { at = x.at; rec = record { key = x.rec.key; value = plus x.rec.value y.rec.value } }) ys
