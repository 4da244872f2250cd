use Rattle.std.proofs.Common.{◌≡◌, take, drop}
use Rattle.fw_offers_text.specs.Statements.{are_covers_apart, are_of_other_sides}
use Rattle.fw_offers_text.proofs.owed.are_covers_apart.Given as goal

abbrev pub invariant-loop-place : goal.invariant-loop-place
invariant-loop-place l = are_covers_apart l.covers ≡ are_of_other_sides (take l.place l.covers) (drop l.place l.covers)
