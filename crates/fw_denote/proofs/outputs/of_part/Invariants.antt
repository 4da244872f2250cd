use Rattle.std.proofs.Common.{◌≡◌, ◌++◌, drop}
use Rattle.std.specs.Prelude.{filter}
use Rattle.fw_flow.specs.KeyParts.{is_of_part_if}
use Rattle.fw_flow.specs.WholeBags.{Timed}
use Rattle.fw_denote.proofs.outputs.of_part.Given as goal

abbrev pub invariant-loop-r : goal.invariant-loop-r
invariant-loop-r l =
    l.rs.items ++ filter (λ (r : Timed). is_of_part_if l.part r.rec.key) (drop l.r-index l.sent) ≡ filter (λ (r : Timed). is_of_part_if l.part r.rec.key) l.sent
