use Rattle.std.proofs.Common.{◌≡◌, false, replicate}
use Rattle.fw_offers_text.specs.Draft.{nothing_told}
use Rattle.fw_offers_text.proofs.draft.Draft.new.Given as goal

abbrev pub invariant-loop-place : goal.invariant-loop-place
invariant-loop-place l = l.nodes.items ≡ replicate l._place nothing_told

abbrev pub invariant-loop-edge : goal.invariant-loop-edge
invariant-loop-edge l = l.edges.items ≡ replicate l._edge (record { delivered = false; sent = false })
