use Rattle.std.proofs.Common.{◌≡◌, ℕ, ◌<◌, true}
use Rattle.fw_offers_text.specs.Draft.{is_node_whole}
use Rattle.fw_offers_text.proofs.draft.Draft.is_all_told.Given as goal

abbrev pub invariant-loop-place : goal.invariant-loop-place
invariant-loop-place l = (n : ℕ) → n < l.place → is_node_whole l.flow l.self n ≡ true
