use Rattle.std.proofs.Common.{ℕ, ◌<◌}
use Rattle.fw_flow.specs.Walks.{link_at}
use Rattle.fw_flow.proofs.walks.are_within.Given as goal

abbrev pub invariant-loop-link : goal.invariant-loop-link
invariant-loop-link l = (e : ℕ) → e < l.link-index → ((link_at l.links e).sender < l.places) × ((link_at l.links e).receiver < l.places)
