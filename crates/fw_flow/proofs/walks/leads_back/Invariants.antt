use Rattle.std.proofs.Common.{◌≡◌, ℕ, ◌<◌, true}
use Rattle.fw_flow.specs.Walks.{is_marked, link_at}
use Rattle.fw_flow.proofs.walks.leads_back.Given as goal

abbrev pub invariant-loop-link : goal.invariant-loop-link
invariant-loop-link l =
    (e : ℕ) → e < l.link-index → is_marked l.marks (link_at l.links e).sender ≡ true → (link_at l.links e).receiver ≡ l.node → ⊥
