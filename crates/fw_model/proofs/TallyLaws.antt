-- What is counted alike counts alike.
use Rattle.std.proofs.Common.{◌≡◌, ℕ, cond, ap}
use Rattle.fw_frontier.specs.Frontier.{nothing}
use Rattle.fw_frontier.specs.Front.{frontier_of}
use Rattle.fw_flow.specs.declared.choice.Cut.{Cut}
use Rattle.fw_flow.specs.declared.choice.Cut.TheVariants.{Present, At}
use Rattle.fw_flow.specs.Dataflow.{Dataflow, kind_of, policy_of, sender, receiver, bounds_of}
use Rattle.fw_flow.specs.Restoring.{can_resend, way_of}
use Rattle.fw_model.specs.Covers.{Tallies, takes_its_cut, takes_its_notices, discarded_at, covers_by}

pub delivered_cover-same : (flow : Dataflow) (one other : Tallies) (d : ℕ) (cut : Cut) → one.delivered d cut ≡ other.delivered d cut
    → (covers_by flow one).delivered d cut ≡ (covers_by flow other).delivered d cut
delivered_cover-same flow one other d Present e = e
delivered_cover-same flow one other d (At f) e =
    let p = receiver flow d in
    ap (λ g. cond (takes_its_cut (way_of flow p)) (frontier_of (bounds_of flow p) f) g) e

pub discarded_cover-same : (flow : Dataflow) (one other : Tallies) (e : ℕ) (cut : Cut) → one.sent e cut ≡ other.sent e cut
    → (covers_by flow one).discarded e cut ≡ (covers_by flow other).discarded e cut
discarded_cover-same flow one other e Present same = ap (λ g. cond (can_resend (policy_of flow (sender flow e))) nothing g) same
discarded_cover-same flow one other e (At f) same =
    let p = sender flow e in
    ap (λ g. cond (can_resend (policy_of flow p)) nothing (discarded_at flow e (way_of flow p) g f)) same

pub notified_cover-same : (flow : Dataflow) (one other : Tallies) (p : ℕ) (cut : Cut) → one.notified p cut ≡ other.notified p cut
    → (covers_by flow one).notified p cut ≡ (covers_by flow other).notified p cut
notified_cover-same flow one other p Present e = e
notified_cover-same flow one other p (At f) e =
    ap (λ g. cond (takes_its_notices (kind_of flow p) (policy_of flow p)) (frontier_of (bounds_of flow p) f) g) e
