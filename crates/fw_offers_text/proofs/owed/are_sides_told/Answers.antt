use Rattle.std.proofs.Common.{true, false, refl, sym, ◌∙◌, ap, ◌&&◌, ◌||◌, not}
use Rattle.std.specs.List.{list_all}
use Rattle.fw_flow.specs.declared.side.Side.TheVariants as side
use Rattle.fw_flow.specs.Dataflow.{in_edges, out_edges, kind_of, policy_of, is_notified_kind}
use Rattle.fw_flow.specs.Restoring.{can_resend}
use Rattle.fw_offers_text.specs.Statements.{is_side_told}
use Rattle.fw_offers_text.proofs.OwedLaws.{told_in_parts}
use Rattle.fw_offers_text.proofs.owed.are_sides_told.Goals as goal

pub returns-then-not-are_arrivals_told : goal.returns-then-not-are_arrivals_told
returns-then-not-are_arrivals_told c =
    let flow = c.args.flow.now in
    let p = c.args.node in
    let sent = can_resend (policy_of flow p) || list_all (λ e. is_side_told c.args.covers.now (side.Discarded e)) (out_edges flow p) in
    let notices = not (is_notified_kind (kind_of flow p)) || is_side_told c.args.covers.now (side.Notified p) in
    ap (λ x. (x && sent) && notices) (sym c.if-not-are_arrivals_told.true)
    ∙ told_in_parts (is_side_told c.args.covers.now) (in_edges flow p) (out_edges flow p) p (can_resend (policy_of flow p)) (is_notified_kind (kind_of flow p)) c.are_arrivals_told.result sent notices c.are_arrivals_told.ensures refl refl

pub returns-then-not-are_sent_told : goal.returns-then-not-are_sent_told
returns-then-not-are_sent_told c =
    let flow = c.args.flow.now in
    let p = c.args.node in
    let notices = not (is_notified_kind (kind_of flow p)) || is_side_told c.args.covers.now (side.Notified p) in
    ap (λ x. (x && false) && notices) (sym c.if-not-are_arrivals_told.false)
    ∙ ap (λ x. (c.are_arrivals_told.result && x) && notices) (sym c.if-not-are_sent_told.true)
    ∙ told_in_parts (is_side_told c.args.covers.now) (in_edges flow p) (out_edges flow p) p (can_resend (policy_of flow p)) (is_notified_kind (kind_of flow p)) c.are_arrivals_told.result c.are_sent_told.result notices
    c.are_arrivals_told.ensures c.are_sent_told.ensures refl

pub returns : goal.returns
returns c =
    let flow = c.args.flow.now in
    let p = c.args.node in
    ap (λ x. (x && true) && c.are_notices_told.result) (sym c.if-not-are_arrivals_told.false)
    ∙ ap (λ x. (c.are_arrivals_told.result && x) && c.are_notices_told.result) (sym c.if-not-are_sent_told.false)
    ∙ told_in_parts (is_side_told c.args.covers.now) (in_edges flow p) (out_edges flow p) p (can_resend (policy_of flow p)) (is_notified_kind (kind_of flow p)) c.are_arrivals_told.result c.are_sent_told.result c.are_notices_told.result
    c.are_arrivals_told.ensures c.are_sent_told.ensures c.are_notices_told.ensures
