use Rattle.flow_rows.proofs.choices.offer.Goals as goal

pub returns : goal.returns
returns c = record {
  offered = c.in_ok-offered.ensures;
  delivered = c.in_ok-stamps.ensures.delivered;
  notified = c.in_ok-stamps.ensures.notified;
  sent = c.in_ok-stamps.ensures.sent;
}
