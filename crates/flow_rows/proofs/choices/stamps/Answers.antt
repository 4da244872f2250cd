use Rattle.std.proofs.Common.{◌≡◌, true, sym, subst}
use Rattle.std.specs.List.{AllByRecursion}
use Rattle.fw_time.specs.Stamp.{in_domain}
use Rattle.fw_flow.specs.Dataflow.{bounds_of}
use Rattle.flow_rows.specs.Written.{IsMessageOf}
use Rattle.flow_rows.proofs.choices.stamps.Goals as goal

pub returns : goal.returns
returns c = record {
  delivered = subst (λ ms. AllByRecursion (IsMessageOf c.args.flow.now) ms) (sym c.of.ensures) c.in_ok-delivered.ensures;
  notified = subst (λ ts. AllByRecursion (λ t. in_domain (bounds_of c.args.flow.now c.args.node) t ≡ true) ts) (sym c.of-2.ensures) c.in_ok-notified.ensures;
  sent = subst (λ ms. AllByRecursion (IsMessageOf c.args.flow.now) ms) (sym c.of-3.ensures) c.in_ok-sent.ensures;
}
