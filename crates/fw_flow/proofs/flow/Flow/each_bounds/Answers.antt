use Rattle.std.proofs.Common.{◌≡◌, length, sym, ap, ◌∙◌, arith, rules}
use Rattle.std.proofs.lemmas.List.{length_push}
use Rattle.fw_flow.specs.Dataflow.{bounds_of}
use Rattle.fw_flow.proofs.Drafts.{AreBoundsOf-push}
use Rattle.fw_flow.proofs.flow.Flow.each_bounds.Goals as goal

pub loop-place-preserved : goal.loop-place-preserved
loop-place-preserved c =
    let items = c.in_ok-push.ensures.items in
    let each = c.loop-place.each.items in
    let more = ap length items ∙ length_push each c.bounds_of.result in
    let next : c.bounds_of.result ≡ bounds_of c.args.self.now c.loop-place.place = search rules in
    record {
      len = omega (arith, more, c.loop-place.invariant.len);
      bounds = AreBoundsOf-push c.args.self.now each c.push.new.self.items c.bounds_of.result items
          (next ∙ ap (bounds_of c.args.self.now) (sym c.loop-place.invariant.len)) c.loop-place.invariant.bounds;
    }
