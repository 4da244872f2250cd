use Rattle.std.proofs.Common.{[], refl}
use Rattle.cimboery.specs.Story.{opening}
use Rattle.embedded.proofs.ToldLaws.{kept-same}
use Rattle.embedded.proofs.run.Run.open.Goals as goal

pub invariant_of-result : goal.invariant_of-result
invariant_of-result c = record {
  kept = ∣ kept-same _ _ c.args.source [] _ [] _ c.new-2.ensures.items c.new-3.ensures.items
      (λ live. (opening c.args.flow, c.in_ok-session.ensures.at, record { given = refl; shown = tt })) ∣₁;
}
