use Rattle.std.proofs.Common.{sym, subst, ◌∙◌}
use Rattle.std.proofs.Math.Logic.{∥∥₁_map}
use Rattle.cimboery.specs.Acknowledgements.{IsDenotedEffect, IsDenoted}
use Rattle.cimboery.specs.Engine.{flow_of}
use Rattle.cimboery.specs.Feeding.{with_batches}
use Rattle.embedded.specs.Told.{IsMeant}
use Rattle.embedded.proofs.ToldLaws.{told-right}
use Rattle.embedded.proofs.run.Run.told.Goals as goal

pub returns-clause-right : goal.returns-clause-right
returns-clause-right c live =
    let now = c.args.self.now in
    let flow = flow_of now.session.engine in
    ∥∥₁_map now.kept (λ kept. subst (IsMeant flow now.source now.came.items) (sym c.as_slice.ensures.value) (
    let k = kept live in
    record {
      story = k.0;
      is_story = k.1.of_story;
      shown = k.2.shown;
      came = c.stories_have_what_came.ensures flow k.0 k.1.of_story now.source ∙ k.2.given;
      denoted = λ end goes well family denotes. told-right (IsDenotedEffect (with_batches flow end) family) (IsDenoted (with_batches flow end) family)
          (λ effect is. is) tt k.0.effects (c.stories_show_what_is_denoted.ensures flow k.0 k.1.of_story end goes well family denotes)
          now.told.items k.2.shown;
    }
    ))
