use Rattle.std.proofs.Common.{ap, ◌∙◌, ◌∷◌, [], length, length-append, arith}
use Rattle.fw_places.specs.Marks.{marked}
use Rattle.fw_places.proofs.MarkLaws.{marked_more}
use Rattle.fw_places.proofs.places.grow.Goals as goal

pub loop-words-preserved : goal.loop-words-preserved
loop-words-preserved c =
    let more = c.in_ok-push.ensures.items in
    record {
      same = ap marked more ∙ marked_more c.loop-words.words.items ∙ c.loop-words.invariant.same;
      few = omega (arith, ap length more, length-append c.loop-words.words.items (0 ∷ []));
    }
