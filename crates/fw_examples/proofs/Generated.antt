-- The laws of generated texts applied to those of one batch and one round.
use Rattle.std.proofs.Common.{lit≤}
use Rattle.fw_examples.specs.Generated.{GenerationApplies}

pub generation_applies : GenerationApplies
generation_applies = record {
  accepted = λ law words. law 1 words (lit≤ tt);
  named = λ law names. let texts = law 1 (λ place. 0) (lit≤ tt) in (texts.0, (texts.1.declared, names texts.0 texts.1.declared));
}
