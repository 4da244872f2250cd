use Rattle.fw_split.proofs.ExactLaws.{without-the-word}
use Rattle.fw_split.proofs.laws.without_the_word_is_well_formed.Goals as goal

pub returns : goal.returns
returns c = without-the-word
