use Rattle.fw_offers_text.proofs.SoundLaws.{sound-offers}
use Rattle.fw_offers_text.proofs.laws.sound_statements_are_offers.Goals as goal

pub returns : goal.returns
returns c = sound-offers
