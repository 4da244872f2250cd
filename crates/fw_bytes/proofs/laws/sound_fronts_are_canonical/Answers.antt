use Rattle.fw_bytes.proofs.FrontLaws.{canonical_of_sound, sound_of_canonical}
use Rattle.fw_bytes.proofs.laws.sound_fronts_are_canonical.Goals as goal

pub returns-clause-canonical : goal.returns-clause-canonical
returns-clause-canonical c = canonical_of_sound

pub returns-clause-sound : goal.returns-clause-sound
returns-clause-sound c = sound_of_canonical
