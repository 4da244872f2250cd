use Rattle.fw_model.proofs.SequenceLaws.{inside_phi_of_sequence-from_inside}
use Rattle.fw_model.proofs.laws.inside_phi_of_sequence_comes_from_inside.Goals as goal

pub returns : goal.returns
returns c = inside_phi_of_sequence-from_inside
