use Rattle.fw_flow_text.proofs.ReadingLaws.{one_declaration}
use Rattle.fw_flow_text.proofs.laws.words_declare_one_thing.Goals as goal

pub returns : goal.returns
returns c = one_declaration
