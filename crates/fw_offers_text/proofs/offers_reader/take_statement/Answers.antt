use Rattle.std.proofs.Common.{sym}
use Rattle.fw_offers_text.proofs.DraftLaws.{new_from_no_fault}
use Rattle.fw_offers_text.proofs.TakenLaws.{statement_fits}
use Rattle.fw_offers_text.proofs.offers_reader.take_statement.Goals as goal

pub fault-requires : goal.fault-requires
fault-requires c = statement_fits c.args.flow.now c.args.draft.now c.args.statement c.requires.of_flow c.requires.there

pub tell-requires-clause-apart : goal.tell-requires-clause-apart
tell-requires-clause-apart c = new_from_no_fault c.args.flow.now c.args.draft.now c.args.statement (sym c.in-None.ensures)
