use Rattle.std.proofs.Common.{refl}
use Rattle.fw_flow.proofs.SentTableLaws.{total-at}
use Rattle.fw_flow.proofs.sent_table.total_at.Goals as goal

pub returns : goal.returns
returns c = total-at c.args.entries.now c.args.place _ _ c.requires.totals c.if-place-eq0.false c.requires.there refl
