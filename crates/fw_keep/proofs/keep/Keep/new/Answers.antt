use Rattle.std.proofs.Common.{false}
use Rattle.fw_keep.proofs.StoredLaws.{stored-new}
use Rattle.fw_keep.proofs.keep.Keep.new.Goals as goal

pub returns-clause-stored : goal.returns-clause-stored
returns-clause-stored c = λ all none.
    stored-new (record { entries = c.new.result.items; next = 0; waiting = c.new-2.result.items; refused = false; shared = false }) all c.new.ensures.items c.new-2.ensures.items none
