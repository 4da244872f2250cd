use Rattle.std.proofs.Common.{true, false, refl}
use Rattle.fw_keep.proofs.StoredLaws.{stored-begun}
use Rattle.fw_keep.proofs.keep.Keep.resumed.Goals as goal

pub returns-clause-stored : goal.returns-clause-stored
returns-clause-stored c = λ all.
    stored-begun (record { entries = c.new.result.items; next = c.args.next; waiting = c.args.waiting.items; refused = false; shared = true }) all c.new.ensures.items refl
