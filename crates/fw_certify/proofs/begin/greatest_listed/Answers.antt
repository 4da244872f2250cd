use Rattle.std.proofs.Common.{refl}
use Rattle.fw_certify.proofs.CodeLaws.{record-greatest, records-no_greatest}
use Rattle.fw_certify.proofs.begin.greatest_listed.Goals as goal

pub returns-in_ok-copy-in-Some : goal.returns-in_ok-copy-in-Some
returns-in_ok-copy-in-Some c = λ b k.
    record-greatest b c.args.records.now _ c.in-Some.record.now c.in_ok-copy-in-Some.field-0 k refl c.in_ok-copy-in-Some.ensures c.in-Some.ensures

pub returns-in-None : goal.returns-in-None
returns-in-None c = λ b k f. records-no_greatest b c.args.records.now _ f k refl c.in-None.ensures
