use Rattle.std.proofs.Common.{Err, refl, sym, ap, ◌∙◌, inr}
use Rattle.fw_choosing.proofs.ReadingLaws.{too_large-told}
use Rattle.fw_choosing.proofs.reading.fetch.Goals as goal

pub returns-in-Err-TooLarge-clause-unread : goal.returns-in-Err-TooLarge-clause-unread
returns-in-Err-TooLarge-clause-unread g c =
    let too_large = ap (λ fault. Err fault) c.in-Err-TooLarge.field-0-is in
    let longer = sym c.fetch.new.into.ok.0 ∙ c.in-Err-TooLarge.ensures.cut too_large in
    inr (inr (refl, too_large-told (g.F.Folder.texts c.args.folder.now) c.args.name.now c.fetch.new.into.items _ (c.in-Err-TooLarge.ensures.too_large too_large) longer))
