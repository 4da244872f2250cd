use Rattle.fw_keep.proofs.StoredLaws.{stored-told}
use Rattle.fw_resume.proofs.CatalogueLaws.{there-told}
use Rattle.fw_resume.proofs.catalogue.read_one.Goals as goal

pub returns-clause-stored : goal.returns-clause-stored
returns-clause-stored g c = λ stored.
    let before = (g.K.Store.view c.args.store.now).records in
    let after = (g.K.Store.view c.read_named.new.store).records in
    let stays = c.read_named.ensures.stays in
    c.in_ok-add_read.ensures.stored after (there-told c.args.name.now.id before after stays c.requires.there) (stored-told c.args.keep.now before after stays stored)
