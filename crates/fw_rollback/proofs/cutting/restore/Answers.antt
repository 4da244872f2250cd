use Rattle.fw_keep.proofs.StoredLaws.{stored-told}
use Rattle.fw_rollback.proofs.GivenLaws.{fetched-serve}
use Rattle.fw_rollback.proofs.OfNodeLaws.{of_nodes-restored}
use Rattle.fw_rollback.proofs.cutting.restore.Goals as goal

pub build-requires-clause-serve : goal.build-requires-clause-serve
build-requires-clause-serve g c =
    fetched-serve c.args.flow.now c.args.choice.now (g.K.Store.view c.read.new.store).records c.args.parts.now.keep.entries c.in_ok-given.given c.in_ok-given.ensures.fetched

pub returns-clause-restored : goal.returns-clause-restored
returns-clause-restored g c = record {
  given = c.in_ok-given.given;
  fetched = c.in_ok-given.ensures.fetched;
  restored = c.swap.ensures.restored c.in_ok-given.given c.in_ok-built.ensures.built;
}

pub returns-clause-nodes : goal.returns-clause-nodes
returns-clause-nodes g c =
    of_nodes-restored c.args.flow.now c.args.choice.now c.args.parts.now c.swap.new.parts c.in_ok-given.given
    (c.swap.ensures.restored c.in_ok-given.given c.in_ok-built.ensures.built)

pub returns-clause-stored : goal.returns-clause-stored
returns-clause-stored g c =
    c.swap.ensures.stored (g.K.Store.view c.read.new.store).records
    (stored-told c.args.parts.now.keep (g.K.Store.view c.args.store.now).records (g.K.Store.view c.read.new.store).records c.read.ensures.stays
    c.requires.stored)
