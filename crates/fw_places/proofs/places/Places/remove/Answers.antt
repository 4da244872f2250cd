use Rattle.std.proofs.Common.{arith}
use Rattle.fw_places.proofs.MarkLaws.{unmarks_seen, unmarks_none_seen}
use Rattle.fw_places.proofs.places.Places.remove.Goals as goal

pub returns-then-place-len-clause-keys : goal.returns-then-place-len-clause-keys
returns-then-place-len-clause-keys c = (unmarks_seen _ _ _ _ c.self.view_is (omega arith) c.unmark.ensures).keys

pub returns-then-place-len-clause-taken : goal.returns-then-place-len-clause-taken
returns-then-place-len-clause-taken c = (unmarks_seen _ _ _ _ c.self.view_is (omega arith) c.unmark.ensures).taken

pub returns-else-place-len-clause-keys : goal.returns-else-place-len-clause-keys
returns-else-place-len-clause-keys c = (unmarks_none_seen c.self.inside.words.items c.args.self.now c.args.place c.self.view_is (omega arith)).keys

pub returns-else-place-len-clause-taken : goal.returns-else-place-len-clause-taken
returns-else-place-len-clause-taken c = (unmarks_none_seen c.self.inside.words.items c.args.self.now c.args.place c.self.view_is (omega arith)).taken
