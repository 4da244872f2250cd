use Rattle.std.proofs.Common.{refl, sym, subst}
use Rattle.std.proofs.lemmas.List.{append-nil}
use Rattle.fw_relive.proofs.opening.put_found.Goals as goal

pub returns-in-Some : goal.returns-in-Some
returns-in-Some c = rw (c.in-Some.is) (c.put_resumed.ensures)

pub returns-in-None : goal.returns-in-None
returns-in-None c = rw (c.in-None.is) (sym (append-nil c.args.into.now.items))
