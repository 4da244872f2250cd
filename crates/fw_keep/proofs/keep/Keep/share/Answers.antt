use Rattle.std.proofs.Common.{sym, subst}
use Rattle.fw_keep.specs.Catalogue.{KeepState}
use Rattle.fw_keep.specs.Stored.{IsStored}
use Rattle.fw_keep.specs.Inside.{keep_state_of}
use Rattle.fw_keep.proofs.KeepLaws.{sound-shared}
use Rattle.fw_keep.proofs.StoredLaws.{stored-shared}
use Rattle.fw_keep.proofs.keep.Keep.share.Goals as goal

pub invariant_of-self : goal.invariant_of-self
invariant_of-self c = sound-shared c.self.inside c.self.invariant

pub returns-clause-stored : goal.returns-clause-stored
returns-clause-stored c = λ all stored.
    stored-shared (keep_state_of c.self.inside) all (subst (λ (k : KeepState). IsStored k all) (sym c.self.view_is) stored)
