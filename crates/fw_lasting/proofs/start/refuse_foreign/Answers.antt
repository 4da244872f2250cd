use Rattle.std.proofs.Common.{◌≡◌, inr, Option, Some, refl, subst}
use Rattle.std.proofs.lemmas.Result.{err_from_is_err_and}
use Rattle.fw_hold.specs.declared.found.FoundRoot.{FoundRoot}
use Rattle.fw_hold.specs.Found.{HasGreatestTurn, IsFoundRoot}
use Rattle.fw_hold.proofs.FaultLaws.{of_put, store_foreign}
use Rattle.fw_hold.proofs.GreatestLaws.{of_some}
use Rattle.fw_hold.proofs.StartLaws.{foreign_undamaged}
use Rattle.fw_lasting.proofs.StartingLaws.{outside-put, root-known, root-undamaged}
use Rattle.fw_lasting.proofs.start.refuse_foreign.Goals as goal

pub returns-in_err-found-clause-foreign : goal.returns-in_err-found-clause-foreign
returns-in_err-found-clause-foreign g c =
    let p = err_from_is_err_and c.from_residual.result c.from_residual.ensures.1 in
    let view = g.K.Store.view in
    let old = (view c.args.store.now).records in
    let new = (view c.counted_root.new.store).records in
    let fault = c.in_err-found.field-0.0 in
    rw (p.1, p.2) (λ f told.
    store_foreign _ fault
    (of_put (Option FoundRoot) fault c.in_err-found.ensures.only
    (λ id e. foreign_undamaged c.args.digests.now old new id (view c.counted_root.new.store).given f c.in_err-found.ensures.stays told
    (c.in_err-found.ensures.damaged id e))))

pub returns-in_err-found-clause-whole : goal.returns-in_err-found-clause-whole
returns-in_err-found-clause-whole g c =
    let p = err_from_is_err_and c.from_residual.result c.from_residual.ensures.1 in
    let view = g.K.Store.view in
    let old = (view c.args.store.now).records in
    let new = (view c.counted_root.new.store).records in
    let fault = c.in_err-found.field-0.0 in
    rw (p.1, p.2) (λ flow story turn next held told h some.
    outside-put fault
    (of_put (Option FoundRoot) fault c.in_err-found.ensures.only
    (λ id e. root-undamaged flow c.args.digests.now old new held story turn next id (view c.counted_root.new.store).given told h c.in_err-found.ensures.stays some
    (c.in_err-found.ensures.damaged id e))))

pub returns-clause-whole : goal.returns-clause-whole
returns-clause-whole g c =
    let view = g.K.Store.view in
    let old = (view c.args.store.now).records in
    let new = (view c.counted_root.new.store).records in
    let found = c.in-Some.found in
    let is = of_some (IsFoundRoot new) c.in_ok-found.field-0 found c.in-Some.is c.in_ok-found.ensures.found in
    let greatest = of_some (λ (f : FoundRoot). HasGreatestTurn new f.head) c.in_ok-found.field-0 found c.in-Some.is c.in_ok-found.ensures.greatest in
    λ flow story turn next held told h some.
    let same = root-known flow c.args.digests.now old new held story turn next found told h c.in_ok-found.ensures.stays some is greatest in
    let yes = c.are_same.ensures.1 same in
    let no = c.if-are_same.false in
    absurd (cc)
