use Rattle.std.proofs.Common.{rules, ◌≡◌, inl, inr, Option, Some, None, Ok, Err, refl, subst, sym, arith}
use Rattle.std.specs.Prelude.{IsErrOf, IsSome}
use Rattle.std.proofs.lemmas.Result.{err_from_is_err_and}
use Rattle.fw_held.proofs.StoreLaws.{stays-outside}
use Rattle.fw_hold.proofs.FaultLaws.{of_put}
use Rattle.fw_hold.proofs.GreatestLaws.{of_none, of_some}
use Rattle.fw_hold.specs.declared.fault.HoldFault.{HoldFault}
use Rattle.fw_hold.specs.declared.found.FoundRoot.{FoundRoot}
use Rattle.fw_hold.specs.Found.{HasGreatestTurn, HasNoneFound, IsFoundRoot}
use Rattle.fw_keep.specs.Stored.{Records}
use Rattle.fw_lasting.specs.RootOver.{IsRootOver}
use Rattle.fw_lasting.specs.UnderWay.{StandsAgain, keep_again, flow_again}
use Rattle.fw_lasting.proofs.ReadLaws.{stays-on, told-first}
use Rattle.fw_lasting.proofs.StartLaws.{read-for, unharmed-on}
use Rattle.fw_lasting.proofs.StartingLaws.{begun-again, found-root, outside-engine, outside-on, outside-put, root-named, root-undamaged, started-first, tells-again, tells-none, told-still}
use Rattle.fw_lasting.proofs.start.begin.Goals as goal

pub returns-in_default-clause-begun : goal.returns-in_default-clause-begun
returns-in_default-clause-begun g c =
    let view = g.K.Store.view in
    let old = (view c.args.store.now).records in
    let first = (view c.refuse_foreign.new.store).records in
    let mid = (view c.read_came.new.store).records in
    let new = (view c.counted_root.new.store).records in
    let none : c.in_ok-found.field-0 ≡ None = search rules in
    let none_found = of_none HoldFault (HasNoneFound new) c.in_ok-found.field-0 none c.in_ok-found.ensures.none in
    let read = stays-on old first mid c.in_ok-refuse_foreign.ensures.stays c.in_ok-batches.ensures.stays in
    λ story turn next held told h some.
    let t = told-first old mid new held read c.in_ok-found.ensures.stays told some in
    let f = told-first old first mid held c.in_ok-refuse_foreign.ensures.stays c.in_ok-batches.ensures.stays told t.0 in
    let at : first ≡ Some held = told-still old first held c.in_ok-refuse_foreign.ensures.stays f.0 told in
    started-first c.args.flow c.args.digests.now c.in_ok-engine.engine.engine new c.in_ok-batches.arrivals c.in_ok-batches.batches held story turn next h t.1
    none_found c.in_ok-engine.ensures.flow (c.in_ok-batches.ensures.came story held h.of_story at h.came t.0) (c.in_ok-engine.ensures.stands new)

pub returns-in_default-clause-tells : goal.returns-in_default-clause-tells
returns-in_default-clause-tells g c =
    let view = g.K.Store.view in
    let old = (view c.args.store.now).records in
    let first = (view c.refuse_foreign.new.store).records in
    let mid = (view c.read_came.new.store).records in
    let new = (view c.counted_root.new.store).records in
    let none : c.in_ok-found.field-0 ≡ None = search rules in
    let none_found = of_none HoldFault (HasNoneFound new) c.in_ok-found.field-0 none c.in_ok-found.ensures.none in
    let read = stays-on old first mid c.in_ok-refuse_foreign.ensures.stays c.in_ok-batches.ensures.stays in
    λ story turn next held done lines told h says some.
    let t = told-first old mid new held read c.in_ok-found.ensures.stays told some in
    absurd (tells-none c.args.flow c.args.digests.now held story done lines (subst HasNoneFound t.1 none_found) says)

pub resume-requires-clause-there : goal.resume-requires-clause-there
resume-requires-clause-there g c =
    let view = g.K.Store.view in
    let old = (view c.args.store.now).records in
    let first = (view c.refuse_foreign.new.store).records in
    let mid = (view c.read_came.new.store).records in
    let new = (view c.counted_root.new.store).records in
    let start = c.in_ok-refuse_foreign.ensures.stays in
    let stay = stays-on old mid new (stays-on old first mid start c.in_ok-batches.ensures.stays) c.in_ok-found.ensures.stays in
    let found_root = c.in-Some.found in
    let is = of_some (IsFoundRoot new) c.in_ok-found.field-0 found_root c.in-Some.is c.in_ok-found.ensures.found in
    let greatest = of_some (λ (f : FoundRoot). HasGreatestTurn new f.head) c.in_ok-found.field-0 found_root c.in-Some.is c.in_ok-found.ensures.greatest in
    root-named c.args.flow c.args.digests.now c.in_ok-batches.batches old new found_root c.in_ok-root.root c.requires.may stay is greatest c.in_ok-root.ensures.of_texts
    (λ r sound spelled. c.in_ok-root.ensures.only r sound spelled c.in_ok-root.ensures.of_texts)
    (λ story held k told h some.
    let was : IsSome mid = subst (λ (r : Option Records). IsSome r) (c.in_ok-found.ensures.stays some) some in
    let first_told : IsSome first = subst (λ (r : Option Records). IsSome r) (c.in_ok-batches.ensures.stays was) was in
    (c.in_ok-batches.ensures.came story held k (told-still old first held start first_told told) h was).batches)

pub returns-clause-few : goal.returns-clause-few
returns-clause-few g c = omega (arith, c.in_ok-engine-2.ensures.next, c.in_ok-root.ensures.root.0.next_id)

pub returns-clause-begun : goal.returns-clause-begun
returns-clause-begun g c =
    let view = g.K.Store.view in
    let old = (view c.args.store.now).records in
    let first = (view c.refuse_foreign.new.store).records in
    let mid = (view c.read_came.new.store).records in
    let new = (view c.counted_root.new.store).records in
    let start = c.in_ok-refuse_foreign.ensures.stays in
    let stay = stays-on old mid new (stays-on old first mid start c.in_ok-batches.ensures.stays) c.in_ok-found.ensures.stays in
    let found_root = c.in-Some.found in
    let is = of_some (IsFoundRoot new) c.in_ok-found.field-0 found_root c.in-Some.is c.in_ok-found.ensures.found in
    let greatest = of_some (λ (f : FoundRoot). HasGreatestTurn new f.head) c.in_ok-found.field-0 found_root c.in-Some.is c.in_ok-found.ensures.greatest in
    λ story turn next held told h some.
    begun-again view c.args.flow c.args.digests.now c.in_ok-batches.batches c.in_ok-batches.arrivals old c.counted_root.new.store c.resume.new.store found_root
    c.in_ok-root.root c.in_ok-engine-2.engine c.in_ok-engine-2.stepped _ held story turn next told stay is greatest
    (λ r sound spelled. c.in_ok-root.ensures.only r sound spelled c.in_ok-root.ensures.of_texts)
    (λ now.
    let was : IsSome mid = subst (λ (r : Option Records). IsSome r) (c.in_ok-found.ensures.stays now) now in
    let first_told : IsSome first = subst (λ (r : Option Records). IsSome r) (c.in_ok-batches.ensures.stays was) was in
    c.in_ok-batches.ensures.came story held h.of_story (told-still old first held start first_told told) h.came was) h refl
    c.in_ok-engine-2.ensures some

pub returns-clause-tells : goal.returns-clause-tells
returns-clause-tells g c =
    let view = g.K.Store.view in
    let old = (view c.args.store.now).records in
    let first = (view c.refuse_foreign.new.store).records in
    let mid = (view c.read_came.new.store).records in
    let new = (view c.counted_root.new.store).records in
    let start = c.in_ok-refuse_foreign.ensures.stays in
    let stay = stays-on old mid new (stays-on old first mid start c.in_ok-batches.ensures.stays) c.in_ok-found.ensures.stays in
    let found_root = c.in-Some.found in
    let is = of_some (IsFoundRoot new) c.in_ok-found.field-0 found_root c.in-Some.is c.in_ok-found.ensures.found in
    let greatest = of_some (λ (f : FoundRoot). HasGreatestTurn new f.head) c.in_ok-found.field-0 found_root c.in-Some.is c.in_ok-found.ensures.greatest in
    λ story turn next held done lines told h says some.
    tells-again c.args.flow c.args.digests.now c.in_ok-batches.batches old new found_root c.in_ok-root.root held story done lines told stay is greatest
    (λ r sound spelled. c.in_ok-root.ensures.only r sound spelled c.in_ok-root.ensures.of_texts)
    (λ now.
    let was : IsSome mid = subst (λ (r : Option Records). IsSome r) (c.in_ok-found.ensures.stays now) now in
    let first_told : IsSome first = subst (λ (r : Option Records). IsSome r) (c.in_ok-batches.ensures.stays was) was in
    (c.in_ok-batches.ensures.came story held h.of_story (told-still old first held start first_told told) h.came was).batches) h.of_story says
    (c.in_ok-engine-2.ensures.stays.told_before some)

pub returns-in_default-clause-stored : goal.returns-in_default-clause-stored
returns-in_default-clause-stored g c = c.in_ok-engine.ensures.stored (g.K.Store.view c.counted_root.new.store).records

-- ---- nothing is written

pub returns-in_err-refuse_foreign-clause-stays : goal.returns-in_err-refuse_foreign-clause-stays
returns-in_err-refuse_foreign-clause-stays g c =
    let view = g.K.Store.view in
    let old = (view c.args.store.now).records in
    let first = (view c.refuse_foreign.new.store).records in
    stays-outside old first c.in_err-refuse_foreign.ensures.stays

pub returns-in_err-batches-clause-stays : goal.returns-in_err-batches-clause-stays
returns-in_err-batches-clause-stays g c =
    let view = g.K.Store.view in
    let old = (view c.args.store.now).records in
    let first = (view c.refuse_foreign.new.store).records in
    let mid = (view c.read_came.new.store).records in
    stays-outside old mid (stays-on old first mid c.in_ok-refuse_foreign.ensures.stays c.in_err-batches.ensures.stays)

pub returns-in_err-found-clause-stays : goal.returns-in_err-found-clause-stays
returns-in_err-found-clause-stays g c =
    let view = g.K.Store.view in
    let old = (view c.args.store.now).records in
    let first = (view c.refuse_foreign.new.store).records in
    let mid = (view c.read_came.new.store).records in
    let new = (view c.counted_root.new.store).records in
    stays-outside old new (stays-on old mid new (stays-on old first mid c.in_ok-refuse_foreign.ensures.stays c.in_ok-batches.ensures.stays) c.in_err-found.ensures.stays)

pub returns-in_err-engine-clause-stays : goal.returns-in_err-engine-clause-stays
returns-in_err-engine-clause-stays g c =
    let view = g.K.Store.view in
    let old = (view c.args.store.now).records in
    let first = (view c.refuse_foreign.new.store).records in
    let mid = (view c.read_came.new.store).records in
    let new = (view c.counted_root.new.store).records in
    stays-outside old new (stays-on old mid new (stays-on old first mid c.in_ok-refuse_foreign.ensures.stays c.in_ok-batches.ensures.stays) c.in_ok-found.ensures.stays)

pub returns-in_default-clause-stays : goal.returns-in_default-clause-stays
returns-in_default-clause-stays g c =
    let view = g.K.Store.view in
    let old = (view c.args.store.now).records in
    let first = (view c.refuse_foreign.new.store).records in
    let mid = (view c.read_came.new.store).records in
    let new = (view c.counted_root.new.store).records in
    stays-outside old new (stays-on old mid new (stays-on old first mid c.in_ok-refuse_foreign.ensures.stays c.in_ok-batches.ensures.stays) c.in_ok-found.ensures.stays)

pub returns-in_err-root-clause-stays : goal.returns-in_err-root-clause-stays
returns-in_err-root-clause-stays g c =
    let view = g.K.Store.view in
    let old = (view c.args.store.now).records in
    let first = (view c.refuse_foreign.new.store).records in
    let mid = (view c.read_came.new.store).records in
    let new = (view c.counted_root.new.store).records in
    stays-outside old new (stays-on old mid new (stays-on old first mid c.in_ok-refuse_foreign.ensures.stays c.in_ok-batches.ensures.stays) c.in_ok-found.ensures.stays)

pub returns-in_err-engine-2-clause-stays : goal.returns-in_err-engine-2-clause-stays
returns-in_err-engine-2-clause-stays g c =
    let view = g.K.Store.view in
    let old = (view c.args.store.now).records in
    let first = (view c.refuse_foreign.new.store).records in
    let mid = (view c.read_came.new.store).records in
    let new = (view c.counted_root.new.store).records in
    outside-on old new (view c.resume.new.store).records
    (stays-outside old new (stays-on old mid new (stays-on old first mid c.in_ok-refuse_foreign.ensures.stays c.in_ok-batches.ensures.stays) c.in_ok-found.ensures.stays)) c.in_err-engine-2.ensures.stays

pub returns-clause-stays : goal.returns-clause-stays
returns-clause-stays g c =
    let view = g.K.Store.view in
    let old = (view c.args.store.now).records in
    let first = (view c.refuse_foreign.new.store).records in
    let mid = (view c.read_came.new.store).records in
    let new = (view c.counted_root.new.store).records in
    outside-on old new (view c.resume.new.store).records
    (stays-outside old new (stays-on old mid new (stays-on old first mid c.in_ok-refuse_foreign.ensures.stays c.in_ok-batches.ensures.stays) c.in_ok-found.ensures.stays)) c.in_ok-engine-2.ensures.stays

-- ---- over a store that holds a story

pub returns-in_err-refuse_foreign-clause-whole : goal.returns-in_err-refuse_foreign-clause-whole
returns-in_err-refuse_foreign-clause-whole g c =
    let p = err_from_is_err_and c.from_residual.result c.from_residual.ensures.1 in
    rw (p.1, p.2) (λ story turn next held told h some. c.in_err-refuse_foreign.ensures.whole c.args.flow story turn next held told h some)

pub returns-in_err-batches-clause-whole : goal.returns-in_err-batches-clause-whole
returns-in_err-batches-clause-whole g c =
    let p = err_from_is_err_and c.from_residual-in_err-batches.result c.from_residual-in_err-batches.ensures.1 in
    let view = g.K.Store.view in
    let old = (view c.args.store.now).records in
    let first = (view c.refuse_foreign.new.store).records in
    let mid = (view c.read_came.new.store).records in
    let fault = c.in_err-batches.field-0.0 in
    rw (p.1, p.2) (λ story turn next held told h some.
    let first_told : IsSome first = subst (λ (r : Option Records). IsSome r) (c.in_err-batches.ensures.stays some) some in
    let at : first ≡ Some held = told-still old first held c.in_ok-refuse_foreign.ensures.stays first_told told in
    outside-engine fault (λ id e. c.in_err-batches.ensures.undamaged id e story held h.of_story at h.came some))

pub returns-in_err-found-clause-whole : goal.returns-in_err-found-clause-whole
returns-in_err-found-clause-whole g c =
    let p = err_from_is_err_and c.from_residual-in_err-found.result c.from_residual-in_err-found.ensures.1 in
    let view = g.K.Store.view in
    let old = (view c.args.store.now).records in
    let first = (view c.refuse_foreign.new.store).records in
    let mid = (view c.read_came.new.store).records in
    let new = (view c.counted_root.new.store).records in
    let fault = c.in_err-found.field-0.0 in
    let stay = stays-on old mid new (stays-on old first mid c.in_ok-refuse_foreign.ensures.stays c.in_ok-batches.ensures.stays) c.in_err-found.ensures.stays in
    rw (p.1, p.2) (λ story turn next held told h some.
    outside-put fault
    (of_put (Option FoundRoot) fault c.in_err-found.ensures.only
    (λ id e. root-undamaged c.args.flow c.args.digests.now old new held story turn next id (view c.counted_root.new.store).given told h stay some
    (c.in_err-found.ensures.damaged id e))))

pub returns-in_err-engine-clause-whole : goal.returns-in_err-engine-clause-whole
returns-in_err-engine-clause-whole g c =
    let p = err_from_is_err_and c.from_residual-in_err-engine.result c.from_residual-in_err-engine.ensures.1 in
    rw (p.1, p.2) (λ story turn next held told h some. inr refl)

pub returns-in_err-root-clause-whole : goal.returns-in_err-root-clause-whole
returns-in_err-root-clause-whole g c =
    let p = err_from_is_err_and c.from_residual-in_err-root.result c.from_residual-in_err-root.ensures.1 in
    let view = g.K.Store.view in
    let old = (view c.args.store.now).records in
    let first = (view c.refuse_foreign.new.store).records in
    let mid = (view c.read_came.new.store).records in
    let new = (view c.counted_root.new.store).records in
    let found_root = c.in-Some.found in
    let is = of_some (IsFoundRoot new) c.in_ok-found.field-0 found_root c.in-Some.is c.in_ok-found.ensures.found in
    let greatest = of_some (λ (f : FoundRoot). HasGreatestTurn new f.head) c.in_ok-found.field-0 found_root c.in-Some.is c.in_ok-found.ensures.greatest in
    let stay = stays-on old mid new (stays-on old first mid c.in_ok-refuse_foreign.ensures.stays c.in_ok-batches.ensures.stays) c.in_ok-found.ensures.stays in
    rw (p.1, p.2) (λ story turn next held told h now.
    let was : IsSome mid = subst (λ (r : Option Records). IsSome r) (c.in_ok-found.ensures.stays now) now in
    let first_told : IsSome first = subst (λ (r : Option Records). IsSome r) (c.in_ok-batches.ensures.stays was) was in
    let here : new ≡ Some held = told-still old new held stay now told in
    let f = found-root c.args.flow c.args.digests.now held story turn next found_root h (subst (λ q. IsFoundRoot q found_root) here is)
    (subst (λ q. HasGreatestTurn q found_root.head) here greatest) in
    let came = c.in_ok-batches.ensures.came story held h.of_story (told-still old first held c.in_ok-refuse_foreign.ensures.stays first_told told) h.came was in
    inr (c.in_err-root.ensures.only f.0 (read-for c.args.flow story h.of_story c.in_ok-batches.batches came.batches f.0 (Some held) f.1.over) f.4 f.5))

pub returns-in_err-engine-2-clause-whole : goal.returns-in_err-engine-2-clause-whole
returns-in_err-engine-2-clause-whole g c =
    let p = err_from_is_err_and c.from_residual-in_err-engine-2.result c.from_residual-in_err-engine-2.ensures.1 in
    let view = g.K.Store.view in
    let old = (view c.args.store.now).records in
    let first = (view c.refuse_foreign.new.store).records in
    let mid = (view c.read_came.new.store).records in
    let new = (view c.counted_root.new.store).records in
    let found_root = c.in-Some.found in
    let is = of_some (IsFoundRoot new) c.in_ok-found.field-0 found_root c.in-Some.is c.in_ok-found.ensures.found in
    let greatest = of_some (λ (f : FoundRoot). HasGreatestTurn new f.head) c.in_ok-found.field-0 found_root c.in-Some.is c.in_ok-found.ensures.greatest in
    let stay = stays-on old mid new (stays-on old first mid c.in_ok-refuse_foreign.ensures.stays c.in_ok-batches.ensures.stays) c.in_ok-found.ensures.stays in
    let fault = c.in_err-engine-2.field-0.0 in
    rw (p.1, p.2) (λ story turn next held told h some.
    let now : IsSome new = c.in_err-engine-2.ensures.stays.told_before some in
    let was : IsSome mid = subst (λ (r : Option Records). IsSome r) (c.in_ok-found.ensures.stays now) now in
    let first_told : IsSome first = subst (λ (r : Option Records). IsSome r) (c.in_ok-batches.ensures.stays was) was in
    let here : new ≡ Some held = told-still old new held stay now told in
    let f = found-root c.args.flow c.args.digests.now held story turn next found_root h (subst (λ q. IsFoundRoot q found_root) here is)
    (subst (λ q. HasGreatestTurn q found_root.head) here greatest) in
    let came = c.in_ok-batches.ensures.came story held h.of_story (told-still old first held c.in_ok-refuse_foreign.ensures.stays first_told told) h.came was in
    let for = read-for c.args.flow story h.of_story c.in_ok-batches.batches came.batches f.0 (Some held) f.1.over in
    let same : c.in_ok-root.root ≡ f.0 = c.in_ok-root.ensures.only f.0 for f.4 f.5 in
    outside-engine fault
    (unharmed-on view StandsAgain keep_again flow_again c.args.flow story c.in_ok-batches.batches c.in_ok-root.root c.counted_root.new.store
    (Err fault) c.resume.new.store h.of_story came.batches
    (subst (λ q. IsRootOver c.args.flow story.now.batches story.now.state q new) (sym same)
    (subst (λ q. IsRootOver c.args.flow story.now.batches story.now.state f.0 q) (sym here) f.1.over)) c.in_err-engine-2.ensures some))
