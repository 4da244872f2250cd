use Rattle.std.proofs.Common.{◌≡◌, ◌+◌, true, List, take, Err, Option, refl, sym, ap, subst, ◌∙◌}
use Rattle.std.proofs.lemmas.Result.{err_from_is_err_and}
use Rattle.fw_keep.specs.declared.entry.Entry.{Entry}
use Rattle.fw_keep.specs.declared.fault.KeepFault.{KeepFault}
use Rattle.fw_record.specs.declared.record.Record.{Record}
use Rattle.fw_keep.specs.Catalogue.{has_entry}
use Rattle.fw_keep.specs.Stored.{Records, IsStored}
use Rattle.fw_outside.specs.Outside.{StayIfTold}
use Rattle.fw_outside.proofs.ToldLaws.{told-on}
use Rattle.fw_keep.proofs.StoredLaws.{stored-told}
use Rattle.fw_rollback.specs.Asked.{ComesOfReading}
use Rattle.fw_rollback.proofs.GivenLaws.{HasFetched, fetched-more, fetched-same, fetched-one, fetched-told, of-both, of_reading, entry-there, entry-among}
use Rattle.fw_rollback.proofs.given.fetch_all.Goals as goal
use Rattle.fw_rollback.proofs.given.fetch_all.Goals.{then-is_asked_for+in_ok-fetch_one+in_ok-add, else-is_asked_for}

pub fetch_one-requires-clause-there : goal.fetch_one-requires-clause-there
fetch_one-requires-clause-there g c =
    subst (λ (es : List Entry). has_entry c.entry-item.result.id es ≡ true) c.entries-entries.ensures.all
    (entry-there c.entries-entries.result.now c.loop-entry.entry-index c.entry-item.result c.loop-entry-test.true c.entry-item.is)

pub returns-in_err-fetch_one-clause-of_reading : goal.returns-in_err-fetch_one-clause-of_reading
returns-in_err-fetch_one-clause-of_reading g c =
    let entries = c.args.keep.now.entries in
    let left = g.K.Store.view c.fetch_one.new.store in
    let e : Entry = c.entry-item.result in
    let why : KeepFault = c.in_err-fetch_one.field-0.0 in
    let there = entry-among c.entries-entries.result.now entries c.loop-entry.entry-index e c.entries-entries.ensures.all c.loop-entry-test.true c.entry-item.is in
    let p = err_from_is_err_and c.from_residual.result c.from_residual.ensures.1 in
    let here : ComesOfReading {T = Unit {0}} c.args.flow.now c.args.choice.now left.records entries left.given (Err why) =
    of_reading (Unit {0}) c.args.flow.now c.args.choice.now left.records entries e left.given why there
    (sym (c.is_asked_for.ensures entries c.requires.found) ∙ c.if-is_asked_for.true)
    (c.in_err-fetch_one.ensures.fetched e there refl) c.in_err-fetch_one.ensures.told in
    rw (p.1, p.2) here

pub returns-in_err-fetch_one-clause-stays : goal.returns-in_err-fetch_one-clause-stays
returns-in_err-fetch_one-clause-stays g c = told-on _ _ _ c.loop-entry.invariant.stays c.fetch_one.ensures.stays

pub returns-in_err-add-clause-stays : goal.returns-in_err-add-clause-stays
returns-in_err-add-clause-stays g c = told-on _ _ _ c.loop-entry.invariant.stays c.fetch_one.ensures.stays

pub loop-entry-preserved : goal.loop-entry-preserved
loop-entry-preserved g c =
    let flow = c.args.flow.now in
    let choice = c.args.choice.now in
    let all = c.args.keep.now.entries in
    let some = c.entries-entries.result.now in
    let i = c.loop-entry.entry-index in
    let e : Entry = c.entry-item.result in
    let inv = c.loop-entry.invariant in
    let before = (g.K.Store.view c.loop-entry.store).records in
    let P : Option Records → List (List Record) → Type 0 = λ records given. HasFetched flow choice records all (take (i + 1) some) given in
    let Q : Option Records → Type 0 = λ records. StayIfTold (g.K.Store.view c.args.store.now).records records in
    let R : Option Records → Type 0 = λ records. IsStored c.args.keep.now records in
    elim c.if-is_asked_for.branch [
      | then-is_asked_for+in_ok-fetch_one+in_ok-add w ↦
          let there = entry-among some all i e c.entries-entries.ensures.all c.loop-entry-test.true c.entry-item.is in
          let r : Record = w.in_ok-fetch_one.field-0 in
          let left = g.K.Store.view w.fetch_one.new.store in
          let one = fetched-one flow left.records e r left.given (w.in_ok-fetch_one.ensures.fetched e there refl) w.in_ok-fetch_one.ensures.told in
          let so_far = fetched-told flow choice before left.records all (take i some) c.loop-entry.given w.fetch_one.ensures.stays inv.fetched in
          let same = ap (λ s. (g.K.Store.view s).records) w.store-is in
          record {
            fetched = of-both P same w.given-is
                (fetched-more flow choice left.records all some i e c.loop-entry-test.true c.entry-item.is r c.loop-entry.given w.add.new.self
                (sym (c.is_asked_for.ensures all c.requires.found) ∙ w.if-is_asked_for.true) so_far one w.in_ok-add.ensures);
            stays = subst Q (sym same) (told-on _ before left.records inv.stays w.fetch_one.ensures.stays);
            stored = subst R (sym same) (stored-told c.args.keep.now before left.records w.fetch_one.ensures.stays inv.stored);
            faults = ap (λ s. (g.K.Store.view s).faults) w.store-is ∙ (w.in_ok-fetch_one.ensures.faults ∙ inv.faults);
          }
      | else-is_asked_for w ↦
          let same = ap (λ s. (g.K.Store.view s).records) w.store-is in
          record {
            fetched = of-both P same w.given-is
                (fetched-same flow choice before all some i e c.loop-entry-test.true c.entry-item.is c.loop-entry.given
                (sym (c.is_asked_for.ensures all c.requires.found) ∙ w.if-is_asked_for.false) inv.fetched);
            stays = subst Q (sym same) inv.stays;
            stored = subst R (sym same) inv.stored;
            faults = ap (λ s. (g.K.Store.view s).faults) w.store-is ∙ inv.faults;
          }
    ]
