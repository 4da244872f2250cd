use Rattle.std.proofs.Common.{◌≡◌, sym}
use Rattle.std.proofs.lemmas.Map.Lookups.{exact_unsigned}
use Rattle.fw_keep.proofs.EntryLaws.{found-only, found-there, found-none, ids-rise}
use Rattle.fw_keep.proofs.fetch.entry_at.Goals as goal

pub returns-in-Ok-clause-there : goal.returns-in-Ok-clause-there
returns-in-Ok-clause-there c =
    let entry = c.index-entries-place.result in
    let named : c.index-entries-place.result.id ≡ c.args.id = exact_unsigned c.index-entries-place.result.id c.args.id (rw (c.index-entries-place.is) (c.in-Ok.ensures.place c.index-entries-place.result)) in
    sym (found-there c.args.entries.now c.args.id c.in-Ok.place entry c.in-Ok.ensures.inside c.index-entries-place.is named)

pub returns-in-Ok-clause-only : goal.returns-in-Ok-clause-only
returns-in-Ok-clause-only c =
    let entry = c.index-entries-place.result in
    let named : c.index-entries-place.result.id ≡ c.args.id = exact_unsigned c.index-entries-place.result.id c.args.id (rw (c.index-entries-place.is) (c.in-Ok.ensures.place c.index-entries-place.result)) in
    found-only c.args.entries.now c.args.id c.in-Ok.place entry c.requires c.in-Ok.ensures.inside c.index-entries-place.is named

pub returns-in-Err-clause-there : goal.returns-in-Err-clause-there
returns-in-Err-clause-there c =
    sym (found-none c.args.entries.now c.args.id c.in-Err.field-0 (c.in-Err.ensures.place (ids-rise c.args.entries.now c.args.id c.requires)))
