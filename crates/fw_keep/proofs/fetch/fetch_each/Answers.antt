use Rattle.std.proofs.Common.{◌+◌, List, take, sym, subst, ◌∙◌}
use Rattle.std.proofs.lemmas.Result.{err_from_is_err_and}
use Rattle.std.specs.List.{AllZip}
use Rattle.fw_outside.proofs.ToldLaws.{told-on}
use Rattle.fw_record.specs.declared.record.Record.{Record}
use Rattle.fw_keep.specs.Joined.{IsFetchedAt}
use Rattle.fw_keep.proofs.StoredLaws.{stored-told}
use Rattle.fw_keep.proofs.FetchLaws.{all-still, damaged-at, fetched-at, more-fetched}
use Rattle.fw_keep.proofs.fetch.fetch_each.Goals as goal

pub returns-in_err-fetch_one-clause-damaged : goal.returns-in_err-fetch_one-clause-damaged
returns-in_err-fetch_one-clause-damaged g c =
    let left = g.K.Store.view c.fetch_one.new.store in
    let before = (g.K.Store.view c.loop-id.store).records in
    let entries = c.args.keep.now.entries in
    let ids = c.args.ids.now in
    let i = c.loop-id.id-index in
    let p = err_from_is_err_and c.from_residual.result c.from_residual.ensures.1 in
    rw (p.1, p.2) (damaged-at c.args.flow.now left.records left.given entries ids i _ c.loop-id.records.items c.in_err-fetch_one.field-0.0 c.loop-id-test.true c.requires.there
    (all-still c.args.flow.now before left.records entries (take i ids) c.loop-id.records.items c.fetch_one.ensures.stays c.loop-id.invariant.fetched)
    c.in_err-fetch_one.ensures.fetched c.in_err-fetch_one.ensures.told)

pub loop-id-preserved : goal.loop-id-preserved
loop-id-preserved g c =
    let flow = c.args.flow.now in
    let left = g.K.Store.view c.fetch_one.new.store in
    let before = (g.K.Store.view c.loop-id.store).records in
    let entries = c.args.keep.now.entries in
    let ids = c.args.ids.now in
    let i = c.loop-id.id-index in
    let inv = c.loop-id.invariant in
    let stay = c.fetch_one.ensures.stays in
    record {
      fetched = subst (λ (rs : List Record). AllZip (IsFetchedAt flow left.records entries) (take (i + 1) ids) rs) (sym c.in_ok-push.ensures.items)
          (more-fetched flow left.records entries ids i _ c.loop-id.records.items c.in_ok-fetch_one.field-0 c.loop-id-test.true
          (all-still flow before left.records entries (take i ids) c.loop-id.records.items stay inv.fetched)
          (fetched-at flow left.records entries _ c.in_ok-fetch_one.field-0 left.given c.in_ok-fetch_one.ensures.fetched c.in_ok-fetch_one.ensures.told));
      stays = told-on _ before left.records inv.stays stay;
      stored = stored-told c.args.keep.now before left.records stay inv.stored;
      faults = c.in_ok-fetch_one.ensures.faults ∙ inv.faults;
    }
