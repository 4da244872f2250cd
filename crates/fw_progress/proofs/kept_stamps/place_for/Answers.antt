use Rattle.std.proofs.Common.{◌≡◌, ◌≤◌, length, insert, arith, sym, subst, ◌∙◌}
use Rattle.std.specs.Prelude.{IfSome, IfNone}
use Rattle.std.specs.BTreeSet.{insert_key}
use Rattle.fw_time.specs.Stamp.{stamp_cmp}
use Rattle.fw_progress.proofs.KeptLaws.{after-last, is-last, place-found, found-there}
use Rattle.fw_progress.proofs.kept_stamps.place_for.Goals as goal

pub returns-in-Less-clause-place : goal.returns-in-Less-clause-place
returns-in-Less-clause-place c =
    (omega arith, after-last c.args.stamps.now c.in-Some.last.now c.args.at.now c.requires (sym c.in-Some.ensures.value) (sym c.cmp.ensures ∙ c.in-Less.is))

pub returns-in-Equal-clause-there : goal.returns-in-Equal-clause-there
returns-in-Equal-clause-there c =
    is-last c.args.stamps.now c.in-Some.last.now c.args.at.now c.requires (sym c.in-Some.ensures.value) (sym c.cmp.ensures ∙ c.in-Equal.is)

pub returns-in-Greater-clause-place : goal.returns-in-Greater-clause-place
returns-in-Greater-clause-place c =
    let ss = c.args.stamps.now in
    let at = c.args.at.now in
    subst (λ place. IfSome place (λ i. (i ≤ length ss) × (insert ss i at ≡ insert_key stamp_cmp ss at))) (sym c.err.ensures.value)
    (place-found ss at c.binary_search.result c.requires c.binary_search.ensures.bound c.binary_search.ensures.position)

pub returns-in-Greater-clause-there : goal.returns-in-Greater-clause-there
returns-in-Greater-clause-there c =
    let ss = c.args.stamps.now in
    let at = c.args.at.now in
    subst (λ place. IfNone place (insert_key stamp_cmp ss at ≡ ss)) (sym c.err.ensures.value)
    (found-there ss at c.binary_search.result c.requires c.binary_search.ensures.bound c.binary_search.ensures.position)
