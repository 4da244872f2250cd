use Rattle.std.proofs.Common.{◌≡◌, ◌+◌, ◌^◌, ◌≤◌, Some, unwrap_or, rules, sym, ap, subst, ◌∙◌}
use Rattle.std.specs.BTreeMap.{insert_entry, Updates}
use Rattle.std.specs.BTreeMap.Entry.{map_with_value}
use Rattle.fw_time.specs.Stamp.{stamp_cmp}
use Rattle.fw_progress.specs.Tally.{times_in}
use Rattle.fw_progress.proofs.TallyLaws.{insert-same, held-over}
use Rattle.fw_progress.proofs.tally.raise.Goals as goal

pub returns-in_err-count-clause-err : goal.returns-in_err-count-clause-err
returns-in_err-count-clause-err c =
    let old = c.args.counts.now.entries in
    let n = c.or_insert-count.result.now in
    let over : 2 ^ 64 ≤ n + c.args.more = search rules in
    let held = sym c.in_ok-counts.ensures.value ∙ held-over _ n c.args.more c.or_insert-count.ensures.value c.ranges.more.fits over in
    let same = c.in_ok-counts.ensures.update.1 n ∙ insert-same old c.copy.result n c.in_ok-counts.ensures.ordered held in
    search (rules, same)

pub returns-clause-ok : goal.returns-clause-ok
unfolding times_in
returns-clause-ok c =
    let old = c.args.counts.now.entries in
    let more = c.in_ok-count.field-0 in
    let held : c.or_insert-count.result.now ≡ times_in c.args.at.now old =
    c.or_insert-count.ensures.value ∙ ap (λ o. unwrap_or o 0) c.in_ok-counts.ensures.value ∙ ap (λ t. times_in t old) c.copy.ensures in
    let raised : more ≡ c.or_insert-count.result.now + c.args.more = search rules in
    let there = subst (λ t. Updates stamp_cmp c.args.counts.now (map_with_value c.in_ok-counts.field-0 more) t (Some more)) c.copy.ensures (c.in_ok-counts.ensures.update.0 more) in
    let with = subst (λ n. Updates stamp_cmp c.args.counts.now (map_with_value c.in_ok-counts.field-0 more) c.args.at.now (Some n)) (raised ∙ ap (λ n. n + c.args.more) held) there in
    search (rules, with)

pub returns-clause-entries : goal.returns-clause-entries
unfolding times_in
returns-clause-entries c =
    let old = c.args.counts.now.entries in
    let more = c.in_ok-count.field-0 in
    let held : c.or_insert-count.result.now ≡ times_in c.args.at.now old =
    c.or_insert-count.ensures.value ∙ ap (λ o. unwrap_or o 0) c.in_ok-counts.ensures.value ∙ ap (λ t. times_in t old) c.copy.ensures in
    let raised : more ≡ c.or_insert-count.result.now + c.args.more = search rules in
    let with =
    c.in_ok-counts.ensures.update.1 more ∙ ap (λ t. insert_entry stamp_cmp old t more) c.copy.ensures
    ∙ ap (insert_entry stamp_cmp old c.args.at.now) (raised ∙ ap (λ n. n + c.args.more) held) in
    search (rules, with)
