use Rattle.std.proofs.Common.{◌≡◌, ℕ, ◌∷◌, [], ◌++◌, sym, ap, subst, ◌∙◌}
use Rattle.std.specs.List.Sorted.{IsStrictlySortedBy}
use Rattle.std.specs.BTreeMap.{insert_entry}
use Rattle.std.specs.Map.{keys_of}
use Rattle.std.proofs.lemmas.List.{append_assoc}
use Rattle.std.proofs.lemmas.Map.Iter.{rest_more}
use Rattle.std.specs.Map.Iter.{deref_pair}
use Rattle.fw_time.specs.Stamp.{Stamp, stamp_cmp}
use Rattle.fw_progress.proofs.TallyLaws.{insert-last}
use Rattle.fw_progress.proofs.tally.copied.Goals as goal

pub loop-at-preserved : goal.loop-at-preserved
loop-at-preserved c =
    let old = c.loop-at.copy.entries in
    let e : Stamp × ℕ = (c.in-Some.at.now, c.in-Some.count.now) in
    let rest = c.next.new.self in
    let more = rest_more deref_pair c.loop-at.at-iterator rest c.next.result (c.in-Some.at, c.in-Some.count) c.in-Some.is c.next.ensures.steps in
    let all : old ++ e ∷ rest ≡ c.args.counts.now.entries = ap (λ r. old ++ r) (sym more) ∙ c.loop-at.invariant in
    let ordered = subst (λ es. IsStrictlySortedBy stamp_cmp (keys_of es)) (sym all) c.iter-at-items.ensures.ordered in
    let new = c.in_ok-insert.ensures.entries ∙ ap (λ t. insert_entry stamp_cmp old t e.1) c.copy.ensures ∙ insert-last old e rest ordered in
    ap (λ es. es ++ rest) new ∙ append_assoc old (e ∷ []) rest ∙ all
