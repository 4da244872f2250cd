use Rattle.std.proofs.Common.{ℕ, ◌∷◌, [], ◌++◌, sym, ap, ◌∙◌}
use Rattle.std.proofs.lemmas.List.{append_assoc}
use Rattle.std.proofs.lemmas.Map.Iter.{rest_more}
use Rattle.std.specs.Map.Iter.{deref_pair}
use Rattle.fw_time.specs.Stamp.{Stamp}
use Rattle.fw_progress.proofs.tally.listed.Goals as goal

pub loop-at-preserved : goal.loop-at-preserved
loop-at-preserved c =
    let old = c.loop-at.entries.items in
    let e : Stamp × ℕ = (c.in-Some.at.now, c.in-Some.count.now) in
    let rest = c.next.new.self in
    let more = rest_more deref_pair c.loop-at.at-iterator rest c.next.result (c.in-Some.at, c.in-Some.count) c.in-Some.is c.next.ensures.steps in
    let new = c.in_ok-push.ensures.items ∙ ap (λ t. old ++ (t, e.1) ∷ []) c.copy.ensures in
    ap (λ es. es ++ rest) new ∙ append_assoc old (e ∷ []) rest ∙ ap (λ r. old ++ r) (sym more) ∙ c.loop-at.invariant
