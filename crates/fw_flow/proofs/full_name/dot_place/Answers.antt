use Rattle.std.proofs.Common.{◌≤◌, ◌∙◌, ap, length, refl, subst, sym, unwrap_or}
use Rattle.fw_flow.proofs.FullNameLaws.{dot_or_end, dot_within}
use Rattle.fw_flow.proofs.full_name.dot_place.Goals as goal

pub returns-clause-place : goal.returns-clause-place
returns-clause-place c =
    let word = c.args.word.now in
    c.unwrap_or.ensures ∙ ap (λ o. unwrap_or o (length word)) c.first_dot.ensures ∙ dot_or_end word (length word) refl

pub returns-clause-within : goal.returns-clause-within
returns-clause-within c = subst (λ n. n ≤ length c.args.word.now) (sym (returns-clause-place c)) (dot_within c.args.word.now)
