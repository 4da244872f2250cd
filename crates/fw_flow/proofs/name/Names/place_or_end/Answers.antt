use Rattle.std.proofs.Common.{◌≤◌, length, sym, ap, ◌∙◌, subst, unwrap_or}
use Rattle.fw_flow.proofs.FlowLaws.{length_of_bytes, place_or_end_of, place_within}
use Rattle.fw_flow.proofs.name.Names.place_or_end.Goals as goal

pub returns-clause-place : goal.returns-clause-place
returns-clause-place c =
    c.unwrap_or.ensures ∙ ap (λ o. unwrap_or o c.len.result) c.place_of.ensures
    ∙ place_or_end_of c.args.name.now c.args.self.now c.len.result
    (c.len.ensures.len ∙ sym (length_of_bytes c.self.inside.names.keys) ∙ ap length c.self.view_is)

pub returns-clause-within : goal.returns-clause-within
returns-clause-within c = subst (λ n. n ≤ length c.args.self.now) (sym (returns-clause-place c)) (place_within c.args.name.now c.args.self.now)
