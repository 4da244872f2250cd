use Rattle.std.proofs.Common.{◌++◌, [], ◌∷◌, List, ℕ, sym, ap, ◌∙◌, arith}
use Rattle.std.proofs.lemmas.List.FromFn.{map-range_with_len_more}
use Rattle.fw_flow.specs.WholeBags.{Timed}
use Rattle.fw_denote.specs.Holding.{family_held}
use Rattle.fw_denote.proofs.family.Family.of.Goals as goal

pub loop-place-preserved : goal.loop-place-preserved
loop-place-preserved c =
    let flow = c.args.flow.now in
    let held : ℕ → List Timed = family_held flow c.args.sent.items in
    c.in_ok-push.ensures.items
    ∙ ap (λ (rs : List Timed). c.loop-place.bags.items ++ rs ∷ []) (c.in_ok-bag_on.ensures ∙ ap (λ (ss : List (List Timed)). family_held flow ss c.at.result) c.deref.ensures.value ∙ ap held c.at.ensures)
    ∙ ap (λ bs. bs ++ held c.loop-place.place ∷ []) c.loop-place.invariant
    ∙ sym (map-range_with_len_more held 0 c.loop-place.place c.loop-place.place (omega arith))
