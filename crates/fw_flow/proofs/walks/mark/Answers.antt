use Rattle.std.proofs.Common.{◌≡◌, ℕ, true, false, List, [], ◌∷◌, set, sym, ◌∙◌, subst}
use Rattle.std.proofs.lemmas.List.{get_or_default}
use Rattle.fw_flow.specs.Walks.{is_marked, AreMarked}
use Rattle.fw_flow.proofs.Marks.{AreMarked-new}
use Rattle.fw_flow.proofs.walks.mark.Goals as goal

pub returns : goal.returns
returns c =
    let marks = c.args.marks.now.items in
    let place = c.args.place in
    let waiting = c.args.to_visit.now.items in
    let free : is_marked marks place ≡ false = sym (c.index.ensures ∙ get_or_default marks place c.index.result.now false c.requires) ∙ c.if-index.false in
    subst (λ (ws : List ℕ). AreMarked (place ∷ []) marks (set marks place true) waiting ws) (sym c.in_ok-push.ensures.items)
    (AreMarked-new place marks waiting c.requires free)
