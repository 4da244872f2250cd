use Rattle.std.proofs.Common.{ap, ◌∙◌, sym, subst, arith}
use Rattle.fw_places.specs.Marks.{marked, IsMarkFrom}
use Rattle.fw_places.proofs.MarkLaws.{unmarks_seen, pops, none_marked}
use Rattle.fw_places.proofs.places.Places.pop_first.Goals as goal

pub returns-in_err-place-clause-none : goal.returns-in_err-place-clause-none
returns-in_err-place-clause-none c =
    rw c.from_residual.ensures (sym c.self.view_is ∙ ap marked (sym c.deref.ensures.value) ∙ none_marked c.deref.result.now c.in_err-place.ensures)

pub returns-in_err-place-clause-unchanged : goal.returns-in_err-place-clause-unchanged
returns-in_err-place-clause-unchanged c =
    rw c.from_residual.ensures (sym c.self.view_is ∙ ap marked (sym c.deref.ensures.value) ∙ none_marked c.deref.result.now c.in_err-place.ensures)

pub returns-clause-some : goal.returns-clause-some
returns-clause-some c =
    let ws = c.self.inside.words.items in
    let f : IsMarkFrom ws 0 c.in_ok-place.place = subst (λ xs. IsMarkFrom xs 0 c.in_ok-place.place) c.deref.ensures.value c.in_ok-place.ensures in
    let inside = f.inside in
    pops ws c.args.self.now (marked c.unmark.new.words.items) c.in_ok-place.place c.self.view_is f
    (unmarks_seen ws c.unmark.new.words.items c.args.self.now c.in_ok-place.place c.self.view_is (omega arith) c.unmark.ensures)
