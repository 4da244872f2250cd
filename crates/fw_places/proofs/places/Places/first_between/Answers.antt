use Rattle.std.proofs.Common.{ap, ◌∙◌, subst}
use Rattle.fw_places.specs.Marks.{marked}
use Rattle.fw_places.specs.Places.{IsFirstFrom, HasNoneBetween}
use Rattle.fw_places.proofs.PlaceLaws.{none_below}
use Rattle.fw_places.proofs.MarkLaws.{is_first, is_none}
use Rattle.fw_places.proofs.places.Places.first_between.Goals as goal

pub returns-in_err-place : goal.returns-in_err-place
returns-in_err-place c =
    rw c.from_residual.ensures (subst (HasNoneBetween c.args.from c.args.limit) (ap marked c.deref.ensures.value ∙ c.self.view_is) (is_none c.deref.result.now c.args.from c.args.limit c.in_err-place.ensures))

pub returns-then-place-limit : goal.returns-then-place-limit
returns-then-place-limit c =
    (subst (λ xs. IsFirstFrom c.args.from xs c.in_ok-place.place) (ap marked c.deref.ensures.value ∙ c.self.view_is) (is_first c.deref.result.now c.args.from c.in_ok-place.place c.in_ok-place.ensures), c.if-place-limit.true)

pub returns-else-place-limit : goal.returns-else-place-limit
returns-else-place-limit c =
    let first = subst (λ xs. IsFirstFrom c.args.from xs c.in_ok-place.place) (ap marked c.deref.ensures.value ∙ c.self.view_is) (is_first c.deref.result.now c.args.from c.in_ok-place.place c.in_ok-place.ensures) in
    none_below c.args.from c.in_ok-place.place c.args.limit c.args.self.now first c.if-place-limit.false
