use Rattle.std.proofs.Common.{◌≡◌, ◌+◌, ◌<◌, List, Option, None, sym, ap, subst, ◌∙◌, inl, inr, arith, rules}
use Rattle.std.specs.Option.{option_map}
use Rattle.std.specs.Borrow.{Bor}
use Rattle.std.specs.Prelude.{slice_get}
use Rattle.std.proofs.lemmas.Bool.{cases_lt}
use Rattle.std.proofs.lemmas.Option.{slice_get-map}
use Rattle.fw_bag.specs.Bag.{BagState}
use Rattle.fw_bag.specs.declared.rec.Rec.{Rec}
use Rattle.fw_lines.specs.Batches.{recs_of_bags}
use Rattle.fw_border.specs.Sources.{SourceState, next_batch}
use Rattle.fw_border.proofs.NumberLaws.{not_held, held_at}
use Rattle.fw_border.proofs.RecsLaws.{got_item, recs_lent}
use Rattle.fw_border.proofs.source.Source.next.Goals as goal

pub returns-in_err-place : goal.returns-in_err-place
returns-in_err-place c =
    let s = c.self.inside in
    let none : c.from_residual.result ≡ None = search rules in
    let early : s.injected < s.first = elim (cases_lt s.injected s.first) [
      | inl l ↦ l
      | inr g ↦ absurd (c.in_err-place.ensures g)
    ] in
    let nothing : Option (List Rec) = None in
    ap (option_map (λ (b : Bor BagState). b.now.recs)) none
    ∙ subst (λ (source : SourceState). nothing ≡ next_batch source) c.self.view_is (sym (not_held s.injected s.first (recs_of_bags s.held.items) early))

pub returns : goal.returns
returns c =
    let s = c.self.inside in
    let place = c.in_ok-place.place in
    let apart : s.injected ≡ s.first + place = omega (arith, c.in_ok-place.ensures) in
    recs_lent c.get.result ∙ ap (option_map (λ (b : BagState). b.recs)) (got_item s.held.items place c.get.result c.get.ensures.item)
    ∙ sym (slice_get-map (λ (b : BagState). b.recs) s.held.items place)
    ∙ subst (λ (source : SourceState). slice_get (recs_of_bags s.held.items) place ≡ next_batch source) c.self.view_is (sym (held_at s.injected s.first place (recs_of_bags s.held.items) apart))
