use Rattle.std.proofs.Common.{rules, ◌≡◌, false, subst, ◌∙◌}
use Rattle.std.specs.Prelude.{IfSome, is_some}
use Rattle.std.specs.FinMap as records
use Rattle.fw_keep.proofs.StoredLaws.{absent-removed}
use Rattle.fw_keep.proofs.remove.remove_if_there.Goals as goal

pub returns-in-Ok-false-clause-removed : goal.returns-in-Ok-false-clause-removed
returns-in-Ok-false-clause-removed g c =
    let none : c.in-Ok-false.field-0 ≡ false = search rules in
    c.has.ensures.records_stay
    ∙ absent-removed c.args.id (g.K.Store.view c.args.store.now).records c.in-Ok-false.field-0 none
    (subst (λ all. IfSome all (λ held. c.in-Ok-false.field-0 ≡ is_some (records.get held c.args.id))) c.has.ensures.records_stay c.in-Ok-false.ensures.there)
