use Rattle.std.proofs.Common.{◌≡◌, true, List, ℕ, sym, subst, ◌∙◌}
use Rattle.std.proofs.lemmas.List.{take_all}
use Rattle.std.specs.List.{AllByRecursion}
use Rattle.fw_lemmas.proofs.Each.{each-taken}
use Rattle.fw_lemmas.proofs.Filters.{filter-all}
use Rattle.fw_time.specs.Stamp.{in_domain}
use Rattle.fw_choose.proofs.viewing.are_of_domain.Goals as goal

pub loop-stamp-preserved : goal.loop-stamp-preserved
loop-stamp-preserved c =
    let P : List ℕ → Type 0 = λ s. in_domain c.args.domain.now s ≡ true in
    each-taken P c.args.stamps.now c.loop-stamp.stamp-index c.stamp-item.result c.loop-stamp-test.true c.stamp-item.is c.loop-stamp.invariant
    (sym c.in_domain.ensures ∙ c.if-not-in_domain.false)

pub returns : goal.returns
returns c =
    let P : List ℕ → Type 0 = λ s. in_domain c.args.domain.now s ≡ true in
    λ yes. filter-all (in_domain c.args.domain.now) c.args.stamps.now
    (subst (AllByRecursion P) (take_all c.loop-stamp.stamp-index c.args.stamps.now c.loop-stamp-test.false) c.loop-stamp.invariant)
