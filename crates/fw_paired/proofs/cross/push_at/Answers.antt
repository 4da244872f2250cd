use Rattle.std.proofs.Common.{◌≡◌, ℕ, refl, Some, None, cond, Vec, sym, ap, ◌∙◌, subst, rules, IsSome, BTreeMap}
use Rattle.std.specs.Ordering.{nat_cmp}
use Rattle.std.specs.BTreeMap.{get, is_at}
use Rattle.fw_lemmas.proofs.Results.{on_err}
use Rattle.fw_paired.specs.declared.pair.StampedValue.{StampedValue}
use Rattle.fw_paired.specs.Cross.{HasArrivals, values_at}
use Rattle.fw_paired.proofs.CrossLaws.{arrivals_pushed, arrivals_same}
use Rattle.fw_paired.proofs.cross.push_at.Goals as goal

pub returns-in_err-push-clause-err : goal.returns-in_err-push-clause-err
returns-in_err-push-clause-err c = λ came h.
    let old = c.args.values.now in
    let new = c.get_mut.follows.lender c.push.new.self in
    let found : get nat_cmp old c.args.rec.key ≡ Some c.in-Some.there.now = search rules in
    let some : IsSome (get nat_cmp old c.args.rec.key) = search rules in
    let written = (c.get_mut.follows.holds c.push.new.self).3 some in
    let e = c.in_err-push.ensures in
    on_err c.from_residual.result (HasArrivals new came)
    (arrivals_same old new c.args.rec.key c.push.new.self c.in-Some.there.now.items came h written.0 (ap values_at found) e.items)

pub returns-in-Some-clause-ok : goal.returns-in-Some-clause-ok
returns-in-Some-clause-ok c = λ side came h.
    let old = c.args.values.now in
    let new = c.get_mut.follows.lender c.push.new.self in
    let found : get nat_cmp old c.args.rec.key ≡ Some c.in-Some.there.now = search rules in
    let some : IsSome (get nat_cmp old c.args.rec.key) = search rules in
    let written = (c.get_mut.follows.holds c.push.new.self).3 some in
    let e = c.in_ok-push.ensures in
    let last : StampedValue = record { at = c.copy.result; value = c.args.rec.value } in
    arrivals_pushed old new side c.args.at.now c.args.rec c.push.new.self last c.in-Some.there.now.items came h written.0 (ap values_at found) e.items c.copy.ensures refl

pub returns-clause-ok : goal.returns-clause-ok
returns-clause-ok c = λ side came h.
    let old = c.args.values.now in
    let none : get nat_cmp old c.args.rec.key ≡ None = search rules in
    let same = c.get_mut.follows.holds-at-none in
    let P : BTreeMap ℕ (Vec StampedValue _) → Type 0 = λ m. (q : ℕ) → get nat_cmp c.insert.new.self q ≡ cond (is_at (nat_cmp c.args.rec.key) q) (Some c.push-2.new.self) (get nat_cmp m q) in
    let updated = subst P same c.in_ok-insert.ensures.updates.0 in
    let e = c.in_ok-push-2.ensures in
    let last : StampedValue = record { at = c.copy.result; value = c.args.rec.value } in
    arrivals_pushed old c.insert.new.self side c.args.at.now c.args.rec c.push-2.new.self last c.new-first.result.items came h updated
    (ap values_at none ∙ sym c.new-first.ensures.items) e.items c.copy.ensures refl
