use Rattle.std.proofs.Common.{◌≡◌, insert, sym, ap, subst, ◌∙◌, ◌∷◌}
use Rattle.std.specs.BTreeSet.{insert_key}
use Rattle.std.specs.List.Sorted.{IsStrictlySortedBy}
use Rattle.fw_time.specs.Stamp.{stamp_cmp}
use Rattle.fw_model.specs.Thinned.{IsThinned}
use Rattle.fw_progress.proofs.KeptLaws.{sorted-insert}
use Rattle.fw_progress.proofs.TraceLaws.{thinned-add}
use Rattle.fw_progress.proofs.kept_stamps.KeptStamps.add.Goals as goal

pub invariant_of-self : goal.invariant_of-self
invariant_of-self c =
    let old = c.self.inside.stamps.items in
    let at = c.args.at.now in
    let placed : insert old c.in-Some.i at ≡ insert_key stamp_cmp old at =
    subst (λ ss. insert ss c.in-Some.i at ≡ insert_key stamp_cmp ss at) c.deref.ensures.value c.in-Some.ensures.place.1 in
    let items = c.in_ok-put_at.ensures.ok ∙ placed in
    subst (IsStrictlySortedBy stamp_cmp) (sym items) (sorted-insert old at c.self.invariant)

pub returns-in_ok-put_at-clause-value : goal.returns-in_ok-put_at-clause-value
returns-in_ok-put_at-clause-value c =
    let old = c.self.inside.stamps.items in
    let at = c.args.at.now in
    let placed : insert old c.in-Some.i at ≡ insert_key stamp_cmp old at =
    subst (λ ss. insert ss c.in-Some.i at ≡ insert_key stamp_cmp ss at) c.deref.ensures.value c.in-Some.ensures.place.1 in
    c.in_ok-put_at.ensures.ok ∙ placed ∙ ap (λ ss. insert_key stamp_cmp ss at) c.self.view_is

pub returns-in_ok-put_at-clause-thinned : goal.returns-in_ok-put_at-clause-thinned
returns-in_ok-put_at-clause-thinned c = λ base all h.
    subst (IsThinned base (c.args.at.now ∷ all)) (sym (returns-in_ok-put_at-clause-value c)) (thinned-add base all c.args.self.now c.args.at.now h)

pub returns-in_default-clause-value : goal.returns-in_default-clause-value
returns-in_default-clause-value c =
    let at = c.args.at.now in
    sym (subst (λ ss. insert_key stamp_cmp ss at ≡ ss) (c.deref.ensures.value ∙ c.self.view_is) c.in_default.ensures.there)

pub returns-in_default-clause-thinned : goal.returns-in_default-clause-thinned
returns-in_default-clause-thinned c = λ base all h.
    subst (IsThinned base (c.args.at.now ∷ all)) (sym (returns-in_default-clause-value c)) (thinned-add base all c.args.self.now c.args.at.now h)
