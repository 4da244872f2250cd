use Rattle.std.proofs.Common.{◌≡◌, ◌-◌, true, false, [], ◌∷◌, rules, refl, sym, ap, subst, ◌∙◌}
use Rattle.std.specs.Ordering.{is_eq}
use Rattle.fw_time.specs.Stamp.{stamp_cmp}
use Rattle.fw_progress.specs.Few.{entries_of}
use Rattle.fw_progress.specs.Tally.{HasOneLess}
use Rattle.fw_progress.proofs.AloneLaws.{alone-less, alone-last, alone-other}
use Rattle.fw_progress.proofs.tally.Tally.take.Goals as goal

pub returns-then-not-is_eq : goal.returns-then-not-is_eq
returns-then-not-is_eq c =
    let was : (c.in-One.stamp, c.in-One.count) ∷ [] ≡ c.args.self.now = ap entries_of (sym c.in-One.is) ∙ c.self.view_is in
    let other : is_eq (stamp_cmp c.args.at.now c.in-One.stamp) ≡ false = search rules in
    subst (λ es. HasOneLess c.args.at.now es ((c.in-One.stamp, c.in-One.count) ∷ [])) was (alone-other c.args.at.now c.in-One.stamp c.in-One.count other)

pub returns-then-count-gt1 : goal.returns-then-count-gt1
returns-then-count-gt1 c =
    let was : (c.in-One.stamp, c.in-One.count) ∷ [] ≡ c.args.self.now = ap entries_of (sym c.in-One.is) ∙ c.self.view_is in
    let one : is_eq (stamp_cmp c.args.at.now c.in-One.stamp) ≡ true = search rules in
    subst (λ es. HasOneLess c.args.at.now es ((c.in-One.stamp, c.in-One.count - 1) ∷ [])) was
    (alone-less c.args.at.now c.in-One.stamp c.in-One.count (c.in-One.count - 1) one c.if-count-gt1.true refl)

pub returns : goal.returns
returns c =
    let was : (c.in-One.stamp, c.in-One.count) ∷ [] ≡ c.args.self.now = ap entries_of (sym c.in-One.is) ∙ c.self.view_is in
    let one : is_eq (stamp_cmp c.args.at.now c.in-One.stamp) ≡ true = search rules in
    subst (HasOneLess c.args.at.now c.args.self.now) (sym c.new.ensures.empty)
    (subst (λ es. HasOneLess c.args.at.now es []) was (alone-last c.args.at.now c.in-One.stamp c.in-One.count one c.if-count-gt1.false))
