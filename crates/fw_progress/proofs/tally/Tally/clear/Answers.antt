use Rattle.std.proofs.Common.{◌≡◌, true, false, [], ◌∷◌, rules, sym, ap, subst, ◌∙◌}
use Rattle.std.specs.Ordering.{is_eq}
use Rattle.fw_time.specs.Stamp.{stamp_cmp}
use Rattle.fw_progress.specs.Few.{entries_of}
use Rattle.fw_progress.specs.Tally.{HasNoMore}
use Rattle.fw_progress.proofs.AloneLaws.{alone-gone, alone-stays}
use Rattle.fw_progress.proofs.tally.Tally.clear.Goals as goal

pub returns-then-not-is_eq : goal.returns-then-not-is_eq
returns-then-not-is_eq c =
    let was : (c.in-One.stamp, c.in-One.field-1) ∷ [] ≡ c.args.self.now = ap entries_of (sym c.in-One.is) ∙ c.self.view_is in
    let other : is_eq (stamp_cmp c.args.at.now c.in-One.stamp) ≡ false = search rules in
    subst (λ es. HasNoMore c.args.at.now es ((c.in-One.stamp, c.in-One.field-1) ∷ [])) was (alone-stays c.args.at.now c.in-One.stamp c.in-One.field-1 other)

pub returns : goal.returns
returns c =
    let was : (c.in-One.stamp, c.in-One.field-1) ∷ [] ≡ c.args.self.now = ap entries_of (sym c.in-One.is) ∙ c.self.view_is in
    let one : is_eq (stamp_cmp c.args.at.now c.in-One.stamp) ≡ true = search rules in
    subst (HasNoMore c.args.at.now c.args.self.now) (sym c.new.ensures.empty)
    (subst (λ es. HasNoMore c.args.at.now es []) was (alone-gone c.args.at.now c.in-One.stamp c.in-One.field-1 one))
