use Rattle.std.proofs.Common.{◌≡◌, [], ◌∷◌, sym, ap, subst, ◌∙◌}
use Rattle.std.specs.List.Sorted.{IsStrictlySortedBy}
use Rattle.std.specs.Map.{keys_of}
use Rattle.fw_time.specs.Stamp.{stamp_cmp}
use Rattle.fw_progress.specs.Few.{entries_of}
use Rattle.fw_progress.proofs.AloneLaws.{alone-sorted}
use Rattle.fw_progress.proofs.tally.Tally.first_inside.Goals as goal

pub returns-in-One-clause-in_order : goal.returns-in-One-clause-in_order
returns-in-One-clause-in_order c =
    let was : (c.in-One.stamp, c.in-One.field-1) ∷ [] ≡ c.args.self.now = ap entries_of (sym c.in-One.is) ∙ c.self.view_is in
    subst (λ es. IsStrictlySortedBy stamp_cmp (keys_of es)) was (alone-sorted c.in-One.stamp c.in-One.field-1)

pub returns-in-One-2-clause-in_order : goal.returns-in-One-2-clause-in_order
returns-in-One-2-clause-in_order c =
    let was : (c.in-One.stamp, c.in-One.field-1) ∷ [] ≡ c.args.self.now = ap entries_of (sym c.in-One.is) ∙ c.self.view_is in
    subst (λ es. IsStrictlySortedBy stamp_cmp (keys_of es)) was (alone-sorted c.in-One.stamp c.in-One.field-1)
