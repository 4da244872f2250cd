use Rattle.std.proofs.Common.{◌≡◌, ◌+◌, ◌<◌, true, [], ◌∷◌, length, rules, sym, ap, subst, ◌∙◌, arith}
use Rattle.std.specs.Ordering.{is_eq}
use Rattle.fw_time.specs.Stamp.{stamp_cmp}
use Rattle.fw_progress.specs.Few.{entries_of}
use Rattle.fw_progress.specs.Tally.{HasManyMore}
use Rattle.fw_progress.proofs.AloneLaws.{alone-first, alone-more, no-entries}
use Rattle.fw_progress.proofs.tally.Tally.add_many.Goals as goal
use Rattle.fw_progress.proofs.tally.Tally.add_many.Goals.{in-Many+else-not-is_empty, in-One+else-is_eq+in_ok-more-in-One}

pub returns-then-is_eq-clause-ok : goal.returns-then-is_eq-clause-ok
returns-then-is_eq-clause-ok c =
    let was : (c.in-One.stamp, c.in-One.times) ∷ [] ≡ c.args.self.now = ap entries_of (sym c.in-One.is) ∙ c.self.view_is in
    let one : is_eq (stamp_cmp c.args.at.now c.in-One.stamp) ≡ true = search rules in
    let more = c.in_ok-times-in-One.field-0 in
    let raised : more ≡ c.in-One.times + c.args.count = search rules in
    let some : 0 < c.args.count = omega arith in
    subst (λ es. HasManyMore c.args.at.now c.args.count es ((c.in-One.stamp, more) ∷ [])) was
    (alone-more c.args.at.now c.in-One.stamp c.in-One.times c.args.count more one some raised)

pub returns-clause-ok : goal.returns-clause-ok
returns-clause-ok c =
    let at = c.args.at.now in
    let count = c.args.count in
    let some : 0 < count = omega arith in
    elim c.match-self.branch [
      | in-Many+else-not-is_empty w ↦
          let was : w.in-Many.counts.entries ≡ c.args.self.now = ap entries_of (sym w.in-Many.is) ∙ c.self.view_is in
          let none : length w.in-Many.counts.entries ≡ 0 = search rules in
          let new : entries_of c.match-self.more ≡ (at, count) ∷ [] = ap entries_of w.more-is ∙ ap (λ s. (s, count) ∷ []) w.copy.ensures in
          subst (HasManyMore at count c.args.self.now) (sym new)
          (subst (λ es. HasManyMore at count es ((at, count) ∷ [])) (sym (no-entries w.in-Many.counts.entries none) ∙ was) (alone-first at count some))
      | in-One+else-is_eq+in_ok-more-in-One w ↦
          let was : (w.in-One.stamp, w.in-One.times) ∷ [] ≡ c.args.self.now = ap entries_of (sym w.in-One.is) ∙ c.self.view_is in
          subst (HasManyMore at count c.args.self.now) (ap entries_of (sym w.more-is))
          (subst (λ es. HasManyMore at count es (entries_of w.in_ok-more-in-One.more)) was w.in_ok-more-in-One.ensures)
    ]
