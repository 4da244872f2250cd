use Rattle.std.proofs.Common.{◌≡◌, ◌+◌, ◌-◌, ◌<◌, arith, refl, sym, ap, ◌∙◌, subst}
use Rattle.std.proofs.lemmas.Bool.{false≢true}
use Rattle.std.proofs.lemmas.Map.Steps.{set_value_same}
use Rattle.std.specs.BTreeMap.{is_at}
use Rattle.std.specs.Map.{remove_entry}
use Rattle.fw_bag.specs.Bag.{IsPositive, expand}
use Rattle.fw_bag.specs.Rec.{rec_cmp}
use Rattle.fw_bag.proofs.CountLaws.{how_often-found, how_often-absent, without_rec-absent, expand-set_value, expand-remove_entry, IsPositive-lookup, IsPositive-set_value, IsPositive-remove_entry}
use Rattle.fw_bag.proofs.bag.take_copy.Goals as goal

pub returns-in_default-clause-found : goal.returns-in_default-clause-found
returns-in_default-clause-found c =
    let absent = how_often-absent c.args.rec c.args.counts.now.entries c.requires (sym c.in_default.ensures.value) in
    (λ h. absurd (false≢true h), λ h. absurd (omega arith))

pub returns-in_default-clause-taken : goal.returns-in_default-clause-taken
returns-in_default-clause-taken c =
    let es = c.args.counts.now.entries in
    ap (λ m. expand m.entries) c.get_mut.follows.holds-at-none ∙ sym (without_rec-absent c.args.rec es (sym c.in_default.ensures.value))

pub returns-then-count-gt1-clause-tally : goal.returns-then-count-gt1-clause-tally
returns-then-count-gt1-clause-tally c =
    let es = c.args.counts.now.entries in
    let test = is_at (rec_cmp c.args.rec) in
    let written = c.get_mut.follows.holds (c.in-Some.count.now - 1) in
    let left : 0 < c.in-Some.count.now - 1 = omega (arith, c.if-count-gt1.true) in
    record {
      ordered = written.4;
      positive = subst IsPositive (sym written.0) (IsPositive-set_value test _ left es c.requires.positive);
    }

pub returns-then-count-gt1-clause-taken : goal.returns-then-count-gt1-clause-taken
returns-then-count-gt1-clause-taken c =
    let es = c.args.counts.now.entries in
    let written = c.get_mut.follows.holds (c.in-Some.count.now - 1) in
    let one_less : c.in-Some.count.now ≡ c.in-Some.count.now - 1 + 1 = omega (arith, c.if-count-gt1.true) in
    ap expand written.0 ∙ expand-set_value c.args.rec _ _ one_less es (sym c.in-Some.ensures.value)

pub returns-then-count-gt1-clause-found : goal.returns-then-count-gt1-clause-found
returns-then-count-gt1-clause-found c =
    (λ _. how_often-found c.args.rec _ c.args.counts.now.entries c.requires (sym c.in-Some.ensures.value), λ _. refl)

pub returns-else-count-gt1-clause-tally : goal.returns-else-count-gt1-clause-tally
returns-else-count-gt1-clause-tally c =
    let es = c.args.counts.now.entries in
    let test = is_at (rec_cmp c.args.rec) in
    let unwritten = (c.get_mut.follows.holds c.in-Some.count.now).0 ∙ set_value_same test es _ (sym c.in-Some.ensures.value) in
    let left = c.remove.ensures.entries ∙ ap (remove_entry test) unwritten in
    record {
      ordered = c.remove.ensures.ordered;
      positive = subst IsPositive (sym left) (IsPositive-remove_entry test es c.requires.positive);
    }

pub returns-else-count-gt1-clause-taken : goal.returns-else-count-gt1-clause-taken
returns-else-count-gt1-clause-taken c =
    let es = c.args.counts.now.entries in
    let test = is_at (rec_cmp c.args.rec) in
    let unwritten = (c.get_mut.follows.holds c.in-Some.count.now).0 ∙ set_value_same test es _ (sym c.in-Some.ensures.value) in
    let one : c.in-Some.count.now ≡ 1 = omega (arith, c.if-count-gt1.false, IsPositive-lookup test _ es c.requires.positive (sym c.in-Some.ensures.value)) in
    ap expand (c.remove.ensures.entries ∙ ap (remove_entry test) unwritten) ∙ expand-remove_entry c.args.rec _ one es (sym c.in-Some.ensures.value)

pub returns-else-count-gt1-clause-found : goal.returns-else-count-gt1-clause-found
returns-else-count-gt1-clause-found c =
    (λ _. how_often-found c.args.rec _ c.args.counts.now.entries c.requires (sym c.in-Some.ensures.value), λ _. refl)
