use Rattle.std.proofs.Common.{◌-◌, refl, sym, ap, subst, ◌∙◌}
use Rattle.std.proofs.lemmas.Map.Steps.{set_value_same}
use Rattle.std.specs.BTreeMap.{is_at}
use Rattle.std.specs.Map.{remove_entry}
use Rattle.fw_time.specs.Stamp.{stamp_cmp}
use Rattle.fw_progress.specs.Tally.{HasOneLess}
use Rattle.fw_progress.proofs.TallyLaws.{IsWith, is_there, none_less, one_less, last_less}
use Rattle.fw_progress.proofs.tally.take_one.Goals as goal

pub returns-in_default : goal.returns-in_default
returns-in_default c =
    let old = c.args.counts.now.entries in
    subst (HasOneLess c.args.at.now old) (sym (ap (λ m. m.entries) c.get_mut.follows.holds-at-none)) (none_less old c.args.at.now (sym c.in_default.ensures.value))

pub returns-then-count-gt1 : goal.returns-then-count-gt1
returns-then-count-gt1 c =
    let old = c.args.counts.now.entries in
    let left = c.in-Some.count.now - 1 in
    let written = c.get_mut.follows.holds left in
    let found = sym c.in-Some.ensures.value in
    one_less old (c.get_mut.follows.lender left).entries c.args.at.now c.in-Some.count.now left found c.if-count-gt1.true refl
    (written.3 (is_there old c.args.at.now c.in-Some.count.now found)).0 written.0

pub returns-else-count-gt1 : goal.returns-else-count-gt1
returns-else-count-gt1 c =
    let old = c.args.counts.now.entries in
    let new = c.remove.new.self.entries in
    let test = is_at (stamp_cmp c.args.at.now) in
    let unwritten = (c.get_mut.follows.holds c.in-Some.count.now).0 ∙ set_value_same test old _ (sym c.in-Some.ensures.value) in
    last_less old new c.args.at.now c.in-Some.count.now (sym c.in-Some.ensures.value) c.if-count-gt1.false
    (subst (λ m. IsWith m c.args.at.now _ new) unwritten c.remove.ensures.updates.0) (c.remove.ensures.entries ∙ ap (remove_entry test) unwritten)
