use Rattle.std.proofs.Common.{◌≡◌, ◌++◌, None, rules, sym, ap, subst, ◌∙◌}
use Rattle.std.specs.Prelude.{is_some, IsSome}
use Rattle.std.specs.BTreeMap.{insert_entry}
use Rattle.std.proofs.lemmas.Bool.{false≢true}
use Rattle.std.specs.BTreeMap.Entry.{map_with_value}
use Rattle.std.specs.Map.{lookup}
use Rattle.fw_time.specs.Stamp.{Stamp, stamp_cmp}
use Rattle.fw_model.specs.SortedMessages.{with_message}
use Rattle.fw_edge.specs.Piles.{piled_messages, AreApart}
use Rattle.fw_edge.proofs.HeadLaws.{put-earlier, first-absent}
use Rattle.fw_edge.proofs.PiledLaws.{at_stamp}
use Rattle.fw_edge.proofs.bag.put_before.Goals as goal

pub returns-in-Vacant-clause-apart : goal.returns-in-Vacant-clause-apart
returns-in-Vacant-clause-apart c =
    let head = c.args.head.now in
    let pile = c.replace.new.dest in
    let old = c.replace.result in
    let written = c.in_ok-place.ensures.update.1 old ∙ ap (λ (s : Stamp). insert_entry stamp_cmp c.args.rest.now.entries s old) c.copy.ensures
    ∙ ap (insert_entry stamp_cmp c.args.rest.now.entries c.args.at.now) c.replace.ensures.value in
    let put =
    put-earlier c.args.message c.args.at.now head pile c.args.rest.now.entries (map_with_value c.in_ok-place.field-0 old).entries c.requires.apart c.requires.some c.requires.lesser
    (c.replace.ensures.after ∙ c.in_ok-pile.ensures) written in
    let apart = subst (λ (s : Stamp). AreApart s pile (map_with_value c.in_ok-place.field-0 old).entries) (sym c.copy-first.ensures) put.0 in
    let held = subst (λ d. AreApart c.copy-first.result pile (map_with_value d old).entries) c.in-Vacant.is apart in
    search (rules, held)

pub returns-in-Vacant-clause-ok : goal.returns-in-Vacant-clause-ok
returns-in-Vacant-clause-ok c =
    let head = c.args.head.now in
    let pile = c.replace.new.dest in
    let old = c.replace.result in
    let written = c.in_ok-place.ensures.update.1 old ∙ ap (λ (s : Stamp). insert_entry stamp_cmp c.args.rest.now.entries s old) c.copy.ensures
    ∙ ap (insert_entry stamp_cmp c.args.rest.now.entries c.args.at.now) c.replace.ensures.value in
    let put =
    put-earlier c.args.message c.args.at.now head pile c.args.rest.now.entries (map_with_value c.in_ok-place.field-0 old).entries c.requires.apart c.requires.some c.requires.lesser
    (c.replace.ensures.after ∙ c.in_ok-pile.ensures) written in
    let held = subst (λ d. pile ++ piled_messages (map_with_value d old).entries ≡ with_message c.args.message (head ++ piled_messages c.args.rest.now.entries)) c.in-Vacant.is put.1 in
    search (rules, held)

pub returns-in_default-clause-ok : goal.returns-in_default-clause-ok
returns-in_default-clause-ok c =
    let none : lookup (at_stamp c.copy.result) c.args.rest.now.entries ≡ None = ap (λ (s : Stamp). lookup (at_stamp s) c.args.rest.now.entries) c.copy.ensures
    ∙ first-absent c.args.at.now c.args.head.now c.args.rest.now.entries c.requires.apart c.requires.some in
    let there : IsSome (lookup (at_stamp c.copy.result) c.args.rest.now.entries) = (rw c.in_default.is at c.in_ok-place.ensures.found).0 in
    absurd (false≢true (sym (ap is_some none) ∙ there))
