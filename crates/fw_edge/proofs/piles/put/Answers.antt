use Rattle.std.proofs.Common.{◌≡◌, Some, None, rules, sym, ap, subst, ◌∙◌}
use Rattle.std.specs.BTreeMap.{insert_entry}
use Rattle.std.specs.BTreeMap.Entry.{entry_value, map_with_value}
use Rattle.std.specs.Map.{lookup, set_value}
use Rattle.fw_time.specs.Stamp.{Stamp, stamp_cmp}
use Rattle.fw_model.specs.SortedMessages.{with_message}
use Rattle.fw_edge.specs.Piles.{piled_messages, ArePiles, IsPile}
use Rattle.fw_edge.proofs.PiledLaws.{EachIsPile, at_stamp, pile_found, pile_with, single_pile, insert-found, insert-same, piles-insert_entry, piled-put_more, piled-put_new}
use Rattle.fw_edge.proofs.piles.put.Goals as goal

pub returns-in_err-put-in-Occupied : goal.returns-in_err-put-in-Occupied
returns-in_err-put-in-Occupied c =
    let t = c.args.message.at in
    let es = c.args.piles.now.entries in
    let v = c.into_mut.result.now in
    let left = c.put.new.self in
    let value : entry_value c.in_ok-pile.field-0 ≡ Some v = rw c.in-Occupied.is c.into_mut.ensures.value in
    let found : lookup (at_stamp t) es ≡ Some v = ap (λ (s : Stamp). lookup (at_stamp s) es) (sym c.copy.ensures) ∙ sym c.in_ok-pile.ensures.value ∙ value in
    let same = c.in_ok-pile.ensures.update.1 left ∙ ap (λ s. insert_entry stamp_cmp es s left) c.copy.ensures ∙ ap (insert_entry stamp_cmp es t) c.in_err-put-in-Occupied.ensures.err
    ∙ insert-same t v es c.requires.ordered found in
    let held = subst (λ d. ArePiles (map_with_value d left).entries) c.in-Occupied.is (subst ArePiles (sym same) c.requires) in
    let unchanged = subst (λ d. (map_with_value d left).entries ≡ es) c.in-Occupied.is same in
    record { piles = search (rules, held); ok = search rules; err = search (rules, unchanged) }

pub returns-in_ok-put-in-Occupied : goal.returns-in_ok-put-in-Occupied
returns-in_ok-put-in-Occupied c =
    let m = c.args.message in
    let es = c.args.piles.now.entries in
    let v = c.into_mut.result.now in
    let left = c.put.new.self in
    let value : entry_value c.in_ok-pile.field-0 ≡ Some v = rw c.in-Occupied.is c.into_mut.ensures.value in
    let found : lookup (at_stamp m.at) es ≡ Some v = ap (λ (s : Stamp). lookup (at_stamp s) es) (sym c.copy.ensures) ∙ sym c.in_ok-pile.ensures.value ∙ value in
    let written = c.in_ok-pile.ensures.update.1 left ∙ ap (λ s. insert_entry stamp_cmp es s left) c.copy.ensures in
    let pile = subst (IsPile m.at) (sym c.in_ok-put-in-Occupied.ensures.ok) (pile_with m v (pile_found m.at v es c.requires.each found)) in
    let each = subst EachIsPile (sym written) (piles-insert_entry m.at left es pile c.requires.each) in
    let all : ArePiles (map_with_value c.in_ok-pile.field-0 left).entries = record { ordered = c.in_ok-pile.ensures.update.2 left; each = each } in
    let held = subst (λ d. ArePiles (map_with_value d left).entries) c.in-Occupied.is all in
    let put = ap piled_messages (written ∙ insert-found m.at v left es c.requires.ordered found)
    ∙ ap (λ w. piled_messages (set_value (at_stamp m.at) es w)) c.in_ok-put-in-Occupied.ensures.ok ∙ piled-put_more m v es c.requires found in
    let with_it = subst (λ d. piled_messages (map_with_value d left).entries ≡ with_message m (piled_messages es)) c.in-Occupied.is put in
    record { piles = search (rules, held); ok = search (rules, with_it); err = search rules }

pub returns-in_ok-of-in-Vacant : goal.returns-in_ok-of-in-Vacant
returns-in_ok-of-in-Vacant c =
    let m = c.args.message in
    let es = c.args.piles.now.entries in
    let made = c.in_ok-of-in-Vacant.field-0 in
    let none : lookup (at_stamp c.copy.result) es ≡ None = rw c.in-Vacant.is at c.in_ok-pile.ensures.found in
    let absent = ap (λ (s : Stamp). lookup (at_stamp s) es) (sym c.copy.ensures) ∙ none in
    let written = c.in_ok-pile.ensures.update.1 made ∙ ap (λ s. insert_entry stamp_cmp es s made) c.copy.ensures in
    let pile = subst (IsPile m.at) (sym c.in_ok-of-in-Vacant.ensures) (single_pile m) in
    let each = subst EachIsPile (sym written) (piles-insert_entry m.at made es pile c.requires.each) in
    let all : ArePiles (map_with_value c.in_ok-pile.field-0 made).entries = record { ordered = c.in_ok-pile.ensures.update.2 made; each = each } in
    let held = subst (λ d. ArePiles (map_with_value d made).entries) c.in-Vacant.is all in
    let put = ap piled_messages written ∙ ap (λ w. piled_messages (insert_entry stamp_cmp es m.at w)) c.in_ok-of-in-Vacant.ensures ∙ piled-put_new m es c.requires absent in
    let with_it = subst (λ d. piled_messages (map_with_value d made).entries ≡ with_message m (piled_messages es)) c.in-Vacant.is put in
    record { piles = search (rules, held); ok = search (rules, with_it); err = search rules }
