use Rattle.std.proofs.Common.{◌≡◌, ◌≢◌, List, [], unwrap_or, Option, None, sym, ap, subst, ◌∙◌, arith, rules}
use Rattle.std.proofs.lemmas.List.{nil_from_length}
use Rattle.std.specs.Map.{set_value, remove_entry}
use Rattle.std.specs.Prelude.{slice_get}
use Rattle.fw_flow.specs.declared.event.Message.{Message}
use Rattle.fw_edge.specs.Piles.{piled_messages, IsPile}
use Rattle.fw_edge.proofs.PiledLaws.{EachIsPile, at_stamp, long, pile_found, pile_rest, piles-set_value, piles-remove_entry, remove-set_value, piled-remove, find-piled, taken_at, not_none}
use Rattle.fw_edge.proofs.piles.take_at.Goals as goal

pub returns-in_err-pile-clause-value : goal.returns-in_err-pile-clause-value
returns-in_err-pile-clause-value c =
    let none : c.from_residual.result ≡ None = search rules in
    none ∙ ap (λ (o : Option (List Message)). slice_get (unwrap_or o []) 0) c.in_err-pile.ensures.value
    ∙ sym (find-piled c.args.at.now c.args.piles.now.entries c.requires.each)

pub returns-then-len-eq0-clause-piles : goal.returns-then-len-eq0-clause-piles
returns-then-len-eq0-clause-piles c =
    let es = c.args.piles.now.entries in
    let left = c.take_first-message.new.self in
    let gone = c.remove.ensures.entries ∙ ap (remove_entry (at_stamp c.args.at.now)) (c.get_mut.follows.holds left).0 ∙ remove-set_value (at_stamp c.args.at.now) es left in
    record { ordered = c.remove.ensures.ordered; each = subst EachIsPile (sym gone) (piles-remove_entry c.args.at.now es c.requires.each) }

pub returns-then-len-eq0-clause-value : goal.returns-then-len-eq0-clause-value
returns-then-len-eq0-clause-value c =
    c.take_first-message.ensures.value ∙ ap (λ (o : Option (List Message)). slice_get (unwrap_or o []) 0) c.in_ok-pile.ensures.value
    ∙ sym (find-piled c.args.at.now c.args.piles.now.entries c.requires.each)

pub returns-then-len-eq0-clause-taken : goal.returns-then-len-eq0-clause-taken
returns-then-len-eq0-clause-taken c =
    let es = c.args.piles.now.entries in
    let left = c.take_first-message.new.self in
    let test = at_stamp c.args.at.now in
    let nothing : left ≡ [] = nil_from_length left (omega (arith, c.if-len-eq0.true, c.len.ensures.len)) in
    let gone = c.remove.ensures.entries ∙ ap (remove_entry test) (c.get_mut.follows.holds left).0 ∙ remove-set_value test es left in
    taken_at c.args.at.now c.in_ok-pile.pile.now left es (piled_messages c.remove.new.self.entries) c.take_first-message.result c.requires (sym c.in_ok-pile.ensures.value) c.take_first-message.ensures.rest c.take_first-message.ensures.value
    (ap piled_messages gone ∙ piled-remove test es ∙ ap (λ xs. piled_messages (set_value test es xs)) (sym nothing))

pub returns-then-len-eq0-clause-unchanged : goal.returns-then-len-eq0-clause-unchanged
returns-then-len-eq0-clause-unchanged c =
    not_none _ c.in_ok-pile.pile.now c.take_first-message.result (pile_found c.args.at.now _ c.args.piles.now.entries c.requires.each (sym c.in_ok-pile.ensures.value)).some c.take_first-message.ensures.value

pub returns-else-len-eq0-clause-piles : goal.returns-else-len-eq0-clause-piles
returns-else-len-eq0-clause-piles c =
    let t = c.args.at.now in
    let es = c.args.piles.now.entries in
    let left = c.take_first-message.new.self in
    let written = c.get_mut.follows.holds left in
    let some : left ≢ [] = long left (omega (arith, c.if-len-eq0.false, c.len.ensures.len)) in
    let rest = pile_rest t c.in_ok-pile.pile.now (pile_found t _ es c.requires.each (sym c.in_ok-pile.ensures.value)) (subst (λ (xs : List Message). xs ≢ []) c.take_first-message.ensures.rest some) in
    record {
      ordered = written.4;
      each = subst EachIsPile (sym written.0) (piles-set_value t left es (subst (IsPile t) (sym c.take_first-message.ensures.rest) rest) c.requires.each);
    }

pub returns-else-len-eq0-clause-value : goal.returns-else-len-eq0-clause-value
returns-else-len-eq0-clause-value c =
    c.take_first-message.ensures.value ∙ ap (λ (o : Option (List Message)). slice_get (unwrap_or o []) 0) c.in_ok-pile.ensures.value
    ∙ sym (find-piled c.args.at.now c.args.piles.now.entries c.requires.each)

pub returns-else-len-eq0-clause-taken : goal.returns-else-len-eq0-clause-taken
returns-else-len-eq0-clause-taken c =
    let es = c.args.piles.now.entries in
    let left = c.take_first-message.new.self in
    taken_at c.args.at.now c.in_ok-pile.pile.now left es (piled_messages (c.get_mut.follows.lender left).entries) c.take_first-message.result c.requires (sym c.in_ok-pile.ensures.value) c.take_first-message.ensures.rest c.take_first-message.ensures.value
    (ap piled_messages (c.get_mut.follows.holds left).0)
