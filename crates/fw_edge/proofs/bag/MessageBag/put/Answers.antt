use Rattle.std.proofs.Common.{◌≡◌, [], arith, sym, ap, subst, ◌∙◌}
use Rattle.std.proofs.lemmas.List.{nil_from_length}
use Rattle.fw_time.specs.Stamp.{Stamp}
use Rattle.fw_model.specs.SortedMessages.{with_message}
use Rattle.fw_model.proofs.CmpLaws.{stamp_cmp-same}
use Rattle.fw_edge.specs.Piles.{piled_messages, AreApart}
use Rattle.fw_edge.proofs.HeadLaws.{apart-rest, either-way, OnOk-weaker, still-none, put-none, put-same, put-later}
use Rattle.fw_edge.proofs.PiledLaws.{long}
use Rattle.fw_edge.proofs.bag.MessageBag.put.Goals as goal

pub invariant_of-self : goal.invariant_of-self
invariant_of-self c =
    let head = c.self.inside.head in
    let rest = c.self.inside.rest.entries in
    let none : head ≡ [] = nil_from_length head (omega (arith, c.if-len-eq0.true, c.len.ensures.len)) in
    let left = c.put.new.self in
    let apart : AreApart c.args.message.at left rest =
    either-way c.put.result (left ≡ with_message c.args.message head) (left ≡ head) (AreApart c.args.message.at left rest) c.put.ensures.ok c.put.ensures.err
    (λ e. (put-none c.args.message c.self.inside.at head left rest c.self.invariant none e).0)
    (λ e. still-none c.self.inside.at c.args.message.at head left rest c.self.invariant none e) in
    subst (λ (s : Stamp). AreApart s left rest) (sym c.copy-self-inside.ensures) apart

pub invariant_of-self-in-Equal : goal.invariant_of-self-in-Equal
invariant_of-self-in-Equal c =
    let head = c.self.inside.head in
    let rest = c.self.inside.rest.entries in
    let at = c.self.inside.at in
    let some = long head (omega (arith, c.if-len-eq0.false, c.len.ensures.len)) in
    let left = c.put-in-Equal.new.self in
    let same = stamp_cmp-same c.args.message.at at (sym c.cmp.ensures ∙ c.in-Equal.is) in
    either-way c.put-in-Equal.result (left ≡ with_message c.args.message head) (left ≡ head) (AreApart at left rest) c.put-in-Equal.ensures.ok c.put-in-Equal.ensures.err
    (λ e. (put-same c.args.message at head left rest c.self.invariant some same e).0) (λ e. subst (λ v. AreApart at v rest) (sym e) c.self.invariant)

pub put-requires-in-Greater : goal.put-requires-in-Greater
put-requires-in-Greater c = apart-rest c.self.inside.at c.self.inside.head c.self.inside.rest.entries c.self.invariant

pub invariant_of-self-in-Greater : goal.invariant_of-self-in-Greater
invariant_of-self-in-Greater c =
    let head = c.self.inside.head in
    let rest = c.self.inside.rest.entries in
    let at = c.self.inside.at in
    let some = long head (omega (arith, c.if-len-eq0.false, c.len.ensures.len)) in
    let left = c.put-in-Greater.new.piles.entries in
    either-way c.put-in-Greater.result (piled_messages left ≡ with_message c.args.message (piled_messages rest)) (left ≡ rest) (AreApart at head left) c.put-in-Greater.ensures.ok c.put-in-Greater.ensures.err
    (λ e. (put-later c.args.message at head rest left c.self.invariant some (sym c.cmp.ensures ∙ c.in-Greater.is) c.put-in-Greater.ensures.piles e).0)
    (λ e. subst (λ es. AreApart at head es) (sym e) c.self.invariant)

pub returns-in-Less-clause-ok : goal.returns-in-Less-clause-ok
returns-in-Less-clause-ok c =
    OnOk-weaker c.put_before.result _ _ c.put_before.ensures.ok (λ e. e ∙ ap (with_message c.args.message) c.self.view_is)

pub returns-in-Equal-clause-ok : goal.returns-in-Equal-clause-ok
returns-in-Equal-clause-ok c =
    let head = c.self.inside.head in
    let rest = c.self.inside.rest.entries in
    let at = c.self.inside.at in
    let some = long head (omega (arith, c.if-len-eq0.false, c.len.ensures.len)) in
    let same = stamp_cmp-same c.args.message.at at (sym c.cmp.ensures ∙ c.in-Equal.is) in
    OnOk-weaker c.put-in-Equal.result _ _ c.put-in-Equal.ensures.ok
    (λ e. (put-same c.args.message at head c.put-in-Equal.new.self rest c.self.invariant some same e).1 ∙ ap (with_message c.args.message) c.self.view_is)

pub returns-in-Greater-clause-ok : goal.returns-in-Greater-clause-ok
returns-in-Greater-clause-ok c =
    let head = c.self.inside.head in
    let rest = c.self.inside.rest.entries in
    let at = c.self.inside.at in
    let some = long head (omega (arith, c.if-len-eq0.false, c.len.ensures.len)) in
    OnOk-weaker c.put-in-Greater.result _ _ c.put-in-Greater.ensures.ok
    (λ e. (put-later c.args.message at head rest c.put-in-Greater.new.piles.entries c.self.invariant some (sym c.cmp.ensures ∙ c.in-Greater.is) c.put-in-Greater.ensures.piles e).1
    ∙ ap (with_message c.args.message) c.self.view_is)
