use Rattle.std.proofs.Common.{◌≡◌, ◌++◌, take, drop, not, filter, rules, ap, sym, ◌∙◌, arith}
use Rattle.std.proofs.lemmas.Fn.{filter_same}
use Rattle.fw_keep.specs.declared.entry.Entry.{Entry}
use Rattle.fw_keep.proofs.going.keep_others.Goals as goal

pub returns-then-from-eq0 : goal.returns-then-from-eq0
returns-then-from-eq0 g c =
    let test = λ (e : Entry). not (g.G.Going.goes c.args.going.now e) in
    let old = c.args.entries.now.items in
    let left : c.retain.new.self.items ≡ filter test old = filter_same _ test _ (λ x b h k. search rules) _ _ c.retain.ensures.filtered in
    let zero : c.args.from ≡ 0 = omega (arith, c.if-from-eq0.true) in
    left ∙ sym (ap (λ n. take n old ++ filter test (drop n old)) zero)
