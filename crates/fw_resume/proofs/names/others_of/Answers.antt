use Rattle.std.proofs.Common.{◌∙◌, ◌++◌, ℕ, List, not, filter, map, ap}
use Rattle.fw_keep.specs.declared.entry.Entry.{Entry}
use Rattle.fw_resume.proofs.NameLaws.{others}
use Rattle.fw_resume.proofs.names.others_of.Goals as goal

pub returns : goal.returns
returns c =
    let flying = λ (es : List Entry). map (λ (e : Entry). e.id) (filter (λ (e : Entry). not e.acknowledged) es) in
    let keep = c.args.keep.now in
    others keep c.extend_from_slice.new.self.items c.sort.new.self.items c.entries.ensures.catalogue
    (c.in_ok-extend_from_slice.ensures.items ∙ ap (λ (xs : List ℕ). xs ++ c.waiting.result.now) (c.in_ok-ids.ensures ∙ ap flying c.entries.ensures.all)
    ∙ ap (λ (ws : List ℕ). flying keep.entries ++ ws) c.waiting.ensures)
    c.in_ok-sort.ensures.permutation c.in_ok-sort.ensures.sorted
