use Rattle.std.proofs.Common.{◌≡◌, List, ◌++◌, sym, ap, ◌∙◌}
use Rattle.std.specs.List.{sum_by}
use Rattle.std.proofs.lemmas.List.Sorted.{sum_by-IsPermutation}
use Rattle.fw_frontier.specs.Front.{inside}
use Rattle.fw_paired.specs.declared.held.HeldRec.{HeldRec}
use Rattle.fw_paired.specs.Cross.{held_entries}
use Rattle.fw_paired.proofs.HeldLaws.{table_holds}
use Rattle.fw_paired.proofs.cross.Cross.held_inside.Goals as goal

pub returns-clause-recs : goal.returns-clause-recs
returns-clause-recs c = λ came o h w.
    let test = inside c.args.f.now in
    let cross = c.args.self.now in
    let first = c.in_ok-add_side.ensures in
    let second = c.in_ok-add_side-2.ensures in
    let all : c.add_side-2.new.recs.items ≡ held_entries 0 test cross.first.entries ++ held_entries 1 test cross.second.entries =
    second.recs ∙ ap (λ (xs : List HeldRec). xs ++ held_entries 1 test cross.second.entries)
    (first.recs ∙ ap (λ (xs : List HeldRec). xs ++ held_entries 0 test cross.first.entries) c.new-recs.ensures.items) in
    table_holds cross test came o h first.ordered second.ordered w
    ∙ sym (ap (sum_by w) all)
    ∙ sym (sum_by-IsPermutation w c.add_side-2.new.recs.items c.sort_unstable.new.self.items c.sort_unstable.ensures.permutation)
