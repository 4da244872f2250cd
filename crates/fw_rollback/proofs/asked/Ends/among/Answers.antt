use Rattle.std.proofs.Common.{◌≡◌, ◌+◌, ◌++◌, ◌∷◌, [], Bool, true, List, length, length-set, take, sym, ap, subst, ◌∙◌}
use Rattle.std.proofs.lemmas.List.{take_more}
use Rattle.fw_keep.specs.declared.entry.Entry.{Entry}
use Rattle.fw_rollback.specs.Asked.{AreEnds}
use Rattle.fw_rollback.proofs.AskedLaws.{ends-set, ends-stay}
use Rattle.fw_rollback.proofs.asked.Ends.among.Goals as goal
use Rattle.fw_rollback.proofs.asked.Ends.among.Goals.{then-is_end, else-is_end}

pub loop-entry-preserved : goal.loop-entry-preserved
loop-entry-preserved c =
    let choice = c.args.choice.now in
    let entries = c.args.entries.now in
    let i = c.loop-entry.entry-index in
    let e : Entry = c.entry-item.result in
    let inv = c.loop-entry.invariant in
    let last : take (i + 1) entries ≡ take i entries ++ e ∷ [] =
    take_more entries i e c.loop-entry-test.true ∙ ap (λ (x : Entry). take i entries ++ x ∷ []) (sym c.entry-item.is) in
    let Are : List Bool → Type 0 = AreEnds choice (take (i + 1) entries) in
    elim c.if-is_end.branch [
      | then-is_end w ↦ record {
        are = subst Are (sym w.ends-is)
            (ends-set choice (take i entries) (take (i + 1) entries) e last c.loop-entry.ends w.set.new.self inv.each (sym c.is_end.ensures ∙ w.if-is_end.true) w.set.ensures inv.are);
        each = ap length w.ends-is ∙ ap length w.set.ensures ∙ length-set c.loop-entry.ends e.node true ∙ inv.each;
      }
      | else-is_end w ↦ record {
        are = subst Are (sym w.ends-is)
            (ends-stay choice (take i entries) (take (i + 1) entries) e last c.loop-entry.ends (sym c.is_end.ensures ∙ w.if-is_end.false) inv.are);
        each = ap length w.ends-is ∙ inv.each;
      }
    ]
