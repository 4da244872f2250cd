use Rattle.std.proofs.Common.{◌≡◌, ◌+◌, ◌++◌, ◌∷◌, [], List, Option, Some, length, length-set, take, sym, ap, subst, ◌∙◌}
use Rattle.std.proofs.lemmas.List.{take_more}
use Rattle.fw_frontier.specs.Front.{Front}
use Rattle.fw_keep.specs.declared.entry.Entry.{Entry}
use Rattle.fw_rollback.specs.Asked.{AreWholes}
use Rattle.fw_rollback.proofs.AskedLaws.{wholes-set, wholes-stay}
use Rattle.fw_rollback.proofs.asked.Wholes.among.Goals as goal
use Rattle.fw_rollback.proofs.asked.Wholes.among.Goals.{in-Some+in_ok-copy, in_default}

pub loop-entry-preserved : goal.loop-entry-preserved
loop-entry-preserved c =
    let choice = c.args.choice.now in
    let entries = c.args.entries.now in
    let i = c.loop-entry.entry-index in
    let e : Entry = c.entry-item.result in
    let inv = c.loop-entry.invariant in
    let last : take (i + 1) entries ≡ take i entries ++ e ∷ [] =
    take_more entries i e c.loop-entry-test.true ∙ ap (λ (x : Entry). take i entries ++ x ∷ []) (sym c.entry-item.is) in
    let Are : List (Option Front) → Type 0 = AreWholes choice (take (i + 1) entries) in
    elim c.match-whole_front.branch [
      | in-Some+in_ok-copy w ↦
          let put = w.set.ensures in
          let front = w.in-Some.ensures in
          record {
            are = subst Are (sym w.wholes-is)
                (wholes-set choice (take i entries) (take (i + 1) entries) e last c.loop-entry.wholes w.set.new.self w.in_ok-copy.field-0 inv.each
                (ap Some w.in_ok-copy.ensures ∙ front) put inv.are);
            each = ap length w.wholes-is ∙ ap length put ∙ length-set c.loop-entry.wholes e.node (Some w.in_ok-copy.field-0) ∙ inv.each;
          }
      | in_default w ↦ record {
        are = subst Are (sym w.wholes-is) (wholes-stay choice (take i entries) (take (i + 1) entries) e last c.loop-entry.wholes w.in_default.ensures inv.are);
        each = ap length w.wholes-is ∙ inv.each;
      }
    ]
