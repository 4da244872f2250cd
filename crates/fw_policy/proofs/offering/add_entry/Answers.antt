use Rattle.std.proofs.Common.{◌==◌, Bool, ◌&&◌, sym, ap, ◌∙◌}
use Rattle.std.proofs.lemmas.Bool.{and_from, and_left}
use Rattle.std.proofs.lemmas.Result.{on_ok_weaker}
use Rattle.fw_policy.proofs.CodeLaws.{entry_kept, entry_left}
use Rattle.fw_policy.proofs.offering.add_entry.Goals as goal
use Rattle.fw_policy.proofs.offering.add_entry.Goals.{else-eq-via-then-eq+else-entry, else-eq-via-else-eq}

pub returns-then-entry : goal.returns-then-entry
returns-then-entry c = λ rs a.
    on_ok_weaker c.add_written.result
    (entry_kept c.args.low.now rs c.add_written.new.records.items c.args.node c.args.entry.now
    (and_from (c.args.entry.now.node == c.args.node) c.args.entry.now.acknowledged (sym c.eq.ensures ∙ c.if-eq.true) c.if-entry.true))
    (c.add_written.ensures rs a)

pub returns : goal.returns
returns c = λ rs a.
    entry_left c.args.low.now rs c.args.records.now.items c.args.node c.args.entry.now
    (elim c.else-eq.branch [
      | else-eq-via-then-eq+else-entry w ↦ ap (λ (x : Bool). x && c.args.entry.now.acknowledged) (sym c.eq.ensures ∙ w.if-eq.true) ∙ w.if-entry.false
      | else-eq-via-else-eq w ↦ and_left (c.args.entry.now.node == c.args.node) c.args.entry.now.acknowledged (sym c.eq.ensures ∙ w.if-eq.false)
    ]) a
