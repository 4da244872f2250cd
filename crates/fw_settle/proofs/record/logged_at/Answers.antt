use Rattle.std.proofs.Common.{◌≡◌, [], rules, Some, None, sym, ap, subst, ◌∙◌}
use Rattle.std.specs.Prelude.{slice_get}
use Rattle.std.specs.List.{AllByRecursion}
use Rattle.std.specs.Option.{option_copied}
use Rattle.std.proofs.lemmas.List.{append-nil}
use Rattle.fw_record.specs.declared.logged.Logged.{Logged}
use Rattle.fw_bag.specs.Bag.{IsRec}
use Rattle.fw_settle.specs.Checkpoints.{messages_told, told_log}
use Rattle.fw_settle.proofs.RecordLaws.{logged-next, on-some, on-none}
use Rattle.fw_settle.proofs.record.logged_at.Goals.{in-Some+in_ok-add_told, in_default}
use Rattle.fw_settle.proofs.record.logged_at.Goals as goal

pub loop-edge-preserved : goal.loop-edge-preserved
loop-edge-preserved c =
    let running = c.args.running.now in
    let f = c.args.front.now in
    let since = option_copied c.args.since in
    let logs = told_log running since f in
    let e = c.edge-item.result in
    elim c.match-get.branch [
      | in-Some+in_ok-add_told w ↦
          let log = w.in-Some.log.now in
          let got : slice_get running.parts.logs e ≡ Some log = search rules in
          record {
            all = ap (λ v. v.items) w.all-is
                ∙ logged-next logs c.out_edges-edge-items.result.now c.loop-edge.edge-index e (messages_told since f log.messages) c.loop-edge.all.items w.add_told.new.all.items
                c.loop-edge-test.true c.edge-item.is c.loop-edge.invariant.all
                (ap (messages_told since f) (sym (on-some running.parts.logs e log got)))
                w.in_ok-add_told.ensures.added;
            small = subst (λ v. AllByRecursion (λ (x : Logged). IsRec x.message.rec) v.items) (sym w.all-is) (w.in_ok-add_told.ensures.small c.loop-edge.invariant.small);
          }
      | in_default w ↦
          let got : slice_get running.parts.logs e ≡ None = search rules in
          record {
            all = ap (λ v. v.items) w.all-is
                ∙ logged-next logs c.out_edges-edge-items.result.now c.loop-edge.edge-index e [] c.loop-edge.all.items c.loop-edge.all.items
                c.loop-edge-test.true c.edge-item.is c.loop-edge.invariant.all
                (ap (messages_told since f) (sym (on-none running.parts.logs e got))) (sym (append-nil c.loop-edge.all.items));
            small = subst (λ v. AllByRecursion (λ (x : Logged). IsRec x.message.rec) v.items) (sym w.all-is) c.loop-edge.invariant.small;
          }
    ]
