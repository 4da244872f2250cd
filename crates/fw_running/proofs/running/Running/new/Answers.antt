use Rattle.std.proofs.Common.{Bool, List, false, [], replicate, refl, subst, ap, ◌∙◌}
use Rattle.fw_time.specs.Stamp.{Stamp}
use Rattle.fw_frontier.specs.Front.{Front}
use Rattle.fw_rollback.specs.New.{AreNew}
use Rattle.fw_running.proofs.running.Running.new.Goals as goal

pub returns-clause-first : goal.returns-clause-first
returns-clause-first c =
    let flow = c.args.flow in
    let batches = c.args.batches.now in
    record {
      runs = refl;
      epochs = c.greatest_count-epochs.ensures;
      parts = subst (λ (low : List Front). AreNew flow batches low c.in_ok-parts.parts) (c.of-low.ensures ∙ c.in_ok-no_fronts.ensures) c.in_ok-parts.ensures.new;
      one_each = c.in_ok-parts.ensures.each;
      progress = record {
        of_flow = c.in_ok-progress.ensures.progress c.in_ok-progress.ensures.ready;
        settled = c.in_ok-progress.ensures.settled;
        stands = c.in_ok-progress.ensures.stands;
        live = c.in_ok-progress.ensures.ready;
      };
      traces = record {
        lists = c.in_ok-traces.ensures.traces c.in_ok-traces.ensures.ready;
        none = c.in_ok-traces.ensures.none;
        live = c.in_ok-traces.ensures.ready;
      };
      failed = c.in_ok-failed.ensures.items_if_clones_equal (λ y e. e) ∙ ap (λ n. replicate {A = Bool} n false) c.nodes.ensures.count;
      lost = c.in_ok-lost.ensures ∙ ap (λ n. replicate {A = List Stamp} n []) c.nodes-2.ensures.count;
      ready = c.in_ok-put_all.ensures;
    }

pub returns-clause-stored : goal.returns-clause-stored
returns-clause-stored c = c.in_ok-parts.ensures.stored
