use Rattle.std.proofs.Common.{subst, ap, ◌∙◌}
use Rattle.std.specs.Prelude.{IfSome, ◌<◌, ◌^◌}
use Rattle.fw_keep.specs.declared.entry.Entry.{Entry}
use Rattle.fw_settle.specs.Checkpoints.{front_of_entry, record_on, IsMadeSince}
use Rattle.fw_settle.proofs.asking.next_record.Goals as goal

pub returns : goal.returns
returns c =
    let running = c.args.running.now in
    let checkpoint = c.in_ok-checkpoint.checkpoint in
    record {
      checkpoint = checkpoint;
      is = c.record_on.ensures.is ∙ ap (λ o. record_on o checkpoint) c.next_base-base.ensures.base;
      made = subst (λ since. IsMadeSince running c.args.node since c.args.front.now checkpoint) (c.front_of_entry.ensures ∙ ap front_of_entry c.next_base-base.ensures.base)
          c.in_ok-checkpoint.ensures;
      few = c.is_countable.ensures.0 c.if-not-is_countable.false;
      of_flow = c.is_of_domains.ensures.0 c.if-not-is_of_domains.false;
      ascending = c.next_base-base.ensures.ascending;
      fits = subst (λ o. IfSome o (λ (e : Entry). e.id < 2 ^ 64)) c.next_base-base.ensures.base c.record_on.ensures.fits;
    }
