use Rattle.std.proofs.Common.{subst}
use Rattle.std.specs.Prelude.{List}
use Rattle.fw_bag.specs.declared.rec.Rec.{Rec}
use Rattle.fw_offers_text.proofs.TableLaws.{IsTabled, tabled_push, tabled_more}
use Rattle.fw_offers_text.proofs.recording.table_of.Goals as goal

pub push-requires : goal.push-requires
push-requires c =
    tabled_push c.args.counts.now c.in-Some.count c.next.new.self c.loop-count.table
    (subst (λ (rest : List Rec). IsTabled c.args.counts.now rest c.loop-count.table) c.in-Some.ensures.steps c.loop-count.invariant)

pub loop-count-preserved : goal.loop-count-preserved
loop-count-preserved c =
    tabled_more c.args.counts.now c.in-Some.count c.next.new.self c.loop-count.table c.push.new.self
    (subst (λ (rest : List Rec). IsTabled c.args.counts.now rest c.loop-count.table) c.in-Some.ensures.steps c.loop-count.invariant) c.in_ok-push.ensures.ok
