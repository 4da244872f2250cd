use Rattle.std.proofs.lemmas.Result.{on_ok_weaker}
use Rattle.fw_events.proofs.TakingLaws.{keeps-rec}
use Rattle.fw_events.proofs.delivery.take_out.Goals as goal

pub returns-clause-takes : goal.returns-clause-takes
returns-clause-takes c = λ m at rec. on_ok_weaker c.tell_delivered.result (λ told.
    keeps-rec c.args.edge m c.args.at.now c.args.rec c.args.output c.args.running.now c.put_rec.new.running c.tell_delivered.new.running at rec c.requires.receiver
    c.put_rec.ensures.others c.in_ok-put_rec.ensures.put c.tell_delivered.ensures.others told) (c.tell_delivered.ensures.told m at)
