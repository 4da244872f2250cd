use Rattle.std.proofs.Common.{sym}
use Rattle.fw_offers_text.proofs.FormLaws.{covers_more, cover-left}
use Rattle.fw_offers_text.proofs.offer_form.covers_in.Goals as goal

pub loop-rest-preserved : goal.loop-rest-preserved
loop-rest-preserved c = covers_more c.args.words c.loop-rest.rest c.loop-rest.covers.items c.push.new.self.items (c.in-Some.cover, c.in-Some.behind) c.loop-rest.invariant c.in-Some.ensures c.in_ok-push.ensures.items

pub loop-rest-smaller : goal.loop-rest-smaller
loop-rest-smaller c = cover-left c.loop-rest.rest (c.in-Some.cover, c.in-Some.behind) (sym c.in-Some.ensures)
