use Rattle.std.proofs.Common.{◌≡◌, subst}
use Rattle.std.specs.Prelude.{OnOk, option_map}
use Rattle.std.specs.FinMap as map
use Rattle.fw_hold.proofs.FoundLaws.{changes-put, changes-same, changes-then, put-there}
use Rattle.fw_lasting.proofs.putting.put_new.Goals as goal

pub returns-in-Ok-clause-put : goal.returns-in-Ok-clause-put
returns-in-Ok-clause-put g c =
    let view = g.K.Store.view in
    let mid = (view c.has.new.self).records in
    let new = (view c.put_vec.new.self).records in
    put-there c.args.id c.args.bytes.items mid new
    (subst (λ r. OnOk r (new ≡ option_map (λ held. map.insert held c.args.id c.args.bytes.items) mid)) c.in-Ok.is c.put_vec.ensures.added)

pub returns-in-Ok-clause-others : goal.returns-in-Ok-clause-others
returns-in-Ok-clause-others g c =
    let view = g.K.Store.view in
    let old = (view c.args.store.now).records in
    let mid = (view c.has.new.self).records in
    let new = (view c.put_vec.new.self).records in
    changes-then c.args.id old mid new (changes-same c.args.id old mid c.has.ensures.records_stay)
    (changes-put c.args.id c.args.bytes.items mid new
    (subst (λ r. OnOk r (new ≡ option_map (λ held. map.insert held c.args.id c.args.bytes.items) mid)) c.in-Ok.is c.put_vec.ensures.added))
