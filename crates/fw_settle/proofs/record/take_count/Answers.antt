use Rattle.std.proofs.Common.{◌≡◌, ◌∷◌, [], true, rules, sym, ap, ◌∙◌}
use Rattle.fw_settle.specs.Sends.{is_last_of}
use Rattle.fw_settle.proofs.SendsLaws.{taken-last}
use Rattle.fw_settle.proofs.record.take_count.Goals as goal

pub returns-in-Some : goal.returns-in-Some
returns-in-Some c =
    let last : c.is_last.result ≡ true = search rules in
    taken-last (c.args.epoch ∷ []) c.args.sends.now.items c.pop.new.self.items c.in-Some.last
    (ap (is_last_of (c.args.epoch ∷ [])) (sym c.deref.ensures.value) ∙ sym c.is_last.ensures ∙ last) c.in-Some.ensures.items
