use Rattle.std.proofs.Common.{◌≡◌, List, sym, ap, subst, ◌∙◌}
use Rattle.fw_keep.specs.declared.entry.Entry.{Entry}
use Rattle.fw_keep.specs.Catalogue.{KeepState, IsOnly}
use Rattle.fw_keep.proofs.BytesLaws.{gives_back}
use Rattle.fw_keep.proofs.KeepLaws.{fetched, count-read}
use Rattle.fw_keep.proofs.keep.Keep.fetch_one.Goals as goal

pub returns-in-Ok-clause-fetched : goal.returns-in-Ok-clause-fetched
returns-in-Ok-clause-fetched g c =
    let all : c.deref.result.now ≡ c.args.self.now.entries = c.deref.ensures.value ∙ ap (λ (k : KeepState). k.entries) c.self.view_is in
    let only : IsOnly c.args.self.now.entries c.args.id c.in-Some.entry.now = subst (λ (es : List Entry). IsOnly es c.args.id c.in-Some.entry.now) all c.in-Some.ensures.only in
    fetched c.args.flow.now c.args.self.now.entries c.args.id c.in-Some.entry.now c.get.new.into.items (g.K.Store.view c.get.new.self).given c.read.result only c.in-Ok.ensures.given c.read.ensures

pub returns-in-Ok-clause-put : goal.returns-in-Ok-clause-put
returns-in-Ok-clause-put g c =
    let all : c.deref.result.now ≡ c.args.self.now.entries = c.deref.ensures.value ∙ ap (λ (k : KeepState). k.entries) c.self.view_is in
    let only : IsOnly c.args.self.now.entries c.args.id c.in-Some.entry.now = subst (λ (es : List Entry). IsOnly es c.args.id c.in-Some.entry.now) all c.in-Some.ensures.only in
    gives_back c.args.flow.now c.args.self.now.entries c.args.id c.in-Some.entry.now c.get.new.into.items (g.K.Store.view c.get.new.self).records c.read.result only c.in-Ok.ensures.bytes c.read.ensures

pub returns-in-Ok-clause-faults : goal.returns-in-Ok-clause-faults
returns-in-Ok-clause-faults g c =
    c.in-Ok.ensures.faults ∙ sym (count-read c.args.flow.now c.in-Some.entry.now c.get.new.into.items c.read.result (g.K.Store.view c.args.store.now).faults c.read.ensures)
