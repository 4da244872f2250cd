use Rattle.std.proofs.Common.{◌≡◌, List, sym, ap, subst, ◌∙◌}
use Rattle.std.specs.Prelude.{IfOk}
use Rattle.fw_keep.specs.declared.entry.Entry.{Entry}
use Rattle.fw_keep.specs.Entry.{IsRecordOfEntry, read_beside}
use Rattle.fw_keep.specs.Catalogue.{KeepState}
use Rattle.fw_keep.specs.Named.{FetchesNamed, HoldsNamed}
use Rattle.fw_keep.proofs.NamedLaws.{named-fetched, named-back, named-count, named-of_entry}
use Rattle.fw_keep.proofs.keep.Keep.read_named.Goals as goal

pub returns-in-Ok-clause-fetched : goal.returns-in-Ok-clause-fetched
returns-in-Ok-clause-fetched g c =
    let all : c.deref.result.now ≡ c.args.self.now.entries = c.deref.ensures.value ∙ ap (λ (k : KeepState). k.entries) c.self.view_is in
    subst (λ (es : List Entry). FetchesNamed c.args.flow.now es c.args.id c.args.node c.args.tag (g.K.Store.view c.get.new.self).given c.read_as.result) all
    (named-fetched c.args.flow.now c.deref.result.now c.args.id c.args.node c.args.tag c.get.new.into.items (g.K.Store.view c.get.new.self).given c.read_as.result
    c.in-Ok.ensures.given c.read_as.ensures)

pub returns-in-Ok-clause-put : goal.returns-in-Ok-clause-put
returns-in-Ok-clause-put g c = λ what held.
    let all : c.deref.result.now ≡ c.args.self.now.entries = c.deref.ensures.value ∙ ap (λ (k : KeepState). k.entries) c.self.view_is in
    named-back c.args.flow.now c.deref.result.now c.args.id c.args.node c.args.tag c.get.new.into.items (g.K.Store.view c.get.new.self).records c.read_as.result
    c.in-Ok.ensures.bytes c.read_as.ensures what
    (subst (λ (es : List Entry). HoldsNamed c.args.flow.now es (g.K.Store.view c.get.new.self).records c.args.id c.args.node c.args.tag what) (sym all) held)

pub returns-in-Ok-clause-of_entry : goal.returns-in-Ok-clause-of_entry
returns-in-Ok-clause-of_entry g c = λ stamps.
    let all : c.deref.result.now ≡ c.args.self.now.entries = c.deref.ensures.value ∙ ap (λ (k : KeepState). k.entries) c.self.view_is in
    subst (λ (es : List Entry). IfOk c.read_as.result (λ what. IsRecordOfEntry c.args.flow.now (read_beside es c.args.id what stamps) what)) all
    (named-of_entry c.args.flow.now c.deref.result.now c.args.id c.args.node c.args.tag c.get.new.into.items c.read_as.result c.read_as.ensures stamps)

pub returns-in-Ok-clause-faults : goal.returns-in-Ok-clause-faults
returns-in-Ok-clause-faults g c =
    c.in-Ok.ensures.faults ∙ sym (named-count c.args.flow.now c.deref.result.now c.args.id c.args.node c.args.tag c.get.new.into.items c.read_as.result
    (g.K.Store.view c.args.store.now).faults c.read_as.ensures)
