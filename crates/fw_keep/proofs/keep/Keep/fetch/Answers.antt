use Rattle.std.proofs.Common.{◌≡◌, ℕ, List, reverse, Ok, Err, sym, ap, subst, ◌∙◌}
use Rattle.std.proofs.lemmas.Result.{err_from_is_err_and}
use Rattle.fw_record.specs.declared.record.Record.{Record}
use Rattle.fw_keep.specs.declared.entry.Entry.{Entry}
use Rattle.fw_keep.specs.declared.fault.KeepFault.{KeepFault}
use Rattle.fw_keep.specs.Catalogue.{KeepState, IsOnly, ids_of}
use Rattle.fw_keep.specs.Stored.{IsToldUnder}
use Rattle.fw_keep.specs.Joined.{AreJoined, chain_to, bases_of}
use Rattle.fw_keep.proofs.ChainLaws.{bases-there}
use Rattle.fw_keep.proofs.FetchLaws.{all-still, bases-have, over-refused, itself-refused, over-fetched, gives-joined}
use Rattle.fw_keep.proofs.keep.Keep.fetch.Goals as goal

pub fetch_each-requires-clause-there : goal.fetch_each-requires-clause-there
fetch_each-requires-clause-there g c =
    let entries = c.args.self.now.entries in
    let e : Entry = c.in-Some.entry.now in
    let all : c.deref-2.result.now ≡ entries = c.deref-2.ensures.value ∙ ap (λ (k : KeepState). k.entries) c.self.view_is in
    let ids : c.deref-3.result.now ≡ ids_of (bases_of entries e) =
    c.deref-3.ensures.value ∙ c.in_ok-bases.ensures ∙ ap (λ (es : List Entry). ids_of (chain_to e.base (reverse es))) all in
    bases-have entries (bases_of entries e) c.deref-3.result.now (bases-there entries e.base) ids

pub returns-in_err-under-clause-fetched : goal.returns-in_err-under-clause-fetched
returns-in_err-under-clause-fetched g c = λ other there named.
    let entries = c.args.self.now.entries in
    let e : Entry = c.in-Some.entry.now in
    let left = g.K.Store.view c.fetch_each.new.store in
    let first : c.deref.result.now ≡ entries = c.deref.ensures.value ∙ ap (λ (k : KeepState). k.entries) c.self.view_is in
    let all : c.deref-2.result.now ≡ entries = c.deref-2.ensures.value ∙ ap (λ (k : KeepState). k.entries) c.self.view_is in
    let only : IsOnly entries c.args.id e = subst (λ (es : List Entry). IsOnly es c.args.id e) first c.in-Some.ensures.only in
    let ids : c.deref-3.result.now ≡ ids_of (bases_of entries other) =
    c.deref-3.ensures.value ∙ c.in_ok-bases.ensures ∙ ap (λ (es : List Entry). ids_of (chain_to e.base (reverse es))) all
    ∙ ap (λ (x : Entry). ids_of (bases_of entries x)) (sym (only.only other there named)) in
    let p = err_from_is_err_and c.from_residual-in_err-under.result c.from_residual-in_err-under.ensures.1 in
    rw (p.1, p.2) (over-refused c.args.flow.now left.records left.given entries (bases_of entries other) other c.deref-3.result.now c.in_err-under.field-0.0
    (bases-there entries other.base) ids c.in_err-under.ensures.damaged)

pub returns-in_err-under-clause-put : goal.returns-in_err-under-clause-put
returns-in_err-under-clause-put g c = λ other under own there named lower itself.
    let left = g.K.Store.view c.fetch_each.new.store in
    gives-joined c.args.flow.now left.records left.given (bases_of c.args.self.now.entries other) other under own c.from_residual-in_err-under.result
    (returns-in_err-under-clause-fetched g c other there named) lower itself

pub returns-in_err-own-clause-fetched : goal.returns-in_err-own-clause-fetched
returns-in_err-own-clause-fetched g c = λ other there named.
    let flow = c.args.flow.now in
    let entries = c.args.self.now.entries in
    let e : Entry = c.in-Some.entry.now in
    let before = (g.K.Store.view c.fetch_each.new.store).records in
    let left = g.K.Store.view c.fetch_one.new.store in
    let why : KeepFault = c.in_err-own.field-0.0 in
    let first : c.deref.result.now ≡ entries = c.deref.ensures.value ∙ ap (λ (k : KeepState). k.entries) c.self.view_is in
    let all : c.deref-2.result.now ≡ entries = c.deref-2.ensures.value ∙ ap (λ (k : KeepState). k.entries) c.self.view_is in
    let only : IsOnly entries c.args.id e = subst (λ (es : List Entry). IsOnly es c.args.id e) first c.in-Some.ensures.only in
    let ids : c.deref-3.result.now ≡ ids_of (bases_of entries other) =
    c.deref-3.ensures.value ∙ c.in_ok-bases.ensures ∙ ap (λ (es : List Entry). ids_of (chain_to e.base (reverse es))) all
    ∙ ap (λ (x : Entry). ids_of (bases_of entries x)) (sym (only.only other there named)) in
    let p = err_from_is_err_and c.from_residual-in_err-own.result c.from_residual-in_err-own.ensures.1 in
    rw (p.1, p.2) (itself-refused flow left.records left.given entries (bases_of entries other) other c.deref-3.result.now c.in_ok-under.under.items why
    (bases-there entries other.base) ids
    (all-still flow before left.records entries c.deref-3.result.now c.in_ok-under.under.items c.fetch_one.ensures.stays c.in_ok-under.ensures.fetched)
    (c.in_err-own.ensures.fetched other there named)
    (subst (λ (n : ℕ). IsToldUnder n left.records (Err why)) (sym named) c.in_err-own.ensures.told))

pub returns-clause-fetched : goal.returns-clause-fetched
returns-clause-fetched g c = λ other there named.
    let flow = c.args.flow.now in
    let entries = c.args.self.now.entries in
    let e : Entry = c.in-Some.entry.now in
    let before = (g.K.Store.view c.fetch_each.new.store).records in
    let left = g.K.Store.view c.fetch_one.new.store in
    let own : Record = c.in_ok-own.own in
    let whole : Record = c.in_ok-joined.field-0 in
    let first : c.deref.result.now ≡ entries = c.deref.ensures.value ∙ ap (λ (k : KeepState). k.entries) c.self.view_is in
    let all : c.deref-2.result.now ≡ entries = c.deref-2.ensures.value ∙ ap (λ (k : KeepState). k.entries) c.self.view_is in
    let only : IsOnly entries c.args.id e = subst (λ (es : List Entry). IsOnly es c.args.id e) first c.in-Some.ensures.only in
    let ids : c.deref-3.result.now ≡ ids_of (bases_of entries other) =
    c.deref-3.ensures.value ∙ c.in_ok-bases.ensures ∙ ap (λ (es : List Entry). ids_of (chain_to e.base (reverse es))) all
    ∙ ap (λ (x : Entry). ids_of (bases_of entries x)) (sym (only.only other there named)) in
    over-fetched flow left.records left.given entries (bases_of entries other) other c.deref-3.result.now c.in_ok-under.under.items own whole
    (bases-there entries other.base) ids
    (all-still flow before left.records entries c.deref-3.result.now c.in_ok-under.under.items c.fetch_one.ensures.stays c.in_ok-under.ensures.fetched)
    (c.in_ok-own.ensures.fetched other there named)
    (subst (λ (n : ℕ). IsToldUnder n left.records (Ok own)) (sym named) c.in_ok-own.ensures.told)
    (subst (λ (rs : List Record). AreJoined rs own whole) c.deref-4.ensures.value c.in_ok-joined.ensures)

pub returns-clause-put : goal.returns-clause-put
returns-clause-put g c = λ other under own there named lower itself.
    let left = g.K.Store.view c.fetch_one.new.store in
    gives-joined c.args.flow.now left.records left.given (bases_of c.args.self.now.entries other) other under own (Ok c.in_ok-joined.field-0)
    (returns-clause-fetched g c other there named) lower itself
