use Rattle.std.proofs.Common.{◌<◌, ◌≤◌, ℕ, List, get_or, length, Err, sym, subst, ◌∙◌}
use Rattle.std.proofs.lemmas.Result.{err_from_is_err_and}
use Rattle.std.specs.List.{AllByRecursion}
use Rattle.fw_outside.proofs.ToldLaws.{told-on}
use Rattle.fw_keep.specs.Catalogue.{AreDistinct}
use Rattle.fw_keep.specs.Named.{HoldsNamed}
use Rattle.fw_root.specs.declared.root.NamedWrite.{NamedWrite}
use Rattle.fw_resume.specs.Catalogue.{GivesKept, HoldsKept, IsReadNext, MayReadNext, TellsDamageOf}
use Rattle.fw_resume.proofs.CatalogueLaws.{all-read, damage-told, may-read, next-held, next-read, nodes-more, none-damaged, read-more, told-middle, told-state, written-more}
use Rattle.fw_resume.proofs.NamedWriteLaws.{names-nodes, others-distinct, others-drawn}
use Rattle.fw_lemmas.proofs.Each.{each-at}
use Rattle.fw_resume.proofs.catalogue.read_all.Goals as goal

pub resumed-keep-requires-clause-distinct : goal.resumed-keep-requires-clause-distinct
resumed-keep-requires-clause-distinct g c =
    subst AreDistinct (sym (c.in_ok-others.ensures ∙ c.as_slice.ensures)) (others-distinct c.args.flow.now c.args.root.now c.requires.names)

pub resumed-keep-requires-clause-drawn : goal.resumed-keep-requires-clause-drawn
resumed-keep-requires-clause-drawn g c =
    subst (λ (ids : List ℕ). AllByRecursion (λ id. id < c.args.root.now.next_id) ids) (sym (c.in_ok-others.ensures ∙ c.as_slice.ensures))
    (others-drawn c.args.flow.now c.args.root.now c.requires.names)

pub read_one-requires-clause-next : goal.read_one-requires-clause-next
read_one-requires-clause-next g c =
    let all = c.as_slice-name-items.ensures in
    let i = c.loop-name.name-index in
    subst (λ (ns : List NamedWrite). MayReadNext (get_or ns i (record { id = 0; node = 0; tag = 0 })).id c.loop-name.keep) (sym all)
    (may-read c.args.flow.now c.args.root.now c.requires.names i (record { id = 0; node = 0; tag = 0 })
    (subst (λ (ns : List NamedWrite). i < length ns) all c.loop-name-test.true) c.loop-name.keep c.loop-name.invariant.read)

pub read_one-requires-clause-node : goal.read_one-requires-clause-node
read_one-requires-clause-node g c =
    let all = c.as_slice-name-items.ensures in
    let i = c.loop-name.name-index in
    let n = length c.args.flow.now.nodes in
    subst (λ (ns : List NamedWrite). (get_or ns i (record { id = 0; node = 0; tag = 0 })).node < n) (sym all)
    (each-at (λ (w : NamedWrite). w.node < n) c.args.root.now.writes i (record { id = 0; node = 0; tag = 0 })
    (subst (λ (ns : List NamedWrite). i < length ns) all c.loop-name-test.true) (names-nodes c.args.flow.now c.args.root.now c.requires.names))

pub returns-in_err-read_one-clause-held : goal.returns-in_err-read_one-clause-held
returns-in_err-read_one-clause-held g c = λ sys state known some.
    let flow = c.args.flow.now in
    let root = c.args.root.now in
    let before = (g.K.Store.view c.args.store.now).records in
    let middle = (g.K.Store.view c.loop-name.store).records in
    let after = (g.K.Store.view c.read_one.new.store).records in
    let inv = c.loop-name.invariant in
    let all = c.as_slice-name-items.ensures in
    let i = c.loop-name.name-index in
    let none : NamedWrite = record { id = 0; node = 0; tag = 0 } in
    let l = subst (λ (ns : List NamedWrite). i < length ns) all c.loop-name-test.true in
    let why = c.in_err-read_one.field-0.0 in
    let p = err_from_is_err_and c.from_residual-in_err-read_one.result c.from_residual-in_err-read_one.ensures.1 in
    rw (p.1, p.2)
    (told-state (GivesKept sys state after (Err why)) flow root before after sys state (told-on before middle after inv.stays c.read_one.ensures.stays) some known
    (λ held b a h.
    let at = next-held flow root held sys state h c.requires.names i none l c.loop-name.keep.entries inv.read.names
    (inv.held sys state held h (told-middle held middle after c.read_one.ensures.stays a)) after a in
    none-damaged sys state after why
    (c.in_err-read_one.ensures.held at.0
    (subst (λ (ns : List NamedWrite). HoldsNamed flow c.loop-name.keep.entries after (get_or ns i none).id (get_or ns i none).node (get_or ns i none).tag at.0) (sym all) at.1))))

pub returns-in_err-read_one-clause-damaged : goal.returns-in_err-read_one-clause-damaged
returns-in_err-read_one-clause-damaged g c =
    let flow = c.args.flow.now in
    let root = c.args.root.now in
    let given = (g.K.Store.view c.read_one.new.store).given in
    let inv = c.loop-name.invariant in
    let all = c.as_slice-name-items.ensures in
    let i = c.loop-name.name-index in
    let none : NamedWrite = record { id = 0; node = 0; tag = 0 } in
    let l = subst (λ (ns : List NamedWrite). i < length ns) all c.loop-name-test.true in
    let why = c.in_err-read_one.field-0.0 in
    let p = err_from_is_err_and c.from_residual-in_err-read_one.result c.from_residual-in_err-read_one.ensures.1 in
    rw (p.1, p.2)
    (damage-told flow root i none l c.loop-name.keep.entries inv.read.names given why
    (subst (λ (ns : List NamedWrite). TellsDamageOf {T = Unit {0}} flow c.loop-name.keep.entries (get_or ns i none) given (Err why)) all c.in_err-read_one.ensures.damaged))

pub loop-name-preserved : goal.loop-name-preserved
loop-name-preserved g c =
    let flow = c.args.flow.now in
    let root = c.args.root.now in
    let before = (g.K.Store.view c.args.store.now).records in
    let middle = (g.K.Store.view c.loop-name.store).records in
    let after = (g.K.Store.view c.read_one.new.store).records in
    let inv = c.loop-name.invariant in
    let all = c.as_slice-name-items.ensures in
    let i = c.loop-name.name-index in
    let none : NamedWrite = record { id = 0; node = 0; tag = 0 } in
    let l = subst (λ (ns : List NamedWrite). i < length ns) all c.loop-name-test.true in
    let n = get_or root.writes i none in
    let old = c.loop-name.keep in
    let new = c.read_one.new.keep in
    let next : IsReadNext flow n after old new = subst (λ (ns : List NamedWrite). IsReadNext flow (get_or ns i none) after old new) all c.in_ok-read_one.ensures.read in
    let declared = each-at (λ (w : NamedWrite). w.node < length flow.nodes) root.writes i none l (names-nodes flow root c.requires.names) in
    record {
      read = read-more flow root i none l after old new inv.read next;
      nodes = nodes-more flow n after old new declared next inv.nodes;
      written = written-more flow n after old new next inv.written;
      stored = c.in_ok-read_one.ensures.stored inv.stored;
      held = λ sys state held h a.
          next-read flow root held sys state h c.requires.names i none l old new inv.read.names
          (inv.held sys state held h (told-middle held middle after c.read_one.ensures.stays a)) after a next;
      stays = told-on _ middle after inv.stays c.read_one.ensures.stays;
      faults = ◌∙◌ {b = (g.K.Store.view c.loop-name.store).faults} c.in_ok-read_one.ensures.faults inv.faults;
    }

pub returns-clause-held : goal.returns-clause-held
returns-clause-held g c = λ sys state known some.
    let flow = c.args.flow.now in
    let root = c.args.root.now in
    let before = (g.K.Store.view c.args.store.now).records in
    let after = (g.K.Store.view c.loop-name.store).records in
    let inv = c.loop-name.invariant in
    let all = c.as_slice-name-items.ensures in
    let i = c.loop-name.name-index in
    told-state (HoldsKept sys state after c.loop-name.keep) flow root before after sys state inv.stays some known
    (λ held b a h.
    all-read flow root held sys state h c.loop-name.keep i (subst (λ (ns : List NamedWrite). length ns ≤ i) all c.loop-name-test.false) (inv.held sys state held h a) after a)
