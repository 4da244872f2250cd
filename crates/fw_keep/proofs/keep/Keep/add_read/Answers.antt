use Rattle.std.proofs.Common.{◌≡◌, ℕ, ◌<◌, ◌^◌, ◌||◌, true, false, List, [], ◌∷◌, ◌++◌, length, refl, sym, ap, subst, ◌∙◌, arith}
use Rattle.std.specs.List.{AllByRecursion}
use Rattle.fw_lemmas.proofs.Each.{each-weaker, each_of-map}
use Rattle.fw_keep.specs.declared.entry.Entry.{Entry}
use Rattle.fw_keep.specs.Entry.{IsBased, asked_beside, read_beside}
use Rattle.fw_keep.specs.Catalogue.{KeepState, AreAcknowledged, ids_of, is_id_among}
use Rattle.fw_keep.specs.Stored.{IsStored}
use Rattle.fw_keep.specs.Inside.{keep_state_of}
use Rattle.fw_keep.proofs.DepthLaws.{deep-asked}
use Rattle.fw_keep.proofs.IdLaws.{none_drawn}
use Rattle.fw_keep.proofs.KeepLaws.{sound-read}
use Rattle.fw_keep.proofs.StoredLaws.{stored-same, stored-read}
use Rattle.fw_keep.proofs.keep.Keep.add_read.Goals as goal

pub entry_of-requires-clause-few : goal.entry_of-requires-clause-few
entry_of-requires-clause-few c =
    let few : c.self.inside.next < 2 ^ 63 = subst (λ (k : KeepState). k.next < 2 ^ 63) (sym c.self.view_is) c.requires.few in
    subst (λ (es : List Entry). AllByRecursion (λ (e : Entry). e.id < 2 ^ 63) es) (sym c.deref.ensures.value)
    (each_of-map (λ id. id < 2 ^ 63) (λ (e : Entry). e.id) c.self.inside.entries.items (each-weaker _ _ _ (λ id l. omega arith) c.self.invariant.catalogue.drawn))

pub invariant_of-self-2 : goal.invariant_of-self-2
invariant_of-self-2 c =
    let es = c.self.inside.entries.items in
    let id = c.args.id in
    let e : Entry = read_beside c.self.inside.entries.items c.args.id c.args.what.now c.args.stamps in
    let made : c.in_ok-entry.entry ≡ asked_beside c.self.inside.entries.items c.args.id c.args.what.now c.args.stamps =
    c.in_ok-entry.ensures ∙ ap (λ (all : List Entry). asked_beside all c.args.id c.args.what.now c.args.stamps) c.deref.ensures.value in
    let above : AllByRecursion (λ other. other < c.args.id) (ids_of c.self.inside.entries.items) =
    subst (λ (k : KeepState). AllByRecursion (λ other. other < c.args.id) (ids_of k.entries)) (sym c.self.view_is) c.requires.above in
    let known : c.len-self-inside.result ≡ length c.add.new.entries.items = omega (arith, c.len-self-inside.ensures, c.add.new.entries.ok.0) in
    sound-read c.self.inside _ e above (subst (λ (k : KeepState). c.args.id < k.next) (sym c.self.view_is) c.requires.drawn)
    (subst (λ (k : KeepState). is_id_among c.args.id k.waiting ≡ false) (sym c.self.view_is) c.requires.apart)
    (deep-asked es id c.args.what.now c.args.stamps (subst (λ (k : KeepState). IsBased k.entries c.args.what.now) (sym c.self.view_is) c.requires.based)
    c.self.invariant.catalogue.depths above) refl
    (subst (λ (k : KeepState). AreAcknowledged k.entries) (sym c.self.view_is) c.requires.acknowledged) c.self.invariant
    (c.in_ok-add.ensures.added ∙ ap (λ (x : Entry). es ++ record x { acknowledged = true } ∷ []) made)
    c.add.ensures.stays refl refl refl known c.add.ensures.room

pub returns-clause-stored : goal.returns-clause-stored
returns-clause-stored c = λ all under stored.
    let old = keep_state_of c.self.inside in
    let e : Entry = read_beside c.self.inside.entries.items c.args.id c.args.what.now c.args.stamps in
    let made : c.in_ok-entry.entry ≡ asked_beside c.self.inside.entries.items c.args.id c.args.what.now c.args.stamps =
    c.in_ok-entry.ensures ∙ ap (λ (es : List Entry). asked_beside es c.args.id c.args.what.now c.args.stamps) c.deref.ensures.value in
    let above : AllByRecursion (λ other. other < c.args.id) (ids_of c.self.inside.entries.items) =
    subst (λ (k : KeepState). AllByRecursion (λ other. other < c.args.id) (ids_of k.entries)) (sym c.self.view_is) c.requires.above in
    let apart : is_id_among c.args.id c.self.inside.waiting.items ≡ false =
    subst (λ (k : KeepState). is_id_among c.args.id k.waiting ≡ false) (sym c.self.view_is) c.requires.apart in
    stored-same (record old { entries = c.add.new.entries.items; waiting = c.add.new.waiting.items }) (record old { entries = old.entries ++ e ∷ [] }) all
    (c.in_ok-add.ensures.added ∙ ap (λ (x : Entry). c.self.inside.entries.items ++ record x { acknowledged = true } ∷ []) made) c.add.ensures.stays refl
    (stored-read old e all (ap (λ b. b || is_id_among c.args.id c.self.inside.waiting.items) (none_drawn c.args.id (ids_of c.self.inside.entries.items) above) ∙ apart)
    under (subst (λ (k : KeepState). IsStored k all) (sym c.self.view_is) stored))
