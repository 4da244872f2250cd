-- What a root says of an engine from which a run can start again.
use Rattle.std.proofs.Common.{◌≡◌, ℕ, ◌<◌, ◌^◌, Bool, true, false, cond, not, List, [], ◌∷◌, map, filter, Option, Result, Ok, Err, sym, subst}
use Rattle.std.specs.Prelude.{IfOk}
use Rattle.std.specs.List.{AllByRecursion, Contains}
use Rattle.std.proofs.lemmas.List.Elements.{All-contains, All-from_recursion, Contains-append_right}
use Rattle.std.proofs.lemmas.List.Sorted.{Contains-permutation}
use Rattle.fw_flow.specs.Dataflow.{System, system_of}
use Rattle.fw_model.specs.Machine.{Machine}
use Rattle.fw_keep.specs.Catalogue.{IsCatalogue, has_entry, ids_of}
use Rattle.fw_keep.specs.Stored.{Records}
use Rattle.fw_keep.specs.declared.entry.Entry.{Entry}
use Rattle.fw_keep.proofs.IdLaws.{among-self}
use Rattle.fw_named.specs.Named.{AreNamed, named_ids}
use Rattle.fw_regain.specs.Down.{down}
use Rattle.fw_regain.specs.RootOf.{IsRootOf}
use Rattle.fw_resume.proofs.StayLaws.{down_has_the_same_writes}
use Rattle.fw_resume.specs.Names.{name_of, other_ids}
use Rattle.fw_resume.specs.RootTold.{IsToldBy}
use Rattle.fw_root.specs.OfFlow.{Given}
use Rattle.fw_root.specs.Sound.{IsMark, IsRootFor}
use Rattle.fw_root.specs.declared.root.Mark.{Mark}
use Rattle.fw_root.specs.declared.root.NamedWrite.{NamedWrite}
use Rattle.fw_root.specs.declared.root.Root.{Root}
use Rattle.fw_running.specs.declared.running.Running.{Running}
use Rattle.fw_running.specs.Stands.{Stands}
use Rattle.fw_engine.specs.Engine as engine
use Rattle.fw_hold.specs.Engine.{IsRootIn}
use Rattle.fw_held.specs.declared.restartable.RestartableEngine.{RestartableEngine}
use Rattle.fw_held.proofs.HeldStepLaws.{stand_of, keep_of, flow_of}
use Rattle.fw_held.proofs.StoreLaws.{entry-drawn}

-- the ids under which entries are named
abbrev name_ids : List Entry → List ℕ
name_ids es = map (λ (w : NamedWrite). w.id) (map name_of es)

-- what holds of each of the ids of entries holds of those under which some of them are named
each-name : (P : ℕ → Type 0) (goes : Entry → Bool) (es : List Entry) → AllByRecursion P (ids_of es) → AllByRecursion P (name_ids (filter goes es))
each-name P goes [] all = tt
each-name P goes (e ∷ es) all = by (goes e) (each-name P goes es all.1)
  where
    by : (b : Bool) → AllByRecursion P (name_ids (filter goes es)) → AllByRecursion P (name_ids (cond b (e ∷ filter goes es) (filter goes es)))
    by true others = (all.0, others)
    by false others = others

name-there : (es : List Entry) (goes : Entry → Bool) (id : ℕ) → Contains (name_ids (filter goes es)) id → has_entry id es ≡ true
name-there es goes id there =
    All-contains (λ id. has_entry id es ≡ true) (name_ids (filter goes es)) id
    (All-from_recursion _ (name_ids (filter goes es)) (each-name (λ id. has_entry id es ≡ true) goes es (among-self (ids_of es)))) there

-- an id that the root names is an entry's
named-entry : (running : Running) (root : Root) (id : ℕ) → IsToldBy running root → Contains (named_ids root) id
    → has_entry id running.parts.keep.entries ≡ true
named-entry running root id told there =
    name-there running.parts.keep.entries (λ (e : Entry). e.acknowledged) id
    (subst (λ (ws : List NamedWrite). Contains (map (λ (w : NamedWrite). w.id) ws) id) told.ids.writes there)

-- an id that waits is one of its others
waits-there : (running : Running) (root : Root) (id : ℕ) → IsToldBy running root → Contains running.parts.keep.waiting id → Contains root.others id
waits-there running root id told there =
    Contains-permutation (other_ids running.parts.keep) root.others id told.ids.others.same
    (Contains-append_right (ids_of (filter (λ (e : Entry). not e.acknowledged) running.parts.keep.entries)) running.parts.keep.waiting id there)

root-told : {E : Type 0} (made : RestartableEngine) (mark : Mark) (result : Result Root E) → IsCatalogue (keep_of made)
    → IfOk result (λ root. root.mark ≡ mark) → IfOk result (IsToldBy (engine.running_of made.engine))
    → ((sys : System) (records : Option Records) (state : Machine) → stand_of sys made records state → IfOk result (IsRootOf sys state))
    → ((sys : System) (records : Option Records) (state : Machine) → stand_of sys made records state
    → IfOk result (λ root. AreNamed sys (down sys state) root records))
    → ((batches : Given) (records : Option Records) (state : Machine) → stand_of (system_of (flow_of made) batches) made records state → IsMark mark
    → (keep_of made).next < 2 ^ 62 → IfOk result (IsRootFor (flow_of made) batches))
    → IfOk result (IsRootIn stand_of keep_of flow_of made mark)
root-told made mark (Err e) well marked told of named sound = tt
root-told made mark (Ok root) well marked told of named sound = record {
  marked = marked;
  next = told.ids.next;
  entries = λ id there. named-entry (engine.running_of made.engine) root id told there;
  drawn = λ id there. entry-drawn (keep_of made) id well (named-entry (engine.running_of made.engine) root id told there);
  waits = λ id there. waits-there (engine.running_of made.engine) root id told there;
  of_state = of;
  named = λ sys records state s. (down_has_the_same_writes sys state root records).1 (named sys records state s);
  of_flow = sound;
}

-- what is told of what it keeps is told of it
pub root-held : {E : Type 0} (made : RestartableEngine) (mark : Mark) (result : Result Root E) (running : Running) → running ≡ engine.running_of made.engine
    → IsCatalogue running.parts.keep → IfOk result (λ root. root.mark ≡ mark) → IfOk result (IsToldBy running)
    → ((sys : System) (records : Option Records) (state : Machine) → Stands sys running records state → IfOk result (IsRootOf sys state))
    → ((sys : System) (records : Option Records) (state : Machine) → Stands sys running records state
    → IfOk result (λ root. AreNamed sys (down sys state) root records))
    → ((batches : Given) (records : Option Records) (state : Machine) → Stands (system_of running.flow batches) running records state → IsMark mark
    → running.parts.keep.next < 2 ^ 62 → IfOk result (IsRootFor running.flow batches))
    → IfOk result (IsRootIn stand_of keep_of flow_of made mark)
root-held made mark result running is well marked told of named sound =
    root-told made mark result (subst (λ (r : Running). IsCatalogue r.parts.keep) is well) marked (subst (λ (r : Running). IfOk result (IsToldBy r)) is told)
    (λ sys records state s. of sys records state (subst (λ (r : Running). Stands sys r records state) (sym is) s))
    (λ sys records state s. named sys records state (subst (λ (r : Running). Stands sys r records state) (sym is) s))
    (subst (λ (r : Running). (batches : Given) (records : Option Records) (state : Machine) → Stands (system_of r.flow batches) r records state → IsMark mark
    → r.parts.keep.next < 2 ^ 62 → IfOk result (IsRootFor r.flow batches)) is sound)
