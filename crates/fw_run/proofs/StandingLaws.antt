-- What an engine that stands for a state has in its store.
use Rattle.std.proofs.Common.{◌≡◌, Bool, true, false, ◌||◌, List, [], Option, refl, sym, ap, ◌∙◌}
use Rattle.fw_flow.specs.Dataflow.{System}
use Rattle.fw_schedule.specs.declared.item.Item.{Item}
use Rattle.fw_model.specs.Machine.{Machine}
use Rattle.fw_keep.specs.Catalogue.{AreAscending, has_entry, ids_of, is_id_among}
use Rattle.fw_keep.specs.Stored.{Records, IsStored}
use Rattle.fw_engine.specs.declared.engine.Engine.{Engine}
use Rattle.fw_engine.specs.Engine.{StandsFor, keep_of}
use Rattle.fw_run.specs.Reports.{Report}
use Rattle.fw_run.specs.Stopping.{EndSwept, HoldsBehind, HoldsWrites}

-- the store holds the writes of the state
pub holds-writes : (sys : System) (engine : Engine) → AreAscending (ids_of (keep_of engine).entries) → (records : Option Records) (state : Machine)
    → StandsFor sys engine records state → HoldsWrites sys records state
holds-writes sys engine ordered records state st = record { entries = engine.running.parts.keep.entries; ascending = ordered; of_writes = st.apart.entries; held = st.apart.stored }

-- behind items with these reports it stands for the state, and behind a collection in which the store did not fail nothing waits
abbrev pub StandsBehind : System → Engine → Option Records → List Item → List Report → Machine → Type 0
StandsBehind sys engine records items reports state = StandsFor sys engine records state × (EndSwept items reports → (keep_of engine).waiting ≡ [])

-- of two one is true, and not the other
one_of : (a b : Bool) → b ≡ false → (a || b) ≡ true → a ≡ true
one_of true b none some = refl
one_of false b none some = sym none ∙ some

-- the store holds the writes of the state, and behind a collection no others, where no others put any
pub holds-behind : (sys : System) (engine : Engine) → AreAscending (ids_of (keep_of engine).entries) → (records : Option Records) → IsStored (keep_of engine) records
    → (keep_of engine).shared ≡ false → (items : List Item) (reports : List Report) (state : Machine) → StandsBehind sys engine records items reports state
    → HoldsBehind sys records items reports state
unfolding holds-writes
holds-behind sys engine ordered records stored alone items reports state st =
    let keep = keep_of engine in
    record {
      writes = holds-writes sys engine ordered records state st.0;
      no_others = λ swept held told id there.
          one_of (has_entry id keep.entries) (is_id_among id keep.waiting) (ap (is_id_among id) (st.1 swept)) (sym ((stored held told).1 alone id) ∙ there);
    }
