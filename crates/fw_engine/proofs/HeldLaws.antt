-- What the two parts of a collection answer.
use Rattle.std.proofs.Common.{◌≡◌, ◌⊎◌, inl, inr, ℕ, ◌≤◌, Bool, true, false, ◌==◌, List, [], ◌++◌, Option, Result, Ok, Err, refl, sym, ap, subst, ◌∙◌, arith}
use Rattle.std.specs.Prelude.{◌↔◌, IfOk, IsErrOf, IsTrue, OnOk, is_err}
use Rattle.std.specs.Option.{ForSome}
use Rattle.std.proofs.lemmas.Bool.{both_ways}
use Rattle.std.proofs.lemmas.List.Folds.{list_any-append}
use Rattle.std.proofs.Math.Bool.{or-true}
use Rattle.fw_flow.specs.Dataflow.{System}
use Rattle.fw_flow.specs.declared.step.Step.TheVariants.{Collect}
use Rattle.fw_model.specs.Machine.{Machine}
use Rattle.fw_choose.proofs.CollectLaws.{swept-stands, swept-tells}
use Rattle.fw_keep.specs.Catalogue.{KeepState, AreAscending, IsCatalogue, has_entry, ids_of, is_id_among}
use Rattle.fw_keep.specs.Faults.{keep_faults_after}
use Rattle.fw_keep.specs.Stored.{Records, GivesNoDamage, HasEntries, IsStored, KeepsBytes, Sweeps, bytes_under}
use Rattle.fw_keep.specs.declared.fault.KeepFault.{KeepFault}
use Rattle.fw_keep.specs.declared.fault.KeepFault.TheVariants as keep_fault
use Rattle.fw_keep.proofs.BytesLaws.{under-without_ids}
use Rattle.fw_keep.proofs.IdLaws.{each-among}
use Rattle.fw_outside.specs.Outside.{StoreView}
use Rattle.fw_running.specs.declared.fault.EngineFault.{EngineFault}
use Rattle.fw_running.specs.declared.fault.EngineFault.TheVariants as fault
use Rattle.fw_running.specs.declared.running.Running.{Running}
use Rattle.fw_running.specs.declared.stepped.Stepped.{Stepped}
use Rattle.fw_running.specs.Drawn.{supply}
use Rattle.fw_running.specs.Faults.{fault_of, faults_after_step, is_refusal}
use Rattle.fw_running.specs.Logging.{with_keep}
use Rattle.fw_running.specs.Shaped.{IsShaped}
use Rattle.fw_running.specs.Stands.{Stands}
use Rattle.fw_running.specs.Steps.{Follows, IsUndamaged, TakesStep, outcome_of}
use Rattle.fw_running.proofs.AnswerLaws.{no_damage, refused-after}
use Rattle.fw_running.proofs.SameStateLaws.{keep-stands}
use Rattle.fw_running.proofs.StepLaws.{fault-counts}
use Rattle.fw_engine.specs.declared.engine.Engine.{Engine}
use Rattle.fw_engine.specs.Engine.{keep_of, running_of, was_refused, RaiseAnswers, SweepAnswers}

-- ---- a store that may hold what others put

abbrev shared : KeepState → KeepState
shared keep = record keep { shared = true }

-- what is kept with a shared catalogue stands for the same states
pub shared-stands : (sys : System) (old : Running) (keep : KeepState) (records : Option Records) (state : Machine) → keep ≡ shared old.parts.keep
    → Stands sys old records state → Stands sys (with_keep keep old) records state
shared-stands sys old keep records state is s =
    keep-stands sys old keep records records state s (ap (λ (k : KeepState). k.entries) is) s.apart.stored

-- and its store holds what it names, where the entries are there
pub shared-stored : (old keep : KeepState) (records : Option Records) → keep ≡ shared old → ForSome records (HasEntries old) → IsStored keep records
shared-stored old keep records is there =
    subst (λ (k : KeepState). IsStored k records) (sym is) (λ held told. (there held told, λ alone. absurd (cc)))

-- ---- the first part

raised : {E : Type 0} (old new : Running) (result : Result Stepped E)
    → IfOk result (λ stepped. (records : Option Records) → TakesStep old records Collect (Ok stepped) new records)
    → (records : Option Records) (sys : System) (state : Machine) → Stands sys old records state
    → IfOk result (λ stepped. Follows sys state Collect (outcome_of stepped) new records)
raised old new (Ok stepped) takes records sys state s = takes records sys state s tt
raised old new (Err e) takes records sys state s = tt

pub raise-shaped : {E : Type 0} (running : Running) (result : Result Stepped E) → OnOk result (IsShaped running) → is_err result ≡ false → IsShaped running
raise-shaped running (Ok stepped) shaped well = shaped
raise-shaped running (Err e) shaped well = absurd (cc)

pub raise-answered : {E : Type 0} {old new : Engine} {result : Result Stepped E} → was_refused old ≡ false → AreAscending (ids_of (keep_of new).entries)
    → was_refused new ≡ is_err result → ((records : Option Records) → IsStored (keep_of old) records → IsStored (keep_of new) records)
    → (running_of new).flow ≡ (running_of old).flow → supply (keep_of new) ≡ supply (keep_of old)
    → IfOk result (λ stepped. (records : Option Records) → TakesStep (running_of old) records Collect (Ok stepped) (running_of new) records)
    → RaiseAnswers old result new
raise-answered {E} {old} {new} {result} live ascending told stored flow undrawn takes = record {
  stored = stored;
  flow = flow;
  undrawn = undrawn;
  in_order = ascending;
  ok = raised old.running new.running result takes;
  told = told;
  stays = λ r. absurd (cc);
}

-- where memory was refused before, nothing is done
pub raise-refused : {E : Type 0} {engine : Engine} {e : E} → was_refused engine ≡ true → AreAscending (ids_of (keep_of engine).entries)
    → RaiseAnswers engine (Err e) engine
raise-refused refused ascending = record {
  stored = λ records stored. stored;
  flow = refl;
  undrawn = refl;
  in_order = ascending;
  ok = λ records sys state s. tt;
  told = refused;
  stays = λ r. refl;
}

-- ---- the second part

-- the id of an entry does not wait, nor does one that was not drawn
none-waits : (keep : KeepState) (id : ℕ) → IsCatalogue keep → (has_entry id keep.entries ≡ true) ⊎ (keep.next ≤ id) → is_id_among id keep.waiting ≡ true → ⊥
none-waits keep id well (inl there) waits = both_ways (has_entry id keep.entries) (each-among _ keep.waiting id well.apart waits) there
none-waits keep id well (inr new) waits = let drawn = each-among _ keep.waiting id well.waiting_drawn waits in absurd (omega (arith, new, drawn))

none-removed : (keep : KeepState) (left removed : List ℕ) (id : ℕ) → keep.waiting ≡ left ++ removed → (is_id_among id keep.waiting ≡ true → ⊥)
    → is_id_among id removed ≡ false
none-removed keep left removed id parts none = by (is_id_among id removed) refl
  where
    by : (b : Bool) → is_id_among id removed ≡ b → b ≡ false
    by false is = refl
    by true is =
        absurd (none (ap (is_id_among id) parts ∙ list_any-append (λ (other : ℕ). other == id) left removed ∙ rw is (or-true (is_id_among id left))))

swept-others : (keep : KeepState) (left : List ℕ) (old new : Option Records) (id : ℕ) → IsCatalogue keep → Sweeps keep.waiting old left new
    → (has_entry id keep.entries ≡ true) ⊎ (keep.next ≤ id) → bytes_under id new ≡ bytes_under id old
swept-others keep left old new id well s held =
    ap (bytes_under id) s.records ∙ under-without_ids old s.removed id (none-removed keep left s.removed id s.parts (none-waits keep id well held))

-- what the engine answers where the catalogue answers this
abbrev pub answer_of : Result (Unit {0}) KeepFault → Result (Unit {0}) EngineFault
answer_of (Ok done) = Ok done
answer_of (Err f) = Err (fault_of f)

told-refused : (r : Result (Unit {0}) KeepFault) (b : Bool) → IsTrue b ↔ IsErrOf r keep_fault.NoMemory → b ≡ is_refusal (answer_of r)
told-refused (Ok done) true t = let no = t.0 refl in absurd (cc)
told-refused (Ok done) false t = refl
told-refused (Err keep_fault.StoreFault) true t = let no = t.0 refl in absurd (cc)
told-refused (Err keep_fault.StoreFault) false t = refl
told-refused (Err (keep_fault.Damaged id bytes)) true t = let no = t.0 refl in absurd (cc)
told-refused (Err (keep_fault.Damaged id bytes)) false t = refl
told-refused (Err keep_fault.NoMemory) true t = refl
told-refused (Err keep_fault.NoMemory) false t = t.1 refl

sweep-clean : (keep : KeepState) (r : Result (Unit {0}) KeepFault) → OnOk r (keep.waiting ≡ []) → OnOk (answer_of r) (keep.waiting ≡ [])
sweep-clean keep (Ok done) clean = clean
sweep-clean keep (Err f) clean = tt

sweep-faults : (r : Result (Unit {0}) KeepFault) (count : ℕ) → keep_faults_after r count ≡ faults_after_step (answer_of r) count
sweep-faults (Ok done) count = refl
sweep-faults (Err f) count = fault-counts (Unit {0}) (Unit {0}) f count

sweep-undamaged : (r : Result (Unit {0}) KeepFault) → GivesNoDamage r → IsUndamaged (answer_of r)
sweep-undamaged (Ok done) u = tt
sweep-undamaged (Err keep_fault.StoreFault) u = tt
sweep-undamaged (Err (keep_fault.Damaged id bytes)) u = absurd u
sweep-undamaged (Err keep_fault.NoMemory) u = tt

module _ {K : Type 0} {view : K → StoreView} where
  pub sweep-answered : {old new : Engine} {before after : K} {result : Result (Unit {0}) EngineFault} (r : Result (Unit {0}) KeepFault) → result ≡ answer_of r
      → was_refused old ≡ false → IsCatalogue (keep_of old)
      → IsTrue (was_refused new) ↔ IsErrOf r keep_fault.NoMemory → running_of new ≡ with_keep (keep_of new) (running_of old)
      → (keep_of new).entries ≡ (keep_of old).entries → supply (keep_of new) ≡ supply (keep_of old) → IsStored (keep_of new) (view after).records
      → Sweeps (keep_of old).waiting (view before).records (keep_of new).waiting (view after).records
      → KeepsBytes (keep_of old).entries (view before).records (view after).records → OnOk r ((keep_of new).waiting ≡ [])
      → (view after).faults ≡ keep_faults_after r (view before).faults → GivesNoDamage r → SweepAnswers view old before result new after
  sweep-answered {old} {new} {before} {after} {result} r is live well refused runs entries undrawn stored sweeps bytes clean faults undamaged =
      let first = (view before).records in
      let last = (view after).records in
      let told = told-refused r (was_refused new) refused in
      subst (λ (x : Result (Unit {0}) EngineFault). SweepAnswers view old before x new after) (sym is) (record {
        stored = stored;
        flow = ap (λ (x : Running). x.flow) runs;
        undrawn = undrawn;
        in_order = subst (λ es. AreAscending (ids_of es)) (sym entries) well.ascending;
        stands = λ sys state s. subst (λ (x : Running). Stands sys x last state) (sym runs)
            (swept-stands sys state old.running (keep_of new) first last entries sweeps bytes s);
        swept = sweep-clean (keep_of new) r clean;
        tells = swept-tells (keep_of old).waiting (keep_of new).waiting first last sweeps;
        others = λ id held. swept-others (keep_of old) (keep_of new).waiting first last id well sweeps held;
        faults = faults ∙ sweep-faults r (view before).faults;
        unharmed = λ id. no_damage (answer_of r) id (sweep-undamaged r undamaged);
        refused = refused-after (answer_of r) (was_refused new) told;
        told = told;
        stays = λ r. absurd (cc);
      })

  -- where memory was refused before, nothing is done
  pub sweep-refused : {engine : Engine} {store : K} → was_refused engine ≡ true → IsCatalogue (keep_of engine) → IsStored (keep_of engine) (view store).records
      → SweepAnswers view engine store (Err fault.NoMemory) engine store
  sweep-refused refused well stored = record {
    stored = stored;
    flow = refl;
    undrawn = refl;
    in_order = well.ascending;
    stands = λ sys state s. s;
    swept = tt;
    tells = refl;
    others = λ id held. refl;
    faults = refl;
    unharmed = λ id e. cc;
    refused = λ e. refused;
    told = refused;
    stays = λ r. refl;
  }
