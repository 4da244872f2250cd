-- How many ids are drawn, and what stays of the records.
use Rattle.std.proofs.Common.{◌≡◌, ◌⊎◌, inl, inr, ℕ, ◌+◌, ◌<◌, ◌≤◌, Bool, false, cond, ◌==◌, List, Option, Some, None, IsSome, Result, Ok, Err, refl, sym, ap, subst, ◌∙◌, arith}
use Rattle.std.specs.Prelude.{OnOk, OnErr, option_map}
use Rattle.std.specs.Result.{IsErrAnd}
use Rattle.std.specs.Cmp.{nat_cmp_total}
use Rattle.std.specs.FinMap as map_of
use Rattle.std.specs.FinMap.{get-insert, get-remove}
use Rattle.std.proofs.lemmas.Bool.{ne_eqb}
use Rattle.fw_lemmas.proofs.Orderings.{equal_by_cmp}
use Rattle.fw_outside.specs.Outside.{StayIfTold}
use Rattle.fw_outside.proofs.ToldLaws.{told-before}
use Rattle.fw_keep.specs.declared.fault.KeepFault.{KeepFault}
use Rattle.fw_keep.specs.Catalogue.{KeepState}
use Rattle.fw_keep.specs.Stored.{Records, IsFreed, bytes_under, without_id}
use Rattle.fw_running.specs.declared.fault.EngineFault.{EngineFault}
use Rattle.fw_running.specs.declared.stepped.Stepped.{Stepped}
use Rattle.fw_running.specs.Drawn.{DrawsAtMost, may_draw, supply}
use Rattle.fw_running.proofs.AnswerLaws.{mapped-tells}

-- ---- nothing is drawn

pub supply_same : (old new : KeepState) → new.next ≡ old.next → new.shared ≡ old.shared → supply new ≡ supply old
supply_same old new next shared = ap (λ n. (n, new.shared)) next ∙ ap (λ b. (old.next, b)) shared

-- where nothing is done at all
pub draws_nothing : (n : ℕ) (keep : KeepState) (records : Option Records) → DrawsAtMost n keep keep records records
draws_nothing n keep records = record { told_before = λ told. told; never_back = omega arith; few = omega arith; shared = refl; others = λ told id apart. refl }

-- where no id is drawn and the records stay, as long as they are told
pub draws_none : {n : ℕ} {old new : KeepState} {before after : Option Records} → supply new ≡ supply old → StayIfTold before after
    → DrawsAtMost n old new before after
draws_none {n} {old} {new} {before} {after} same stay =
    let next : new.next ≡ old.next = ap (λ (s : ℕ × Bool). s.0) same in
    record {
      told_before = told-before before after stay;
      never_back = omega (arith, next);
      few = omega (arith, next);
      shared = ap (λ (s : ℕ × Bool). s.1) same;
      others = λ told id apart. ap (bytes_under id) (stay told);
    }

-- where no id is drawn, in a step that does not call the store
pub draws_same : {n : ℕ} {old new : KeepState} {records : Option Records} → supply new ≡ supply old → DrawsAtMost n old new records records
draws_same same = draws_none same (λ told. refl)

-- ---- one step after another

pub draws_on : {n m : ℕ} {old mid new : KeepState} {before between after : Option Records} → DrawsAtMost n old mid before between
    → DrawsAtMost m mid new between after → DrawsAtMost (n + m) old new before after
draws_on {n} {m} {old} {mid} {new} {before} {between} {after} a b =
    let first = a.never_back in
    let second = b.never_back in
    let few = a.few in
    let fewer = b.few in
    record {
      told_before = λ told. a.told_before (b.told_before told);
      never_back = omega (arith, first, second);
      few = omega (arith, few, fewer);
      shared = b.shared ∙ a.shared;
      others = λ told id apart. elim apart as (λ side. bytes_under id after ≡ bytes_under id before) [
        | inl l ↦ b.others told id (inl (omega (arith, l, first))) ∙ a.others (b.told_before told) id (inl l)
        | inr past ↦ b.others told id (inr past) ∙ a.others (b.told_before told) id (inr (omega (arith, past, second)))
      ];
    }

pub draws_more : {n m : ℕ} {old new : KeepState} {before after : Option Records} → DrawsAtMost n old new before after → n ≤ m
    → DrawsAtMost m old new before after
draws_more {n} {m} {old} {new} {before} {after} d most =
    let few = d.few in
    record { told_before = d.told_before; never_back = d.never_back; few = omega (arith, most, few); shared = d.shared; others = d.others }

-- where none was drawn before it, or is after it, and the records stay there
pub draws_from : {n : ℕ} {old mid new : KeepState} {before after : Option Records} → DrawsAtMost n mid new before after → supply mid ≡ supply old
    → DrawsAtMost n old new before after
draws_from {n} {old} {mid} {new} {before} {after} d same =
    draws_more (draws_on (draws_same {n = 0} {old = old} {new = mid} {records = before} same) d) (omega arith)

pub draws_next : {n : ℕ} {old mid new : KeepState} {before after : Option Records} → DrawsAtMost n old mid before after → supply new ≡ supply mid
    → DrawsAtMost n old new before after
draws_next {n} {old} {mid} {new} {before} {after} d same =
    draws_more (draws_on d (draws_same {n = 0} {old = mid} {new = new} {records = after} same)) (omega arith)

-- where the catalogue stays after it
pub draws_kept : {n : ℕ} {old mid new : KeepState} {before after : Option Records} → DrawsAtMost n old mid before after → new ≡ mid
    → DrawsAtMost n old new before after
draws_kept d keep = draws_next d (ap supply keep)

-- a step that fails may have drawn as many
pub draws_failed : {n : ℕ} {old new : KeepState} {before after : Option Records} (Q : EngineFault → Type 0) (result : Result Stepped EngineFault)
    → IsErrAnd result Q → DrawsAtMost n old new before after → DrawsAtMost (may_draw n result) old new before after
draws_failed {n} {old} {new} {before} {after} Q result failed d = by result failed
  where
    by : (result : Result Stepped EngineFault) → IsErrAnd result Q → DrawsAtMost (may_draw n result) old new before after
    by (Ok x) failed = absurd failed
    by (Err e) failed = d

-- ---- a write is asked

-- an id that is not the one that is drawn
other-id : (next last id : ℕ) → last ≡ next + 1 → (id < next) ⊎ (last ≤ id) → (next == id) ≡ false
other-id next last id drawn (inl l) = ne_eqb next id (λ same. absurd (omega (arith, l, same)))
other-id next last id drawn (inr past) = ne_eqb next id (λ same. absurd (omega (arith, past, same, drawn)))

under-put : (all : Option Records) (k : ℕ) (bytes : List ℕ) (id : ℕ) → (k == id) ≡ false
    → bytes_under id (option_map (λ held. map_of.insert held k bytes) all) ≡ bytes_under id all
under-put None k bytes id apart = refl
under-put (Some held) k bytes id apart =
    get-insert nat_cmp_total held k bytes id ∙ ap (λ b. cond b (Some bytes) (map_of.get held id)) (equal_by_cmp id k ∙ apart)

under-freed : (all : Option Records) (k id : ℕ) → (k == id) ≡ false → bytes_under id (without_id k all) ≡ bytes_under id all
under-freed None k id apart = refl
under-freed (Some held) k id apart = get-remove nat_cmp_total held k id ∙ ap (λ b. cond b None (map_of.get held id)) (equal_by_cmp id k ∙ apart)

-- the bytes of a record are put under the next id
pub draws_put : {old new : KeepState} {before after : Option Records} (bytes : List ℕ) → new.next ≡ old.next + 1 → new.shared ≡ old.shared
    → after ≡ option_map (λ held. map_of.insert held old.next bytes) before → DrawsAtMost 1 old new before after
draws_put {old} {new} {before} {after} bytes drawn shared put = record {
  told_before = λ told. sym (mapped-tells (λ held. map_of.insert held old.next bytes) before after put) ∙ told;
  never_back = omega (arith, drawn);
  few = omega (arith, drawn);
  shared = shared;
  others = λ told id apart. ap (bytes_under id) put ∙ under-put before old.next bytes id (other-id old.next new.next id drawn apart);
}

-- the asking of it is refused
pub draws_freed : {old new : KeepState} {before after : Option Records} → new.next ≡ old.next + 1 → new.shared ≡ old.shared
    → IsFreed old.shared old.next before after → DrawsAtMost 1 old new before after
draws_freed {old} {new} {before} {after} drawn shared (inl same) = record {
  told_before = λ told. subst (λ (r : Option Records). IsSome r) same told;
  never_back = omega (arith, drawn);
  few = omega (arith, drawn);
  shared = shared;
  others = λ told id apart. ap (bytes_under id) same;
}
draws_freed {old} {new} {before} {after} drawn shared (inr less) = record {
  told_before = λ told. sym (mapped-tells (λ held. map_of.remove held old.next) before after less.1) ∙ told;
  never_back = omega (arith, drawn);
  few = omega (arith, drawn);
  shared = shared;
  others = λ told id apart. ap (bytes_under id) less.1 ∙ under-freed before old.next id (other-id old.next new.next id drawn apart);
}

pub draws_asked : {T : Type 0} (result : Result T KeepFault) (old new : KeepState) (bytes : List ℕ) (before after : Option Records)
    → new.next ≡ old.next + 1 → new.shared ≡ old.shared → OnOk result (after ≡ option_map (λ held. map_of.insert held old.next bytes) before)
    → OnErr result (IsFreed old.shared old.next before after) → DrawsAtMost 1 old new before after
draws_asked (Ok x) old new bytes before after drawn shared put freed = draws_put bytes drawn shared put
draws_asked (Err e) old new bytes before after drawn shared put freed = draws_freed drawn shared freed
