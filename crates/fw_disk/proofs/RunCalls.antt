-- Calls of the file `run` alone, one after the other.
use Rattle.std.proofs.Common.{◌≡◌, ⊎_elim, ℕ, Bool, true, false, ◌&&◌, List, [], ◌∷◌, ◌++◌, refl, sym, ap, ◌∙◌, append_assoc}
use Rattle.std.specs.List.{list_all}
use Rattle.std.specs.Prelude.{Result, Ok, Err, OnErr}
use Rattle.fw_disk.specs.declared.cause.DiskPlace.{DiskPlace}
use Rattle.fw_disk.specs.FolderCalls.{FolderCall, made, flushed, is_run, is_of_run, AreOfRun, IsRefused}

-- what holds anyway holds where a call fails
pub on_err : {A E : Type 0} (r : Result A E) (P : Type 0) → P → OnErr r P
on_err (Ok a) P p = tt
on_err (Err e) P p = p

pub no_calls : (h : List FolderCall) → AreOfRun h h
no_calls h = record { since = []; history = refl; of_run = refl }

pub one_call : (old new : List FolderCall) (call : FolderCall) → is_of_run call ≡ true → new ≡ call ∷ old → AreOfRun old new
one_call old new call of e = record { since = call ∷ []; history = e; of_run = (λ i. of i && true) }

pub and_then : (a b c : List FolderCall) → AreOfRun a b → AreOfRun b c → AreOfRun a c
and_then a b c m n = record { since = n.since ++ m.since; history = whole; of_run = all n.since n.of_run }
  where
    whole : c ≡ (n.since ++ m.since) ++ a
    whole = n.history ∙ ap (λ h. n.since ++ h) m.history ∙ sym (append_assoc n.since m.since a)

    both : (p q : Bool) → (p && q) ≡ true → (p ≡ true) × (q ≡ true)
    both true q e = (refl, e)
    both false q e = absurd (cc)

    all : (since : List FolderCall) → list_all is_of_run since ≡ true → list_all is_of_run (since ++ m.since) ≡ true
    all [] e = m.of_run
    all (call ∷ since) e =
        let b = both (is_of_run call) (list_all is_of_run since) e in
        (λ i. b.0 i && all since b.1 i)

-- and one call more
pub one_more : (a b c : List FolderCall) (call : FolderCall) → AreOfRun a b → is_of_run call ≡ true → c ≡ call ∷ b → AreOfRun a c
one_more a b c call m of e = and_then a b c m (one_call b c call of e)

pub made_flushed : (place : DiskPlace) (bytes : List ℕ) (done : Bool) (old new : List FolderCall) → is_run place ≡ true → new ≡ flushed place done ∷ made place bytes true ∷ old → AreOfRun old new
made_flushed place bytes done old new of e =
    one_more old (made place bytes true ∷ old) new (flushed place done) (one_call old (made place bytes true ∷ old) (made place bytes true) of refl) of e

pub made_refused : (place : DiskPlace) (bytes : List ℕ) (old new : List FolderCall) → is_run place ≡ true → IsRefused place bytes old new → AreOfRun old new
made_refused place bytes old new of r = ⊎_elim (one_call old new (made place bytes false) of) (made_flushed place bytes false old new of) r
