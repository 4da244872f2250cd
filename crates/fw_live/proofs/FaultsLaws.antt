-- How often the store failed in lines, and how often that was told.
use Rattle.std.proofs.Common.{◌≡◌, ℕ, ◌+◌, ◌<◌, ◌≤◌, List, [], ◌∷◌, ◌++◌, Option, Some, None, Result, Ok, Err, refl, sym, ap, subst, ◌∙◌, inl, inr, arith}
use Rattle.std.proofs.lemmas.Bool.{false≢true}
use Rattle.std.specs.List.{AllByRecursion}
use Rattle.std.specs.Prelude.{◌≢◌, IsErrOf, IsSome}
use Rattle.fw_keep.specs.Stored.{Records}
use Rattle.fw_outside.specs.Outside.{one_more}
use Rattle.fw_running.specs.declared.fault.EngineFault.{EngineFault}
use Rattle.fw_running.specs.declared.fault.EngineFault.TheVariants as fault
use Rattle.fw_running.specs.Faults.{faults_after_step}
use Rattle.fw_session.specs.Story.{Story}
use Rattle.fw_living.specs.declared.fault.LifeFault.{LifeFault}
use Rattle.fw_living.specs.declared.fault.LifeFault.TheVariants as life
use Rattle.fw_living.specs.Life.{life_faults_after, CountsKeeping}
use Rattle.fw_live.specs.declared.counts.LineCounts.{LineCounts}
use Rattle.fw_live.specs.Answers.{Answer, refused, turned, saturated, counts_after, counts_ended, counts_stepped, with_line, IsFaultless, IsUnharmed}
use Rattle.fw_live.specs.Faults.{failed_times, more_by, TellsFaults}
use Rattle.fw_live.specs.Life.{counts_behind}
use Rattle.fw_live.specs.Taken.{Ending, all, failed, spoiled}

-- ---- one call

one-more : (n : ℕ) → n ≤ one_more n
one-more n = omega arith

pub same≤ : (n m : ℕ) → m ≡ n → n ≤ m
same≤ n m e = omega (arith, e)

pub step-more : {T : Type 0} (r : Result T EngineFault) (n m : ℕ) → m ≡ faults_after_step r n → n ≤ m
step-more (Ok x) n m e = same≤ n m e
step-more (Err fault.StoreFault) n m e = subst (λ k. n ≤ k) (sym e) (one-more n)
step-more (Err (fault.Damaged id)) n m e = same≤ n m e
step-more (Err fault.NoMemory) n m e = same≤ n m e

pub life-more : {T : Type 0} (r : Result T LifeFault) (n m : ℕ) → m ≡ life_faults_after r n → n ≤ m
life-more (Ok x) n m e = same≤ n m e
life-more (Err life.NotFed) n m e = same≤ n m e
life-more (Err life.StoreFault) n m e = subst (λ k. n ≤ k) (sym e) (one-more n)
life-more (Err life.NoMemory) n m e = same≤ n m e

pub keeping-done : {T : Type 0} (x : T) (records : Option Records) (At : Story → Type 0) (before after : ℕ)
    → CountsKeeping (Ok x) records At before after → after ≡ before
keeping-done x records At before after (inl e) = e
keeping-done x records At before after (inr e) = e.0

pub keeping-more : {T : Type 0} (r : Result T LifeFault) (records : Option Records) (At : Story → Type 0) (before after : ℕ)
    → CountsKeeping r records At before after → before ≤ after
keeping-more r records At before after (inl e) = life-more r before after e
keeping-more r records At before after (inr e) = same≤ before after e.0

-- ---- where the store is told to have failed

pub life-failed : {T : Type 0} (r : Result T LifeFault) (n m : ℕ) → m ≡ life_faults_after r n → IsErrOf r life.StoreFault → one_more n ≤ m
life-failed r n m e is = same≤ (one_more n) m (e ∙ ap (λ x. life_faults_after x n) is)

pub keeping-failed : {T : Type 0} (r : Result T LifeFault) (records : Option Records) (At : Story → Type 0) (before after : ℕ) (story : Story)
    → CountsKeeping r records At before after → IsErrOf r life.StoreFault → IsSome records → At story → one_more before ≤ after
keeping-failed r records At before after story (inl e) is told at = life-failed r before after e is
keeping-failed r records At before after story (inr e) is told at = absurd (e.1 told story at)

-- it failed once more behind that
pub failed-later : (a b c d : ℕ) → b ≡ a → b ≤ c → one_more c ≤ d → one_more a ≤ d
failed-later a b c d e f h = omega (arith, e, f, h)

pub failed-after : (a b c : ℕ) → a ≤ b → one_more b ≤ c → one_more a ≤ c
failed-after a b c e f = omega (arith, e, f)

pub line-more : (a b c d : ℕ) → b ≡ a → b ≤ c → c ≤ d → a ≤ d
line-more a b c d e f h = omega (arith, e, f, h)

-- ---- lines

more-none : (n : ℕ) → n ≡ more_by 0 n
more-none n = omega arith

more-twice : (n a b : ℕ) → more_by b (more_by a n) ≡ more_by (a + b) n
more-twice n a b = omega arith

more-grows : (n a : ℕ) → n ≤ more_by a n
more-grows n a = omega arith

pub none-told : (told told2 fails1 fails2 : ℕ) → told2 ≡ told → fails2 ≡ fails1 → TellsFaults told told2 fails1 fails2
none-told told told2 fails1 fails2 e f = record { more = 0; tells = e ∙ more-none told; fails = f ∙ more-none fails1 }

pub told-more : (told told2 told3 fails1 fails2 fails3 : ℕ) → TellsFaults told told2 fails1 fails2 → TellsFaults told2 told3 fails2 fails3
    → TellsFaults told told3 fails1 fails3
told-more told told2 told3 fails1 fails2 fails3 a b = record {
  more = a.more + b.more;
  tells = b.tells ∙ ap (more_by b.more) a.tells ∙ more-twice told a.more b.more;
  fails = b.fails ∙ ap (more_by b.more) a.fails ∙ more-twice fails1 a.more b.more;
}

pub told-grows : (told told2 fails1 fails2 : ℕ) → TellsFaults told told2 fails1 fails2 → fails1 ≤ fails2
told-grows told told2 fails1 fails2 c = subst (λ n. fails1 ≤ n) (sym c.fails) (more-grows fails1 c.more)

as-often : (taken : Result (Unit {0}) EngineFault) (n : ℕ) → faults_after_step taken n ≡ more_by (failed_times taken) n
as-often (Ok x) n = more-none n
as-often (Err fault.StoreFault) n = refl
as-often (Err (fault.Damaged id)) n = more-none n
as-often (Err fault.NoMemory) n = more-none n

-- the steps of a line ended so, and what they did was kept
pub turn-told : (taken : Result (Unit {0}) EngineFault) (told between told2 fails1 begun done kept : ℕ) → between ≡ told
    → told2 ≡ more_by (failed_times taken) between → begun ≡ fails1 → done ≡ faults_after_step taken begun → kept ≡ done
    → TellsFaults told told2 fails1 kept
turn-told taken told between told2 fails1 begun done kept b t f d k = record {
  more = failed_times taken;
  tells = t ∙ ap (more_by (failed_times taken)) b;
  fails = k ∙ d ∙ ap (faults_after_step taken) f ∙ as-often taken fails1;
}

-- ---- where nothing went wrong

pub told-none : (records : Option Records) → IsSome records → records ≡ None → ⊥
told-none (Some x) told e = absurd cc
told-none None told e = absurd (false≢true told)

-- a store that never fails
pub never-told : (told told2 fails1 fails2 : ℕ) → TellsFaults told told2 fails1 fails2 → told ≡ 0 → fails1 ≡ 0 → fails2 ≡ 0 → told2 ≡ 0
never-told told told2 fails1 fails2 c t f g =
    let none : c.more ≡ 0 = no-more fails1 fails2 c.more c.fails f g in
    c.tells ∙ ap (λ n. more_by n told) none ∙ sym (more-none told) ∙ t
  where
    no-more : (fails1 fails2 more : ℕ) → fails2 ≡ more_by more fails1 → fails1 ≡ 0 → fails2 ≡ 0 → more ≡ 0
    no-more fails1 fails2 more e f g = omega (arith, e, f, g)

ended-failed : (ending : Ending) (counts : LineCounts) → ending ≡ failed → 0 < (counts_ended ending counts).faults
ended-failed all counts e = absurd cc
ended-failed failed counts e = one counts.faults
  where
    one : (n : ℕ) → 0 < saturated (n + 1)
    one n = omega arith
ended-failed (spoiled id) counts e = absurd cc

ended-more : (ending : Ending) (counts : LineCounts) → 0 < counts.faults → 0 < (counts_ended ending counts).faults
ended-more all counts some = some
ended-more failed counts some = ended-failed failed counts refl
ended-more (spoiled id) counts some = some

answers-more_faults : (answers : List Answer) (counts : LineCounts) → 0 < counts.faults → 0 < (counts_behind answers counts).faults
answers-more_faults [] counts some = some
answers-more_faults (refused rule ∷ answers) counts some = answers-more_faults answers (with_line counts) some
answers-more_faults (turned turn ∷ answers) counts some = answers-more_faults answers (counts_after (turned turn) counts)
    (ended-more turn.ending (counts_stepped turn.outcomes (with_line counts)) some)

-- where no fault was counted, no answer is one
pub none-failed : (answers : List Answer) (counts : LineCounts) → (counts_behind answers counts).faults ≡ 0 → AllByRecursion IsFaultless answers
none-failed [] counts none = tt
none-failed (refused rule ∷ answers) counts none = (tt, none-failed answers (with_line counts) none)
none-failed (turned turn ∷ answers) counts none = (
  (λ e. (positive (counts_behind answers (counts_after (turned turn) counts)).faults
      (answers-more_faults answers (counts_after (turned turn) counts) (ended-failed turn.ending (counts_stepped turn.outcomes (with_line counts)) e)) none)),
  none-failed answers (counts_after (turned turn) counts) none,
)
  where
    positive : (n : ℕ) → 0 < n → n ≡ 0 → ⊥
    positive n p e = omega (arith, p, e)

ended-whole : (ending : Ending) (counts : LineCounts) → ((id : ℕ) → ending ≢ spoiled id) → (counts_ended ending counts).damaged ≡ counts.damaged
ended-whole all counts whole = refl
ended-whole failed counts whole = refl
ended-whole (spoiled id) counts whole = absurd (whole id refl)

-- where no record was damaged, none is counted
pub none-damaged : (answers : List Answer) (counts : LineCounts) → AllByRecursion IsUnharmed answers
    → (counts_behind answers counts).damaged ≡ counts.damaged
none-damaged [] counts whole = refl
none-damaged (refused rule ∷ answers) counts whole = none-damaged answers (with_line counts) whole.1
none-damaged (turned turn ∷ answers) counts whole = none-damaged answers (counts_after (turned turn) counts) whole.1
    ∙ ended-whole turn.ending (counts_stepped turn.outcomes (with_line counts)) whole.0

pub unharmed-more : (answers more : List Answer) → AllByRecursion IsUnharmed answers → AllByRecursion IsUnharmed more
    → AllByRecursion IsUnharmed (answers ++ more)
unharmed-more [] more a b = b
unharmed-more (x ∷ answers) more a b = (a.0, unharmed-more answers more a.1 b)
