-- A session goes on from a story of what came and what was told to one of what comes then and of what is told then.
use Rattle.std.proofs.Common.{◌≡◌, ℕ, Bool, true, false, ◌==◌, cond, List, [], ◌∷◌, ◌++◌, map, Option, Some, None, Result, Ok, Err, refl, sym, ap, subst, ◌∙◌, Vec, arith, inl, inr}
use Rattle.std.specs.declared.alloc.Global.{Global}
use Rattle.std.specs.Prelude.{IsErrOf, IsTrue}
use Rattle.std.specs.List.{AllByRecursion}
use Rattle.std.proofs.lemmas.Bool.Decides.{nat_tests}
use Rattle.std.proofs.lemmas.Bool.{false≢true}
use Rattle.std.proofs.lemmas.List.{append-nil, append_assoc}
use Rattle.cimboery.specs.declared.Arrivals.{Arrivals}
use Rattle.cimboery.specs.declared.EngineFault.{EngineFault}
use Rattle.cimboery.specs.declared.EngineFault.TheVariants as fault
use Rattle.cimboery.specs.declared.Rec.{Rec}
use Rattle.cimboery.specs.declared.Step.{Step}
use Rattle.cimboery.specs.declared.Step.TheVariants.{Collect, Recover}
use Rattle.cimboery.specs.declared.Stepped.{Stepped}
use Rattle.cimboery.specs.declared.Stepped.TheVariants.{Did, Idle}
use Rattle.cimboery.specs.Dataflow.{Dataflow}
use Rattle.cimboery.specs.EngineFaults.{is_refusal}
use Rattle.cimboery.specs.EngineSteps.{Trusts, outcome_of, effect_of}
use Rattle.cimboery.specs.Keyed.{sorted_recs}
use Rattle.cimboery.specs.Machine.{Machine}
use Rattle.cimboery.specs.Session.{GoesOnBy, GoesOnTo, IsLeftAt, StepGoesOn, FirstGoesOn, GoesOnFirst}
use Rattle.cimboery.specs.Steps.{Effect, Outcome, did, idle}
use Rattle.cimboery.specs.Stored.{Records}
use Rattle.cimboery.specs.FedRuns.{Action, feed, close, close_with, do_step}
use Rattle.cimboery.specs.Story.{Story, given_to, system_now, after_feed, after_close, after_step}
use Rattle.embedded.specs.Told.{AreAmong, IsStoryOf, all_shown, shown_by}

-- ---- lists

put-behind : {A : Type 0} (b : Bool) (x : A) (all xs ys : List A) → all ≡ xs ++ ys → cond b (x ∷ all) all ≡ cond b (x ∷ xs) xs ++ ys
put-behind true x all xs ys e = ap (λ zs. x ∷ zs) e
put-behind false x all xs ys e = e

-- what is given by more actions is given behind
given-behind : (s : ℕ) (actions more : List Action) → given_to s (actions ++ more) ≡ given_to s actions ++ given_to s more
given-behind s [] more = refl
given-behind s (feed q recs ∷ actions) more = put-behind (q == s) recs _ (given_to s actions) (given_to s more) (given-behind s actions more)
given-behind s (close q ∷ actions) more = put-behind (q == s) [] _ (given_to s actions) (given_to s more) (given-behind s actions more)
given-behind s (close_with q recs ∷ actions) more = put-behind (q == s) recs _ (given_to s actions) (given_to s more) (given-behind s actions more)
given-behind s (do_step step ∷ actions) more = given-behind s actions more

eqb-self : (n : ℕ) → (n == n) ≡ true
eqb-self n = grind (arith, nat_tests)

map-behind : {A B : Type 0} (f : A → B) (xs ys : List A) → map f (xs ++ ys) ≡ map f xs ++ map f ys
map-behind f [] ys = refl
map-behind f (x ∷ xs) ys = ap (λ zs. f x ∷ zs) (map-behind f xs ys)

shown-behind : (told more : List Stepped) → all_shown (told ++ more) ≡ all_shown told ++ all_shown more
shown-behind [] more = refl
shown-behind (s ∷ told) more =
    ap (λ xs. shown_by (outcome_of s) ++ xs) (shown-behind told more) ∙ sym (append_assoc (shown_by (outcome_of s)) (all_shown told) (all_shown more))

-- ---- what was told stays among more effects

among-more : (xs ys zs : List Effect) → AreAmong xs ys → AreAmong xs (ys ++ zs)
among-more [] ys zs among = tt
among-more (x ∷ xs) [] zs among = absurd among
among-more (x ∷ xs) (y ∷ ys) zs (inl same) = inl (same.0, among-more xs ys zs same.1)
among-more (x ∷ xs) (y ∷ ys) zs (inr later) = inr (among-more (x ∷ xs) ys zs later)

last-among : (ys : List Effect) (z : Effect) → AreAmong (z ∷ []) (ys ++ z ∷ [])
last-among [] z = inl (refl, tt)
last-among (y ∷ ys) z = inr (last-among ys z)

both-more : (xs ys : List Effect) (z : Effect) → AreAmong xs ys → AreAmong (xs ++ z ∷ []) (ys ++ z ∷ [])
both-more [] ys z among = last-among ys z
both-more (x ∷ xs) [] z among = absurd among
both-more (x ∷ xs) (y ∷ ys) z (inl same) = inl (same.0, both-more xs ys z same.1)
both-more (x ∷ xs) (y ∷ ys) z (inr later) = inr (both-more (x ∷ xs) ys z later)

-- what was told, with what a step answered
abbrev pub told_after : List Stepped → Result Stepped EngineFault → List Stepped
told_after told (Ok stepped) = told ++ stepped ∷ []
told_after told (Err e) = told

step-of : (source : ℕ) (came : List (Vec Rec Global)) (told : List Stepped) (story : Story) (step : Step) (effect : Effect) (state : Machine)
    → IsStoryOf source came told story → IsStoryOf source came told (after_step step effect state story)
step-of source came told story step effect state of = record {
  given = given-behind source story.actions (do_step step ∷ []) ∙ append-nil (given_to source story.actions) ∙ of.given;
  shown = among-more (all_shown told) story.effects (effect ∷ []) of.shown;
}

-- one more that was told shows what came of it
shown-one : (told : List Stepped) (stepped : Stepped) (outcome : Outcome) → outcome_of stepped ≡ outcome
    → all_shown (told ++ stepped ∷ []) ≡ all_shown told ++ shown_by outcome
shown-one told stepped outcome e =
    shown-behind told (stepped ∷ []) ∙ ap (λ xs. all_shown told ++ xs) (append-nil (shown_by (outcome_of stepped)) ∙ ap shown_by e)

-- what was told is of the next story, as is what the step told
goes-of : (flow : Dataflow) (step : Step) (stepped : Stepped) (source : ℕ) (came : List (Vec Rec Global)) (told : List Stepped) (story : Story) (After : Story → Type 0)
    → IsStoryOf source came told story → GoesOnTo flow step (outcome_of stepped) story After
    → (next : Story) × After next × IsStoryOf source came (told ++ stepped ∷ []) next
goes-of flow step stepped source came told story After of goes = by (outcome_of stepped) refl goes
  where
    by : (outcome : Outcome) → outcome_of stepped ≡ outcome → GoesOnTo flow step outcome story After
        → (next : Story) × After next × IsStoryOf source came (told ++ stepped ∷ []) next
    by (did effect) e goes =
        let next = after_step step effect goes.1.0 story in
        let is = step-of source came told story step effect goes.1.0 of in (
          next,
          subst After goes.1.1 goes.2,
          record {
            given = is.given;
            shown = subst (λ xs. AreAmong xs next.effects) (sym (shown-one told stepped (did effect) e))
                (both-more (all_shown told) story.effects effect of.shown);
          },
        )
    by idle e goes = (
      story,
      subst After goes.1.1 goes.2,
      record {
        given = of.given;
        shown = subst (λ xs. AreAmong xs story.effects) (sym (shown-one told stepped idle e ∙ append-nil (all_shown told))) of.shown;
      },
    )

goes-on : (flow : Dataflow) (step : Step) (outcome : Outcome) (source : ℕ) (came : List (Vec Rec Global)) (told : List Stepped) (story : Story) (After : Story → Type 0)
    → IsStoryOf source came told story → GoesOnTo flow step outcome story After → (next : Story) × After next × IsStoryOf source came told next
goes-on flow step (did effect) source came told story After of goes =
    (after_step step effect goes.1.0 story, subst After goes.1.1 goes.2, step-of source came told story step effect goes.1.0 of)
goes-on flow step idle source came told story After of goes = (story, subst After goes.1.1 goes.2, of)

left-of : (flow : Dataflow) (step : Step) (source : ℕ) (came : List (Vec Rec Global)) (told : List Stepped) (story : Story) (After : Story → Type 0)
    → IsStoryOf source came told story → IsLeftAt flow step story After → (next : Story) × After next × IsStoryOf source came told next
left-of flow Collect source came told story After of left = goes-on flow Collect left.0 source came told story After of left.1
left-of flow step source came told story After of left = (story, left.1, of)

-- a step reads what was put, over a store that tells its records
trusted : (flow : Dataflow) (story : Story) (step : Step) (after : Option Records) → (after ≡ None → ⊥) → Trusts (system_now flow story) story.now.state step after
trusted flow story step None tells = absurd (tells refl)
trusted flow story Recover (Some held) tells = tt
trusted flow story step (Some held) tells = tt

-- memory was not refused before a call that does not answer want of it
live-before : {T : Type 0} (refused : Bool) (result : Result T EngineFault) → (IsTrue refused → IsErrOf result fault.NoMemory)
    → (IsErrOf result fault.NoMemory → ⊥) → refused ≡ false
live-before false result stays other = refl
live-before true result stays other = absurd (other (stays refl))

-- From a story a step leads to the next one, with what it told, unless memory is refused.
pub step-kept : (flow : Dataflow) (step : Step) (result : Result Stepped EngineFault) (after : Option Records) (Before After : Story → Type 0)
    (source : ℕ) (came : List (Vec Rec Global)) (told : List Stepped) (refused refuses : Bool) → StepGoesOn flow step result after Before After
    → (after ≡ None → ⊥) → refuses ≡ is_refusal result → (IsTrue refused → IsErrOf result fault.NoMemory)
    → (refused ≡ false → (story : Story) × Before story × IsStoryOf source came told story)
    → refuses ≡ false → (story : Story) × After story × IsStoryOf source came (told_after told result) story
step-kept flow step (Ok stepped) after Before After source came told refused refuses goes tells says stays kept live =
    let k = kept (live-before refused (Ok stepped) stays (λ e. cc)) in
    goes-of flow step stepped source came told k.0 After k.2 (goes.ok k.0 k.1 (trusted flow k.0 step after tells))
step-kept flow step (Err fault.StoreFault) after Before After source came told refused refuses goes tells says stays kept live =
    let k = kept (live-before refused (Err fault.StoreFault) stays (λ e. cc)) in
    left-of flow step source came told k.0 After k.2 (goes.faulted k.0 k.1 refl)
step-kept flow step (Err (fault.Damaged id)) after Before After source came told refused refuses goes tells says stays kept live =
    let k = kept (live-before refused (Err (fault.Damaged id)) stays (λ e. cc)) in
    (k.0, (goes.unharmed id k.0 k.1 refl).1, k.2)
step-kept flow step (Err fault.NoMemory) after Before After source came told refused refuses goes tells says stays kept live =
    absurd (false≢true (sym live ∙ says))

-- the same of the first step that is enabled; that there was none is not kept
abbrev pub first_told : List Stepped → Result Stepped EngineFault → List Stepped
first_told told (Ok (Did shown)) = told ++ Did shown ∷ []
first_told told (Ok Idle) = told
first_told told (Err e) = told

pub first-kept : (flow : Dataflow) (arrivals : Arrivals) (result : Result Stepped EngineFault) (Before After : Story → Type 0)
    (source : ℕ) (came : List (Vec Rec Global)) (told : List Stepped) (refused refuses : Bool) → FirstGoesOn flow arrivals result Before After
    → refuses ≡ is_refusal result → (IsTrue refused → IsErrOf result fault.NoMemory)
    → (refused ≡ false → (story : Story) × Before story × IsStoryOf source came told story)
    → refuses ≡ false → (story : Story) × After story × IsStoryOf source came (first_told told result) story
first-kept flow arrivals (Ok (Did shown)) Before After source came told refused refuses goes says stays kept live =
    let k = kept (live-before refused (Ok (Did shown)) stays (λ e. cc)) in
    let first = goes.ok k.0 k.1 in
    let next = after_step first.0 (effect_of shown) first.1 k.0 in
    let is = step-of source came told k.0 first.0 (effect_of shown) first.1 k.2 in (
      next,
      first.2,
      record {
        given = is.given;
        shown = subst (λ xs. AreAmong xs next.effects) (sym (shown-one told (Did shown) (did (effect_of shown)) refl))
            (both-more (all_shown told) k.0.effects (effect_of shown) k.2.shown);
      },
    )
first-kept flow arrivals (Ok Idle) Before After source came told refused refuses goes says stays kept live =
    let k = kept (live-before refused (Ok Idle) stays (λ e. cc)) in (k.0, (goes.ok k.0 k.1).0, k.2)
first-kept flow arrivals (Err fault.StoreFault) Before After source came told refused refuses goes says stays kept live =
    let k = kept (live-before refused (Err fault.StoreFault) stays (λ e. cc)) in (k.0, (goes.faulted k.0 k.1 refl).1, k.2)
first-kept flow arrivals (Err (fault.Damaged id)) Before After source came told refused refuses goes says stays kept live =
    absurd (goes.unharmed id refl)
first-kept flow arrivals (Err fault.NoMemory) Before After source came told refused refuses goes says stays kept live =
    absurd (false≢true (sym live ∙ says))

-- ---- a batch more

-- what came then is what was given, the batch behind it
feed-of : (source : ℕ) (came : List (Vec Rec Global)) (batch : Vec Rec Global) (told : List Stepped) (story : Story)
    → IsStoryOf source came told story → IsStoryOf source (came ++ batch ∷ []) told (after_feed source (sorted_recs batch.items) story)
feed-of source came batch told story of = record {
  given = given-behind source story.actions (feed source (sorted_recs batch.items) ∷ [])
      ∙ ap (λ b. given_to source story.actions ++ cond b (sorted_recs batch.items ∷ []) []) (eqb-self source)
      ∙ ap (λ xs. xs ++ sorted_recs batch.items ∷ []) of.given
      ∙ sym (map-behind (λ (recs : Vec Rec Global). sorted_recs recs.items) came (batch ∷ []));
  shown = of.shown;
}

close-of : (source : ℕ) (came : List (Vec Rec Global)) (none : Vec Rec Global) (told : List Stepped) (story : Story) → none.items ≡ []
    → IsStoryOf source came told story → IsStoryOf source (came ++ none ∷ []) told (after_close source story)
close-of source came none told story empty of = record {
  given = given-behind source story.actions (close source ∷ [])
      ∙ ap (λ b. given_to source story.actions ++ cond b ([] ∷ []) []) (eqb-self source)
      ∙ ap (λ xs. xs ++ [] ∷ []) of.given
      ∙ ap (λ rs. map (λ (recs : Vec Rec Global). sorted_recs recs.items) came ++ sorted_recs rs ∷ []) (sym empty)
      ∙ sym (map-behind (λ (recs : Vec Rec Global). sorted_recs recs.items) came (none ∷ []));
  shown = of.shown;
}

-- ---- what was told is denoted

each-among : (P : Effect → Type 0) (xs ys : List Effect) → AreAmong xs ys → AllByRecursion P ys → AllByRecursion P xs
each-among P [] ys among all = tt
each-among P (x ∷ xs) [] among all = absurd among
each-among P (x ∷ xs) (y ∷ ys) (inl same) all = (subst P (sym same.0) all.0, each-among P xs ys same.1 all.1)
each-among P (x ∷ xs) (y ∷ ys) (inr later) all = each-among P (x ∷ xs) ys later all.1

pub told-denoted : (P : Effect → Type 0) (Q : Outcome → Type 0) → ((effect : Effect) → P effect → Q (did effect)) → Q idle
    → (told : List Stepped) → AllByRecursion P (all_shown told) → AllByRecursion (λ s. Q (outcome_of s)) told
told-denoted P Q each none [] all = tt
told-denoted P Q each none (s ∷ told) all = by (outcome_of s) all
    (λ rest. told-denoted P Q each none told rest)
  where
    by : (outcome : Outcome) → AllByRecursion P (shown_by outcome ++ all_shown told)
        → (AllByRecursion P (all_shown told) → AllByRecursion (λ r. Q (outcome_of r)) told)
        → Q outcome × AllByRecursion (λ r. Q (outcome_of r)) told
    by (did effect) all further = (each effect all.0, further all.1)
    by idle all further = (none, further all)

pub told-right : (P : Effect → Type 0) (Q : Outcome → Type 0) → ((effect : Effect) → P effect → Q (did effect)) → Q idle
    → (effects : List Effect) → AllByRecursion P effects → (told : List Stepped) → AreAmong (all_shown told) effects
    → AllByRecursion (λ s. Q (outcome_of s)) told
told-right P Q each none effects all told among = told-denoted P Q each none told (each-among P (all_shown told) effects among all)

-- ---- what a run keeps

-- unless memory was refused, it is at a story in which this came to the source, and this was told
abbrev pub IsKept : Bool → (Story → Type 0) → ℕ → List (Vec Rec Global) → List Stepped → Type 0
IsKept refused At source came told = refused ≡ false → (story : Story) × At story × IsStoryOf source came told story

-- lists that are the same are kept as well
pub kept-same : (refused : Bool) (At : Story → Type 0) (source : ℕ) (came came' : List (Vec Rec Global)) (told told' : List Stepped) → came' ≡ came
    → told' ≡ told → IsKept refused At source came told → IsKept refused At source came' told'
kept-same refused At source came came' told told' e f kept live =
    let k = kept live in
    (k.0, k.1, subst (λ ts. IsStoryOf source came' ts k.0) (sym f) (subst (λ cs. IsStoryOf source cs told k.0) (sym e) k.2))

-- it is fed a batch: the session is at the story with it
pub feed-kept : (refused refused' : Bool) (At After : Story → Type 0) (source : ℕ) (came : List (Vec Rec Global)) (batch : Vec Rec Global) (told : List Stepped)
    → ((story : Story) → At story → After (after_feed source (sorted_recs batch.items) story)) → refused' ≡ refused
    → IsKept refused At source came told → IsKept refused' After source (came ++ batch ∷ []) told
feed-kept refused refused' At After source came batch told fed same kept live =
    let k = kept (sym same ∙ live) in
    (after_feed source (sorted_recs batch.items) k.0, fed k.0 k.1, feed-of source came batch told k.0 k.2)

-- it is closed
pub close-kept : (refused refused' : Bool) (At After : Story → Type 0) (source : ℕ) (came : List (Vec Rec Global)) (none : Vec Rec Global) (told : List Stepped)
    → none.items ≡ [] → ((story : Story) → At story → After (after_close source story)) → refused' ≡ refused
    → IsKept refused At source came told → IsKept refused' After source (came ++ none ∷ []) told
close-kept refused refused' At After source came none told empty closes same kept live =
    let k = kept (sym same ∙ live) in
    (after_close source k.0, closes k.0 k.1, close-of source came none told k.0 empty k.2)

-- the same story, of which more is true
pub kept-at : (refused refused' : Bool) (At After : Story → Type 0) (source : ℕ) (came came' : List (Vec Rec Global)) (told : List Stepped)
    → ((story : Story) → At story → After story) → refused' ≡ refused → came' ≡ came
    → IsKept refused At source came told → IsKept refused' After source came' told
kept-at refused refused' At After source came came' told goes same e kept live =
    let k = kept (sym same ∙ live) in (k.0, goes k.0 k.1, subst (λ cs. IsStoryOf source cs told k.0) (sym e) k.2)

-- what is true of three things is true of the same three
pub moved : {E S A : Type 0} (At : E → S → A → Story → Type 0) (e e' : E) (s s' : S) (a a' : A) → e' ≡ e → s' ≡ s → a' ≡ a
    → (story : Story) → At e s a story → At e' s' a' story
moved At e e' s s' a a' p q r story at =
    subst (λ x. At x s' a' story) (sym p) (subst (λ y. At e y a' story) (sym q) (subst (λ z. At e s z story) (sym r) at))
