-- Tallies of steps, one after the other.
use Rattle.std.proofs.Common.{◌≡◌, ℕ, ◌+◌, ◌%◌, ◌^◌, ◌<◌, ◌≤◌, Bool, true, false, cond, List, [], ◌∷◌, ◌++◌, length, map, sym, ◌∙◌, ap, subst, arith, add_assoc}
use Rattle.std.proofs.Math.Nat.{mod-add-mod, add-mod-mod}
use Rattle.std.proofs.lemmas.List.{length-append, length-map}
use Rattle.std.proofs.lemmas.Nat.{mod_below}
use Rattle.fw_bag.specs.declared.rec.Rec.{Rec}
use Rattle.fw_bag.specs.Keyed.{plus}
use Rattle.fw_flow.specs.Counting.{how_many}
use Rattle.fw_model.specs.Steps.{Outcome}
use Rattle.fw_run.specs.declared.tally.StepCounts.{StepCounts}
use Rattle.fw_run.proofs.ReportLaws.{shown_in-append, faults-append}
use Rattle.fw_run.specs.Printed.{is_idle, idle_count}
use Rattle.fw_run.specs.Reports.{Report, faults_in, shown_in}
use Rattle.fw_run.specs.Tallies.{is_recovered, is_acknowledgement, rec_sum, shown_sum, acknowledged_sum, tally_of, tally_shown, with_fault, with_tally, AreOfSteps}

-- ---- sums

pub plus-plus : (s v r : ℕ) → plus (plus s v) r ≡ plus s (plus v r)
plus-plus s v r = mod-add-mod (s + v) (2 ^ 64) r ∙ ap (λ n. n % 2 ^ 64) (add_assoc s v r) ∙ sym (add-mod-mod s (v + r) (2 ^ 64))

pub plus-fits : (s v : ℕ) → plus s v < 2 ^ 64
plus-fits s v = mod_below (s + v) (2 ^ 64) (omega arith)

pub nothing_first : (n : ℕ) → n < 2 ^ 64 → plus 0 n ≡ n
nothing_first n l = omega arith

pub nothing_last : (n : ℕ) → n < 2 ^ 64 → plus n 0 ≡ n
nothing_last n l = omega arith

pub rec_sum-fits : (recs : List Rec) → rec_sum recs < 2 ^ 64
rec_sum-fits [] = omega arith
rec_sum-fits (rec ∷ recs) = plus-fits rec.value (rec_sum recs)

pub acknowledged-fits : (outcomes : List Outcome) → acknowledged_sum outcomes < 2 ^ 64
acknowledged-fits [] = omega arith
acknowledged-fits (outcome ∷ outcomes) = plus-fits (shown_sum outcome) (acknowledged_sum outcomes)

acknowledged-append : (outcomes others : List Outcome) → acknowledged_sum (outcomes ++ others) ≡ plus (acknowledged_sum outcomes) (acknowledged_sum others)
acknowledged-append [] others = sym (nothing_first (acknowledged_sum others) (acknowledged-fits others))
acknowledged-append (outcome ∷ outcomes) others =
    ap (plus (shown_sum outcome)) (acknowledged-append outcomes others) ∙ sym (plus-plus (shown_sum outcome) (acknowledged_sum outcomes) (acknowledged_sum others))

-- ---- counts

pub how_many-append : (test : Outcome → Bool) (outcomes others : List Outcome) → how_many test (outcomes ++ others) ≡ how_many test outcomes + how_many test others
how_many-append test [] others = omega arith
how_many-append test (x ∷ outcomes) others = both (test x) (how_many test (outcomes ++ others)) (how_many test outcomes) (how_many test others) (how_many-append test outcomes others)
  where
    both : (b : Bool) (n m k : ℕ) → n ≡ m + k → cond b (n + 1) n ≡ cond b (m + 1) m + k
    both true n m k e = omega (arith, e)
    both false n m k e = e

one_at_most : (test : Outcome → Bool) (outcome : Outcome) → how_many test (outcome ∷ []) ≤ 1
one_at_most test outcome = few (test outcome)
  where
    few : (b : Bool) → cond b (0 + 1) 0 ≤ 1
    few true = omega arith
    few false = omega arith

-- ---- tallies

-- tallies with the same counts and the same sum are one
pub same_tally : (one other : StepCounts) → one.steps ≡ other.steps → one.idle ≡ other.idle → one.cuts ≡ other.cuts → one.acks ≡ other.acks → one.sum ≡ other.sum → one.faults ≡ other.faults → one ≡ other
same_tally one other steps idle cuts acks sum faults =
    let of_steps : ℕ → StepCounts = λ n. record { steps = n; idle = one.idle; cuts = one.cuts; acks = one.acks; sum = one.sum; faults = one.faults } in
    let of_idle : ℕ → StepCounts = λ n. record { steps = other.steps; idle = n; cuts = one.cuts; acks = one.acks; sum = one.sum; faults = one.faults } in
    let of_cuts : ℕ → StepCounts = λ n. record { steps = other.steps; idle = other.idle; cuts = n; acks = one.acks; sum = one.sum; faults = one.faults } in
    let of_acks : ℕ → StepCounts = λ n. record { steps = other.steps; idle = other.idle; cuts = other.cuts; acks = n; sum = one.sum; faults = one.faults } in
    let of_sum : ℕ → StepCounts = λ n. record { steps = other.steps; idle = other.idle; cuts = other.cuts; acks = other.acks; sum = n; faults = one.faults } in
    let of_faults : ℕ → StepCounts = λ n. record { steps = other.steps; idle = other.idle; cuts = other.cuts; acks = other.acks; sum = other.sum; faults = n } in
    ap of_steps steps ∙ ap of_idle idle ∙ ap of_cuts cuts ∙ ap of_acks acks ∙ ap of_sum sum ∙ ap of_faults faults

-- no steps change nothing
pub counted-none : (tally : StepCounts) → tally.sum < 2 ^ 64 → tally ≡ with_tally tally (tally_shown [])
counted-none tally fits =
    same_tally tally (with_tally tally (tally_shown [])) (omega arith) (omega arith) (omega arith) (omega arith) (sym (nothing_last tally.sum fits)) (omega arith)

-- steps that are counted behind others
pub counted-more : (tally : StepCounts) (reports others : List Report)
    → with_tally (with_tally tally (tally_shown reports)) (tally_shown others) ≡ with_tally tally (tally_shown (reports ++ others))
counted-more tally reports others =
    let one = shown_in reports in
    let other = shown_in others in
    let shown = shown_in-append reports others in
    let steps = length-append reports others in
    let faults = faults-append reports others in
    let counts : (test : Outcome → Bool) → how_many test (shown_in (reports ++ others)) ≡ how_many test one + how_many test other =
    λ test. ap (how_many test) shown ∙ how_many-append test one other in
    let idle = counts is_idle in
    let cuts = counts is_recovered in
    let acks = counts is_acknowledgement in
    let sums : plus (plus tally.sum (acknowledged_sum one)) (acknowledged_sum other) ≡ plus tally.sum (acknowledged_sum (shown_in (reports ++ others))) =
    plus-plus tally.sum (acknowledged_sum one) (acknowledged_sum other)
    ∙ ap (plus tally.sum) (sym (acknowledged-append one other) ∙ ap acknowledged_sum (sym shown)) in
    same_tally (with_tally (with_tally tally (tally_shown reports)) (tally_shown others)) (with_tally tally (tally_shown (reports ++ others)))
    (omega (arith, steps)) (omega (arith, idle)) (omega (arith, cuts)) (omega (arith, acks)) sums (omega (arith, faults))

-- and of one more in which the store failed
pub counted-fault : (old counts : StepCounts) (reports all : List Report) → counts ≡ with_tally old (tally_shown reports) → shown_in all ≡ shown_in reports
    → length all ≡ length reports + 1 → faults_in all ≡ faults_in reports + 1 → with_fault counts ≡ with_tally old (tally_shown all)
counted-fault old counts reports all e shown longer more =
    let first : with_fault counts ≡ with_fault (with_tally old (tally_shown reports)) = ap with_fault e in
    first ∙ same_tally (with_fault (with_tally old (tally_shown reports))) (with_tally old (tally_shown all)) (omega (arith, longer))
    (ap (λ (os : List Outcome). old.idle + idle_count os) (sym shown)) (ap (λ (os : List Outcome). old.cuts + how_many is_recovered os) (sym shown))
    (ap (λ (os : List Outcome). old.acks + how_many is_acknowledgement os) (sym shown)) (ap (λ (os : List Outcome). plus old.sum (acknowledged_sum os)) (sym shown))
    (omega (arith, more))

-- each count stays one of the steps
pub of_steps-none : AreOfSteps (tally_of [])
of_steps-none = record { idle = omega arith; cuts = omega arith; acks = omega arith; sum = omega arith; faults = omega arith }

pub of_steps-more : (old new : StepCounts) (outcome : Outcome) → AreOfSteps old → new ≡ with_tally old (tally_of (outcome ∷ [])) → AreOfSteps new
of_steps-more old new outcome are e = subst AreOfSteps (sym e) (record {
  idle = omega (arith, are.idle, one_at_most is_idle outcome);
  cuts = omega (arith, are.cuts, one_at_most is_recovered outcome);
  acks = omega (arith, are.acks, one_at_most is_acknowledgement outcome);
  sum = plus-fits old.sum (acknowledged_sum (outcome ∷ []));
  faults = omega (arith, are.faults);
})

pub steps-more : (old new : StepCounts) (outcome : Outcome) → new ≡ with_tally old (tally_of (outcome ∷ [])) → new.steps ≡ old.steps + 1
steps-more old new outcome e = ap (λ (tally : StepCounts). tally.steps) e

-- what comes of a step is no fault
pub faults-more : (old new : StepCounts) (outcome : Outcome) → new ≡ with_tally old (tally_of (outcome ∷ [])) → new.faults ≡ old.faults
faults-more old new outcome e = let same : new.faults ≡ old.faults + 0 = ap (λ (tally : StepCounts). tally.faults) e in omega (arith, same)
