-- A collection that comes last.
use Rattle.std.proofs.Common.{◌≡◌, List, [], ◌∷◌, ◌++◌, false, refl, sym, ◌∙◌, ap, subst}
use Rattle.fw_flow.specs.declared.step.Step.TheVariants.{Collect}
use Rattle.fw_flow.specs.Dataflow.{System}
use Rattle.fw_schedule.specs.declared.item.Item.{Item}
use Rattle.fw_schedule.specs.declared.item.Item.TheVariants.{One, Auto}
use Rattle.fw_model.specs.Machine.{Machine}
use Rattle.fw_flow.specs.declared.step.Step.{Step}
use Rattle.fw_run.specs.Enduring.{EnduredItem, ItemEndures}
use Rattle.fw_run.specs.Reports.{Report, came, not_taken, unswept, is_fault, faults_in}
use Rattle.fw_run.specs.Stopping.{EndSwept, IsPartOf}
use Rattle.fw_command.specs.Command.{Course, Showing}

-- no list ends in this
none-ends : {A : Type 0} (xs : List A) (x : A) → [] ≡ xs ++ x ∷ [] → ⊥
none-ends [] x is = absurd (cc)
none-ends (y ∷ ys) x is = absurd (cc)

-- lists that are the same end in the same
same_last : {A : Type 0} (xs ys : List A) (x y : A) → xs ++ x ∷ [] ≡ ys ++ y ∷ [] → x ≡ y
same_last [] [] x y is = cc
same_last [] (b ∷ ys) x y is = let same : [] ≡ ys ++ y ∷ [] = cc in absurd (none-ends ys y same)
same_last (a ∷ xs) [] x y is = let same : [] ≡ xs ++ x ∷ [] = cc in absurd (none-ends xs x same)
same_last (a ∷ xs) (b ∷ ys) x y is = let same : xs ++ x ∷ [] ≡ ys ++ y ∷ [] = cc in same_last xs ys x y same

-- no items end in a collection
pub none-swept : (reports : List Report) → EndSwept [] reports → ⊥
none-swept reports s = none-ends s.earlier (One Collect) s.collects

no_fault : (report : Report) → is_fault report ≡ false → faults_in (report ∷ []) ≡ 0
no_fault (came outcome lines) none = refl
no_fault not_taken none = absurd (cc)
no_fault (unswept outcome) none = absurd (cc)

-- a step has one report
one-report : (showing : Showing) (sys : System) (state : Machine) (item : Item) (steps : List Step) (reports : List Report) (next : Machine) → item ≡ One Collect
    → ItemEndures showing sys state item steps reports next → (report : Report) × (reports ≡ report ∷ [])
one-report showing sys state (One step) steps reports next is e = (e.0, e.2)
one-report showing sys state (Auto most) steps reports next is e = absurd (cc)

-- items that end in a collection in which the store did not fail have it as their last, and no fault is told in it
pub last-swept : (course : Course) (sys : System) (state : Machine) (items : List Item) (item : Item) (reports : List Report) (e : EnduredItem course sys state item)
    → EndSwept (items ++ item ∷ []) (reports ++ e.reports) → (item ≡ One Collect) × (faults_in e.reports ≡ 0)
last-swept course sys state items item reports e s =
    let is = same_last items s.earlier item (One Collect) s.collects in
    let one = one-report course.showing sys state item e.steps e.reports e.last is e.endures in
    let last = same_last reports s.told one.0 s.last (ap (λ (rs : List Report). reports ++ rs) (sym one.1) ∙ s.parts) in
    (is, ap faults_in one.1 ∙ no_fault one.0 (ap is_fault last ∙ s.unfailed))

-- a part of an item that is a collection is it
pub part_swept : (item part : Item) → IsPartOf item part → part ≡ One Collect → item ≡ One Collect
part_swept (One step) part begun is = sym begun ∙ is
part_swept (Auto most) part begun is = let other : Auto begun.0 ≡ One Collect = sym begun.2 ∙ is in absurd (cc)
