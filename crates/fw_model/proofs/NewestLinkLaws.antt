-- The newest checkpoint of a node is the last link of its chain, with what was collected and without.
use Rattle.std.proofs.Common.{◌≡◌, ℕ, ◌+◌, ◌<◌, true, ◌==◌, cond, nat_lt, List, [], ◌∷◌, ◌++◌, length, filter, map, refl, sym, ap, subst, ◌∙◌, inl, inr, zero, suc, Option, Some, None, append_assoc}
use Rattle.std.specs.List.{AllByRecursion}
use Rattle.std.proofs.lemmas.Bool.{cases_Bool, and_from, cond_both, eqb-true}
use Rattle.fw_frontier.specs.Front.{Front}
use Rattle.fw_flow.specs.Dataflow.{System}
use Rattle.fw_flow.specs.WellFormed.{IsWellFormedSystem}
use Rattle.fw_flow.specs.declared.step.Step.{Step}
use Rattle.fw_model.specs.LawsOfChains.{Link, links_of, TheNextStandsOnWhatIsLeft}
use Rattle.fw_model.specs.Machine.{Machine, SerialEvent, Write, Written, checkpoint, logged_event, first_state}
use Rattle.fw_model.specs.Steps.{Outcome, Run, checkpoints_of, last_or, depth_after, next_depth, base_of_depth}
use Rattle.fw_model.specs.Writes.{not_collected}
use Rattle.fw_model.proofs.WriteLaws.{LiesBelow, AreAscending}
use Rattle.fw_model.proofs.AskedLaws.{IsWriteAskedWell}
use Rattle.fw_model.proofs.SameInsideLaws.{low-offered}
use Rattle.fw_model.proofs.ChainLaws.{link_at, last_link, depths-are, fronts-are}
use Rattle.fw_model.proofs.GoneLaws.{strictly, AreGoneExact}
use Rattle.fw_model.proofs.CollectedLaws.{reached-forget}
use Rattle.fw_model.proofs.KeptChainLaws.{IsOrderly, all-or-some, some-passes, gone-own, link-own, link-none, stage-gone, there-links}
use Rattle.fw_model.proofs.NewestLaws.{newest-kept}

-- ---- what was not collected is the last part

-- the links of what was not collected are the last ones
abbrev HasKeptLast : ℕ → List Write → Type 0
HasKeptLast p xs = (gone : List Link) × (links_of p xs ≡ gone ++ links_of p (filter not_collected xs))

kept-last : (sys : System) (low : List Front) (next : ℕ) (h : List SerialEvent) (p : ℕ) → IsOrderly sys low p → (xs : List Write) → AreAscending sys xs
    → AllByRecursion (IsWriteAskedWell sys low next h) xs → AreGoneExact sys low h xs → HasKeptLast p xs
kept-last sys low next h p o [] a w x = ([], refl)
kept-last sys low next h p o (z ∷ zs) a w x =
    let more = kept-last sys low next h p o zs a.1 w.1 x.1 in
    elim (cases_Bool (z.node == p)) [
      | inr other ↦ skip more (link-none p z other)
      | inl mine ↦ by more mine z.written refl
    ]
  where
    skip : HasKeptLast p zs → link_at p z ≡ [] → HasKeptLast p (z ∷ zs)
    skip more none = (
      more.0,
      ap (λ ls. ls ++ links_of p zs) none ∙ more.1
          ∙ cond_both (not_collected z) (z ∷ filter not_collected zs) (filter not_collected zs)
          (λ ys. more.0 ++ links_of p (filter not_collected zs) ≡ more.0 ++ links_of p ys)
          (λ e. sym (ap (λ ls. more.0 ++ (ls ++ links_of p (filter not_collected zs))) none)) (λ e. refl),
    )

    by : HasKeptLast p zs → (z.node == p) ≡ true → (v : Written) → z.written ≡ v → HasKeptLast p (z ∷ zs)
    by more mine (logged_event s) e = skip more (link-own p z (logged_event s) mine e)
    by more mine (checkpoint g l) e =
        let test = strictly low p in
        let at = eqb-true z.node p mine in
        let gone = gone-own sys low h p z zs g l at e in
        cond_both (not_collected z) (z ∷ filter not_collected zs) (filter not_collected zs) (λ ys. (gone : List Link) × (links_of p (z ∷ zs) ≡ gone ++ links_of p ys))
        (λ stays. elim (all-or-some sys low next h p o zs a.1 w.1 x.1) [
          | inl there ↦ ([], ap (λ ls. link_at p z ++ ls) (sym (there-links p zs there)))
          | inr some ↦
              absurd (stage-gone z.stage stays (x.0.1 (gone ∙ and_from (test g) _
              (some-passes sys low next h p o g l zs
              (subst (λ v. AllByRecursion (λ (y : Write). LiesBelow sys p v y.node y.written) zs) e (subst (λ q. AllByRecursion (λ (y : Write). LiesBelow sys q z.written y.node y.written) zs) at a.0))
              w.1 some.1) some.0)))
        ])
        (λ goes. (
          link_at p z ++ more.0,
          ap (λ ls. link_at p z ++ ls) more.1 ∙ sym (append_assoc (link_at p z) more.0 (links_of p (filter not_collected zs))),
        ))

-- ---- the last link

last-later : (last : Option Link) (xs ys : List Link) → last_link last (xs ++ ys) ≡ last_link (last_link last xs) ys
last-later last [] ys = refl
last-later last (x ∷ xs) ys = last-later (Some x) xs ys

not-any : (g : Front) (gs : List Front) → ((f : Front) → last_or g gs ≡ f) → ⊥
not-any g gs k =
    let c : ◌≡◌ {A = Front} [] ([] ∷ []) = sym (k []) ∙ k ([] ∷ []) in
    cc

-- where the last front is the same, whatever stands for none, so is the last link
same-last : (all gone left : List Link) → all ≡ gone ++ left
    → ((f : Front) → last_or f (map (λ (l : Link). l.front) all) ≡ last_or f (map (λ (l : Link). l.front) left)) → last_link None left ≡ last_link None all
same-last all [] left e k = ap (last_link None) (sym e)
same-last all (g ∷ gone) [] e k =
    absurd (not-any g.front (map (λ (l : Link). l.front) (gone ++ []))
    (λ f. sym (ap (λ ls. last_or f (map (λ (l : Link). l.front) ls)) e) ∙ k f))
same-last all (g ∷ gone) (l ∷ left) e k = sym (ap (last_link None) e ∙ last-later None (g ∷ gone) (l ∷ left) ∙ both (last_link None (g ∷ gone)))
  where
    both : (o : Option Link) → last_link o (l ∷ left) ≡ last_link None (l ∷ left)
    both o = refl

-- in each state of a run the last link of a node is that of what was not collected
pub last-link_kept : (sys : System) → IsWellFormedSystem sys → (steps : List Step) (outcomes : List Outcome) (last : Machine) → Run sys (first_state sys) steps outcomes last
    → (p : ℕ) → p < length sys.flow.nodes → last_link None (links_of p (filter not_collected last.writes)) ≡ last_link None (links_of p last.writes)
last-link_kept sys w steps outcomes last r p i =
    let c = reached-forget sys w steps outcomes last r in
    let f = c.reached in
    let part = kept-last sys last.low last.next last.history p
    (record { declared = i; canonical = (low-offered sys last f.recover.notices f.recover.watermark p i).0 })
    last.writes f.recover.ascend f.restore.asked c.exact in
    same-last (links_of p last.writes) part.0 (links_of p (filter not_collected last.writes)) part.1
    (λ g.
    sym (ap (last_or g) (fronts-are p last.writes)) ∙ newest-kept sys w steps outcomes last r p g
    ∙ ap (last_or g) (fronts-are p (filter not_collected last.writes)))

-- ---- what the next checkpoint stands on

-- the depth after that of the last link
abbrev pub depth_beyond : Option Link → ℕ
depth_beyond None = 0
depth_beyond (Some l) = cond (nat_lt l.depth 7) (l.depth + 1) 0

-- the base after it, at a depth
abbrev pub base_beyond : ℕ → Option Link → Option Front
base_beyond zero last = None
base_beyond (suc d) None = None
base_beyond (suc d) (Some l) = Some l.front

beyond-from : (l : Link) (ls : List Link) → depth_after (l.depth ∷ map (λ (m : Link). m.depth) ls) ≡ depth_beyond (last_link (Some l) ls)
beyond-from l [] = refl
beyond-from l (m ∷ ls) = beyond-from m ls

beyond : (ls : List Link) → depth_after (map (λ (m : Link). m.depth) ls) ≡ depth_beyond (last_link None ls)
beyond [] = refl
beyond (l ∷ ls) = beyond-from l ls

pub next-depth_is : (p : ℕ) (xs : List Write) → next_depth p xs ≡ depth_beyond (last_link None (links_of p xs))
next-depth_is p xs = ap depth_after (depths-are p xs) ∙ beyond (links_of p xs)

based-from : (d : ℕ) (l : Link) (ls : List Link) → base_of_depth (suc d) (l.front ∷ map (λ (m : Link). m.front) ls) ≡ base_beyond (suc d) (last_link (Some l) ls)
based-from d l [] = refl
based-from d l (m ∷ ls) = based-from d m ls

based : (d : ℕ) (ls : List Link) → base_of_depth d (map (λ (m : Link). m.front) ls) ≡ base_beyond d (last_link None ls)
based zero ls = refl
based (suc d) [] = refl
based (suc d) (l ∷ ls) = based-from d l ls

pub next-base_is : (p d : ℕ) (xs : List Write) → base_of_depth d (checkpoints_of p xs) ≡ base_beyond d (last_link None (links_of p xs))
next-base_is p d xs = ap (base_of_depth d) (fronts-are p xs) ∙ based d (links_of p xs)

-- ---- the law

pub next-stands_on_left : TheNextStandsOnWhatIsLeft
next-stands_on_left sys w steps outcomes last r p i =
    let same = last-link_kept sys w steps outcomes last r p i in
    let left = filter not_collected last.writes in
    let d = next_depth p last.writes in (
      next-depth_is p left ∙ ap depth_beyond same ∙ sym (next-depth_is p last.writes),
      next-base_is p d left ∙ ap (base_beyond d) same ∙ sym (next-base_is p d last.writes),
    )
