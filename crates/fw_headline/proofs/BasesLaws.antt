-- The checkpoint at a cut is kept with all on which it stands.
use Rattle.std.proofs.Common.{◌≡◌, ◌≢◌, ℕ, suc, ◌+◌, Bool, true, false, ◌&&◌, ◌==◌, cond, List, [], ◌∷◌, ◌++◌, refl, sym, ap, subst, ◌∙◌, inl, inr, Option, Some, None, append_assoc, add-one, arith}
use Rattle.std.specs.List.{AllByRecursion}
use Rattle.std.proofs.lemmas.Bool.{cases_Bool, and_parts, eqb-true, eq-eqb, false_from_ne_true}
use Rattle.fw_lemmas.proofs.Bools.{two_ways}
use Rattle.fw_lemmas.proofs.Each.{each-weaker, each-suffix}
use Rattle.fw_frontier.specs.Front.{Front}
use Rattle.fw_flow.specs.declared.choice.Choice.{Choice}
use Rattle.fw_flow.specs.declared.choice.Cut.TheVariants.{At}
use Rattle.fw_flow.specs.declared.step.Step.{Step}
use Rattle.fw_flow.specs.Dataflow.{System, policy_of, bounds_of}
use Rattle.fw_flow.specs.WellFormed.{IsWellFormedSystem}
use Rattle.fw_headline.specs.Right.{IsKeptAt, IsKeptWithBases}
use Rattle.fw_model.specs.Choice.{kept, cut_of, IsCandidate, IsLargest}
use Rattle.fw_model.specs.LawsOfChains.{Link, links_of, IsWholeLink, StandsOnLast, IsChain}
use Rattle.fw_model.specs.Machine.{Machine, SerialEvent, Write, Written, checkpoint, logged_event, Stage, in_flight, acknowledged, collected, first_state, no_stamps}
use Rattle.fw_model.specs.Steps.{Outcome, Run, is_in_flight, checkpoint_front}
use Rattle.fw_model.specs.Writes.{takes_checkpoints, IsCheckpointOf}
use Rattle.fw_model.proofs.AskedLaws.{IsApart, takes-declared}
use Rattle.fw_model.proofs.CollectedLaws.{reached-forget}
use Rattle.fw_model.proofs.ForgottenLaws.{Flies, AreInOrder}
use Rattle.fw_model.proofs.GoneLaws.{strictly, gone_before, AreGoneExact}
use Rattle.fw_model.proofs.KeptChainLaws.{span-other, span-own, link-own, link-none, gone-own}
use Rattle.fw_model.proofs.RestoringLaws.{cuts-kept}
use Rattle.fw_model.proofs.SpanLaws.{spanned}
use Rattle.fw_model.proofs.StandingLaws.{pairs-before, pairs-after}
use Rattle.fw_model.proofs.WriteLaws.{ArePairs}

-- ---- exactly one checkpoint is at a front

apart-not : (p : ℕ) (f : Front) (l : List Front) (x y : Write) → IsApart x.node x.written y.node y.written → x.node ≡ p → x.written ≡ checkpoint f l → IsCheckpointOf p f y → ⊥
apart-not p f l x y a at w c = by y.written (subst (λ v. IsApart x.node v y.node y.written) w a) c.1
  where
    by : (v : Written) → IsApart x.node (checkpoint f l) y.node v → checkpoint_front v ≡ f ∷ [] → ⊥
    by (checkpoint g m) b e = b (at ∙ sym c.0) (let same : f ≡ g = cc in same)
    by (logged_event s) b e = absurd cc

apart-swap : (p : ℕ) (w : Written) (q : ℕ) (v : Written) → IsApart p w q v → IsApart q v p w
apart-swap p (checkpoint f l) q (checkpoint g m) a = λ e i. a (sym e) (sym i)
apart-swap p (checkpoint f l) q (logged_event s) a = tt
apart-swap p (logged_event r) q (checkpoint g m) a = tt
apart-swap p (logged_event r) q (logged_event s) a = λ e. a (sym e)

one-at : (writes : List Write) → ArePairs IsApart writes → (p : ℕ) (f : Front) (l : List Front) (xs : List Write) (x : Write) (ys : List Write) → writes ≡ xs ++ x ∷ ys
    → x.node ≡ p → x.written ≡ checkpoint f l → x.stage ≡ acknowledged → IsKeptAt writes p f x.base x.depth
one-at writes apart p f l xs x ys e at w far =
    let pairs = subst (ArePairs IsApart) e apart in
    record {
      only = record {
        earlier = xs;
        one = x;
        later = ys;
        there = e;
        is_such = (at, ap checkpoint_front w);
        none_earlier = each-weaker (λ (y : Write). IsApart y.node y.written x.node x.written) (λ y. IsCheckpointOf p f y → ⊥) xs
            (λ y a. apart-not p f l x y (apart-swap y.node y.written x.node x.written a) at w) (pairs-before IsApart xs x ys pairs);
        none_later = each-weaker (λ (y : Write). IsApart x.node x.written y.node y.written) (λ y. IsCheckpointOf p f y → ⊥) ys
            (λ y a. apart-not p f l x y a at w) (pairs-after IsApart xs x ys pairs);
      };
      acknowledged = far;
      its_base = refl;
      its_depth = refl;
    }

-- ---- along the writes

-- What is known of node p's last checkpoint so far, where these are the later writes: if it is in flight so are they, if it was collected
-- the next ones pass up to a whole one, and if it is acknowledged it is kept with its bases.
record IsLast (writes : List Write) (low : List Front) (p : ℕ) (rest : List Write) (last : Link) : Type 0 where
  far : Stage
  flies : is_in_flight far ≡ true → AllByRecursion Flies rest
  gone : far ≡ collected → spanned p (strictly low p) true rest ≡ true
  down : far ≡ acknowledged → IsKeptWithBases writes p last.depth last.front

abbrev IsLastIfSome : List Write → List Front → ℕ → List Write → Option Link → Type 0
IsLastIfSome writes low p rest None = Unit {0}
IsLastIfSome writes low p rest (Some last) = IsLast writes low p rest last

-- one write less that is no checkpoint of the node
last-less : (writes : List Write) (low : List Front) (p : ℕ) (z : Write) (zs : List Write) (last : Option Link)
    → spanned p (strictly low p) true (z ∷ zs) ≡ spanned p (strictly low p) true zs → IsLastIfSome writes low p (z ∷ zs) last → IsLastIfSome writes low p zs last
last-less writes low p z zs None same a = tt
last-less writes low p z zs (Some last) same a = record {
  far = a.far;
  flies = λ e. (a.flies e).1;
  gone = λ e. sym same ∙ a.gone e;
  down = a.down;
}

-- what is known of a checkpoint of the node, if it is acknowledged
abbrev KeptIfAcknowledged : List Write → ℕ → Write → Type 0
KeptIfAcknowledged writes p z = (g : Front) (l : List Front) → z.node ≡ p → z.written ≡ checkpoint g l → z.stage ≡ acknowledged → IsKeptWithBases writes p z.depth g

-- a stage is none of the others
far-not : (far : Stage) → (is_in_flight far ≡ true → ⊥) → (far ≡ collected → ⊥) → far ≡ acknowledged
far-not in_flight a b = absurd (a refl)
far-not acknowledged a b = refl
far-not collected a b = absurd (b refl)

lands : (far : Stage) → far ≡ acknowledged → is_in_flight far ≡ true → ⊥
lands far e i = two_ways (is_in_flight far) i (ap is_in_flight e)

not-zero : (d n : ℕ) → d ≡ n + 1 → (d == 0) ≡ false
not-zero d n e = false_from_ne_true (d == 0) (λ z. let k : d ≡ 0 = eqb-true d 0 z in absurd (omega arith))

-- the step: a checkpoint that stands on the last one so far, or is whole
kept-next : (sys : System) (low : List Front) (h : List SerialEvent) (writes : List Write) (p : ℕ) (z : Write) (zs : List Write) (g : Front) (l : List Front) (last : Option Link)
    → IsLastIfSome writes low p (z ∷ zs) last → StandsOnLast last (record { front = g; base = z.base; depth = z.depth }) → z.node ≡ p → z.written ≡ checkpoint g l
    → IsKeptAt writes p g z.base z.depth → (gone_before sys low h z.node z.written zs ≡ true → z.stage ≡ collected) → z.stage ≡ acknowledged
    → IsKeptWithBases writes p z.depth g
kept-next sys low h writes p z zs g l last a s at w here exact far = by last a s
  where
    whole : IsWholeLink (record { front = g; base = z.base; depth = z.depth }) → IsKeptWithBases writes p z.depth g
    whole is = subst (λ d. IsKeptWithBases writes p d g) (sym is.1) (subst (λ b. IsKeptAt writes p g b 0) is.0 (subst (IsKeptAt writes p g z.base) is.1 here))

    by : (last : Option Link) → IsLastIfSome writes low p (z ∷ zs) last → StandsOnLast last (record { front = g; base = z.base; depth = z.depth }) → IsKeptWithBases writes p z.depth g
    by None a s = whole s
    by (Some last) a (inl s) = whole s
    by (Some last) a (inr on) =
        let test = strictly low p in
        let deeper : z.depth ≡ suc last.depth = on.1 ∙ add-one last.depth in
        let deep = not-zero z.depth last.depth on.1 in
        let there : a.far ≡ acknowledged = far-not a.far (λ e. lands z.stage far (a.flies e).0)
        (λ e.
        let spans : (test g && spanned p test true zs) ≡ true =
        sym (ap (λ b. cond b true (test g && spanned p test true zs)) deep) ∙ sym (span-own p test z zs (checkpoint g l) (eq-eqb z.node p at) w) ∙ a.gone e in
        let c = exact (gone-own sys low h p z zs g l at w ∙ spans) in
        let no : acknowledged ≡ collected = sym far ∙ c in
        absurd (let k = no in cc)) in
        subst (λ d. IsKeptWithBases writes p d g) (sym deeper) (
          last.front,
          subst (λ b. IsKeptAt writes p g b (suc last.depth)) on.0 (subst (IsKeptAt writes p g z.base) deeper here),
          a.down there,
        )

-- what is to be shown of the later ones
abbrev MoreKept : List Write → List Front → ℕ → List Write → Type 0
MoreKept writes low p zs = (next : Option Link) → IsChain next (links_of p zs) → IsLastIfSome writes low p zs next → AllByRecursion (KeptIfAcknowledged writes p) zs

-- each of node p's checkpoints that is acknowledged is kept with its bases
kept-along : (sys : System) (low : List Front) (h : List SerialEvent) (writes : List Write) (p : ℕ) → ArePairs IsApart writes
    → (before rest : List Write) (last : Option Link) → writes ≡ before ++ rest → AreInOrder rest → AreGoneExact sys low h rest → IsChain last (links_of p rest)
    → IsLastIfSome writes low p rest last → AllByRecursion (KeptIfAcknowledged writes p) rest
kept-along sys low h writes p apart before [] last e o x c a = tt
kept-along sys low h writes p apart before (z ∷ zs) last e o x c a =
    let more : MoreKept writes low p zs = λ next d b.
    kept-along sys low h writes p apart (before ++ z ∷ []) zs next (e ∙ sym (append_assoc before (z ∷ []) zs)) o.1 x.1 d b in
    elim (cases_Bool (z.node == p)) [
      | inr other ↦ (
        λ g l at w far. absurd (two_ways (z.node == p) (eq-eqb z.node p at) other),
        more last (subst (λ ls. IsChain last (ls ++ links_of p zs)) (link-none p z other) c) (last-less writes low p z zs last (span-other p (strictly low p) z zs other) a),
      )
      | inl mine ↦ by more mine z.written refl
    ]
  where
    by : MoreKept writes low p zs → (z.node == p) ≡ true → (v : Written) → z.written ≡ v → AllByRecursion (KeptIfAcknowledged writes p) (z ∷ zs)
    by more mine (logged_event s) w = (
      λ g l at i far. absurd (let no : logged_event s ≡ checkpoint g l = sym w ∙ i in cc),
      more last (subst (λ ls. IsChain last (ls ++ links_of p zs)) (link-own p z (logged_event s) mine w) c)
          (last-less writes low p z zs last (span-own p (strictly low p) z zs (logged_event s) mine w) a),
    )
    by more mine (checkpoint f m) w =
        let at = eqb-true z.node p mine in
        let link : Link = record { front = f; base = z.base; depth = z.depth } in
        let on : IsChain last (link ∷ links_of p zs) = subst (λ ls. IsChain last (ls ++ links_of p zs)) (link-own p z (checkpoint f m) mine w) c in
        let down : z.stage ≡ acknowledged → IsKeptWithBases writes p z.depth f = λ far.
        kept-next sys low h writes p z zs f m last a on.0 at w (one-at writes apart p f m before z zs e at w far) x.0.1 far in (
          λ g l i v far. subst (IsKeptWithBases writes p z.depth) (let same : checkpoint f m ≡ checkpoint g l = sym w ∙ v in cc) (down far),
          more (Some link) on.1 (record {
            far = z.stage;
            flies = o.0;
            gone = λ k. (and_parts (strictly low p f) (spanned p (strictly low p) true zs) (sym (gone-own sys low h p z zs f m at w) ∙ x.0.0 k)).1;
            down = down;
          }),
        )

-- ---- at cuts

at-front : (writes : List Write) (p : ℕ) (f : Front) (z : Write) → KeptIfAcknowledged writes p z → IsCheckpointOf p f z → z.stage ≡ acknowledged → IsKeptWithBases writes p z.depth f
at-front writes p f z a c far = by z.written refl c.1
  where
    by : (v : Written) → z.written ≡ v → checkpoint_front v ≡ f ∷ [] → IsKeptWithBases writes p z.depth f
    by (checkpoint g l) w e = subst (IsKeptWithBases writes p z.depth) (let same : g ≡ f = cc in same) (a g l c.0 w far)
    by (logged_event s) w e = absurd cc

-- where a largest choice among what is kept cuts a node that takes checkpoints to a front with a stamp inside, its checkpoint there is kept with
-- all on which it stands
pub cuts-kept_with_bases : (sys : System) → IsWellFormedSystem sys → (steps : List Step) (outcomes : List Outcome) (last : Machine) → Run sys (first_state sys) steps outcomes last
    → (lost : ℕ → Bool) (choice : Choice) → IsLargest sys last (IsCandidate sys last lost kept) choice → (p : ℕ) (f : Front) → takes_checkpoints (policy_of sys.flow p) ≡ true
    → cut_of choice p ≡ At f → f ≢ no_stamps (bounds_of sys.flow p) → (depth : ℕ) × IsKeptWithBases last.writes p depth f
cuts-kept_with_bases sys w steps outcomes last r lost choice m p f takes cut some =
    let c = reached-forget sys w steps outcomes last r in
    let k = cuts-kept sys w steps outcomes last r lost choice m p f takes cut some in
    let K : Write → Type 0 = KeptIfAcknowledged last.writes p in
    let each = kept-along sys last.low last.history last.writes p c.reached.restore.apart [] last.writes None refl c.order c.exact (c.chain p (takes-declared sys.flow p takes)) tt in
    let only = k.0 in
    let one = (each-suffix K only.earlier (only.one ∷ only.later) (subst (AllByRecursion K) only.there each)).0 in
    (only.one.depth, at-front last.writes p f only.one one only.is_such k.1)
