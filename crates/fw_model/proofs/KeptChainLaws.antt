-- What was not collected of a node's checkpoints is a chain too: the first of them is whole.
use Rattle.std.proofs.Common.{◌≡◌, ◌⊎◌, ℕ, ◌<◌, Bool, true, false, not, ◌&&◌, ◌==◌, cond, List, [], ◌∷◌, ◌++◌, length, filter, refl, sym, ap, subst, ◌∙◌, inl, inr, Option, Some, None, arith}
use Rattle.std.specs.List.{AllByRecursion}
use Rattle.std.proofs.lemmas.Bool.{cases_Bool, and_parts, and_from, cond_both, eqb-true, false_from_ne_true}
use Rattle.fw_lemmas.proofs.Bools.{two_ways}
use Rattle.fw_frontier.specs.Frontier.{Within}
use Rattle.fw_frontier.specs.Front.{Front, frontier_of, IsCanonical, is_within}
use Rattle.fw_frontier.proofs.NamesLaws.{is_within-holds, within-is}
use Rattle.fw_flow.specs.Dataflow.{System, bounds_of}
use Rattle.fw_model.specs.LawsOfChains.{Link, link_of, links_of, IsWholeLink, StandsOnLast, IsChain, WhatIsNotCollectedIsAChain}
use Rattle.fw_model.specs.Machine.{SerialEvent, Write, Written, checkpoint, logged_event, Stage, in_flight, acknowledged, collected, front_of}
use Rattle.fw_model.specs.Writes.{is_collected, not_collected}
use Rattle.fw_model.proofs.WriteLaws.{HoldsOfOne, LiesBelow, AreAscending}
use Rattle.fw_model.proofs.AskedLaws.{IsAskedWell, IsWriteAskedWell}
use Rattle.fw_model.proofs.SameInsideLaws.{low-offered}
use Rattle.fw_model.proofs.ChainLaws.{link_at}
use Rattle.fw_model.proofs.SpanLaws.{spanned_at, spanned}
use Rattle.fw_model.proofs.GoneLaws.{strictly, gone_before, AreGoneExact}
use Rattle.fw_model.proofs.CollectedLaws.{reached-forget}

-- ---- what passes

-- what is written is a checkpoint that passes
abbrev IsPassing : (Front → Bool) → Written → Type 0
IsPassing test (checkpoint g l) = test g ≡ true
IsPassing test (logged_event s) = ⊥

abbrev Passes : ℕ → (Front → Bool) → Write → Type 0
Passes p test y = (y.node ≡ p) × IsPassing test y.written

-- what was collected is no checkpoint of node p
abbrev pub IsThere : ℕ → Write → Type 0
IsThere p x = not_collected x ≡ false → link_at p x ≡ []

abbrev pub AreThere : ℕ → List Write → Type 0
AreThere p xs = AllByRecursion (IsThere p) xs

gone-stage : (far : Stage) → not (is_collected far) ≡ false → far ≡ collected
gone-stage in_flight e = absurd (two_ways true refl e)
gone-stage acknowledged e = absurd (two_ways true refl e)
gone-stage collected e = refl

pub stage-gone : (far : Stage) → not (is_collected far) ≡ true → far ≡ collected → ⊥
stage-gone far e c = two_ways (not (is_collected far)) e (ap (λ s. not (is_collected s)) c)

-- ---- what lies below what lies strictly within does too

-- What is known of node p: its low front, and that of each of its checkpoints, name their frontiers.
pub record IsOrderly (sys : System) (low : List Front) (p : ℕ) : Type 0 where
  pub declared : p < length sys.flow.nodes
  pub canonical : IsCanonical (bounds_of sys.flow p) (front_of low p)

strictly-below : (sys : System) (low : List Front) (p : ℕ) → IsOrderly sys low p → (g k : Front) → IsCanonical (bounds_of sys.flow p) k
    → Within (frontier_of (bounds_of sys.flow p) g) (frontier_of (bounds_of sys.flow p) k) → strictly low p k ≡ true → strictly low p g ≡ true
strictly-below sys low p o g k canonical below e =
    let b = bounds_of sys.flow p in
    let f = front_of low p in
    let parts = and_parts (is_within k f) (not (is_within f k)) e in
    and_from (is_within g f) (not (is_within f g))
    (within-is b g f o.canonical (λ t i. is_within-holds b k f parts.0 t (below t i)))
    (ap not (false_from_ne_true (is_within f g) (λ i.
    two_ways (not (is_within f k)) parts.1 (ap not (within-is b f k canonical (λ t j. below t (is_within-holds b f g i t j)))))))

-- the step: a checkpoint of node p before one that passes
passes-before : (sys : System) (low : List Front) (next : ℕ) (h : List SerialEvent) (p : ℕ) → IsOrderly sys low p → (g : Front) (l : List Front) (n : ℕ) (w : Written) (far : Stage)
    → LiesBelow sys p (checkpoint g l) n w → IsAskedWell sys low next h n w far → n ≡ p → IsPassing (strictly low p) w → strictly low p g ≡ true
passes-before sys low next h p o g l n (checkpoint k m) far below asked at pass =
    strictly-below sys low p o g k (subst (λ q. IsCanonical (bounds_of sys.flow q) k) at asked.1) (below (sym at) o.declared) pass
passes-before sys low next h p o g l n (logged_event s) far below asked at pass = absurd pass

pub some-passes : (sys : System) (low : List Front) (next : ℕ) (h : List SerialEvent) (p : ℕ) → IsOrderly sys low p → (g : Front) (l : List Front) (zs : List Write)
    → AllByRecursion (λ (y : Write). LiesBelow sys p (checkpoint g l) y.node y.written) zs → AllByRecursion (IsWriteAskedWell sys low next h) zs
    → HoldsOfOne (Passes p (strictly low p)) zs → strictly low p g ≡ true
some-passes sys low next h p o g l [] below asked some = absurd some
some-passes sys low next h p o g l (y ∷ zs) below asked (inl here) =
    passes-before sys low next h p o g l y.node y.written y.stage below.0 asked.0 here.0 here.1
some-passes sys low next h p o g l (y ∷ zs) below asked (inr later) = some-passes sys low next h p o g l zs below.1 asked.1 later

-- ---- either all are there, or the next ones pass

-- one of node p's checkpoints was collected: then those up to the next whole one pass, and one does
abbrev pub SomeGone : List Front → ℕ → List Write → Type 0
SomeGone low p xs = (spanned p (strictly low p) true xs ≡ true) × HoldsOfOne (Passes p (strictly low p)) xs

pub span-other : (p : ℕ) (test : Front → Bool) (z : Write) (zs : List Write) → (z.node == p) ≡ false → spanned p test true (z ∷ zs) ≡ spanned p test true zs
span-other p test z zs other = ap (λ c. cond c (spanned_at test z.depth z.written (spanned p test true zs)) (spanned p test true zs)) other

pub span-own : (p : ℕ) (test : Front → Bool) (z : Write) (zs : List Write) (w : Written) → (z.node == p) ≡ true → z.written ≡ w
    → spanned p test true (z ∷ zs) ≡ spanned_at test z.depth w (spanned p test true zs)
span-own p test z zs w mine e =
    ap (λ c. cond c (spanned_at test z.depth z.written (spanned p test true zs)) (spanned p test true zs)) mine
    ∙ ap (λ v. spanned_at test z.depth v (spanned p test true zs)) e

pub link-own : (p : ℕ) (z : Write) (w : Written) → (z.node == p) ≡ true → z.written ≡ w → link_at p z ≡ link_of z.base z.depth w
link-own p z w mine e = ap (λ b. cond b (link_of z.base z.depth z.written) []) mine ∙ ap (link_of z.base z.depth) e

pub link-none : (p : ℕ) (z : Write) → (z.node == p) ≡ false → link_at p z ≡ []
link-none p z other = ap (λ b. cond b (link_of z.base z.depth z.written) []) other

deep-or : (b c : Bool) → c ≡ true → cond b true c ≡ true
deep-or true c e = refl
deep-or false c e = e

pub gone-own : (sys : System) (low : List Front) (h : List SerialEvent) (p : ℕ) (z : Write) (zs : List Write) (g : Front) (l : List Front) → z.node ≡ p → z.written ≡ checkpoint g l
    → gone_before sys low h z.node z.written zs ≡ (strictly low p g && spanned p (strictly low p) true zs)
gone-own sys low h p z zs g l at e =
    ap (λ q. gone_before sys low h q z.written zs) at ∙ ap (λ w. gone_before sys low h p w zs) e

pub all-or-some : (sys : System) (low : List Front) (next : ℕ) (h : List SerialEvent) (p : ℕ) → IsOrderly sys low p → (xs : List Write) → AreAscending sys xs
    → AllByRecursion (IsWriteAskedWell sys low next h) xs → AreGoneExact sys low h xs → AreThere p xs ⊎ SomeGone low p xs
all-or-some sys low next h p o [] a w x = inl tt
all-or-some sys low next h p o (z ∷ zs) a w x =
    let test = strictly low p in
    let rest = all-or-some sys low next h p o zs a.1 w.1 x.1 in
    elim (cases_Bool (z.node == p)) [
      | inr other ↦ elim rest [
        | inl there ↦ inl ((λ e. link-none p z other), there)
        | inr some ↦ inr (span-other p test z zs other ∙ some.0, inr some.1)
      ]
      | inl mine ↦ by rest mine z.written refl
    ]
  where
    by : AreThere p zs ⊎ SomeGone low p zs → (z.node == p) ≡ true → (v : Written) → z.written ≡ v → AreThere p (z ∷ zs) ⊎ SomeGone low p (z ∷ zs)
    by (inl there) mine (logged_event s) e = inl ((λ i. link-own p z (logged_event s) mine e), there)
    by (inr some) mine (logged_event s) e = inr (span-own p (strictly low p) z zs (logged_event s) mine e ∙ some.0, inr some.1)
    by (inr some) mine (checkpoint g l) e =
        let test = strictly low p in
        let at = eqb-true z.node p mine in
        let passes : test g ≡ true =
        some-passes sys low next h p o g l zs
        (subst (λ v. AllByRecursion (λ (y : Write). LiesBelow sys p v y.node y.written) zs) e (subst (λ q. AllByRecursion (λ (y : Write). LiesBelow sys q z.written y.node y.written) zs) at a.0))
        w.1 some.1 in
        inr (
          span-own p test z zs (checkpoint g l) mine e ∙ deep-or (z.depth == 0) (test g && spanned p test true zs) (and_from (test g) (spanned p test true zs) passes some.0),
          inr some.1,
        )
    by (inl there) mine (checkpoint g l) e = elim (cases_Bool (not_collected z)) [
      | inl stays ↦ inl ((λ i. absurd (two_ways (not_collected z) stays i)), there)
      | inr goes ↦
          let test = strictly low p in
          let at = eqb-true z.node p mine in
          let gone : (test g && spanned p test true zs) ≡ true = sym (gone-own sys low h p z zs g l at e) ∙ x.0.0 (gone-stage z.stage goes) in
          inr (
            span-own p test z zs (checkpoint g l) mine e ∙ deep-or (z.depth == 0) (test g && spanned p test true zs) gone,
            inl (at, subst (IsPassing test) (sym e) (and_parts (test g) (spanned p test true zs) gone).0),
          )
    ]

-- ---- the chain

pub there-links : (p : ℕ) (xs : List Write) → AreThere p xs → links_of p (filter not_collected xs) ≡ links_of p xs
there-links p [] a = refl
there-links p (x ∷ xs) a =
    let rest = there-links p xs a.1 in
    cond_both (not_collected x) (x ∷ filter not_collected xs) (filter not_collected xs) (λ ys. links_of p ys ≡ links_of p (x ∷ xs))
    (λ e. ap (λ ls. link_at p x ++ ls) rest) (λ e. rest ∙ sym (ap (λ ls. ls ++ links_of p xs) (a.0 e)))

-- nothing came before, or what comes next passes up to the next whole one
abbrev IsAfterGone : List Front → ℕ → Option Link → List Write → Type 0
IsAfterGone low p last xs = (last ≡ None) ⊎ (spanned p (strictly low p) true xs ≡ true)

-- a link that is no deeper than none is whole
whole-at_zero : (last : Option Link) (link : Link) → StandsOnLast last link → link.depth ≡ 0 → IsWholeLink link
whole-at_zero None link s z = s
whole-at_zero (Some last) link (inl w) z = w
whole-at_zero (Some last) link (inr on) z = let deeper = on.1 in absurd (omega arith)

-- what is to be shown of the later ones
abbrev MoreKept : List Front → ℕ → List Write → Type 0
MoreKept low p zs = (last : Option Link) → IsChain last (links_of p zs) → IsAfterGone low p last zs → IsChain None (links_of p (filter not_collected zs))

kept-chain : (sys : System) (low : List Front) (next : ℕ) (h : List SerialEvent) (p : ℕ) → IsOrderly sys low p → (xs : List Write) (last : Option Link) → AreAscending sys xs
    → AllByRecursion (IsWriteAskedWell sys low next h) xs → AreGoneExact sys low h xs → IsChain last (links_of p xs) → IsAfterGone low p last xs
    → IsChain None (links_of p (filter not_collected xs))
kept-chain sys low next h p o [] last a w x c after = tt
kept-chain sys low next h p o (z ∷ zs) last a w x c after =
    let more : MoreKept low p zs = λ l d then. kept-chain sys low next h p o zs l a.1 w.1 x.1 d then in
    elim (cases_Bool (z.node == p)) [
      | inr other ↦
          skip more (link-none p z other)
          (elim after [ inl none ↦ inl none | inr some ↦ inr (sym (span-other p (strictly low p) z zs other) ∙ some) ])
      | inl mine ↦ by more mine z.written refl
    ]
  where
    skip : MoreKept low p zs → link_at p z ≡ [] → IsAfterGone low p last zs → IsChain None (links_of p (filter not_collected (z ∷ zs)))
    skip more none then =
        let rest = more last (subst (λ ls. IsChain last (ls ++ links_of p zs)) none c) then in
        cond_both (not_collected z) (z ∷ filter not_collected zs) (filter not_collected zs) (λ ys. IsChain None (links_of p ys))
        (λ e. subst (λ ls. IsChain None (ls ++ links_of p (filter not_collected zs))) (sym none) rest) (λ e. rest)

    by : MoreKept low p zs → (z.node == p) ≡ true → (v : Written) → z.written ≡ v → IsChain None (links_of p (filter not_collected (z ∷ zs)))
    by more mine (logged_event s) e =
        skip more (link-own p z (logged_event s) mine e)
        (elim after [ inl none ↦ inl none | inr some ↦ inr (sym (span-own p (strictly low p) z zs (logged_event s) mine e) ∙ some) ])
    by more mine (checkpoint g l) e =
        let test = strictly low p in
        let at = eqb-true z.node p mine in
        let link : Link = record { front = g; base = z.base; depth = z.depth } in
        let is : link_at p z ≡ link ∷ [] = link-own p z (checkpoint g l) mine e in
        let on : IsChain last (link ∷ links_of p zs) = subst (λ ls. IsChain last (ls ++ links_of p zs)) is c in
        let gone = gone-own sys low h p z zs g l at e in
        cond_both (not_collected z) (z ∷ filter not_collected zs) (filter not_collected zs) (λ ys. IsChain None (links_of p ys))
        (λ stays.
        let never : (test g && spanned p test true zs) ≡ true → ⊥ = λ i. stage-gone z.stage stays (x.0.1 (gone ∙ i)) in
        let whole : IsWholeLink link = elim after [
          | inl none ↦ subst (λ q. StandsOnLast q link) none on.0
          | inr some ↦ elim (cases_Bool (z.depth == 0)) [
            | inl zero ↦ whole-at_zero last link on.0 (eqb-true z.depth 0 zero)
            | inr deep ↦
                absurd (never (sym (ap (λ b. cond b true (test g && spanned p test true zs)) deep) ∙ sym (span-own p test z zs (checkpoint g l) mine e) ∙ some))
          ]
        ] in
        elim (all-or-some sys low next h p o zs a.1 w.1 x.1) [
          | inl there ↦
              subst (λ ls. IsChain None (ls ++ links_of p (filter not_collected zs))) (sym is)
              (whole, subst (IsChain (Some link)) (sym (there-links p zs there)) on.1)
          | inr some ↦
              absurd (never (and_from (test g) (spanned p test true zs)
              (some-passes sys low next h p o g l zs
              (subst (λ v. AllByRecursion (λ (y : Write). LiesBelow sys p v y.node y.written) zs) e (subst (λ q. AllByRecursion (λ (y : Write). LiesBelow sys q z.written y.node y.written) zs) at a.0))
              w.1 some.1) some.0))
        ])
        (λ goes.
        more (Some link) on.1
        (inr (and_parts (test g) (spanned p test true zs) (sym gone ∙ x.0.0 (gone-stage z.stage goes))).1))

pub kept-are_chain : WhatIsNotCollectedIsAChain
kept-are_chain sys w steps outcomes last r p i =
    let c = reached-forget sys w steps outcomes last r in
    let f = c.reached in
    kept-chain sys last.low last.next last.history p
    (record { declared = i; canonical = (low-offered sys last f.recover.notices f.recover.watermark p i).0 })
    last.writes None f.recover.ascend f.restore.asked c.exact (c.chain p i) (inl refl)
