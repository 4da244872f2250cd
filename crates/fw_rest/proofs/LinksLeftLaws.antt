-- How many records of a node are left where the low watermark is each of its stamps: from the newest whole one on.
use Rattle.std.proofs.Common.{◌≡◌, ◌⊎◌, ℕ, suc, ◌+◌, Bool, true, false, not, ◌&&◌, ◌==◌, cond, List, [], ◌∷◌, ◌++◌, length, filter, refl, sym, ap, subst, ◌∙◌, inl, inr, Option, Some, None, arith}
use Rattle.std.specs.List.{AllByRecursion}
use Rattle.std.proofs.lemmas.Bool.{cases_Bool, and_from, cond_both, eqb-true, eq-eqb, false_from_ne_true}
use Rattle.fw_lemmas.proofs.Bools.{two_ways}
use Rattle.fw_lemmas.proofs.Each.{each-suffix}
use Rattle.fw_frontier.specs.Front.{Front, is_within}
use Rattle.fw_flow.specs.Dataflow.{System}
use Rattle.fw_model.specs.LawsOfChains.{Link, link_of, links_of, IsChain}
use Rattle.fw_model.specs.Machine.{SerialEvent, Write, Written, checkpoint, logged_event, front_of}
use Rattle.fw_model.specs.Steps.{checkpoint_front, checkpoints_of, last_or}
use Rattle.fw_model.specs.Writes.{not_collected}
use Rattle.fw_model.proofs.WriteLaws.{HoldsOfOne, ArePairs, LiesBelow, AreAscending}
use Rattle.fw_model.proofs.AskedLaws.{IsApart, IsWriteAskedWell, last-append}
use Rattle.fw_model.proofs.ChainLaws.{link_at, last_link}
use Rattle.fw_model.proofs.SpanLaws.{spanned}
use Rattle.fw_model.proofs.GoneLaws.{strictly, AreGoneExact}
use Rattle.fw_model.proofs.KeptChainLaws.{IsOrderly, all-or-some, some-passes, span-own, span-other, gone-own, link-own, link-none, stage-gone, there-links}
use Rattle.fw_rest.specs.Left.{count_left}

-- ---- where the last checkpoint holds each stamp

-- node p has no checkpoint among these, or the last of them holds each stamp
abbrev pub EndsEvery : ℕ → List Write → Type 0
EndsEvery p xs = (checkpoints_of p xs ≡ []) ⊎ ((f : Front) → last_or f (checkpoints_of p xs) ≡ [])

-- the write is a checkpoint of node p that holds each stamp
abbrev pub IsEvery : ℕ → Write → Type 0
IsEvery p x = (x.node ≡ p) × ((low : List Front) × (x.written ≡ checkpoint [] low))

ends-later : (p : ℕ) (x : Write) (xs : List Write) → EndsEvery p (x ∷ xs) → EndsEvery p xs
ends-later p x xs e = by (checkpoints_of p xs) refl
  where
    head : List Front
    head = cond (x.node == p) (checkpoint_front x.written) []

    nothing : (fs gs : List Front) → fs ++ gs ≡ [] → gs ≡ []
    nothing [] gs n = n
    nothing (f ∷ fs) gs n = absurd (let c : f ∷ (fs ++ gs) ≡ [] = n in cc)

    by : (fs : List Front) → checkpoints_of p xs ≡ fs → EndsEvery p xs
    by [] k = inl k
    by (g ∷ gs) k = elim e [
      | inl none ↦ inl (nothing head (checkpoints_of p xs) none)
      | inr last ↦ inr (λ f.
          ap (last_or f) k ∙ sym (last-append f head (g ∷ gs)) ∙ sym (ap (λ hs. last_or f (head ++ hs)) k) ∙ last f)
    ]

-- where there is one, some write is that
find-every : (p : ℕ) (xs : List Write) (f : Front) → (f ≡ [] → ⊥) → last_or f (checkpoints_of p xs) ≡ [] → HoldsOfOne (IsEvery p) xs
find-every p [] f n k = absurd (n k)
find-every p (x ∷ xs) f n k = elim (cases_Bool (x.node == p)) [
  | inr other ↦ inr (find-every p xs f n (ap (λ b. last_or f (cond b (checkpoint_front x.written) [] ++ checkpoints_of p xs)) (sym other) ∙ k))
  | inl own ↦
      by (λ d m i. find-every p xs d m i) own x.written refl (sym (ap (λ b. last_or f (cond b (checkpoint_front x.written) [] ++ checkpoints_of p xs)) own) ∙ k)
]
  where
    by : ((d : Front) → (d ≡ [] → ⊥) → last_or d (checkpoints_of p xs) ≡ [] → HoldsOfOne (IsEvery p) xs)
        → (x.node == p) ≡ true → (w : Written) → x.written ≡ w → last_or f (checkpoint_front x.written ++ checkpoints_of p xs) ≡ [] → HoldsOfOne (IsEvery p) (x ∷ xs)
    by rest own (logged_event s) e k = inr (rest f n (ap (λ w. last_or f (checkpoint_front w ++ checkpoints_of p xs)) (sym e) ∙ k))
    by rest own (checkpoint [] l) e k = inl (eqb-true x.node p own, (l, e))
    by rest own (checkpoint (o ∷ os) l) e k =
        inr (rest (o ∷ os) (λ c. cc) (ap (λ w. last_or f (checkpoint_front w ++ checkpoints_of p xs)) (sym e) ∙ k))

no-other : (p : ℕ) (x : Write) → IsEvery p x → (xs : List Write) → AllByRecursion (λ (y : Write). IsApart x.node x.written y.node y.written) xs → HoldsOfOne (IsEvery p) xs → ⊥
no-other p x i [] a h = h
no-other p x i (y ∷ ys) a (inl h) =
    apart (subst (λ w. IsApart x.node x.written y.node w) h.1.1 a.0)
  where
    apart : IsApart x.node x.written y.node (checkpoint [] h.1.0) → ⊥
    apart a = (subst (λ w. IsApart x.node w y.node (checkpoint [] h.1.0)) i.1.1 a) (i.0 ∙ sym h.0) refl
no-other p x i (y ∷ ys) a (inr h) = no-other p x i ys a.1 h

-- so after one that holds each stamp there is none
none-after : (p : ℕ) (x : Write) → IsEvery p x → (xs : List Write) → AllByRecursion (λ (y : Write). IsApart x.node x.written y.node y.written) xs → EndsEvery p xs
    → checkpoints_of p xs ≡ []
none-after p x i xs a (inl none) = none
none-after p x i xs a (inr last) = absurd (no-other p x i xs a (find-every p xs ([] ∷ []) (λ c. cc) (last ([] ∷ []))))

no-links : (p : ℕ) (xs : List Write) → checkpoints_of p xs ≡ [] → links_of p xs ≡ []
no-links p [] k = refl
no-links p (x ∷ xs) k = by (x.node == p) x.written (no-links p xs) k
  where
    by : (b : Bool) (w : Written) → (checkpoints_of p xs ≡ [] → links_of p xs ≡ []) → cond b (checkpoint_front w) [] ++ checkpoints_of p xs ≡ []
        → cond b (link_of x.base x.depth w) [] ++ links_of p xs ≡ []
    by true (checkpoint f l) rest k = absurd (let c : f ∷ checkpoints_of p xs ≡ [] = k in cc)
    by true (logged_event s) rest k = rest k
    by false w rest k = rest k

-- ---- none but the first is whole

abbrev IsDeep : Link → Type 0
IsDeep l = (l.depth == 0) ≡ false

abbrev pub AreDeepAfter : List Link → Type 0
AreDeepAfter [] = Unit {0}
AreDeepAfter (l ∷ ls) = AllByRecursion IsDeep ls

-- where the low front is all, a front that does not lie strictly within it is that
pub not-strictly : (low : List Front) (p : ℕ) (g : Front) → front_of low p ≡ [] → strictly low p g ≡ false → g ≡ []
not-strictly low p [] e k = refl
not-strictly low p (o ∷ os) e k =
    absurd (two_ways (strictly low p (o ∷ os)) (ap (λ f. is_within (o ∷ os) f && not (is_within f (o ∷ os))) e) k)

-- where what comes next does not pass up to a whole one, none of it is whole
all-deep : (low : List Front) (p : ℕ) → front_of low p ≡ [] → (xs : List Write) → ArePairs IsApart xs → EndsEvery p xs → spanned p (strictly low p) true xs ≡ false
    → AllByRecursion IsDeep (links_of p xs)
all-deep low p e [] a k s = tt
all-deep low p e (x ∷ xs) a k s =
    let rest = all-deep low p e xs a.1 (ends-later p x xs k) in
    elim (cases_Bool (x.node == p)) [
      | inr other ↦ subst (λ ls. AllByRecursion IsDeep (ls ++ links_of p xs)) (sym (link-none p x other)) (rest (sym (span-other p (strictly low p) x xs other) ∙ s))
      | inl own ↦ by own x.written refl rest
    ]
  where
    by : (x.node == p) ≡ true → (w : Written) → x.written ≡ w → (spanned p (strictly low p) true xs ≡ false → AllByRecursion IsDeep (links_of p xs))
        → AllByRecursion IsDeep (links_of p (x ∷ xs))
    by own (logged_event n) i rest =
        subst (λ ls. AllByRecursion IsDeep (ls ++ links_of p xs)) (sym (link-own p x (logged_event n) own i))
        (rest (sym (span-own p (strictly low p) x xs (logged_event n) own i) ∙ s))
    by own (checkpoint g l) i rest =
        let test = strictly low p in
        let is : cond (x.depth == 0) true (test g && spanned p test true xs) ≡ false = sym (span-own p test x xs (checkpoint g l) own i) ∙ s in
        subst (λ ls. AllByRecursion IsDeep (ls ++ links_of p xs)) (sym (link-own p x (checkpoint g l) own i))
        (elim (cases_Bool (x.depth == 0)) [
          | inl zero ↦ absurd (two_ways true refl (sym (ap (λ b. cond b true (test g && spanned p test true xs)) zero) ∙ is))
          | inr deep ↦ (
            deep,
            elim (cases_Bool (test g)) [
              | inl passes ↦ rest (sym (ap (λ b. b && spanned p test true xs) passes) ∙ (sym (ap (λ b. cond b true (test g && spanned p test true xs)) deep) ∙ is))
              | inr fails ↦
                  let every : IsEvery p x = (eqb-true x.node p own, (l, i ∙ ap (λ f. checkpoint f l) (not-strictly low p g e fails))) in
                  subst (AllByRecursion IsDeep) (sym (no-links p xs (none-after p x every xs a.0 (ends-later p x xs k)))) tt
            ],
          )
        ])

pub deep-kept : (sys : System) (low : List Front) (next : ℕ) (h : List SerialEvent) (p : ℕ) → IsOrderly sys low p → front_of low p ≡ [] → (xs : List Write) → AreAscending sys xs
    → ArePairs IsApart xs → EndsEvery p xs → AllByRecursion (IsWriteAskedWell sys low next h) xs → AreGoneExact sys low h xs → AreDeepAfter (links_of p (filter not_collected xs))
deep-kept sys low next h p o all [] a d k w x = tt
deep-kept sys low next h p o all (z ∷ zs) a d k w x =
    let more = deep-kept sys low next h p o all zs a.1 d.1 (ends-later p z zs k) w.1 x.1 in
    elim (cases_Bool (z.node == p)) [
      | inr other ↦ skip more (link-none p z other)
      | inl mine ↦ by more mine z.written refl
    ]
  where
    skip : AreDeepAfter (links_of p (filter not_collected zs)) → link_at p z ≡ [] → AreDeepAfter (links_of p (filter not_collected (z ∷ zs)))
    skip more none =
        cond_both (not_collected z) (z ∷ filter not_collected zs) (filter not_collected zs) (λ ys. AreDeepAfter (links_of p ys))
        (λ e. subst (λ ls. AreDeepAfter (ls ++ links_of p (filter not_collected zs))) (sym none) more) (λ e. more)

    by : AreDeepAfter (links_of p (filter not_collected zs)) → (z.node == p) ≡ true → (v : Written) → z.written ≡ v → AreDeepAfter (links_of p (filter not_collected (z ∷ zs)))
    by more mine (logged_event s) e = skip more (link-own p z (logged_event s) mine e)
    by more mine (checkpoint g l) e =
        let test = strictly low p in
        let at = eqb-true z.node p mine in
        let gone = gone-own sys low h p z zs g l at e in
        cond_both (not_collected z) (z ∷ filter not_collected zs) (filter not_collected zs) (λ ys. AreDeepAfter (links_of p ys))
        (λ stays.
        let never : (test g && spanned p test true zs) ≡ true → ⊥ = λ i. stage-gone z.stage stays (x.0.1 (gone ∙ i)) in
        subst (λ ls. AreDeepAfter (ls ++ links_of p (filter not_collected zs))) (sym (link-own p z (checkpoint g l) mine e))
        (elim (all-or-some sys low next h p o zs a.1 w.1 x.1) [
          | inl there ↦
              subst (AllByRecursion IsDeep) (sym (there-links p zs there))
              (elim (cases_Bool (test g)) [
                | inr fails ↦
                    let every : IsEvery p z = (at, (l, e ∙ ap (λ f. checkpoint f l) (not-strictly low p g all fails))) in
                    subst (AllByRecursion IsDeep) (sym (no-links p zs (none-after p z every zs d.0 (ends-later p z zs k)))) tt
                | inl passes ↦
                    all-deep low p all zs d.1 (ends-later p z zs k)
                    (false_from_ne_true (spanned p test true zs) (λ i. never (and_from (test g) (spanned p test true zs) passes i)))
              ])
          | inr some ↦
              absurd (never (and_from (test g) (spanned p test true zs)
              (some-passes sys low next h p o g l zs
              (subst (λ v. AllByRecursion (λ (y : Write). LiesBelow sys p v y.node y.written) zs) e (subst (λ q. AllByRecursion (λ (y : Write). LiesBelow sys q z.written y.node y.written) zs) at a.0))
              w.1 some.1) some.0))
        ]))
        (λ goes. more)

-- ---- how deep the last one is

deep-last : (last : Link) (ls : List Link) (l : Link) → IsChain (Some last) ls → AllByRecursion IsDeep ls → last_link (Some last) ls ≡ Some l → l.depth ≡ last.depth + length ls
deep-last last [] l c d k = let same : last ≡ l = cc in ap (λ (x : Link). x.depth) (sym same) ∙ omega arith
deep-last last (m ∷ ls) l c d k = elim c.0 [
  | inl whole ↦ absurd (two_ways (m.depth == 0) (eq-eqb m.depth 0 whole.1) d.0)
  | inr on ↦ let rest = deep-last m ls l c.1 d.1 k in let deeper = on.1 in omega (arith, rest, deeper)
]

pub chain-long : (ls : List Link) (l : Link) → IsChain None ls → AreDeepAfter ls → last_link None ls ≡ Some l → length ls ≡ l.depth + 1
chain-long [] l c d k = absurd (let e : None ≡ Some l = k in cc)
chain-long (m ∷ ls) l c d k = let rest = deep-last m ls l c.1 d k in let whole = c.0.1 in omega (arith, rest, whole)

-- ---- counting them

-- each write of node p is a checkpoint
abbrev pub AreCheckpoints : ℕ → List Write → Type 0
AreCheckpoints p xs = AllByRecursion (λ (x : Write). x.node ≡ p → (f : Front) × ((low : List Front) × (x.written ≡ checkpoint f low))) xs

pub count-links : (p : ℕ) (xs : List Write) → AreCheckpoints p xs → count_left p xs ≡ length (links_of p (filter not_collected xs))
count-links p [] a = refl
count-links p (x ∷ xs) a = by (x.node == p) (not_collected x) refl refl (count-links p xs a.1)
  where
    by : (own stays : Bool) → (x.node == p) ≡ own → not_collected x ≡ stays → count_left p xs ≡ length (links_of p (filter not_collected xs))
        → length (cond (own && stays) (x ∷ filter (λ (y : Write). (y.node == p) && not_collected y) xs) (filter (λ (y : Write). (y.node == p) && not_collected y) xs))
        ≡ length (links_of p (cond stays (x ∷ filter not_collected xs) (filter not_collected xs)))
    by true true k s rest =
        let is = a.0 (eqb-true x.node p k) in
        ap suc rest ∙ sym (ap (λ ls. length (ls ++ links_of p (filter not_collected xs))) (link-own p x (checkpoint is.0 is.1.0) k is.1.1))
    by true false k s rest = rest
    by false true k s rest = rest ∙ sym (ap (λ ls. length (ls ++ links_of p (filter not_collected xs))) (link-none p x k))
    by false false k s rest = rest

-- ---- the last one

pub ends-of : (p : ℕ) (xs : List Write) (f : Front) → (f ≡ [] → ⊥) → last_or f (checkpoints_of p xs) ≡ [] → EndsEvery p xs
ends-of p xs f n k = by (checkpoints_of p xs) refl
  where
    by : (fs : List Front) → checkpoints_of p xs ≡ fs → EndsEvery p xs
    by [] e = inl e
    by (g ∷ gs) e = inr (λ d. ap (last_or d) e ∙ sym (ap (last_or f) e) ∙ k)

-- the one that holds each stamp is the last link
last-from : (p : ℕ) (o : Option Link) (earlier : List Write) (x : Write) (later : List Write) → (link : Link) → link_at p x ≡ link ∷ [] → links_of p later ≡ []
    → last_link o (links_of p (earlier ++ x ∷ later)) ≡ Some link
last-from p o [] x later link is none = ap (λ ls. last_link o (ls ++ links_of p later)) is ∙ ap (last_link (Some link)) none
last-from p o (y ∷ ys) x later link is none =
    last-more o (link_at p y) (links_of p (ys ++ x ∷ later)) ∙ last-from p (last_link o (link_at p y)) ys x later link is none
  where
    last-more : (o : Option Link) (ks ls : List Link) → last_link o (ks ++ ls) ≡ last_link (last_link o ks) ls
    last-more o [] ls = refl
    last-more o (k ∷ ks) ls = last-more (Some k) ks ls

later-ends : (p : ℕ) (earlier : List Write) (x : Write) (later : List Write) → EndsEvery p (earlier ++ x ∷ later) → EndsEvery p later
later-ends p [] x later k = ends-later p x later k
later-ends p (y ∷ ys) x later k = later-ends p ys x later (ends-later p y (ys ++ x ∷ later) k)

later-apart : (earlier : List Write) (x : Write) (later : List Write) → ArePairs IsApart (earlier ++ x ∷ later)
    → AllByRecursion (λ (y : Write). IsApart x.node x.written y.node y.written) later
later-apart [] x later a = a.0
later-apart (y ∷ ys) x later a = later-apart ys x later a.1

pub last-every : (p : ℕ) (xs earlier : List Write) (x : Write) (later : List Write) → xs ≡ earlier ++ x ∷ later → IsEvery p x → ArePairs IsApart xs → EndsEvery p xs
    → last_link None (links_of p xs) ≡ Some (record { front = []; base = x.base; depth = x.depth })
last-every p xs earlier x later e i a k =
    let none = none-after p x i later (later-apart earlier x later (subst (ArePairs IsApart) e a)) (later-ends p earlier x later (subst (EndsEvery p) e k)) in
    ap (λ ys. last_link None (links_of p ys)) e
    ∙ last-from p None earlier x later (record { front = []; base = x.base; depth = x.depth })
    (link-own p x (checkpoint [] i.1.0) (eq-eqb x.node p i.0) i.1.1) (no-links p later none)

-- after the one that holds each stamp no write of the node comes
pub none-later : (p : ℕ) (xs earlier : List Write) (x : Write) (later : List Write) → xs ≡ earlier ++ x ∷ later → IsEvery p x → ArePairs IsApart xs → EndsEvery p xs
    → AreCheckpoints p xs → AllByRecursion (λ (y : Write). y.node ≡ p → ⊥) later
none-later p xs earlier x later e i a k are =
    along later
    (none-after p x i later (later-apart earlier x later (subst (ArePairs IsApart) e a)) (later-ends p earlier x later (subst (EndsEvery p) e k)))
    (each-suffix P earlier (x ∷ later) (subst (AllByRecursion P) e are)).1
  where
    P : Write → Type 0
    P y = y.node ≡ p → (f : Front) × ((low : List Front) × (y.written ≡ checkpoint f low))

    front-at : (y : Write) (f : Front) (low : List Front) → y.node ≡ p → y.written ≡ checkpoint f low → cond (y.node == p) (checkpoint_front y.written) [] ≡ f ∷ []
    front-at y f low at is = ap (λ b. cond b (checkpoint_front y.written) []) (eq-eqb y.node p at) ∙ ap checkpoint_front is

    parts-none : (fs gs : List Front) → fs ++ gs ≡ [] → (fs ≡ []) × (gs ≡ [])
    parts-none [] gs n = (refl, n)
    parts-none (f ∷ fs) gs n = absurd (let c : f ∷ (fs ++ gs) ≡ [] = n in cc)

    along : (ys : List Write) → checkpoints_of p ys ≡ [] → AllByRecursion P ys → AllByRecursion (λ (y : Write). y.node ≡ p → ⊥) ys
    along [] n b = tt
    along (y ∷ ys) n b =
        let parts = parts-none (cond (y.node == p) (checkpoint_front y.written) []) (checkpoints_of p ys) n in (
          (λ at. let is = b.0 at in let c : is.0 ∷ [] ≡ [] = sym (front-at y is.0 is.1.0 at is.1.1) ∙ parts.0 in absurd cc),
          along ys parts.1 b.1,
        )
