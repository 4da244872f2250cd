-- What is told as calls are noted, and the digests that stand beside it.
use Rattle.std.proofs.Common.{◌≡◌, ℕ, zero, suc, ◌==◌, ◌<◌, Bool, true, false, ◌&&◌, ◌||◌, cond, List, [], ◌∷◌, map, length, Option, Some, None, is_some, option_map, IsSome, IfSome, Contains, refl, sym, ap, ◌∙◌, subst, arith}
use Rattle.std.proofs.lemmas.Slice.Eq.{bytes_eq-Decides}
use Rattle.std.specs.Prelude.{unwrap_or, slice_index_or}
use Rattle.std.specs.Str.{bytes_eq}
use Rattle.std.proofs.lemmas.Bool.Decides.{nat_tests}
use Rattle.std.specs.Option.{ForSome}
use Rattle.std.specs.List.{list_all, list_any}
use Rattle.std.specs.Cmp.{nat_cmp_total, unsigned_Decides}
use Rattle.std.specs.Cmp.Lexicographic.{pointwise_decides}
use Rattle.std.specs.Ordering.{nat_cmp, eq_by_cmp}
use Rattle.std.specs.FinMap.{get, insert, remove, empty, entries, keys, get-insert, get-remove, contains_key-keys, len-entries, len-empty}
use Rattle.sha2.specs.Sha256.{sha256}
use Rattle.fw_heard.specs.Note.{Note, note_of}
use Rattle.fw_outside.specs.Outside.{StayIfTold}
use Rattle.fw_disk.specs.RunLines.{digests_of, digests_under, are_any, MayStand}
use Rattle.fw_disk.specs.Told.{Held, id_of, noted_under, digests_held, agrees_at, are_found, is_collision, told_when_opened, told_when_given, told_by, digests_in, knows, HasDigestsOf, IsClaimFor}
use Rattle.fw_disk.specs.declared.claim.Claim.{Claim}
use Rattle.fw_disk.specs.declared.claim.Wanted.{Wanted}
use Rattle.fw_disk.specs.declared.claim.Wanted.TheVariants.{Empty, AsLeft}

-- ---- numbers and options

equal_by_cmp : (q k : ℕ) → eq_by_cmp nat_cmp q k ≡ (k == q)
equal_by_cmp q k = grind (arith, nat_tests)

-- it is the same id, or another
by_id : (id q : ℕ) (P : Type 0) → (id ≡ q → (id == q) ≡ true → P) → ((q ≡ id → ⊥) → (id == q) ≡ false → P) → P
by_id id q P same other = by (id == q) refl
  where
    by : (b : Bool) → (id == q) ≡ b → P
    by true e = same ((unsigned_Decides id q).0 e) e
    by false e = other (λ s. let t = (unsigned_Decides id q).1 (sym s) in absurd (cc)) e

if_some : {T : Type 0} {P : T → Type 0} (o : Option T) → ForSome o P → IfSome o P
if_some None h = tt
if_some (Some x) h = h x refl

same_inside : {x y : Held} → ◌≡◌ {A = Option Held} (Some x) (Some y) → x ≡ y
same_inside {x} e = ap (λ (o : Option Held). unwrap_or o x) e

pub of_map : (f : Held → Held) (o : Option Held) (held : Held) → option_map f o ≡ Some held → (before : Held) × (o ≡ Some before) × (f before ≡ held)
of_map f None held e = absurd (cc)
of_map f (Some before) held e = (before, refl, same_inside e)

-- ---- what is told after a note

pub told_put : (first : Option Held) (notes : List Note) (id : ℕ) (bytes : List ℕ) → told_by first (note_of (0 ∷ id ∷ []) bytes ∷ notes) ≡ option_map (λ held. insert held id bytes) (told_by first notes)
told_put None notes id bytes = refl
told_put (Some f) notes id bytes = refl

pub told_gave : (first : Option Held) (notes : List Note) (id : ℕ) (bytes : List ℕ) → told_by first (note_of (1 ∷ id ∷ []) bytes ∷ notes) ≡ told_when_given id bytes (told_by first notes)
told_gave None notes id bytes = refl
told_gave (Some f) notes id bytes = refl

pub told_removed : (first : Option Held) (notes : List Note) (id : ℕ) → told_by first (note_of (2 ∷ id ∷ []) [] ∷ notes) ≡ option_map (λ held. remove held id) (told_by first notes)
told_removed None notes id = refl
told_removed (Some f) notes id = refl

pub told_not_removed : (first : Option Held) (notes : List Note) (id : ℕ) → told_by first (note_of (5 ∷ id ∷ []) [] ∷ notes) ≡ told_by first notes
told_not_removed None notes id = refl
told_not_removed (Some f) notes id = refl

-- ---- a put and a removal

module _ (first : Option Held) (notes : List Note) (before after : Option Claim) (wanted : Wanted) (id : ℕ) where
  module _ (h : ForSome (told_by first notes) (HasDigestsOf before wanted)) (known : knows after wanted ≡ true)
      (others : (q : ℕ) → (q ≡ id → ⊥) → digests_in after q ≡ digests_in before q) where
    changed : (new : List (List ℕ)) (change : Option (List ℕ) → Option (List ℕ)) (f : Held → Held) → digests_in after id ≡ new → ((held : Held) → new ≡ digests_held (get (f held) id))
        → ((held : Held) (q : ℕ) → (id == q) ≡ false → get (f held) q ≡ get held q) → ForSome (option_map f (told_by first notes)) (HasDigestsOf after wanted)
    changed new change f stands here there held e =
        let m = of_map f (told_by first notes) held e in
        subst (HasDigestsOf after wanted) m.2 (
          known,
          λ q. by_id id q (digests_in after q ≡ digests_held (get (f m.0) q))
              (λ s t. subst (λ x. digests_in after x ≡ digests_held (get (f m.0) x)) s (stands ∙ here m.0))
              (λ apart t. others q apart ∙ (h m.0 m.1).1 q ∙ ap digests_held (sym (there m.0 q t))),
        )

    pub put_kept : (bytes : List ℕ) → digests_in after id ≡ sha256 bytes ∷ [] → ForSome (told_by first (note_of (0 ∷ id ∷ []) bytes ∷ notes)) (HasDigestsOf after wanted)
    put_kept bytes stands =
        subst (λ o. ForSome o (HasDigestsOf after wanted)) (sym (told_put first notes id bytes))
        (changed (sha256 bytes ∷ []) (λ o. Some bytes) (λ held. insert held id bytes) stands
        (λ held. ap digests_held (sym (get-insert nat_cmp_total held id bytes id ∙ ap (λ b. cond b (Some bytes) (get held id)) (equal_by_cmp id id ∙ (unsigned_Decides id id).1 refl))))
        (λ held q t. get-insert nat_cmp_total held id bytes q ∙ ap (λ b. cond b (Some bytes) (get held q)) (equal_by_cmp q id ∙ t)))

    pub removed_kept : digests_in after id ≡ [] → ForSome (told_by first (note_of (2 ∷ id ∷ []) [] ∷ notes)) (HasDigestsOf after wanted)
    removed_kept stands =
        subst (λ o. ForSome o (HasDigestsOf after wanted)) (sym (told_removed first notes id))
        (changed [] (λ o. None) (λ held. remove held id) stands
        (λ held. ap digests_held (sym (get-remove nat_cmp_total held id id ∙ ap (λ b. cond b None (get held id)) (equal_by_cmp id id ∙ (unsigned_Decides id id).1 refl))))
        (λ held q t. get-remove nat_cmp_total held id q ∙ ap (λ b. cond b None (get held q)) (equal_by_cmp q id ∙ t)))

-- ---- a call that was refused

-- what stands under one id and under all others, stands under each
pub at_each_id : (before after : Option Claim) (id : ℕ) → digests_in after id ≡ digests_in before id → ((q : ℕ) → (q ≡ id → ⊥) → digests_in after q ≡ digests_in before q) → (q : ℕ) → digests_in after q ≡ digests_in before q
at_each_id before after id here others q = by_id id q (digests_in after q ≡ digests_in before q) (λ s t. subst (λ x. digests_in after x ≡ digests_in before x) s here) (λ apart t. others q apart)

pub same_kept : (first : Option Held) (notes : List Note) (before after : Option Claim) (wanted : Wanted) → knows after wanted ≡ true → ((q : ℕ) → digests_in after q ≡ digests_in before q)
    → ForSome (told_by first notes) (HasDigestsOf before wanted) → ForSome (told_by first notes) (HasDigestsOf after wanted)
same_kept first notes before after wanted known same h held e = (known, λ q. same q ∙ (h held e).1 q)

-- ---- bytes that were given

pub given_from : (id : ℕ) (bytes : List ℕ) (o : Option Held) (held : Held) → told_when_given id bytes o ≡ Some held → (o ≡ Some held) × (is_collision bytes (get held id) ≡ false)
given_from id bytes None held e = absurd (cc)
given_from id bytes (Some h) held e = by (is_collision bytes (get h id)) refl e
  where
    by : (b : Bool) → is_collision bytes (get h id) ≡ b → ◌≡◌ {A = Option Held} (cond b None (Some h)) (Some held) → ◌≡◌ {A = Option Held} (Some h) (Some held) × (is_collision bytes (get held id) ≡ false)
    by true c e = absurd (cc)
    by false c e = (e, subst (λ x. is_collision bytes (get x id) ≡ false) (same_inside e) c)

given_stays : (id : ℕ) (bytes : List ℕ) (o : Option Held) → StayIfTold o (told_when_given id bytes o)
given_stays id bytes None = λ told. refl
given_stays id bytes (Some h) = by (is_collision bytes (get h id))
  where
    by : (b : Bool) → StayIfTold (Some h) (cond b None (Some h))
    by true told = absurd (cc)
    by false told = refl

-- one digest alone stands, and this one may
alone : (o : Option (List (List ℕ))) (d e : List ℕ) → unwrap_or o [] ≡ d ∷ [] → IfSome o (λ ds. Contains ds e) → e ≡ d
alone None d e is may = absurd (cc)
alone (Some ds) d e is may = by (subst (λ (xs : List (List ℕ)). Contains xs e) is may)
  where
    at : (k : ℕ) → k < 1 → slice_index_or (d ∷ []) k e ≡ e → e ≡ d
    at zero k e = sym e
    at (suc k) l e = absurd (omega arith)

    by : Contains (d ∷ []) e → e ≡ d
    by c = at c.0 c.1 c.2

no_collision : (bytes held : List ℕ) → sha256 bytes ≡ sha256 held → is_collision bytes (Some held) ≡ false → bytes ≡ held
no_collision bytes held same none = by (bytes_eq bytes held) refl
  where
    by : (b : Bool) → bytes_eq bytes held ≡ b → bytes ≡ held
    by true e = (bytes_eq-Decides bytes held).0 e
    by false e = let s = (bytes_eq-Decides (sha256 bytes) (sha256 held)).1 same in absurd (cc)

module _ (first : Option Held) (notes : List Note) (claim : Claim) (wanted : Wanted) (id : ℕ) (bytes : List ℕ) where
  abbrev gave : List Note
  gave = note_of (1 ∷ id ∷ []) bytes ∷ notes

  pub gave_stays : StayIfTold (told_by first notes) (told_by first gave)
  gave_stays = subst (StayIfTold (told_by first notes)) (sym (told_gave first notes id bytes)) (given_stays id bytes (told_by first notes))

  module _ (h : ForSome (told_by first notes) (HasDigestsOf (Some claim) wanted)) where
    pub gave_kept : ForSome (told_by first gave) (HasDigestsOf (Some claim) wanted)
    gave_kept held e = h held (given_from id bytes (told_by first notes) held (sym (told_gave first notes id bytes) ∙ e)).0

    pub gave_bytes : ForSome (told_by first notes) (λ held. IsSome (get held id)) → MayStand claim.lines.told id (sha256 bytes) → IfSome (told_by first gave) (λ held. get held id ≡ Some bytes)
    gave_bytes there may = if_some (told_by first gave) (λ held e.
        let g = given_from id bytes (told_by first notes) held (sym (told_gave first notes id bytes) ∙ e) in
        by held (get held id) refl (there held g.0) ((h held g.0).1 id) g.1)
      where
        by : (held : Held) (o : Option (List ℕ)) → get held id ≡ o → IsSome (get held id) → digests_under claim.lines.told id ≡ digests_held (get held id) → is_collision bytes (get held id) ≡ false → get held id ≡ Some bytes
        by held None e some is none = absurd (cc)
        by held (Some y) e some is none =
            e ∙ ap Some (sym (no_collision bytes y (alone (digests_of claim.lines.told id) (sha256 y) (sha256 bytes) (is ∙ ap digests_held e) may) (subst (λ o. is_collision bytes o ≡ false) e none)))

-- ---- whether a record is there

any_held : (o : Option (List ℕ)) → are_any (digests_held o) ≡ is_some o
any_held None = refl
any_held (Some bytes) = refl

pub has_told : (first : Option Held) (notes : List Note) (claim : Option Claim) (wanted : Wanted) (id : ℕ) (there : Bool) → ForSome (told_by first notes) (HasDigestsOf claim wanted)
    → there ≡ are_any (digests_in claim id) → IfSome (told_by first notes) (λ held. there ≡ is_some (get held id))
has_told first notes claim wanted id there h is = if_some (told_by first notes) (λ held e. is ∙ ap are_any ((h held e).1 id) ∙ any_held (get held id))

-- ---- a folder that is opened

any_passes : (p : ℕ → Bool) (q : ℕ) (xs : List ℕ) → list_all p xs ≡ true → list_any (eq_by_cmp nat_cmp q) xs ≡ true → p q ≡ true
any_passes p q [] all any = absurd (cc)
any_passes p q (x ∷ xs) all any =
    by_id x q (p q ≡ true) (λ s t. subst (λ y. p y ≡ true) s (head (p x) (list_all p xs) all)) (λ apart t. any_passes p q xs (tail (p x) (list_all p xs) all) (later (eq_by_cmp nat_cmp q x) (list_any (eq_by_cmp nat_cmp q) xs) (equal_by_cmp q x ∙ t) any))
  where
    head : (a b : Bool) → (a && b) ≡ true → a ≡ true
    head true b e = refl
    head false b e = e

    tail : (a b : Bool) → (a && b) ≡ true → b ≡ true
    tail true b e = e
    tail false b e = absurd (cc)

    later : (a b : Bool) → a ≡ false → (a || b) ≡ true → b ≡ true
    later true b f e = absurd (cc)
    later false b f e = e

none_noted : (found : List Note) (q : ℕ) → list_any (eq_by_cmp nat_cmp q) (map id_of found) ≡ false → noted_under found q ≡ []
none_noted [] q none = refl
none_noted (note ∷ earlier) q none = by (none_noted earlier q) (eq_by_cmp nat_cmp q (id_of note)) (equal_by_cmp q (id_of note)) none
  where
    by : (list_any (eq_by_cmp nat_cmp q) (map id_of earlier) ≡ false → noted_under earlier q ≡ []) → (b : Bool) → b ≡ (id_of note == q) → (b || list_any (eq_by_cmp nat_cmp q) (map id_of earlier)) ≡ false → noted_under (note ∷ earlier) q ≡ []
    by rest true e n = absurd (cc)
    by rest false e n = ap (λ b. cond b (note.1 ∷ noted_under earlier q) (noted_under earlier q)) (sym e) ∙ rest n

agree : (found : List Note) (held : Held) (q : ℕ) → agrees_at found held q ≡ true → noted_under found q ≡ digests_held (get held q)
agree found held q = (pointwise_decides bytes_eq-Decides (noted_under found q) (digests_held (get held q))).0

both : (a b : Bool) → (a && b) ≡ true → (a ≡ true) × (b ≡ true)
both true b e = (refl, e)
both false b e = absurd (cc)

found_held : (found : List Note) (held : Held) → are_found found held ≡ true → (q : ℕ) → noted_under found q ≡ digests_held (get held q)
found_held found held e q = by (list_any (eq_by_cmp nat_cmp q) (map id_of found)) refl (list_any (eq_by_cmp nat_cmp q) (keys held)) refl
  where
    all : (list_all (agrees_at found held) (map id_of found) ≡ true) × (list_all (agrees_at found held) (keys held) ≡ true)
    all = both (list_all (agrees_at found held) (map id_of found)) (list_all (agrees_at found held) (keys held)) e

    none_held : (o : Option (List ℕ)) → is_some o ≡ false → [] ≡ digests_held o
    none_held None n = refl
    none_held (Some y) n = absurd (cc)

    by : (a : Bool) → list_any (eq_by_cmp nat_cmp q) (map id_of found) ≡ a → (b : Bool) → list_any (eq_by_cmp nat_cmp q) (keys held) ≡ b → noted_under found q ≡ digests_held (get held q)
    by true x b y = agree found held q (any_passes (agrees_at found held) q (map id_of found) all.0 x)
    by false x true y = agree found held q (any_passes (agrees_at found held) q (keys held) all.1 y)
    by false x false y = none_noted found q x ∙ none_held (get held q) (contains_key-keys held q ∙ y)

pub opened_from : (f : Held) (found : List Note) (held : Held) → told_when_opened f found ≡ Some held → (are_found found f ≡ true) × (f ≡ held)
opened_from f found held e = by (are_found found f) refl e
  where
    by : (b : Bool) → are_found found f ≡ b → ◌≡◌ {A = Option Held} (cond b (Some f) None) (Some held) → (are_found found f ≡ true) × (f ≡ held)
    by true is e = (is, same_inside e)
    by false is e = absurd (cc)

pub opened_kept : (first : Option Held) (found : List Note) (claim : Option Claim) (wanted : Wanted) → knows claim wanted ≡ true → ((q : ℕ) → digests_in claim q ≡ noted_under found q)
    → ForSome (told_by first (note_of (4 ∷ []) [] ∷ found)) (HasDigestsOf claim wanted)
opened_kept None found claim wanted known is held e = absurd (cc)
opened_kept (Some f) found claim wanted known is held e =
    let o = opened_from f found held e in
    (known, λ q. is q ∙ found_held found f o.0 q ∙ ap (λ h. digests_held (get h q)) o.1)

pub opened_stays : (first : Option Held) (found : List Note) → StayIfTold first (told_by first (note_of (4 ∷ []) [] ∷ found))
opened_stays None found = λ told. refl
opened_stays (Some f) found = by (are_found found f)
  where
    by : (b : Bool) → StayIfTold (Some f) (cond b (Some f) None)
    by true told = refl
    by false told = absurd (cc)

-- where what stands is what is held, by the digests, it is found
pub opened_tells : (first : Option Held) (found : List Note) (claim : Option Claim) (wanted : Wanted) → ((q : ℕ) → digests_in claim q ≡ noted_under found q)
    → IfSome first (λ held. HasDigestsOf claim wanted held → told_by first (note_of (4 ∷ []) [] ∷ found) ≡ Some held)
opened_tells None found claim wanted is = tt
opened_tells (Some f) found claim wanted is = λ h.
    ap (λ b. cond b (Some f) None) ((λ i. passes h (map id_of found) i && passes h (keys f) i))
  where
    passes : HasDigestsOf claim wanted f → (xs : List ℕ) → list_all (agrees_at found f) xs ≡ true
    passes h [] = refl
    passes h (x ∷ xs) = (λ i. (pointwise_decides bytes_eq-Decides (noted_under found x) (digests_held (get f x))).1 (sym (is x) ∙ h.1 x) i && passes h xs i)

no_length : (es : List (ℕ × List ℕ)) → length es ≡ 0 → es ≡ []
no_length [] e = refl
no_length (x ∷ es) e = absurd (omega arith)

abbrev nothing : Held
nothing = empty

no_keys : keys nothing ≡ []
no_keys = ap (map (λ (e : ℕ × List ℕ). e.0)) (no_length (entries nothing) (sym (len-entries nothing) ∙ len-empty nat_cmp (List ℕ)))

-- a new store tells what its folder held, where that is nothing
pub opened_new : (first : Option Held) → IfSome first (λ held. held ≡ empty) → told_by first (note_of (4 ∷ []) [] ∷ []) ≡ first
opened_new None h = refl
opened_new (Some f) h = ap (λ b. cond b (Some f) None) (ap (list_all (agrees_at [] f)) (ap keys h ∙ no_keys))

-- ---- a claim that is made

pub claim_kept : (claim : Claim) (wanted : Wanted) (held : Held) → IsClaimFor wanted claim → HasDigestsOf None wanted held → HasDigestsOf (Some claim) wanted held
claim_kept claim Empty held is h = (refl, λ q. is q ∙ h.1 q)
claim_kept claim AsLeft held is h = absurd (let e = h.0 in cc)
