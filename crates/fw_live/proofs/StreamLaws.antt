-- Lines of a stream.
use Rattle.std.proofs.Common.{◌≡◌, ◌≢◌, ℕ, zero, suc, ◌+◌, ◌≤◌, ◌<◌, not, true, false, cond, List, [], ◌∷◌, ◌++◌, All, Option, None, Some, IfSome, length, take, get_or, refl, sym, ap, subst, ◌∙◌, ne_eqb, true≢false, arith}
use Rattle.std.proofs.lemmas.List.{append-nil, append_assoc, length-append, take_more, get_or-take}
use Rattle.std.proofs.lemmas.List.Elements.{All-head, All-tail, All-append}
use Rattle.std.proofs.lemmas.List.Sums.{prefix_len_passes}
use Rattle.std.proofs.BufReadLemmas.{drop_through-append}
use Rattle.std.proofs.KnownBytes.{Consumes-trans}
use Rattle.std.specs.List.{prefix_len}
use Rattle.std.specs.Io.BufRead.{DropsThrough, drop_through}
use Rattle.std.specs.Io.KnownBytes.{Consumes, IsAtEnd, Keeps}
use Rattle.fw_lines.specs.Lines.{is_line_feed}
use Rattle.fw_live.specs.declared.line_source.NextLine.{NextLine}
use Rattle.fw_live.specs.declared.stream_lines.Met.{Met}
use Rattle.fw_live.specs.declared.stream_lines.Met.TheVariants.{LineFeed, End, Part}
use Rattle.fw_live.specs.Asked.{first_line}
use Rattle.fw_live.specs.Given.{IsLineOf, MeetsBy}

-- ---- the first line

take-one : (n x : ℕ) (xs : List ℕ) → take (1 + n) (x ∷ xs) ≡ x ∷ take n xs
take-one n x xs = let one : 1 + n ≡ suc n = omega arith in ap (λ k. take k (x ∷ xs)) one

-- behind bytes without a line feed it goes on
pub first-append : (line rest : List ℕ) → All (λ b. b ≢ 10) line → first_line (line ++ rest) ≡ line ++ first_line rest
first-append [] rest h = refl
first-append (x ∷ line) rest h =
    ap (λ b. take (cond (not b) (1 + prefix_len (λ c. not (is_line_feed c)) (line ++ rest)) 0) (x ∷ (line ++ rest)))
    (ne_eqb x 10 (All-head (λ b. b ≢ 10) x line h))
    ∙ take-one (prefix_len (λ c. not (is_line_feed c)) (line ++ rest)) x (line ++ rest)
    ∙ ap (λ l. x ∷ l) (first-append line rest (All-tail (λ b. b ≢ 10) x line h))

-- it has no line feed, and its bytes are the first
pub first-lacks : (xs : List ℕ) → All (λ b. b ≢ 10) (first_line xs)
first-lacks xs = λ k d h.
    let n = prefix_len (λ b. not (is_line_feed b)) xs in
    let l : k < n = omega (arith, h, length-take-min n xs) in
    feeds (get_or xs k d) (prefix_len_passes (λ b. not (is_line_feed b)) xs k d l) (get_or-take n xs k d l)
  where
    length-take-min : (n : ℕ) (ys : List ℕ) → length (take n ys) ≤ n
    length-take-min zero ys = omega arith
    length-take-min (suc n) [] = omega arith
    length-take-min (suc n) (y ∷ ys) = omega (arith, length-take-min n ys)

    feeds : (b : ℕ) → not (is_line_feed b) ≡ true → {c : ℕ} → c ≡ b → c ≢ 10
    feeds b passes e f = absurd (at b (sym e ∙ f) passes)
      where
        at : (b : ℕ) → b ≡ 10 → not (is_line_feed b) ≡ true → ⊥
        at b g p = true≢false (sym (subst (λ c. not (is_line_feed c) ≡ true) g p))

pub lacks-by : (line xs : List ℕ) → line ≡ first_line xs → All (λ b. b ≢ 10) line
lacks-by line xs e = subst (All (λ b. b ≢ 10)) (sym e) (first-lacks xs)

-- where nothing is shown, nothing is left
pub end-shown : (a : Option (List ℕ)) (shown : List ℕ) → IfSome a (λ xs. length shown ≡ 0 → xs ≡ []) → length shown ≡ 0 → IsAtEnd a
end-shown None shown end none = tt
end-shown (Some xs) shown end none = end none

pub take-front : (n : ℕ) (xs : List ℕ) → take n xs ≡ take (length (take n xs)) xs
take-front zero xs = refl
take-front (suc n) [] = refl
take-front (suc n) (x ∷ xs) = ap (λ l. x ∷ l) (take-front n xs)

pub take-within : (n : ℕ) (xs : List ℕ) → length (take n xs) ≤ length xs
take-within zero xs = omega arith
take-within (suc n) [] = omega arith
take-within (suc n) (x ∷ xs) = omega (arith, take-within n xs)

pub first-front : (part shown : List ℕ) → part ≡ first_line shown → take (length part) shown ≡ part
first-front part shown e =
    ap (λ l. take (length l) shown) e ∙ sym (take-front (prefix_len (λ b. not (is_line_feed b)) shown) shown) ∙ sym e

pub first-within : (part shown : List ℕ) → part ≡ first_line shown → length part ≤ length shown
first-within part shown e = omega (arith, ap length e, take-within (prefix_len (λ b. not (is_line_feed b)) shown) shown)

-- and a line feed behind it
pub first-fed : (part shown : List ℕ) → part ≡ first_line shown → length part < length shown → get_or shown (length part) 0 ≡ 10
    → take (length part + 1) shown ≡ part ++ 10 ∷ []
first-fed part shown e l ten =
    take_more shown (length part) 0 l ∙ ap (λ b. take (length part) shown ++ b ∷ []) ten ∙ ap (λ front. front ++ 10 ∷ []) (first-front part shown e)

-- ---- what a stream that tells its bytes had left

-- a line, and a line feed behind it
pub line-fed : (a c : Option (List ℕ)) (line : List ℕ) → All (λ b. b ≢ 10) line → Consumes a c (line ++ 10 ∷ [])
    → IfSome a (λ xs. (xs ≢ []) × (line ≡ first_line xs)) × DropsThrough a c 10
line-fed None c line h p = (tt, tt)
line-fed (Some x) None line h p = absurd p
line-fed (Some x) (Some z) line h p =
    let is : x ≡ line ++ 10 ∷ z = p ∙ append_assoc line (10 ∷ []) z in (
      (
        λ e. omega (arith, ap length (sym is ∙ e), length-append line (10 ∷ z)),
        sym (ap first_line is ∙ first-append line (10 ∷ z) h ∙ append-nil line),
      ),
      ap Some (sym (ap (drop_through 10) is ∙ drop_through-append 10 line (10 ∷ z) h)),
    )

-- a line, and no byte behind it
pub line-ended : (a b c : Option (List ℕ)) (line : List ℕ) → All (λ d. d ≢ 10) line → Consumes a b line → IsAtEnd b → Keeps b c
    → IfSome a (λ xs. (xs ≡ line) × (line ≡ first_line xs)) × DropsThrough a c 10
line-ended None b c line h p end kept = (tt, tt)
line-ended (Some x) None c line h p end kept = absurd p
line-ended (Some x) (Some y) None line h p end kept = absurd kept
line-ended (Some x) (Some y) (Some z) line h p end kept =
    let behind : x ≡ line ++ [] = p ∙ ap (λ l. line ++ l) end in (
      (behind ∙ append-nil line, sym (ap first_line behind ∙ first-append line [] h ∙ append-nil line)),
      ap Some (kept ∙ end ∙ sym (ap (drop_through 10) behind ∙ drop_through-append 10 line [] h)),
    )

-- more of a line than the limit, and what is passed over
pub line-long : (a b c : Option (List ℕ)) (line : List ℕ) (limit : ℕ) → All (λ d. d ≢ 10) line → Consumes a b line → limit < length line
    → DropsThrough b c 10 → IfSome a (λ xs. limit < length (first_line xs)) × DropsThrough a c 10
line-long None b c line limit h p long passed = (tt, tt)
line-long (Some x) None c line limit h p long passed = absurd p
line-long (Some x) (Some y) c line limit h p long passed = (
  omega (arith, long, ap length (ap first_line p ∙ first-append line y h), length-append line (first_line y)),
  passed ∙ ap Some (sym (ap (drop_through 10) p ∙ drop_through-append 10 line y h)),
)

-- ---- what was read of a line so far, and the next part of it

-- the next part of a stream came so
abbrev pub HasMet : Met → Option (List ℕ) → Option (List ℕ) → List ℕ → List ℕ → Type 0
HasMet met before after old new =
    (bytes : List ℕ) × (new ≡ old ++ bytes) × All (λ b. b ≢ 10) bytes × MeetsBy met before after bytes

pub part-met : (a b c : Option (List ℕ)) (old new : List ℕ) → Consumes a b old → All (λ d. d ≢ 10) old → HasMet Part b c old new
    → Consumes a c new × All (λ d. d ≢ 10) new
part-met a b c old new read lacks (bytes, is, some, met) = (
  subst (Consumes a c) (sym is) (Consumes-trans a b c old bytes read met),
  subst (All (λ d. d ≢ 10)) (sym is) (All-append (λ d. d ≢ 10) old bytes lacks some),
)

-- this line came, if it is within the limit
abbrev pub ComesWithin : ℕ → NextLine → List ℕ → Type 0
ComesWithin limit next line = (xs : List ℕ) → xs ≢ [] → line ≡ first_line xs → IsLineOf limit xs next line

if-line : (limit : ℕ) (a : Option (List ℕ)) (next : NextLine) (line : List ℕ) → ComesWithin limit next line
    → IfSome a (λ xs. (xs ≢ []) × (line ≡ first_line xs)) → IfSome a (λ xs. IsLineOf limit xs next line)
if-line limit None next line within p = tt
if-line limit (Some xs) next line within p = within xs p.0 p.1

pub fed-met : (limit : ℕ) (a b c : Option (List ℕ)) (old new : List ℕ) (next : NextLine) → Consumes a b old → All (λ d. d ≢ 10) old
    → HasMet LineFeed b c old new → ComesWithin limit next new → IfSome a (λ xs. IsLineOf limit xs next new) × DropsThrough a c 10
fed-met limit a b c old new next read lacks (bytes, is, some, met) within =
    let both = subst (Consumes a c) (sym (append_assoc old bytes (10 ∷ []))) (Consumes-trans a b c old (bytes ++ 10 ∷ []) read met) in
    let r = line-fed a c (old ++ bytes) (All-append (λ d. d ≢ 10) old bytes lacks some) both in
    (if-line limit a next new within (subst (λ l. IfSome a (λ xs. (xs ≢ []) × (l ≡ first_line xs))) (sym is) r.0), r.1)

-- no byte is left
same-old : (old new bytes : List ℕ) → new ≡ old ++ bytes → bytes ≡ [] → new ≡ old
same-old old new bytes is none = is ∙ ap (λ l. old ++ l) none ∙ append-nil old

if-some : (a : Option (List ℕ)) (line : List ℕ) → (line ≡ [] → ⊥) → IfSome a (λ xs. (xs ≡ line) × (line ≡ first_line xs))
    → IfSome a (λ xs. (xs ≢ []) × (line ≡ first_line xs))
if-some None line some p = tt
if-some (Some xs) line some p = (λ e. some (sym p.0 ∙ e), p.1)

pub last-met : (limit : ℕ) (a b c : Option (List ℕ)) (old new : List ℕ) (next : NextLine) → Consumes a b old → All (λ d. d ≢ 10) old
    → HasMet End b c old new → (new ≡ [] → ⊥) → ComesWithin limit next new → IfSome a (λ xs. IsLineOf limit xs next new) × DropsThrough a c 10
last-met limit a b c old new next read lacks (bytes, is, some, (none, end, kept)) full within =
    let same = same-old old new bytes is none in
    let r = line-ended a b c old lacks read end kept in
    (if-line limit a next new within (if-some a new full (subst (λ l. IfSome a (λ xs. (xs ≡ l) × (l ≡ first_line xs))) (sym same) r.0)), r.1)
