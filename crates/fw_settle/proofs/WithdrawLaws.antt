-- The writes behind the first so many are withdrawn.
use Rattle.std.proofs.Common.{◌≡◌, ℕ, ◌<◌, ◌≤◌, false, not, List, [], ◌∷◌, ◌++◌, filter, length, get_or, sym, ap, subst, ◌∙◌, arith}
use Rattle.std.specs.List.{AllByRecursion}
use Rattle.std.proofs.lemmas.List.{append-nil, length-append}
use Rattle.std.proofs.Math.Seq.{get_or-append_seam}
use Rattle.fw_lemmas.proofs.Each.{each-weaker, each-both, each_of-map}
use Rattle.fw_keep.specs.declared.entry.Entry.{Entry}
use Rattle.fw_keep.specs.Catalogue.{ids_of, AreAscending, AreInFlight}
use Rattle.fw_keep.specs.Entry.{is_withdrawn}
use Rattle.fw_stands.proofs.EntrySteps.{withdrawn_are_the_last}

-- the ids before an entry are less than its own, and those from it on are not
split-ids : (before rest : List Entry) (e : Entry) → AreAscending (ids_of (before ++ e ∷ rest))
    → AllByRecursion (λ id. id < e.id) (ids_of before) × AllByRecursion (λ (x : Entry). e.id ≤ x.id) (e ∷ rest)
split-ids [] rest e a =
    (tt, (omega arith, each-weaker (λ (x : Entry). e.id < x.id) (λ (x : Entry). e.id ≤ x.id) rest (λ x l. omega (arith, l)) (each_of-map (λ id. e.id < id) (λ (x : Entry). x.id) rest a.0)))
split-ids (x ∷ before) rest e a =
    let below = split-ids before rest e a.1 in
    ((first before a.0, below.0), below.1)
  where
    first : (xs : List Entry) → AllByRecursion (λ later. x.id < later) (ids_of (xs ++ e ∷ rest)) → x.id < e.id
    first [] k = k.0
    first (y ∷ ys) k = first ys k.1

-- the entry behind the first so many is the first of those that are withdrawn
pub withdrawn-some : (entries : List Entry) (count : ℕ) (e : Entry) → AreAscending (ids_of entries) → count < length entries → e ≡ get_or entries count e
    → (before more : List Entry) → entries ≡ before ++ more → length before ≡ count → AreInFlight more → filter (λ x. not (is_withdrawn e.id x)) entries ≡ before
withdrawn-some entries count e a there got before [] is l fly =
    let long = ap length (is ∙ append-nil before) in
    absurd (omega (arith, long, l, there))
withdrawn-some entries count e a there got before (x ∷ rest) is l fly =
    let here : x ≡ e = sym (got ∙ ap (λ es. get_or es count e) is ∙ ap (λ n. get_or (before ++ x ∷ rest) n e) (sym l) ∙ get_or-append_seam before x rest e) in
    let parts = split-ids before rest x (subst (λ es. AreAscending (ids_of es)) is a) in
    ap (filter (λ y. not (is_withdrawn e.id y))) is
    ∙ ap (λ first. filter (λ y. not (is_withdrawn first y)) (before ++ x ∷ rest)) (sym (ap (λ (y : Entry). y.id) here))
    ∙ withdrawn_are_the_last x.id before (x ∷ rest) parts.0
    (each-both (λ (y : Entry). y.acknowledged ≡ false) (λ (y : Entry). x.id ≤ y.id) (x ∷ rest) fly parts.1)

-- where there are no more, nothing is withdrawn
pub withdrawn-none : (entries : List Entry) (count : ℕ) → length entries ≤ count
    → (before more : List Entry) → entries ≡ before ++ more → length before ≡ count → entries ≡ before
withdrawn-none entries count few before [] is l = is ∙ append-nil before
withdrawn-none entries count few before (x ∷ rest) is l =
    let long = length-append before (x ∷ rest) in
    let all = ap length is in
    absurd (omega (arith, long, all, l, few))
