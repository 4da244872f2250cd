-- On which entries an entry stands, looked for from the last one.
use Rattle.std.proofs.Common.{◌≡◌, ℕ, Bool, true, false, ◌==◌, if◌then◌else◌, List, [], ◌∷◌, ◌++◌, reverse, Option, Some, None, refl, sym, ap, subst, ◌∙◌, append_assoc}
use Rattle.std.proofs.lemmas.Bool.{eqb-true}
use Rattle.std.proofs.lemmas.List.{reverse-append}
use Rattle.std.specs.List.{AllByRecursion, Contains}
use Rattle.fw_lemmas.proofs.Each.{each-append, each-there}
use Rattle.fw_keep.specs.declared.entry.Entry.{Entry}
use Rattle.fw_keep.specs.Catalogue.{ids_of}
use Rattle.fw_keep.specs.Joined.{chain_to}
use Rattle.fw_keep.proofs.IdLaws.{ids-more}

last-reversed : (es before : List Entry) (e : Entry) → es ≡ before ++ e ∷ [] → reverse es ≡ e ∷ reverse before
last-reversed es before e last = ap reverse last ∙ reverse-append before (e ∷ [])

-- the last one is wanted
pub chain_taken : (es before : List Entry) (e : Entry) (id : ℕ) (wanted : Option ℕ) (chain : List ℕ) → es ≡ before ++ e ∷ [] → wanted ≡ Some id → (e.id == id) ≡ true
    → ids_of (chain_to e.base (reverse before)) ++ reverse (chain ++ id ∷ []) ≡ ids_of (chain_to wanted (reverse es)) ++ reverse chain
chain_taken es before e id wanted chain last some is =
    let lower : List Entry = chain_to e.base (reverse before) in
    let here : chain_to wanted (reverse es) ≡ lower ++ e ∷ [] =
    ap (λ (w : Option ℕ). chain_to w (reverse es)) some ∙ ap (chain_to (Some id)) (last-reversed es before e last)
    ∙ ap (λ (b : Bool). if b then lower ++ e ∷ [] else chain_to (Some id) (reverse before)) is in
    ap (λ (rest : List ℕ). ids_of lower ++ rest) (reverse-append chain (id ∷ []))
    ∙ sym (append_assoc (ids_of lower) (id ∷ []) (reverse chain))
    ∙ ap (λ (n : ℕ). (ids_of lower ++ n ∷ []) ++ reverse chain) (sym (eqb-true e.id id is))
    ∙ ap (λ (ids : List ℕ). ids ++ reverse chain) (sym (ids-more lower e) ∙ ap ids_of (sym here))

-- it is not
pub chain_passed : (es before : List Entry) (e : Entry) (id : ℕ) (wanted : Option ℕ) (chain : List ℕ) → es ≡ before ++ e ∷ [] → wanted ≡ Some id → (e.id == id) ≡ false
    → ids_of (chain_to wanted (reverse before)) ++ reverse chain ≡ ids_of (chain_to wanted (reverse es)) ++ reverse chain
chain_passed es before e id wanted chain last some is =
    let here : chain_to wanted (reverse es) ≡ chain_to wanted (reverse before) =
    ap (λ (w : Option ℕ). chain_to w (reverse es)) some ∙ ap (chain_to (Some id)) (last-reversed es before e last)
    ∙ ap (λ (b : Bool). if b then chain_to e.base (reverse before) ++ e ∷ [] else chain_to (Some id) (reverse before)) is
    ∙ ap (λ (w : Option ℕ). chain_to w (reverse before)) (sym some) in
    ap (λ (xs : List Entry). ids_of xs ++ reverse chain) (sym here)

-- ---- those of a chain are among the entries

chain-each : (P : Entry → Type 0) (wanted : Option ℕ) (es : List Entry) → AllByRecursion P es → AllByRecursion P (chain_to wanted es)
chain-each P None es all = tt
chain-each P (Some id) [] all = tt
chain-each P (Some id) (e ∷ es) all = by (e.id == id) refl (chain-each P e.base es all.1) (chain-each P (Some id) es all.1)
  where
    by : (b : Bool) → (e.id == id) ≡ b → AllByRecursion P (chain_to e.base es) → AllByRecursion P (chain_to (Some id) es) → AllByRecursion P (chain_to (Some id) (e ∷ es))
    by true is lower later = rw is (each-append P (chain_to e.base es) (e ∷ []) lower (all.0, tt))
    by false is lower later = rw is later

pub each-reversed : (P : Entry → Type 0) (es : List Entry) → AllByRecursion P es → AllByRecursion P (reverse es)
each-reversed P [] all = tt
each-reversed P (e ∷ es) all =
    subst (AllByRecursion P) (sym (reverse-append (e ∷ []) es)) (each-append P (reverse es) (e ∷ []) (each-reversed P es all.1) (all.0, tt))

pub bases-there : (entries : List Entry) (wanted : Option ℕ) → AllByRecursion (Contains entries) (chain_to wanted (reverse entries))
bases-there entries wanted = chain-each (Contains entries) wanted (reverse entries) (each-reversed (Contains entries) entries (each-there entries))
