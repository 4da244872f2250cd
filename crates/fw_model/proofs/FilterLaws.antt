-- Lists of which some elements are kept, and what is pending of them.
use Rattle.std.proofs.Common.{◌≡◌, ◌+◌, Bool, true, false, cond, List, [], ◌∷◌, filter, refl, sym, ap, ◌∙◌, inl, inr}
use Rattle.std.specs.List.{AllByRecursion, list_any}
use Rattle.std.proofs.lemmas.Bool.{or_parts, or_from, cond-false, cond_both, cases_Bool}
use Rattle.fw_lemmas.proofs.Bools.{passes-not}
use Rattle.fw_lemmas.proofs.Each.{each-one}
use Rattle.fw_lemmas.proofs.Filters.{filter-in, filter-out, filter-inner}
use Rattle.fw_flow.specs.Counting.{how_many}
use Rattle.fw_flow.specs.declared.event.Message.{Message}
use Rattle.fw_flow.specs.Message.{messages_less}
use Rattle.fw_flow.proofs.MessageLaws.{filter-less}

-- ---- what is kept of a list

pub any_filter-none : {X : Type 0} (test k : X → Bool) (xs : List X) → list_any test xs ≡ false → list_any test (filter k xs) ≡ false
any_filter-none test k [] n = refl
any_filter-none test k (x ∷ xs) n =
    let a = or_parts (test x) (list_any test xs) n in
    let rest = any_filter-none test k xs a.1 in
    cond_both (k x) (x ∷ filter k xs) (filter k xs) (λ zs. list_any test zs ≡ false) (λ e. or_from (test x) (list_any test (filter k xs)) a.0 rest) (λ e. rest)

pub how_many-filter : {X : Type 0} (test k : X → Bool) (xs : List X) → AllByRecursion (λ x. test x ≡ true → k x ≡ true) xs → how_many test (filter k xs) ≡ how_many test xs
how_many-filter test k [] a = refl
how_many-filter test k (x ∷ xs) a = elim (cases_Bool (k x)) [
  | inl e ↦ ap (how_many test) (filter-in k x xs e) ∙ ap (λ n. cond (test x) (n + 1) n) (how_many-filter test k xs a.1)
  | inr e ↦ ap (how_many test) (filter-out k x xs e) ∙ how_many-filter test k xs a.1
      ∙ sym (cond-false (test x) (how_many test xs + 1) (how_many test xs) (passes-not (test x) (k x) a.0 e))
]

-- ---- what is pending of it

-- Of what was sent one test keeps some, of what was delivered another, which keeps less there: of what is pending then, the
-- second keeps what both keep of what was pending.
pub pending-kept : (inside from : Message → Bool) (ms ds : List Message) → AllByRecursion (λ d. inside d ≡ true → from d ≡ true) ds
    → filter inside (messages_less (filter from ms) (filter inside ds)) ≡ filter inside (filter from (messages_less ms ds))
pending-kept inside from ms ds a =
    filter-less inside (filter from ms) (filter inside ds)
    ∙ ap (messages_less (filter inside (filter from ms))) (filter-inner inside inside ds (each-one (λ d. inside d ≡ true → inside d ≡ true) ds (λ d i. i)) ∙ sym (filter-inner inside from ds a))
    ∙ sym (filter-less inside (filter from ms) (filter from ds))
    ∙ ap (filter inside) (sym (filter-less from ms ds))
