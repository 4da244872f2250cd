-- What records hold together: one of them more.
use Rattle.std.proofs.Common.{◌≡◌, ℕ, ◌+◌, ◌<◌, ◌≤◌, List, [], ◌∷◌, ◌++◌, length, get_or, drop, refl, sym, ap, ◌∙◌, append_assoc}
use Rattle.std.specs.List.{flat_map}
use Rattle.std.specs.Ordering.{nat_cmp}
use Rattle.std.specs.BTreeMap.{insert_entry}
use Rattle.std.proofs.lemmas.List.{at_drop_more, drop_all}
use Rattle.fw_time.specs.Stamp.{Stamp, stamp_cmp}
use Rattle.fw_bag.specs.declared.rec.Rec.{Rec}
use Rattle.fw_frontier.specs.declared.state.SentCount.{SentCount}
use Rattle.fw_record.specs.declared.logged.Logged.{Logged}
use Rattle.fw_record.specs.declared.record.Record.{Record}
use Rattle.fw_keep.specs.Joined.{counts_over, totals_over}

counts-append : (es : List (Stamp × ℕ)) (xs ys : List SentCount) → counts_over es (xs ++ ys) ≡ counts_over (counts_over es xs) ys
counts-append es [] ys = refl
counts-append es (s ∷ xs) ys = counts-append (insert_entry stamp_cmp es s.cause s.count) xs ys

pub totals-append : (es : List (ℕ × ℕ)) (xs ys : List Rec) → totals_over es (xs ++ ys) ≡ totals_over (totals_over es xs) ys
totals-append es [] ys = refl
totals-append es (r ∷ xs) ys = totals-append (insert_entry nat_cmp es r.key r.value) xs ys

-- ---- in a loop over records, each of which gives some parts, where what came so far takes in those parts one after the other

module _ {A B : Type 0} (over : A → List B → A) (appends : (a : A) (xs ys : List B) → over a (xs ++ ys) ≡ over (over a xs) ys) (parts : Record → List B) where
  -- one record more
  pub over-more : (rs : List Record) (i : ℕ) (r : Record) (old new : A) → i < length rs → r ≡ get_or rs i r → new ≡ over old (parts r)
      → over new (flat_map parts (drop (i + 1) rs)) ≡ over old (flat_map parts (drop i rs))
  over-more rs i r old new l at is =
      let later : List B = flat_map parts (drop (i + 1) rs) in
      ap (λ a. over a later) is
      ∙ sym (appends old (parts r) later)
      ∙ ap (λ (x : Record). over old (parts x ++ later)) at
      ∙ sym (at_drop_more (λ (xs : List Record). over old (flat_map parts xs)) rs i r l)

  -- all records, and what comes after them
  pub over-last : (rs : List Record) (i : ℕ) (first old new : A) (last : List B) → length rs ≤ i → over old [] ≡ old
      → over old (flat_map parts (drop i rs)) ≡ over first (flat_map parts rs) → new ≡ over old last → new ≡ over first (flat_map parts rs ++ last)
  over-last rs i first old new last all none so_far is =
      is
      ∙ ap (λ a. over a last) (sym none ∙ ap (λ (xs : List Record). over old (flat_map parts xs)) (sym (drop_all i rs all)) ∙ so_far)
      ∙ sym (appends first (flat_map parts rs) last)

pub counts_more : (parts : Record → List SentCount) (rs : List Record) (i : ℕ) (r : Record) (old new : List (Stamp × ℕ)) → i < length rs → r ≡ get_or rs i r
    → new ≡ counts_over old (parts r) → counts_over new (flat_map parts (drop (i + 1) rs)) ≡ counts_over old (flat_map parts (drop i rs))
counts_more parts = over-more counts_over counts-append parts

pub counts_last : (parts : Record → List SentCount) (rs : List Record) (i : ℕ) (first old new : List (Stamp × ℕ)) (last : List SentCount) → length rs ≤ i
    → counts_over old (flat_map parts (drop i rs)) ≡ counts_over first (flat_map parts rs) → new ≡ counts_over old last → new ≡ counts_over first (flat_map parts rs ++ last)
counts_last parts rs i first old new last all = over-last counts_over counts-append parts rs i first old new last all refl

pub totals_more : (parts : Record → List Rec) (rs : List Record) (i : ℕ) (r : Record) (old new : List (ℕ × ℕ)) → i < length rs → r ≡ get_or rs i r
    → new ≡ totals_over old (parts r) → totals_over new (flat_map parts (drop (i + 1) rs)) ≡ totals_over old (flat_map parts (drop i rs))
totals_more parts = over-more totals_over totals-append parts

pub totals_last : (parts : Record → List Rec) (rs : List Record) (i : ℕ) (first old new : List (ℕ × ℕ)) (last : List Rec) → length rs ≤ i
    → totals_over old (flat_map parts (drop i rs)) ≡ totals_over first (flat_map parts rs) → new ≡ totals_over old last → new ≡ totals_over first (flat_map parts rs ++ last)
totals_last parts rs i first old new last all = over-last totals_over totals-append parts rs i first old new last all refl

messages-append : (ms xs ys : List Logged) → ms ++ (xs ++ ys) ≡ (ms ++ xs) ++ ys
messages-append ms xs ys = sym (append_assoc ms xs ys)

pub messages_more : (parts : Record → List Logged) (rs : List Record) (i : ℕ) (r : Record) (old new : List Logged) → i < length rs → r ≡ get_or rs i r
    → new ≡ old ++ parts r → new ++ flat_map parts (drop (i + 1) rs) ≡ old ++ flat_map parts (drop i rs)
messages_more parts = over-more (λ ms xs. ms ++ xs) messages-append parts

-- ---- one total more

pub total-more : (recs : List Rec) (i : ℕ) (d : Rec) (old new : List (ℕ × ℕ)) → i < length recs → new ≡ insert_entry nat_cmp old (get_or recs i d).key (get_or recs i d).value
    → totals_over new (drop (i + 1) recs) ≡ totals_over old (drop i recs)
total-more recs i d old new l is = ap (λ es. totals_over es (drop (i + 1) recs)) is ∙ sym (at_drop_more (totals_over old) recs i d l)
