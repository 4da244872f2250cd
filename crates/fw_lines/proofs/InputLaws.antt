-- The rules of a line of inputs.
use Rattle.std.proofs.Common.{◌≡◌, ℕ, ◌+◌, ◌<◌, ◌≤◌, Bool, true, false, not, cond, ◌||◌, List, [], ◌∷◌, map, length, drop, get_or, Option, Some, None, refl, sym, ◌∙◌, ap, arith}
use Rattle.std.proofs.lemmas.List.{drop_more}
use Rattle.std.specs.List.{list_any, prefix_len, filter_map, cons_option}
use Rattle.std.proofs.lemmas.Bool.Decides.{nat_tests}
use Rattle.std.specs.Option.{option_or, option_map_or}
use Rattle.fw_lemmas.proofs.Numbers.{below_step}
use Rattle.fw_lines.specs.declared.refusal.Code.TheVariants.{I3, I5}
use Rattle.fw_lines.specs.Batches.{batches_at}
use Rattle.fw_lines.specs.Sources.{node_named}
use Rattle.fw_bag.specs.Bag.{bag_sum, with_rec}
use Rattle.fw_bag.specs.declared.rec.Rec.{Rec}
use Rattle.fw_bag.proofs.BagLaws.{bag_sum-with_rec}
use Rattle.fw_lines.specs.declared.span.Span.{Span}
use Rattle.fw_lines.specs.Inputs.{record_said, spelled_rec, has_large_number, value_fault, count_fault, form_fault, fault_in}
use Rattle.fw_lines.specs.Lines.{bytes_at}

-- where some byte passes, one stands behind those that do not
pub front-lt-length : (p : ℕ → Bool) (xs : List ℕ) → list_any p xs ≡ true → prefix_len (λ b. not (p b)) xs < length xs
front-lt-length p [] e = absurd (cc)
front-lt-length p (x ∷ xs) e = below_step (p x) (prefix_len (λ b. not (p b)) xs) (length xs) (list_any p xs) e (front-lt-length p xs)

pub list_any-map : (text : List ℕ) (words : List Span) → list_any (λ word. has_large_number (record_said (bytes_at text word))) words ≡ list_any (λ word. has_large_number (record_said word)) (map (bytes_at text) words)
list_any-map text [] = refl
list_any-map text (w ∷ ws) = ap (λ b. has_large_number (record_said (bytes_at text w)) || b) (list_any-map text ws)

-- the recs that the words spell
abbrev pub recs_in : List ℕ → List Span → List Rec
recs_in text words = filter_map (λ word. spelled_rec (record_said word)) (map (bytes_at text) words)

sum_onto : (rec : Option Rec) (recs bag : List Rec) → bag_sum (cons_option rec recs) bag ≡ bag_sum recs (option_map_or (λ r. with_rec r bag) rec bag)
sum_onto None recs bag = refl
sum_onto (Some r) recs bag = sym (bag_sum-with_rec r recs bag)

-- the rec of the word that comes next, if it spells one, goes into the bag
pub recs_more : (text : List ℕ) (words : List Span) (place : ℕ) (bag new : List Rec) → place < length words
    → new ≡ option_map_or (λ r. with_rec r bag) (spelled_rec (record_said (bytes_at text (get_or words place (record { from = 0; to = 0 }))))) bag
    → bag_sum (recs_in text (drop place words)) bag ≡ bag_sum (recs_in text (drop (place + 1) words)) new
recs_more text words place bag new below e =
    let d : Span = record { from = 0; to = 0 } in
    ap (λ ws. bag_sum (recs_in text ws) bag) (drop_more words place d below)
    ∙ sum_onto (spelled_rec (record_said (bytes_at text (get_or words place d)))) (recs_in text (drop (place + 1) words)) bag
    ∙ ap (bag_sum (recs_in text (drop (place + 1) words))) (sym e)

pub number_broken : (source : Option ℕ) (node count : ℕ) (records : List (List ℕ)) → source ≡ Some node → list_any (λ word. has_large_number (record_said word)) records ≡ true → value_fault source records count ≡ Some I3
number_broken source node count records e l = ap (λ s. value_fault s records count) e ∙ ap (λ b. option_or (cond b (Some I3) None) (count_fault count)) l

pub only_count : (source : Option ℕ) (node count : ℕ) (records : List (List ℕ)) → source ≡ Some node → list_any (λ word. has_large_number (record_said word)) records ≡ false → value_fault source records count ≡ count_fault count
only_count source node count records e l = ap (λ s. value_fault s records count) e ∙ ap (λ b. option_or (cond b (Some I3) None) (count_fault count)) l

pub count_broken : (count : ℕ) → 1048576 ≤ count → count_fault count ≡ Some I5
count_broken count h = grind (arith, nat_tests, h)

pub count_sound : (count : ℕ) → count < 1048576 → count_fault count ≡ None
count_sound count h = grind (arith, nat_tests, h)

-- the rule that a line of two words or more breaks
pub fault_in-parts : (text : List ℕ) (sources : List (List ℕ × ℕ)) (words records : List Span) (batches : List (ℕ × List (List Rec))) (d : Span) → 2 ≤ length words → records ≡ drop 2 words
    → option_or (form_fault (bytes_at text (get_or words 0 d)) (bytes_at text (get_or words 1 d)) (map (bytes_at text) records)) (value_fault (node_named sources (bytes_at text (get_or words 1 d))) (map (bytes_at text) records) (option_map_or (λ node. length (batches_at batches node)) (node_named sources (bytes_at text (get_or words 1 d))) 0))
    ≡ fault_in text sources words batches
fault_in-parts text sources [] records batches d h e = absurd (omega arith)
fault_in-parts text sources (w ∷ []) records batches d h e = absurd (omega arith)
fault_in-parts text sources (first ∷ name ∷ others) records batches d h e =
    ap (λ rs. option_or (form_fault (bytes_at text first) (bytes_at text name) (map (bytes_at text) rs)) (value_fault (node_named sources (bytes_at text name)) (map (bytes_at text) rs) (option_map_or (λ node. length (batches_at batches node)) (node_named sources (bytes_at text name)) 0))) e
