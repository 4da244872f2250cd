-- What records have to tell, and what they may not tell twice, as the code tests it.
use Rattle.std.proofs.Common.{◌≡◌, ℕ, ◌+◌, ◌<◌, ◌≤◌, Bool, true, false, not, ◌&&◌, ◌||◌, cond, List, [], ◌∷◌, ◌++◌, map, length, take, drop, refl, sym, ◌∙◌, ap, get_or, append_assoc}
use Rattle.std.proofs.lemmas.List.{take_more, drop_more, at_drop_all}
use Rattle.std.proofs.lemmas.List.Folds.{list_all-append, list_all-map}
use Rattle.std.specs.List.{list_all}
use Rattle.fw_flow.specs.declared.side.Side.{Side}
use Rattle.fw_flow.specs.declared.side.Side.TheVariants as side
use Rattle.fw_offers_text.specs.declared.statement.RecordCover.{RecordCover}
use Rattle.fw_offers_text.specs.Statements.{is_side_told, are_of_other_sides, are_covers_apart}

-- the next cover is of another side, and those behind it are
other_next : (covers : List RecordCover) (i : ℕ) (d : RecordCover) → i < length covers
    → are_of_other_sides (take i covers) (drop i covers) ≡ (not (is_side_told (take i covers) (get_or covers i d).side) && are_of_other_sides (take (i + 1) covers) (drop (i + 1) covers))
other_next covers i d below =
    ap (are_of_other_sides (take i covers)) (drop_more covers i d below)
    ∙ ap (λ before. not (is_side_told (take i covers) (get_or covers i d).side) && are_of_other_sides before (drop (i + 1) covers)) (sym (take_more covers i d below))

pub apart_more : (covers : List RecordCover) (i : ℕ) (d : RecordCover) → i < length covers → are_covers_apart covers ≡ are_of_other_sides (take i covers) (drop i covers) → is_side_told (take i covers) (get_or covers i d).side ≡ false
    → are_covers_apart covers ≡ are_of_other_sides (take (i + 1) covers) (drop (i + 1) covers)
apart_more covers i d below h other = h ∙ other_next covers i d below ∙ ap (λ b. not b && are_of_other_sides (take (i + 1) covers) (drop (i + 1) covers)) other

pub apart_fails : (covers : List RecordCover) (i : ℕ) (d : RecordCover) → i < length covers → are_covers_apart covers ≡ are_of_other_sides (take i covers) (drop i covers) → is_side_told (take i covers) (get_or covers i d).side ≡ true
    → false ≡ are_covers_apart covers
apart_fails covers i d below h told = sym (h ∙ other_next covers i d below ∙ ap (λ b. not b && are_of_other_sides (take (i + 1) covers) (drop (i + 1) covers)) told)

pub apart_all : (covers : List RecordCover) (i : ℕ) → length covers ≤ i → are_covers_apart covers ≡ are_of_other_sides (take i covers) (drop i covers) → true ≡ are_covers_apart covers
apart_all covers i past h = sym (h ∙ at_drop_all (are_of_other_sides (take i covers)) covers i past)

-- all sides are told that are owed
pub sides_told : (test : Side → Bool) (ins outs : List ℕ) (p : ℕ) (resend notified : Bool)
    → ((list_all (λ d. test (side.Delivered d)) ins && (resend || list_all (λ e. test (side.Discarded e)) outs)) && (not notified || test (side.Notified p)))
    ≡ list_all test (map (λ d. side.Delivered d) ins ++ (cond resend [] (map (λ e. side.Discarded e) outs) ++ cond notified (side.Notified p ∷ []) []))
sides_told test ins outs p resend notified =
    and-assoc (list_all (λ d. test (side.Delivered d)) ins) (resend || list_all (λ e. test (side.Discarded e)) outs) (not notified || test (side.Notified p))
    ∙ ap (λ b. b && ((resend || list_all (λ e. test (side.Discarded e)) outs) && (not notified || test (side.Notified p)))) (sym (list_all-map test (λ d. side.Delivered d) ins))
    ∙ ap (λ b. list_all test (map (λ d. side.Delivered d) ins) && b) (later resend notified)
    ∙ sym (list_all-append test (map (λ d. side.Delivered d) ins) (cond resend [] (map (λ e. side.Discarded e) outs) ++ cond notified (side.Notified p ∷ []) []))
  where
    and-assoc : (a b c : Bool) → ((a && b) && c) ≡ (a && (b && c))
    and-assoc true b c = refl
    and-assoc false b c = refl

    and-true : (b : Bool) → (b && true) ≡ b
    and-true true = refl
    and-true false = refl

    last : (n : Bool) → (not n || test (side.Notified p)) ≡ list_all test (cond n (side.Notified p ∷ []) [])
    last true = sym (and-true (test (side.Notified p)))
    last false = refl

    later : (r n : Bool) → ((r || list_all (λ e. test (side.Discarded e)) outs) && (not n || test (side.Notified p))) ≡ list_all test (cond r [] (map (λ e. side.Discarded e) outs) ++ cond n (side.Notified p ∷ []) [])
    later true n = last n
    later false n =
        ap (λ b. b && (not n || test (side.Notified p))) (sym (list_all-map test (λ e. side.Discarded e) outs))
        ∙ ap (λ b. list_all test (map (λ e. side.Discarded e) outs) && b) (last n)
        ∙ sym (list_all-append test (map (λ e. side.Discarded e) outs) (cond n (side.Notified p ∷ []) []))

-- the same of three parts
pub told_in_parts : (test : Side → Bool) (ins outs : List ℕ) (p : ℕ) (resend notified a b c : Bool) → a ≡ list_all (λ d. test (side.Delivered d)) ins → b ≡ (resend || list_all (λ e. test (side.Discarded e)) outs)
    → c ≡ (not notified || test (side.Notified p))
    → ((a && b) && c) ≡ list_all test ((map (λ d. side.Delivered d) ins ++ cond resend [] (map (λ e. side.Discarded e) outs)) ++ cond notified (side.Notified p ∷ []) [])
told_in_parts test ins outs p resend notified a b c i j k =
    ap (λ x. (x && b) && c) i ∙ ap (λ x. (list_all (λ d. test (side.Delivered d)) ins && x) && c) j
    ∙ ap (λ x. (list_all (λ d. test (side.Delivered d)) ins && (resend || list_all (λ e. test (side.Discarded e)) outs)) && x) k
    ∙ sides_told test ins outs p resend notified
    ∙ ap (list_all test) (sym (append_assoc (map (λ d. side.Delivered d) ins) (cond resend [] (map (λ e. side.Discarded e) outs)) (cond notified (side.Notified p ∷ []) [])))
