-- What the covers of a record tell, taken one after another.
use Rattle.std.proofs.Common.{◌≡◌, ℕ, ◌+◌, ◌<◌, ◌≤◌, List, [], ◌∷◌, ◌++◌, length, take, drop, get_or, Option, Some, None, unwrap_or, Result, Ok, Err, IfOk, sym, ◌∙◌, ap}
use Rattle.std.proofs.lemmas.List.{take_more, take_all, drop_more, at_drop_all}
use Rattle.std.proofs.lemmas.List.Elements.{filter_map-append}
use Rattle.std.specs.List.{filter_map, cons_option}
use Rattle.std.specs.Option.{option_or}
use Rattle.fw_time.specs.declared.stamp.Bounds.{Bounds}
use Rattle.fw_frontier.specs.Front.{Front, least_stamps, IsFrontOf}
use Rattle.fw_frontier.specs.Frontier.{nothing}
use Rattle.fw_frontier.proofs.NamesLaws.{names-same, names-nothing}
use Rattle.fw_flow.specs.declared.choice.OfEdge.{OfEdge}
use Rattle.fw_flow.specs.declared.choice.Recorded.{Recorded}
use Rattle.fw_flow.specs.Dataflow.{Dataflow, bounds_of}
use Rattle.fw_offers_text.specs.declared.statement.RecordCover.{RecordCover}
use Rattle.fw_offers_text.specs.OffersGrammar.{record_told, notified_front, delivered_front, discarded_front}
use Rattle.fw_offers_text.specs.Statements.{first_told}

abbrev pub recorded_of : Front → Front → List OfEdge → List OfEdge → Recorded
recorded_of f notice arrivals sent = record { front = f; notified = notice; delivered = arrivals; discarded = sent }

-- what the first so many tell, with the next one
pub filtered_more : {A B : Type 0} (f : A → Option B) (xs : List A) (i : ℕ) (x : A) (out new : List B) → i < length xs → x ≡ get_or xs i x → out ≡ filter_map f (take i xs) → new ≡ out ++ cons_option (f x) [] → new ≡ filter_map f (take (i + 1) xs)
filtered_more f xs i x out new below is h e =
    e ∙ ap (λ ys. ys ++ cons_option (f x) []) h ∙ ap (λ y. filter_map f (take i xs) ++ cons_option (f y) []) is
    ∙ sym (filter_map-append f (take i xs) (get_or xs i x ∷ [])) ∙ ap (filter_map f) (sym (take_more xs i x below))

pub filtered_all : {A B : Type 0} (f : A → Option B) (xs : List A) (i : ℕ) (out : List B) → length xs ≤ i → out ≡ filter_map f (take i xs) → out ≡ filter_map f xs
filtered_all f xs i out past h = h ∙ ap (filter_map f) (take_all i xs past)

-- the first of those that are left is the first of all
pub first_skipped : {A B : Type 0} (f : A → Option B) (xs : List A) (i : ℕ) (x : A) → i < length xs → x ≡ get_or xs i x → first_told f (drop i xs) ≡ first_told f xs → f x ≡ None → first_told f (drop (i + 1) xs) ≡ first_told f xs
first_skipped f xs i x below is h none =
    ap (λ o. option_or o (first_told f (drop (i + 1) xs))) (sym (ap f (sym is) ∙ none)) ∙ ap (first_told f) (sym (drop_more xs i x below)) ∙ h

pub first_here : {A B : Type 0} (f : A → Option B) (xs : List A) (i : ℕ) (x : A) (y or : B) → i < length xs → x ≡ get_or xs i x → first_told f (drop i xs) ≡ first_told f xs → f x ≡ Some y → y ≡ unwrap_or (first_told f xs) or
first_here f xs i x y or below is h some =
    ap (λ o. unwrap_or (option_or o (first_told f (drop (i + 1) xs))) or) (sym (ap f (sym is) ∙ some)) ∙ ap (λ ys. unwrap_or (first_told f ys) or) (sym (drop_more xs i x below))
    ∙ ap (λ o. unwrap_or o or) h

pub first_nowhere : {A B : Type 0} (f : A → Option B) (xs : List A) (i : ℕ) (or : B) → length xs ≤ i → first_told f (drop i xs) ≡ first_told f xs → or ≡ unwrap_or (first_told f xs) or
first_nowhere f xs i or past h = sym (at_drop_all (λ ys. unwrap_or (first_told f ys) or) xs i past) ∙ ap (λ o. unwrap_or o or) h

-- the frontier of no stamps is that of the least ones
pub no_stamps : (b : Bounds) (f : Front) → IsFrontOf b f nothing → f ≡ least_stamps b
no_stamps b f h = names-same b f (least_stamps b) nothing h (names-nothing b)

pub ok_weaker : {A E : Type 0} (P Q : A → Type 0) (r : Result A E) → ((a : A) → P a → Q a) → IfOk r P → IfOk r Q
ok_weaker P Q (Ok a) h p = h a p
ok_weaker P Q (Err e) h p = tt

-- a record is that of its covers
pub recorded_as : (flow : Dataflow) (p : ℕ) (f notice : Front) (arrivals sent : List OfEdge) (own covers : List RecordCover) → own ≡ covers
    → notice ≡ unwrap_or (first_told (λ (c : RecordCover). notified_front p c.side c.front) own) (least_stamps (bounds_of flow p))
    → arrivals ≡ filter_map (λ (c : RecordCover). delivered_front c.side c.front) own → sent ≡ filter_map (λ (c : RecordCover). discarded_front c.side c.front) own
    → recorded_of f notice arrivals sent ≡ record_told flow p f covers
recorded_as flow p f notice arrivals sent own covers same n a s =
    ap (λ x. recorded_of f x arrivals sent) n
    ∙ ap (λ x. recorded_of f (unwrap_or (first_told (λ (c : RecordCover). notified_front p c.side c.front) own) (least_stamps (bounds_of flow p))) x sent) a
    ∙ ap (λ x. recorded_of f (unwrap_or (first_told (λ (c : RecordCover). notified_front p c.side c.front) own) (least_stamps (bounds_of flow p))) (filter_map (λ (c : RecordCover). delivered_front c.side c.front) own) x) s
    ∙ ap (record_told flow p f) same
