-- Which entries are asked for, by the newest whole checkpoint within each cut and by whether one stands exactly there.
use Rattle.std.proofs.Common.{◌≡◌, ◌≢◌, ℕ, ◌<◌, Bool, true, false, ◌&&◌, ◌||◌, ◌==◌, cond, List, ◌++◌, ◌∷◌, [], length, get_or, set, filter, Option, Some, None, option_and_then, sym, ap, subst, ◌∙◌, inl, inr, refl, arith}
use Rattle.std.proofs.lemmas.Bool.{cases_Bool, cases_eq, cases_lt, eqb-true, false≢true, ne_eqb, or_right}
use Rattle.std.proofs.lemmas.List.{get_or_past, get_or-set_same, get_or-set_other}
use Rattle.std.proofs.lemmas.List.Folds.{list_any-append}
use Rattle.std.proofs.Math.Bool.{or-false}
use Rattle.fw_lemmas.proofs.Each.{each-one}
use Rattle.fw_lemmas.proofs.Filters.{filter-same_on}
use Rattle.fw_frontier.specs.Front.{Front}
use Rattle.fw_flow.specs.declared.choice.Choice.{Choice}
use Rattle.fw_flow.specs.declared.choice.Cut.{Cut}
use Rattle.fw_flow.specs.declared.choice.Cut.TheVariants.{Present, At}
use Rattle.fw_flow.specs.declared.restoring.Restoring.TheVariants.{Checkpoints}
use Rattle.fw_flow.specs.Dataflow.{Dataflow}
use Rattle.fw_flow.specs.Restoring.{way_of}
use Rattle.fw_model.specs.Choice.{cut_of}
use Rattle.fw_keep.specs.declared.entry.Entry.{Entry}
use Rattle.fw_keep.specs.declared.entry.Written.{Written}
use Rattle.fw_keep.specs.declared.entry.Written.TheVariants as written
use Rattle.fw_keep.specs.Entry.{is_written_at}
use Rattle.fw_keep.specs.Newest.{front_within, is_between, is_written_between, whole_front, whole_within}
use Rattle.fw_keep.proofs.NewestLaws.{whole-here, whole-before}
use Rattle.fw_rollback.specs.Asked.{front_at, is_at_cut, has_one_at_cut, read_from, is_needed, is_asked_at, is_asked_for, asked_of, whole_front_in_cut, whole_in_cut, AreEnds, AreWholes}

-- by the front of a cut, if it has one
abbrev by_front : Option Front → (Front → Option Front) → Option Front
by_front front f = option_and_then f front

-- there is a cut of a node that has a whole checkpoint within it
cut-there : (choice : Choice) (e : Entry) (g : Front) → Some g ≡ whole_front_in_cut choice e.node e → e.node < length choice.cuts
cut-there choice e g is = elim (cases_lt e.node (length choice.cuts)) [
  | inl l ↦ l
  | inr past ↦
      let cut : cut_of choice e.node ≡ Present = get_or_past choice.cuts e.node Present past in
      absurd (none-cut (is ∙ ap (λ c. by_front (front_at c) (λ f. whole_front e.node f e)) cut))
]
  where
    none-cut : Some g ≡ None → ⊥
    none-cut z = cc

-- ---- the front of the newest whole one

-- another node's entry has none
front-of_other : (p : ℕ) (f : Front) (e : Entry) → e.node ≢ p → whole_front p f e ≡ None
front-of_other p f e other =
    ap (λ b. cond (b && (e.depth == 0)) (front_within f e.written) None) (ne_eqb e.node p other)

-- with one entry more it is that entry's, or what it was
module _ (choice : Choice) (es more : List Entry) (e : Entry) (last : more ≡ es ++ e ∷ []) where
  here : (p : ℕ) (cut : Cut) (g : Front) → Some g ≡ by_front (front_at cut) (λ f. whole_front p f e) → by_front (front_at cut) (λ f. whole_within p f more) ≡ Some g
  here p Present g is = absurd cc
  here p (At f) g is = whole-here p f more es e g last (sym is)

  before : (p : ℕ) (cut : Cut) → None ≡ by_front (front_at cut) (λ f. whole_front p f e)
      → by_front (front_at cut) (λ f. whole_within p f more) ≡ by_front (front_at cut) (λ f. whole_within p f es)
  before p Present is = refl
  before p (At f) is = whole-before p f more es e last (sym is)

  other : (p : ℕ) (cut : Cut) → e.node ≢ p → by_front (front_at cut) (λ f. whole_within p f more) ≡ by_front (front_at cut) (λ f. whole_within p f es)
  other p Present n = refl
  other p (At f) n = whole-before p f more es e last (front-of_other p f e n)

  -- the entry is a whole one, and its front was put in place
  pub wholes-set : (wholes next : List (Option Front)) (g : Front) → length wholes ≡ length choice.cuts → Some g ≡ whole_front_in_cut choice e.node e
      → next ≡ set wholes e.node (Some g) → AreWholes choice es wholes → AreWholes choice more next
  wholes-set wholes next g each is put h p = elim (cases_eq e.node p) [
    | inl same ↦
        let at : e.node < length wholes = omega (arith, each, cut-there choice e g is) in
        let none : Option Front = None in
        ap (λ (ws : List (Option Front)). get_or ws p None) put ∙ ap (λ q. get_or (set wholes e.node (Some g)) q none) (sym same)
        ∙ get_or-set_same wholes e.node (Some g) none at
        ∙ sym (ap (λ q. whole_in_cut choice more q) (sym same) ∙ here e.node (cut_of choice e.node) g is)
    | inr apart ↦
        let none : Option Front = None in
        ap (λ (ws : List (Option Front)). get_or ws p None) put ∙ get_or-set_other wholes e.node p (Some g) none (λ s. apart (sym s))
        ∙ h p ∙ sym (other p (cut_of choice p) apart)
  ]

  -- it is none
  pub wholes-stay : (wholes : List (Option Front)) → None ≡ whole_front_in_cut choice e.node e → AreWholes choice es wholes → AreWholes choice more wholes
  wholes-stay wholes is h p = elim (cases_eq e.node p) [
    | inl same ↦
        let P : ℕ → Type 0 = λ q. whole_in_cut choice more q ≡ whole_in_cut choice es q in
        h p ∙ sym (subst P same (before e.node (cut_of choice e.node) is))
    | inr apart ↦ h p ∙ sym (other p (cut_of choice p) apart)
  ]

-- ---- whether one stands at the cut

-- there is a cut of a node that has a checkpoint there
end-there : (choice : Choice) (e : Entry) → is_at_cut e.node (cut_of choice e.node) e ≡ true → e.node < length choice.cuts
end-there choice e is = elim (cases_lt e.node (length choice.cuts)) [
  | inl l ↦ l
  | inr past ↦
      let cut : cut_of choice e.node ≡ Present = get_or_past choice.cuts e.node Present past in
      absurd (false≢true (sym (ap (λ c. is_at_cut e.node c e) cut) ∙ is))
]

-- another node's entry does not
at-other : (p : ℕ) (cut : Cut) (e : Entry) → e.node ≢ p → is_at_cut p cut e ≡ false
at-other p Present e other = refl
at-other p (At f) e other = ap (λ b. b && (e.acknowledged && is_written_at f e.written)) (ne_eqb e.node p other)

-- with one entry more that one does, or what it was
module _ (choice : Choice) (es more : List Entry) (e : Entry) (last : more ≡ es ++ e ∷ []) where
  ends-more : (p : ℕ) (cut : Cut) → has_one_at_cut p cut more ≡ (has_one_at_cut p cut es || is_at_cut p cut e)
  ends-more p cut =
      ap (has_one_at_cut p cut) last ∙ list_any-append (is_at_cut p cut) es (e ∷ []) ∙ ap (λ b. has_one_at_cut p cut es || b) (or-false (is_at_cut p cut e))

  ends-same : (p : ℕ) (cut : Cut) → is_at_cut p cut e ≡ false → has_one_at_cut p cut more ≡ has_one_at_cut p cut es
  ends-same p cut is = ends-more p cut ∙ ap (λ b. has_one_at_cut p cut es || b) is ∙ or-false (has_one_at_cut p cut es)

  -- the entry does, and that was noted
  pub ends-set : (ends next : List Bool) → length ends ≡ length choice.cuts → is_at_cut e.node (cut_of choice e.node) e ≡ true → next ≡ set ends e.node true
      → AreEnds choice es ends → AreEnds choice more next
  ends-set ends next each is put h p = elim (cases_eq e.node p) [
    | inl same ↦
        let cut = cut_of choice e.node in
        let at : e.node < length ends = omega (arith, each, end-there choice e is) in
        ap (λ (bs : List Bool). get_or bs p false) put ∙ ap (λ q. get_or (set ends e.node true) q false) (sym same)
        ∙ get_or-set_same ends e.node true false at
        ∙ sym (ap (λ q. has_one_at_cut q (cut_of choice q) more) (sym same) ∙ ends-more e.node cut
        ∙ or_right (has_one_at_cut e.node cut es) (is_at_cut e.node cut e) is)
    | inr apart ↦
        ap (λ (bs : List Bool). get_or bs p false) put ∙ get_or-set_other ends e.node p true false (λ s. apart (sym s))
        ∙ h p ∙ sym (ends-same p (cut_of choice p) (at-other p (cut_of choice p) e apart))
  ]

  -- it does not
  pub ends-stay : (ends : List Bool) → is_at_cut e.node (cut_of choice e.node) e ≡ false → AreEnds choice es ends → AreEnds choice more ends
  ends-stay ends is h p = elim (cases_eq e.node p) [
    | inl same ↦
        let P : ℕ → Type 0 = λ q. has_one_at_cut q (cut_of choice q) more ≡ has_one_at_cut q (cut_of choice q) es in
        h p ∙ sym (subst P same (ends-same e.node (cut_of choice e.node) is))
    | inr apart ↦ h p ∙ sym (ends-same p (cut_of choice p) (at-other p (cut_of choice p) e apart))
  ]

-- ---- what is asked for

-- of the entries the choice asks for those of a node at which a test is true
pub asked-by : (flow : Dataflow) (choice : Choice) (es : List Entry) (p : ℕ) (f : Front) → cut_of choice p ≡ At f → (test : Written → Bool)
    → ((w : Written) → is_needed flow (read_from p f es) p f (way_of flow p) w ≡ test w) → (e : Entry)
    → ((e.node == p) && is_asked_for flow choice es e) ≡ ((e.node == p) && (e.acknowledged && test e.written))
asked-by flow choice es p f is test needed e = elim (cases_Bool (e.node == p)) [
  | inl i ↦
      let at = eqb-true e.node p i in
      ap (λ b. (e.node == p) && b)
      (ap (λ q. is_asked_at flow es (cut_of choice q) (record e { node = q })) at
      ∙ ap (λ cut. is_asked_at flow es cut (record e { node = p })) is
      ∙ ap (λ b. e.acknowledged && b) (needed e.written))
  | inr i ↦ ap (λ b. b && is_asked_for flow choice es e) i ∙ sym (ap (λ b. b && (e.acknowledged && test e.written)) i)
]

-- a node that is restored by checkpoints needs those from the newest whole one up to the cut
pub needs-whole : (flow : Dataflow) (p : ℕ) (f whole : Front) (w : Written) → is_needed flow (Some whole) p f Checkpoints w ≡ is_written_between whole f w
needs-whole flow p f whole (written.Checkpoint recorded stamps sent) = refl
needs-whole flow p f whole (written.Event event) = refl

-- the checkpoints that are asked for of a node that is restored by them
pub asked-checkpoints : (flow : Dataflow) (choice : Choice) (es : List Entry) (p : ℕ) (f whole : Front) → way_of flow p ≡ Checkpoints → cut_of choice p ≡ At f
    → read_from p f es ≡ Some whole → asked_of flow choice es p ≡ filter (is_between p whole f) es
asked-checkpoints flow choice es p f whole way is newest =
    filter-same_on (λ e. (e.node == p) && is_asked_for flow choice es e) (is_between p whole f) es
    (each-one (λ e. ((e.node == p) && is_asked_for flow choice es e) ≡ is_between p whole f e) es
    (asked-by flow choice es p f is (is_written_between whole f)
    (λ w.
    ap (λ o. is_needed flow o p f (way_of flow p) w) newest ∙ ap (λ x. is_needed flow (Some whole) p f x w) way ∙ needs-whole flow p f whole w)))
