-- What holds of texts with the batches that were read of them holds of them with those that they spell.
use Rattle.std.proofs.Common.{◌≡◌, ◌⊎◌, inl, inr, ℕ, ◌^◌, ◌<◌, ◌≤◌, ◌==◌, ◌||◌, Bool, true, false, cond, List, [], ◌∷◌, length, map, Option, Some, None, refl, sym, ◌∙◌, ap, subst, if◌then◌else◌}
use Rattle.std.specs.List.{AllByRecursion, AllZip}
use Rattle.std.specs.Map.{lookup}
use Rattle.std.specs.Option.{option_map_or}
use Rattle.std.specs.Prelude.{unwrap_or}
use Rattle.std.proofs.lemmas.Bool.{eqb-true}
use Rattle.fw_lemmas.proofs.Each.{each-filter, each-weaker}
use Rattle.fw_lemmas.proofs.Numbers.{eqb-sym}
use Rattle.fw_bag.specs.declared.rec.Rec.{Rec}
use Rattle.fw_frontier.specs.Front.{Front}
use Rattle.fw_lines.specs.Batches.{batches_at}
use Rattle.fw_lines.specs.Inputs.{batches_said_of}
use Rattle.fw_lines.specs.Lines.{said_lines}
use Rattle.fw_flow.specs.Dataflow.{Dataflow, System, batches_of_nodes, bounds_of, is_input_kind, kind_of, node_ids, system_of}
use Rattle.fw_flow.specs.Sources.{sources_of}
use Rattle.fw_schedule.specs.declared.item.Item.{Item}
use Rattle.fw_keep.specs.Catalogue.{is_id_among}
use Rattle.fw_keep.specs.Stored.{Records}
use Rattle.fw_keep.proofs.IdLaws.{among-self}
use Rattle.fw_model.proofs.DependenceLaws.{map-agree}
use Rattle.fw_model.specs.Reached.{IsReached}
use Rattle.fw_regain.specs.RootOf.{IsRootOf}
use Rattle.fw_root.specs.declared.extent.Extent.{Extent}
use Rattle.fw_root.specs.declared.extent.Extent.TheVariants.{Any, Batches}
use Rattle.fw_root.specs.declared.of_flow.Role.{Role}
use Rattle.fw_root.specs.declared.of_flow.Role.TheVariants as role
use Rattle.fw_root.specs.declared.root.Digests.{Digests}
use Rattle.fw_root.specs.declared.root.NodeFronts.{NodeFronts}
use Rattle.fw_root.specs.declared.root.Root.{Root}
use Rattle.fw_root.specs.OfFlow.{Given, limit_for, low_extent, nodes_as, number_standing_for, plays}
use Rattle.fw_root.specs.Sound.{AreNodeFronts, IsFrontIn, IsNumberFor, IsRootFor}
use Rattle.fw_named.specs.Named.{AreNamed}
use Rattle.fw_command.specs.Texts.{spelled_batches, spelled_system}
use Rattle.fw_generate.specs.Texts.{Texts}
use Rattle.fw_hold.specs.Found.{AreNoRoot, GaveNoRoot}
use Rattle.fw_hold.specs.Going.{HoldsFound, HoldsKeptIn}
use Rattle.fw_hold.specs.Kept.{HeldTexts, Found, no_root, a_root, HoldsKeptPoint, IsKeptBy, kept_at_first, system_in}
use Rattle.fw_hold.specs.Moves.{KeptPoint}
use Rattle.fw_hold.specs.Starting.{MayStart}
use Rattle.fw_run.specs.HeldTexts.{given_batches, held_texts}

-- ---- batches

-- the nodes of a dataflow have the same batches
abbrev pub AreAlike : Dataflow → Given → Given → Type 0
AreAlike flow one other = AllByRecursion (λ (p : ℕ). batches_at one p ≡ batches_at other p) (node_ids flow)

pub alike-back : (flow : Dataflow) (one other : Given) → AreAlike flow one other → AreAlike flow other one
alike-back flow one other a = each-weaker (λ (p : ℕ). batches_at one p ≡ batches_at other p) (λ (p : ℕ). batches_at other p ≡ batches_at one p) (node_ids flow) (λ p e. sym e) a

-- the first and the rest of lists that are one
cons-first : {B : Type 0} (x y : B) (xs ys : List B) → x ∷ xs ≡ y ∷ ys → x ≡ y
cons-first {B} x y xs ys e = ap head e
  where
    head : List B → B
    head [] = x
    head (z ∷ zs) = z

cons-rest : {B : Type 0} (x y : B) (xs ys : List B) → x ∷ xs ≡ y ∷ ys → xs ≡ ys
cons-rest {B} x y xs ys e = ap rest e
  where
    rest : List B → List B
    rest [] = xs
    rest (z ∷ zs) = zs

-- what is mapped alike is alike at each
agree-map : {A B : Type 0} (f g : A → B) (xs : List A) → map f xs ≡ map g xs → AllByRecursion (λ x. f x ≡ g x) xs
agree-map f g [] e = tt
agree-map f g (x ∷ xs) e = (cons-first (f x) (g x) (map f xs) (map g xs) e, agree-map f g xs (cons-rest (f x) (g x) (map f xs) (map g xs) e))

-- what is given to each of these nodes is found there
looked_up : (f : ℕ → List (List Rec)) (qs : List ℕ) (p : ℕ) → is_id_among p qs ≡ true → batches_at (map (λ (q : ℕ). (q, f q)) qs) p ≡ f p
looked_up f [] p h = absurd cc
looked_up f (q ∷ qs) p h = by (q == p) refl (looked_up f qs p) h
  where
    here : Bool → List (List Rec)
    here c = unwrap_or (cond c (Some (f q)) (lookup (λ k. p == k) (map (λ (n : ℕ). (n, f n)) qs))) []

    by : (b : Bool) → (q == p) ≡ b → (is_id_among p qs ≡ true → batches_at (map (λ (n : ℕ). (n, f n)) qs) p ≡ f p) → (b || is_id_among p qs) ≡ true → here (p == q) ≡ f p
    by true e rest k = ap here (eqb-sym p q ∙ e) ∙ ap f (eqb-true q p e)
    by false e rest k = ap here (eqb-sym p q ∙ e) ∙ rest k

-- what is given is what the text says
given-said : (flow : Dataflow) (text : List ℕ) → AllByRecursion (λ (p : ℕ). batches_at (given_batches flow text) p ≡ batches_said_of (sources_of flow) (said_lines text) p) (node_ids flow)
given-said flow text =
    let said = batches_said_of (sources_of flow) (said_lines text) in
    each-weaker (λ (p : ℕ). is_id_among p (node_ids flow) ≡ true) (λ (p : ℕ). batches_at (given_batches flow text) p ≡ said p) (node_ids flow) (λ p h. looked_up said (node_ids flow) p h)
    (among-self (node_ids flow))

-- so the system of what texts spell is that which they spell
pub held-spelled : (flow : Dataflow) (texts : Texts) → system_in (held_texts flow texts) ≡ spelled_system flow texts
unfolding batches_of_nodes
held-spelled flow texts =
    let make : List (List (List Rec)) → System = λ b. record { flow = flow; batches = b } in
    ap make (map-agree (batches_at (given_batches flow texts.inputs)) (batches_said_of (sources_of flow) (said_lines texts.inputs)) (node_ids flow) (given-said flow texts.inputs))

both_alike : (f g h : ℕ → List (List Rec)) (ps : List ℕ) → AllByRecursion (λ (p : ℕ). f p ≡ h p) ps → AllByRecursion (λ (p : ℕ). g p ≡ h p) ps → AllByRecursion (λ (p : ℕ). f p ≡ g p) ps
both_alike f g h [] a b = tt
both_alike f g h (p ∷ ps) a b = (a.0 ∙ sym b.0, both_alike f g h ps a.1 b.1)

-- the batches that were read of a text are those that it spells
pub spelled-alike : (flow : Dataflow) (texts : Texts) (batches : Given) → system_of flow batches ≡ spelled_system flow texts → AreAlike flow batches (given_batches flow texts.inputs)
unfolding batches_of_nodes
spelled-alike flow texts batches e =
    let said = batches_said_of (sources_of flow) (said_lines texts.inputs) in
    let read : AllByRecursion (λ (p : ℕ). batches_at batches p ≡ said p) (node_ids flow) = agree-map (batches_at batches) said (node_ids flow) (ap (λ (sys : System). sys.batches) e) in
    both_alike (batches_at batches) (batches_at (given_batches flow texts.inputs)) said (node_ids flow) read (given-said flow texts.inputs)

-- and so is their system
pub system-alike : (flow : Dataflow) (one other : Given) → AreAlike flow one other → system_of flow one ≡ system_of flow other
unfolding batches_of_nodes
system-alike flow one other a =
    let make : List (List (List Rec)) → System = λ b. record { flow = flow; batches = b } in
    ap make (map-agree (batches_at one) (batches_at other) (node_ids flow) a)

-- ---- roots

-- what holds of each two of two lists, from more of those of the first
zip-more : {A B : Type 0} (E : A → Type 0) (P Q : A → B → Type 0) (xs : List A) (ys : List B) → ((x : A) (y : B) → E x → P x y → Q x y) → AllByRecursion E xs → AllZip P xs ys → AllZip Q xs ys
zip-more E P Q [] [] more all zip = tt
zip-more E P Q [] (y ∷ ys) more all zip = absurd zip
zip-more E P Q (x ∷ xs) [] more all zip = absurd zip
zip-more E P Q (x ∷ xs) (y ∷ ys) more all zip = (more x y all.0 zip.0, zip-more E P Q xs ys more all.1 zip.1)

limit-alike : (flow : Dataflow) (one other : Given) (p : ℕ) → batches_at one p ≡ batches_at other p → limit_for flow one p ≡ limit_for flow other p
unfolding limit_for
limit-alike flow one other p e = ap (λ (b : List (List Rec)). if is_input_kind (kind_of flow p) then length b else 2 ^ 32) e

low-alike : (flow : Dataflow) (one other : Given) (injected : List ℕ) (p : ℕ) → batches_at one p ≡ batches_at other p → low_extent flow one injected p ≡ low_extent flow other injected p
unfolding low_extent
low-alike flow one other injected p e =
    ap (λ (b : List (List Rec)). option_map_or (λ (n : ℕ). Batches n (n == length b)) (number_standing_for (nodes_as flow role.Input) injected p) Any) e

number-alike : (flow : Dataflow) (one other : Given) (p n : ℕ) → batches_at one p ≡ batches_at other p → IsNumberFor flow one p n → IsNumberFor flow other p n
number-alike flow one other p n e h = record { small = h.small; within = subst (λ (most : ℕ). n ≤ most) (limit-alike flow one other p e) h.within }

fronts-alike : (flow : Dataflow) (one other : Given) (injected : List ℕ) (p : ℕ) (f : NodeFronts) → batches_at one p ≡ batches_at other p → AreNodeFronts flow one injected p f → AreNodeFronts flow other injected p f
fronts-alike flow one other injected p f e h = record {
  settled = h.settled;
  low = subst (λ (extent : Extent). IsFrontIn (bounds_of flow p) extent f.low) (low-alike flow one other injected p e) h.low;
  third = h.third;
}

alike-as : (flow : Dataflow) (one other : Given) (of_role : Role) → AreAlike flow one other → AllByRecursion (λ (p : ℕ). batches_at one p ≡ batches_at other p) (nodes_as flow of_role)
unfolding nodes_as
alike-as flow one other of_role a =
    each-filter (λ (p : ℕ). batches_at one p ≡ batches_at other p) (λ p. plays of_role (kind_of flow p)) (node_ids flow)
    (each-weaker (λ (p : ℕ). batches_at one p ≡ batches_at other p) (λ (p : ℕ). plays of_role (kind_of flow p) ≡ true → batches_at one p ≡ batches_at other p) (node_ids flow) (λ p e h. e) a)

-- a root of the one is a root of the other
pub root-alike : (flow : Dataflow) (one other : Given) (root : Root) → AreAlike flow one other → IsRootFor flow one root → IsRootFor flow other root
root-alike flow one other root a r =
    let same : ℕ → Type 0 = λ p. batches_at one p ≡ batches_at other p in
    record {
      mark = r.mark;
      next_id = r.next_id;
      injected = zip-more same (IsNumberFor flow one) (IsNumberFor flow other) (nodes_as flow role.Input) root.injected (λ p n e h. number-alike flow one other p n e h) (alike-as flow one other role.Input a) r.injected;
      bounds = zip-more same (IsNumberFor flow one) (IsNumberFor flow other) (nodes_as flow role.Output) root.bounds (λ p n e h. number-alike flow one other p n e h) (alike-as flow one other role.Output a) r.bounds;
      fronts = zip-more same (AreNodeFronts flow one root.injected) (AreNodeFronts flow other root.injected) (node_ids flow) root.fronts (λ p f e h. fronts-alike flow one other root.injected p f e h) a r.fronts;
      writes = r.writes;
      others = r.others;
      pending = r.pending;
      owed = r.owed;
      sends = r.sends;
    }

-- ---- what is kept

-- texts with these batches
abbrev pub texts_with : Dataflow → List Item → List ℕ → Digests → Given → HeldTexts
texts_with flow items numbers digests batches = record { flow = flow; batches = batches; items = items; numbers = numbers; digests = digests }

pub kept-alike : (flow : Dataflow) (items : List Item) (numbers : List ℕ) (digests : Digests) (one other : Given) (starts : ℕ) (held : Records) (found : Found) (kept : KeptPoint) → AreAlike flow one other
    → HoldsKeptPoint (texts_with flow items numbers digests one) starts held found kept → HoldsKeptPoint (texts_with flow items numbers digests other) starts held found kept
kept-alike flow items numbers digests one other starts held no_root kept a h = (h.0, h.1 ∙ ap kept_at_first (system-alike flow one other a))
kept-alike flow items numbers digests one other starts held a_root kept a (root, k) =
    let e = system-alike flow one other a in (
      root,
      record {
        counted = k.counted;
        digests = k.digests;
        of_texts = root-alike flow one other root a k.of_texts;
        reached = subst (λ (sys : System). IsReached sys kept.point.state) e k.reached;
        of_state = subst (λ (sys : System). IsRootOf sys kept.point.state root) e k.of_state;
        named = subst (λ (sys : System). AreNamed sys kept.point.state root (Some held)) e k.named;
        point = k.point;
        line = k.line;
        singles = k.singles;
        steps = k.steps;
        idle = k.idle;
        lines = k.lines;
        turns = k.turns;
        ids = k.ids;
      },
    )

pub found-alike : (flow : Dataflow) (items : List Item) (numbers : List ℕ) (digests : Digests) (one other : Given) (starts : ℕ) (records : Option Records) (found : Found) (kept : KeptPoint) → AreAlike flow one other
    → HoldsFound (texts_with flow items numbers digests one) starts records found kept → HoldsFound (texts_with flow items numbers digests other) starts records found kept
found-alike flow items numbers digests one other starts records found kept a (held, told, h) = (held, told, kept-alike flow items numbers digests one other starts held found kept a h)

pub kept_in-alike : (flow : Dataflow) (items : List Item) (numbers : List ℕ) (digests : Digests) (one other : Given) (starts : ℕ) (records : Option Records) (kept : KeptPoint) → AreAlike flow one other
    → HoldsKeptIn (texts_with flow items numbers digests one) starts records kept → HoldsKeptIn (texts_with flow items numbers digests other) starts records kept
kept_in-alike flow items numbers digests one other starts records kept a (found, h) = (found, found-alike flow items numbers digests one other starts records found kept a h)

-- a start may begin with the one where it may with the other
pub may-alike : (flow : Dataflow) (items : List Item) (numbers : List ℕ) (digests : Digests) (one other : Given) (records : Option Records) → AreAlike flow one other
    → MayStart (texts_with flow items numbers digests one) records → MayStart (texts_with flow items numbers digests other) records
may-alike flow items numbers digests one other records a may held told = elim (may held told) [
  | inl s ↦ inl (record {
    starts = s.starts;
    few = s.few;
    found = s.found;
    kept = s.kept;
    holds = kept-alike flow items numbers digests one other s.starts held s.found s.kept a s.holds;
  })
  | inr f ↦ inr f
]

-- bytes that are no root of the one are none of the other
pub no_root-alike : (flow : Dataflow) (items : List Item) (numbers : List ℕ) (digests : Digests) (one other : Given) (id : ℕ) (given : Option (ℕ × List ℕ)) → AreAlike flow one other
    → GaveNoRoot (texts_with flow items numbers digests one) id given → GaveNoRoot (texts_with flow items numbers digests other) id given
no_root-alike flow items numbers digests one other id given a g = record {
  of_root = g.of_root;
  bytes = g.bytes;
  gave = g.gave;
  broken = elim g.broken [
    | inl none ↦ inl none
    | inr others ↦ inr (record {
      head = others.head;
      begins = others.begins;
      of_texts = others.of_texts;
      none = λ root r e. others.none root (root-alike flow other one root (alike-back flow one other a) r) e;
    })
  ];
}
