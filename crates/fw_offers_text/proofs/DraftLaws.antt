-- What is told by statements, with one more.
use Rattle.std.proofs.Common.{◌≡◌, ℕ, ◌<◌, Bool, true, false, not, ◌&&◌, ◌||◌, ◌==◌, cond, List, [], ◌∷◌, ◌++◌, map, length, Option, Some, None, refl, sym, ◌∙◌, ap, subst, arith, set}
use Rattle.std.proofs.lemmas.List.{append-nil}
use Rattle.std.proofs.lemmas.List.Concat.{flat_map-append}
use Rattle.std.proofs.lemmas.List.Elements.{filter_map-append}
use Rattle.std.proofs.lemmas.List.Folds.{list_any-append}
use Rattle.std.proofs.lemmas.List.FromFn.{get_or-map-range_with_len, length-map-range_with_len}
use Rattle.std.specs.List.{list_any, filter_map, flat_map, cons_option, range_with_len}
use Rattle.std.specs.Option.{is_none, is_some, option_map, option_map_or, option_or}
use Rattle.fw_time.specs.Stamp.{Stamp}
use Rattle.fw_bag.specs.declared.rec.Rec.{Rec}
use Rattle.fw_frontier.specs.Front.{Front}
use Rattle.fw_flow.specs.declared.choice.Counted.{Counted}
use Rattle.fw_flow.specs.declared.choice.Offered.{Offered}
use Rattle.fw_flow.specs.declared.choice.Recorded.{Recorded}
use Rattle.fw_flow.specs.Dataflow.{Dataflow, sender, receiver, node_ids}
use Rattle.fw_offers_text.specs.declared.code.ChoiceCode.TheVariants.{O3, O4, O5, O6, O7}
use Rattle.fw_offers_text.specs.declared.draft.EdgeDraft.{EdgeDraft}
use Rattle.fw_offers_text.specs.declared.statement.RecordCover.{RecordCover}
use Rattle.fw_offers_text.specs.declared.statement.Statement.{Statement}
use Rattle.fw_offers_text.specs.declared.statement.Statement.TheVariants.{Node, Record, Range, Delivered, Sent, Notified, Counts}
use Rattle.fw_offers_text.specs.Draft.{NodeTold, Told, node_told, edge_told, told_by, nothing_told, told_of_node, told_of_edge, with_presence, with_record, with_range, with_arrivals, with_sent, with_notified, with_table, with_statement, IsOf, is_new_after, is_above_last, is_in_order_after, fault_after}
use Rattle.fw_offers_text.specs.Faults.{first_broken}
use Rattle.fw_offers_text.specs.OffersGrammar.{record_told, record_of, offered_between, range_stated, counted_at, delivered_stated, sent_stated, notices_of, counted_in, table_stated}
use Rattle.fw_offers_text.specs.Statements.{is_in_domains, is_of_its_kind, is_same_saying, is_apart, is_new_statement, is_in_order, front_recorded, last_of_fronts, is_strictly_within, is_record_told, statement_fault, is_said, first_told, presence_of, IsStatementOf}
use Rattle.fw_offers_text.proofs.ToldLaws.{or_none, none_or, none-some, true_option, false_option, some_if, first_more, any_told, any_same, any_none, map-set, map-same}
use Rattle.fw_lemmas.proofs.Numbers.{eqb-self}
use Rattle.std.proofs.Math.Bool.{or-false, or-true}
use Rattle.fw_model.proofs.BelowLaws.{and-true}

-- ---- a node

-- what is told of a node, part by part
abbrev node_of : Option Bool → List Recorded → Option Offered → List Counted → List Counted → Option (List Stamp) → Option (List (ℕ × ℕ)) → NodeTold
node_of a b c d e f g = record { present = a; records = b; range = c; delivered = d; sent = e; notified = f; table = g }

same_node : (a a' : Option Bool) (b b' : List Recorded) (c c' : Option Offered) (d d' e e' : List Counted) (f f' : Option (List Stamp)) (g g' : Option (List (ℕ × ℕ)))
    → a ≡ a' → b ≡ b' → c ≡ c' → d ≡ d' → e ≡ e' → f ≡ f' → g ≡ g' → node_of a b c d e f g ≡ node_of a' b' c' d' e' f' g'
same_node a a' b b' c c' d d' e e' f f' g g' i j k l m n o =
    ap (λ x. node_of x b c d e f g) i ∙ ap (λ x. node_of a' x c d e f g) j ∙ ap (λ x. node_of a' b' x d e f g) k ∙ ap (λ x. node_of a' b' c' x e f g) l
    ∙ ap (λ x. node_of a' b' c' d' x f g) m ∙ ap (λ x. node_of a' b' c' d' e' x g) n ∙ ap (λ x. node_of a' b' c' d' e' f' x) o

-- what is told of a node, with what one statement more tells of it
abbrev node_then : Dataflow → NodeTold → ℕ → Statement → NodeTold
node_then flow n p s =
    node_of (option_or n.present (presence_of p s)) (n.records ++ cons_option (record_of flow p s) []) (option_or n.range (range_stated flow p s))
    (n.delivered ++ delivered_stated flow p s) (n.sent ++ sent_stated flow p s) (option_or n.notified (notices_of p s)) (option_or n.table (table_stated p s))

flat-more : {A : Type 0} (f : Statement → List A) (said : List Statement) (s : Statement) → flat_map f (said ++ s ∷ []) ≡ flat_map f said ++ f s
flat-more f said s = flat_map-append f said (s ∷ []) ∙ ap (λ xs. flat_map f said ++ xs) (append-nil (f s))

node_more : (flow : Dataflow) (said : List Statement) (s : Statement) (p : ℕ) → node_told flow (said ++ s ∷ []) p ≡ node_then flow (node_told flow said p) p s
node_more flow said s p = same_node _ _ _ _ _ _ _ _ _ _ _ _ _ _
    (first_more (presence_of p) said s) (filter_map-append (record_of flow p) said (s ∷ [])) (first_more (range_stated flow p) said s)
    (flat-more (delivered_stated flow p) said s) (flat-more (sent_stated flow p) said s) (first_more (notices_of p) said s) (first_more (table_stated p) said s)

-- a statement that tells nothing of a node
node_kept : (flow : Dataflow) (n : NodeTold) (p : ℕ) (s : Statement) → presence_of p s ≡ None → record_of flow p s ≡ None → range_stated flow p s ≡ None → delivered_stated flow p s ≡ [] → sent_stated flow p s ≡ [] → notices_of p s ≡ None → table_stated p s ≡ None
    → node_then flow n p s ≡ n
node_kept flow n p s a b c d e f g = same_node _ n.present _ n.records _ n.range _ n.delivered _ n.sent _ n.notified _ n.table
    (ap (option_or n.present) a ∙ or_none n.present) (ap (λ o. n.records ++ cons_option o []) b ∙ append-nil n.records) (ap (option_or n.range) c ∙ or_none n.range)
    (ap (λ xs. n.delivered ++ xs) d ∙ append-nil n.delivered) (ap (λ xs. n.sent ++ xs) e ∙ append-nil n.sent)
    (ap (option_or n.notified) f ∙ or_none n.notified) (ap (option_or n.table) g ∙ or_none n.table)

false_list : {A : Type 0} (b : Bool) (xs : List A) → b ≡ false → cond b xs [] ≡ []
false_list b xs h = ap (λ c. cond c xs []) h

true_list : {A : Type 0} (b : Bool) (xs : List A) → b ≡ true → cond b xs [] ≡ xs
true_list b xs h = ap (λ c. cond c xs []) h

-- the node of a statement, or the one at the end of its edge
abbrev pub place_of : Dataflow → Statement → ℕ
place_of flow (Node p b) = p
place_of flow (Record p f covers) = p
place_of flow (Range p least greatest and_all) = p
place_of flow (Delivered d stamps) = receiver flow d
place_of flow (Sent e stamps) = sender flow e
place_of flow (Notified p stamps) = p
place_of flow (Counts p counts) = p

-- other nodes keep what is told of them
other_node : (flow : Dataflow) (n : NodeTold) (q : ℕ) (s : Statement) → (place_of flow s == q) ≡ false → node_then flow n q s ≡ n
other_node flow n q (Node p b) h = node_kept flow n q (Node p b) (false_option (p == q) b h) refl refl refl refl refl refl
other_node flow n q (Record p f covers) h = node_kept flow n q (Record p f covers) refl (false_option (p == q) (record_told flow p f covers) h) refl refl refl refl refl
other_node flow n q (Range p least greatest and_all) h = node_kept flow n q (Range p least greatest and_all) refl refl (false_option (p == q) (offered_between flow p least greatest and_all) h) refl refl refl refl
other_node flow n q (Delivered d stamps) h = node_kept flow n q (Delivered d stamps) refl refl refl (false_list (receiver flow d == q) (map (counted_at flow d) stamps) h) refl refl refl
other_node flow n q (Sent e stamps) h = node_kept flow n q (Sent e stamps) refl refl refl refl (false_list (sender flow e == q) (map (counted_at flow e) stamps) h) refl refl
other_node flow n q (Notified p stamps) h = node_kept flow n q (Notified p stamps) refl refl refl refl refl (false_option (p == q) stamps h) refl
other_node flow n q (Counts p counts) h = node_kept flow n q (Counts p counts) refl refl refl refl refl refl (false_option (p == q) (map counted_in counts) h)

-- what is told of a statement's own node
abbrev here_node : Dataflow → NodeTold → Statement → NodeTold
here_node flow n (Node p b) = with_presence b n
here_node flow n (Record p f covers) = with_record (record_told flow p f covers) n
here_node flow n (Range p least greatest and_all) = with_range (offered_between flow p least greatest and_all) n
here_node flow n (Delivered d stamps) = with_arrivals (map (counted_at flow d) stamps) n
here_node flow n (Sent e stamps) = with_sent (map (counted_at flow e) stamps) n
here_node flow n (Notified p stamps) = with_notified stamps n
here_node flow n (Counts p counts) = with_table (map counted_in counts) n

-- whether what a statement tells is not told of its node
abbrev is_free : NodeTold → Statement → Bool
is_free n (Node p b) = is_none n.present
is_free n (Record p f covers) = true
is_free n (Range p least greatest and_all) = is_none n.range
is_free n (Delivered d stamps) = true
is_free n (Sent e stamps) = true
is_free n (Notified p stamps) = is_none n.notified
is_free n (Counts p counts) = is_none n.table

own_node : (flow : Dataflow) (n : NodeTold) (s : Statement) → is_free n s ≡ true → node_then flow n (place_of flow s) s ≡ here_node flow n s
own_node flow n (Node p b) h = same_node _ _ _ n.records _ n.range _ n.delivered _ n.sent _ n.notified _ n.table
    (none_or n.present (presence_of p (Node p b)) h ∙ true_option (p == p) b (eqb-self p)) (append-nil n.records) (or_none n.range) (append-nil n.delivered) (append-nil n.sent) (or_none n.notified) (or_none n.table)
own_node flow n (Record p f covers) h = same_node _ n.present _ _ _ n.range _ n.delivered _ n.sent _ n.notified _ n.table
    (or_none n.present) (ap (λ o. n.records ++ cons_option o []) (true_option (p == p) (record_told flow p f covers) (eqb-self p))) (or_none n.range) (append-nil n.delivered) (append-nil n.sent) (or_none n.notified) (or_none n.table)
own_node flow n (Range p least greatest and_all) h = same_node _ n.present _ n.records _ _ _ n.delivered _ n.sent _ n.notified _ n.table
    (or_none n.present) (append-nil n.records) (none_or n.range (range_stated flow p (Range p least greatest and_all)) h ∙ true_option (p == p) (offered_between flow p least greatest and_all) (eqb-self p)) (append-nil n.delivered) (append-nil n.sent) (or_none n.notified) (or_none n.table)
own_node flow n (Delivered d stamps) h = same_node _ n.present _ n.records _ n.range _ _ _ n.sent _ n.notified _ n.table
    (or_none n.present) (append-nil n.records) (or_none n.range) (ap (λ xs. n.delivered ++ xs) (true_list (receiver flow d == receiver flow d) (map (counted_at flow d) stamps) (eqb-self (receiver flow d)))) (append-nil n.sent) (or_none n.notified) (or_none n.table)
own_node flow n (Sent e stamps) h = same_node _ n.present _ n.records _ n.range _ n.delivered _ _ _ n.notified _ n.table
    (or_none n.present) (append-nil n.records) (or_none n.range) (append-nil n.delivered) (ap (λ xs. n.sent ++ xs) (true_list (sender flow e == sender flow e) (map (counted_at flow e) stamps) (eqb-self (sender flow e)))) (or_none n.notified) (or_none n.table)
own_node flow n (Notified p stamps) h = same_node _ n.present _ n.records _ n.range _ n.delivered _ n.sent _ _ _ n.table
    (or_none n.present) (append-nil n.records) (or_none n.range) (append-nil n.delivered) (append-nil n.sent) (none_or n.notified (notices_of p (Notified p stamps)) h ∙ true_option (p == p) stamps (eqb-self p)) (or_none n.table)
own_node flow n (Counts p counts) h = same_node _ n.present _ n.records _ n.range _ n.delivered _ n.sent _ n.notified _ _
    (or_none n.present) (append-nil n.records) (or_none n.range) (append-nil n.delivered) (append-nil n.sent) (or_none n.notified) (none_or n.table (table_stated p (Counts p counts)) h ∙ true_option (p == p) (map counted_in counts) (eqb-self p))

-- ---- all nodes

-- what is told of a node among all
pub node_among : (flow : Dataflow) (said : List Statement) (p : ℕ) → p < length flow.nodes → told_of_node (told_by flow said) p ≡ node_told flow said p
node_among flow said p below = get_or-map-range_with_len (node_told flow said) 0 (length flow.nodes) p p nothing_told below (omega arith)

pub edge_among : (flow : Dataflow) (said : List Statement) (e : ℕ) → e < length flow.edges → told_of_edge (told_by flow said) e ≡ edge_told said e
edge_among flow said e below = get_or-map-range_with_len (edge_told said) 0 (length flow.edges) e e (record { delivered = false; sent = false }) below (omega arith)

pub told_of : (flow : Dataflow) (said : List Statement) → IsOf flow (told_by flow said)
told_of flow said = record {
  nodes = length-map-range_with_len (node_told flow said) 0 (length flow.nodes);
  edges = length-map-range_with_len (edge_told said) 0 (length flow.edges);
}

nodes_more : (flow : Dataflow) (said : List Statement) (s : Statement) → place_of flow s < length flow.nodes → is_free (node_told flow said (place_of flow s)) s ≡ true
    → set (map (node_told flow said) (node_ids flow)) (place_of flow s) (here_node flow (node_told flow said (place_of flow s)) s) ≡ map (node_told flow (said ++ s ∷ [])) (node_ids flow)
nodes_more flow said s below free =
    map-set (node_told flow said) (node_told flow (said ++ s ∷ [])) (length flow.nodes) (place_of flow s) (here_node flow (node_told flow said (place_of flow s)) s) below
    (sym (own_node flow (node_told flow said (place_of flow s)) s free) ∙ sym (node_more flow said s (place_of flow s)))
    (λ q other. sym (other_node flow (node_told flow said q) q s other) ∙ sym (node_more flow said s q))

-- ---- edges

abbrev edge_of : Bool → Bool → EdgeDraft
edge_of a b = record { delivered = a; sent = b }

same_edge : (a a' b b' : Bool) → a ≡ a' → b ≡ b' → edge_of a b ≡ edge_of a' b'
same_edge a a' b b' i j = ap (λ x. edge_of x b) i ∙ ap (λ x. edge_of a' x) j

said_more : (said : List Statement) (s t : Statement) → is_said (said ++ s ∷ []) t ≡ (is_said said t || is_same_saying t s)
said_more said s t = list_any-append (is_same_saying t) said (s ∷ []) ∙ ap (λ b. is_said said t || b) (or-false (is_same_saying t s))

edge_more : (said : List Statement) (s : Statement) (e : ℕ)
    → edge_told (said ++ s ∷ []) e ≡ edge_of (is_said said (Delivered e []) || is_same_saying (Delivered e []) s) (is_said said (Sent e []) || is_same_saying (Sent e []) s)
edge_more said s e = same_edge _ _ _ _ (said_more said s (Delivered e [])) (said_more said s (Sent e []))

edge_kept : (said : List Statement) (s : Statement) (e : ℕ) → is_same_saying (Delivered e []) s ≡ false → is_same_saying (Sent e []) s ≡ false → edge_told said e ≡ edge_told (said ++ s ∷ []) e
edge_kept said s e h k = sym (edge_more said s e ∙ same_edge _ _ _ _ (ap (λ b. is_said said (Delivered e []) || b) h ∙ or-false (is_said said (Delivered e []))) (ap (λ b. is_said said (Sent e []) || b) k ∙ or-false (is_said said (Sent e []))))

edges_kept : (flow : Dataflow) (said : List Statement) (s : Statement) → ((e : ℕ) → is_same_saying (Delivered e []) s ≡ false) → ((e : ℕ) → is_same_saying (Sent e []) s ≡ false)
    → map (edge_told said) (range_with_len 0 (length flow.edges)) ≡ map (edge_told (said ++ s ∷ [])) (range_with_len 0 (length flow.edges))
edges_kept flow said s h k = map-same (edge_told said) (edge_told (said ++ s ∷ [])) (range_with_len 0 (length flow.edges)) (λ e. edge_kept said s e (h e) (k e))

arrivals_edge : (flow : Dataflow) (said : List Statement) (d : ℕ) (stamps : List Stamp) → d < length flow.edges
    → set (map (edge_told said) (range_with_len 0 (length flow.edges))) d (edge_of true (told_of_edge (told_by flow said) d).sent) ≡ map (edge_told (said ++ Delivered d stamps ∷ [])) (range_with_len 0 (length flow.edges))
arrivals_edge flow said d stamps below =
    map-set (edge_told said) (edge_told (said ++ Delivered d stamps ∷ [])) (length flow.edges) d (edge_of true (told_of_edge (told_by flow said) d).sent) below
    (sym (edge_more said (Delivered d stamps) d ∙ same_edge _ _ _ _ (ap (λ b. is_said said (Delivered d []) || b) (eqb-self d) ∙ or-true (is_said said (Delivered d []))) (or-false (is_said said (Sent d [])) ∙ ap (λ (e : EdgeDraft). e.sent) (sym (edge_among flow said d below)))))
    (λ e other. edge_kept said (Delivered d stamps) e other refl)

sent_edge : (flow : Dataflow) (said : List Statement) (d : ℕ) (stamps : List Stamp) → d < length flow.edges
    → set (map (edge_told said) (range_with_len 0 (length flow.edges))) d (edge_of (told_of_edge (told_by flow said) d).delivered true) ≡ map (edge_told (said ++ Sent d stamps ∷ [])) (range_with_len 0 (length flow.edges))
sent_edge flow said d stamps below =
    map-set (edge_told said) (edge_told (said ++ Sent d stamps ∷ [])) (length flow.edges) d (edge_of (told_of_edge (told_by flow said) d).delivered true) below
    (sym (edge_more said (Sent d stamps) d ∙ same_edge _ _ _ _ (or-false (is_said said (Delivered d [])) ∙ ap (λ (e : EdgeDraft). e.delivered) (sym (edge_among flow said d below))) (ap (λ b. is_said said (Sent d []) || b) (eqb-self d) ∙ or-true (is_said said (Sent d [])))))
    (λ e other. edge_kept said (Sent d stamps) e refl other)

-- ---- one statement more

abbrev told_from : List NodeTold → List EdgeDraft → Told
told_from nodes edges = record { nodes = nodes; edges = edges }

same_told : (a a' : List NodeTold) (b b' : List EdgeDraft) → a ≡ a' → b ≡ b' → told_from a b ≡ told_from a' b'
same_told a a' b b' i j = ap (λ x. told_from x b) i ∙ ap (λ x. told_from a' x) j

-- what is told of the statement's node, looked up among all
nodes_set : (flow : Dataflow) (said : List Statement) (s : Statement) → place_of flow s < length flow.nodes → is_free (told_of_node (told_by flow said) (place_of flow s)) s ≡ true
    → set (map (node_told flow said) (node_ids flow)) (place_of flow s) (here_node flow (told_of_node (told_by flow said) (place_of flow s)) s) ≡ map (node_told flow (said ++ s ∷ [])) (node_ids flow)
nodes_set flow said s below free =
    let same = node_among flow said (place_of flow s) below in
    ap (λ n. set (map (node_told flow said) (node_ids flow)) (place_of flow s) (here_node flow n s)) same
    ∙ nodes_more flow said s below (subst (λ n. is_free n s ≡ true) same free)

pub statement_more : (flow : Dataflow) (said : List Statement) (s : Statement) → place_of flow s < length flow.nodes → IsStatementOf flow s → is_new_after (told_by flow said) s ≡ true
    → with_statement flow (told_by flow said) s ≡ told_by flow (said ++ s ∷ [])
statement_more flow said (Node p b) below there new =
    same_told _ _ _ _ (nodes_set flow said (Node p b) below new) (edges_kept flow said (Node p b) (λ e. refl) (λ e. refl))
statement_more flow said (Record p f covers) below there new =
    same_told _ _ _ _ (nodes_set flow said (Record p f covers) below refl) (edges_kept flow said (Record p f covers) (λ e. refl) (λ e. refl))
statement_more flow said (Range p least greatest and_all) below there new =
    same_told _ _ _ _ (nodes_set flow said (Range p least greatest and_all) below new) (edges_kept flow said (Range p least greatest and_all) (λ e. refl) (λ e. refl))
statement_more flow said (Delivered d stamps) below there new =
    same_told _ _ _ _ (nodes_set flow said (Delivered d stamps) below refl) (arrivals_edge flow said d stamps there)
statement_more flow said (Sent e stamps) below there new =
    same_told _ _ _ _ (nodes_set flow said (Sent e stamps) below refl) (sent_edge flow said e stamps there)
statement_more flow said (Notified p stamps) below there new =
    same_told _ _ _ _ (nodes_set flow said (Notified p stamps) below new) (edges_kept flow said (Notified p stamps) (λ e. refl) (λ e. refl))
statement_more flow said (Counts p counts) below there new =
    same_told _ _ _ _ (nodes_set flow said (Counts p counts) below (and_first _ _ new)) (edges_kept flow said (Counts p counts) (λ e. refl) (λ e. refl))
  where
    and_first : (a b : Bool) → (a && b) ≡ true → a ≡ true
    and_first true b h = refl
    and_first false b h = absurd (cc)

-- ---- the rules

not_said : {A : Type 0} (tells : Statement → Option A) (s : Statement) (said : List Statement) → ((t : Statement) → is_same_saying s t ≡ is_some (tells t)) → not (list_any (is_same_saying s) said) ≡ is_none (first_told tells said)
not_said tells s said h = ap not (any_told tells (is_same_saying s) said h) ∙ none-some (first_told tells said)

pub presence_said : (p : ℕ) (b : Bool) (t : Statement) → is_same_saying (Node p b) t ≡ is_some (presence_of p t)
presence_said p b (Node q c) = some_if (q == p) c
presence_said p b (Record q f covers) = refl
presence_said p b (Range q least greatest and_all) = refl
presence_said p b (Delivered d stamps) = refl
presence_said p b (Sent e stamps) = refl
presence_said p b (Notified q stamps) = refl
presence_said p b (Counts q counts) = refl

range_said : (flow : Dataflow) (p : ℕ) (f g : Front) (b : Bool) (t : Statement) → is_same_saying (Range p f g b) t ≡ is_some (range_stated flow p t)
range_said flow p f g b (Node q c) = refl
range_said flow p f g b (Record q h covers) = refl
range_said flow p f g b (Range q least greatest and_all) = some_if (q == p) (offered_between flow q least greatest and_all)
range_said flow p f g b (Delivered d stamps) = refl
range_said flow p f g b (Sent e stamps) = refl
range_said flow p f g b (Notified q stamps) = refl
range_said flow p f g b (Counts q counts) = refl

pub notices_said : (p : ℕ) (ts : List Stamp) (t : Statement) → is_same_saying (Notified p ts) t ≡ is_some (notices_of p t)
notices_said p ts (Node q c) = refl
notices_said p ts (Record q f covers) = refl
notices_said p ts (Range q least greatest and_all) = refl
notices_said p ts (Delivered d stamps) = refl
notices_said p ts (Sent e stamps) = refl
notices_said p ts (Notified q stamps) = some_if (q == p) stamps
notices_said p ts (Counts q counts) = refl

pub table_said : (p : ℕ) (cs : List Rec) (t : Statement) → is_same_saying (Counts p cs) t ≡ is_some (table_stated p t)
table_said p cs (Node q c) = refl
table_said p cs (Record q f covers) = refl
table_said p cs (Range q least greatest and_all) = refl
table_said p cs (Delivered d stamps) = refl
table_said p cs (Sent e stamps) = refl
table_said p cs (Notified q stamps) = refl
table_said p cs (Counts q counts) = some_if (q == p) (map counted_in counts)

delivered_same : (d : ℕ) (a b : List Stamp) (t : Statement) → is_same_saying (Delivered d a) t ≡ is_same_saying (Delivered d b) t
delivered_same d a b (Node q c) = refl
delivered_same d a b (Record q f covers) = refl
delivered_same d a b (Range q least greatest and_all) = refl
delivered_same d a b (Delivered e stamps) = refl
delivered_same d a b (Sent e stamps) = refl
delivered_same d a b (Notified q stamps) = refl
delivered_same d a b (Counts q counts) = refl

sent_same : (d : ℕ) (a b : List Stamp) (t : Statement) → is_same_saying (Sent d a) t ≡ is_same_saying (Sent d b) t
sent_same d a b (Node q c) = refl
sent_same d a b (Record q f covers) = refl
sent_same d a b (Range q least greatest and_all) = refl
sent_same d a b (Delivered e stamps) = refl
sent_same d a b (Sent e stamps) = refl
sent_same d a b (Notified q stamps) = refl
sent_same d a b (Counts q counts) = refl

records_many : (p : ℕ) (f : Front) (covers : List RecordCover) (t : Statement) → is_same_saying (Record p f covers) t ≡ false
records_many p f covers (Node q c) = refl
records_many p f covers (Record q g others) = refl
records_many p f covers (Range q least greatest and_all) = refl
records_many p f covers (Delivered d stamps) = refl
records_many p f covers (Sent e stamps) = refl
records_many p f covers (Notified q stamps) = refl
records_many p f covers (Counts q counts) = refl

new_after : (flow : Dataflow) (said : List Statement) (s : Statement) → place_of flow s < length flow.nodes → IsStatementOf flow s → is_new_statement said s ≡ is_new_after (told_by flow said) s
new_after flow said (Node p b) below there = and-true _ ∙ not_said (presence_of p) (Node p b) said (presence_said p b) ∙ ap (λ (n : NodeTold). is_none n.present) (sym (node_among flow said p below))
new_after flow said (Record p f covers) below there = ap (λ b. not b && is_apart (Record p f covers)) (any_none (is_same_saying (Record p f covers)) said (records_many p f covers))
new_after flow said (Range p least greatest and_all) below there = and-true _ ∙ not_said (range_stated flow p) (Range p least greatest and_all) said (range_said flow p least greatest and_all) ∙ ap (λ (n : NodeTold). is_none n.range) (sym (node_among flow said p below))
new_after flow said (Delivered d stamps) below there = and-true _ ∙ ap not (any_same (is_same_saying (Delivered d stamps)) (is_same_saying (Delivered d [])) said (delivered_same d stamps [])) ∙ ap (λ (e : EdgeDraft). not e.delivered) (sym (edge_among flow said d there))
new_after flow said (Sent e stamps) below there = and-true _ ∙ ap not (any_same (is_same_saying (Sent e stamps)) (is_same_saying (Sent e [])) said (sent_same e stamps [])) ∙ ap (λ (x : EdgeDraft). not x.sent) (sym (edge_among flow said e there))
new_after flow said (Notified p stamps) below there = and-true _ ∙ not_said (notices_of p) (Notified p stamps) said (notices_said p stamps) ∙ ap (λ (n : NodeTold). is_none n.notified) (sym (node_among flow said p below))
new_after flow said (Counts p counts) below there =
    ap (λ b. b && is_apart (Counts p counts)) (not_said (table_stated p) (Counts p counts) said (table_said p counts) ∙ ap (λ (n : NodeTold). is_none n.table) (sym (node_among flow said p below)))

pub front_told : (flow : Dataflow) (p : ℕ) (s : Statement) → front_recorded p s ≡ option_map (λ (r : Recorded). r.front) (record_of flow p s)
front_told flow p (Node q c) = refl
front_told flow p (Record q f covers) = by (q == p)
  where
    by : (b : Bool) → cond b (Some f) None ≡ option_map (λ (r : Recorded). r.front) (cond b (Some (record_told flow q f covers)) None)
    by true = refl
    by false = refl
front_told flow p (Range q least greatest and_all) = refl
front_told flow p (Delivered d stamps) = refl
front_told flow p (Sent e stamps) = refl
front_told flow p (Notified q stamps) = refl
front_told flow p (Counts q counts) = refl

fronts_told : (flow : Dataflow) (p : ℕ) (said : List Statement) → filter_map (front_recorded p) said ≡ map (λ (r : Recorded). r.front) (filter_map (record_of flow p) said)
fronts_told flow p [] = refl
fronts_told flow p (s ∷ said) =
    ap (λ o. cons_option o (filter_map (front_recorded p) said)) (front_told flow p s)
    ∙ ap (λ xs. cons_option (option_map (λ (r : Recorded). r.front) (record_of flow p s)) xs) (fronts_told flow p said)
    ∙ by (record_of flow p s)
  where
    by : (o : Option Recorded) → cons_option (option_map (λ (r : Recorded). r.front) o) (map (λ (r : Recorded). r.front) (filter_map (record_of flow p) said)) ≡ map (λ (r : Recorded). r.front) (cons_option o (filter_map (record_of flow p) said))
    by None = refl
    by (Some r) = refl

order_after : (flow : Dataflow) (said : List Statement) (s : Statement) → place_of flow s < length flow.nodes → is_in_order said s ≡ is_in_order_after (told_by flow said) s
order_after flow said (Node p b) below = refl
order_after flow said (Record p f covers) below =
    ap (λ fs. option_map_or (λ last. is_strictly_within last f) (last_of_fronts fs) true) (fronts_told flow p said)
    ∙ ap (λ (n : NodeTold). is_above_last n.records f) (sym (node_among flow said p below))
order_after flow said (Range p least greatest and_all) below = refl
order_after flow said (Delivered d stamps) below = refl
order_after flow said (Sent e stamps) below = refl
order_after flow said (Notified p stamps) below = refl
order_after flow said (Counts p counts) below = refl

-- a statement of stamps in their domains breaks the rule that is told by what is kept
pub fault_told : (flow : Dataflow) (said : List Statement) (s : Statement) → place_of flow s < length flow.nodes → IsStatementOf flow s → is_in_domains flow s ≡ true
    → statement_fault flow said s ≡ fault_after flow (told_by flow said) s
fault_told flow said s below there small =
    ap (λ b. first_broken ((O3, b) ∷ (O4, is_of_its_kind flow s) ∷ (O5, is_new_statement said s) ∷ (O6, is_in_order said s) ∷ (O7, is_record_told flow s) ∷ [])) small
    ∙ ap (λ b. first_broken ((O4, is_of_its_kind flow s) ∷ (O5, b) ∷ (O6, is_in_order said s) ∷ (O7, is_record_told flow s) ∷ [])) (new_after flow said s below there)
    ∙ ap (λ b. first_broken ((O4, is_of_its_kind flow s) ∷ (O5, is_new_after (told_by flow said) s) ∷ (O6, b) ∷ (O7, is_record_told flow s) ∷ [])) (order_after flow said s below)

-- a statement that breaks no rule says nothing that is told
pub new_from_no_fault : (flow : Dataflow) (told : Told) (s : Statement) → fault_after flow told s ≡ None → is_new_after told s ≡ true
new_from_no_fault flow told s h = by (is_of_its_kind flow s) (is_new_after told s) (is_in_order_after told s) (is_record_told flow s) h
  where
    by : (a b c d : Bool) → first_broken ((O4, a) ∷ (O5, b) ∷ (O6, c) ∷ (O7, d) ∷ []) ≡ None → b ≡ true
    by true true c d h = refl
    by true false c d h = absurd (cc)
    by false b c d h = absurd (cc)
