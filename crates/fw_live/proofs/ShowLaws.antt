-- Where a session stands is shown by the state of its story.
use Rattle.std.proofs.Common.{◌≡◌, ℕ, ◌+◌, ◌++◌, Bool, true, false, ◌&&◌, not, cond, List, [], ◌∷◌, filter, length, find, append_assoc, Option, None, refl, sym, ap, ◌∙◌, arith}
use Rattle.std.specs.Fmt.{decimal}
use Rattle.std.specs.List.{AllByRecursion, flat_map, range_with_len}
use Rattle.std.specs.Prelude.{codes, slice_get}
use Rattle.fw_lemmas.proofs.Each.{each-filter, each-one}
use Rattle.fw_lemmas.proofs.Lists.{joined_more}
use Rattle.fw_flow.specs.declared.event.Message.{Message}
use Rattle.fw_frontier.specs.FrontText.{front_text}
use Rattle.fw_flow.specs.Dataflow.{Dataflow, System, is_input_kind, is_output_kind, kind_of, node_at}
use Rattle.fw_flow.specs.DomainText.{name_of_edge}
use Rattle.fw_keep.specs.declared.entry.Entry.{Entry}
use Rattle.fw_model.specs.Choice.{is_counted, kept}
use Rattle.fw_model.specs.History.{injected_count}
use Rattle.fw_model.specs.Machine.{Machine, Stage, Write, ack_count_of, acknowledged, collected, events, front_of, in_flight, is_failed}
use Rattle.fw_model.specs.Steps.{is_asked, is_in_flight}
use Rattle.fw_model.specs.Writes.{is_collected, not_collected}
use Rattle.fw_stands.specs.Parts.{queued}
use Rattle.fw_policy.specs.Entries.{AreEntriesOf, uncollected}
use Rattle.fw_session.specs.Story.{Story, system_now}
use Rattle.fw_living.specs.Life.{came_in_story}
use Rattle.fw_live.specs.ShowText.{edge_line, settled_line, open_word, output_line, source_line, waits_line}

-- the first message that waits
pub first-waits : (messages : List Message) → find (λ (m : Message). is_asked None m.at) messages ≡ slice_get messages 0
first-waits [] = refl
first-waits (m ∷ messages) = refl

pub and-second : (a b : Bool) → true ≡ a && b → b ≡ true
and-second true true e = refl
and-second true false e = absurd cc
and-second false b e = absurd cc

-- the line of an edge
pub edge-text : (flow : Dataflow) (story : Story) (e : ℕ) (name : List ℕ) (first : Option Message) (messages : List Message)
    → name ≡ name_of_edge flow e → messages ≡ queued (system_now flow story) story.now.state e
    → first ≡ find (λ (m : Message). is_asked None m.at) messages → waits_line name first ≡ edge_line flow story e
edge-text flow story e name first messages named there is =
    ap (λ n. waits_line n first) named
    ∙ ap (waits_line (name_of_edge flow e)) (is ∙ first-waits messages ∙ ap (λ ms. slice_get ms 0) there)

-- the line of an output
pub output-text : (flow : Dataflow) (story : Story) (p : ℕ) (name : List ℕ) (n : ℕ) → is_output_kind (kind_of flow p) ≡ true
    → name ≡ (node_at flow p).name → n ≡ ack_count_of story.now.state p
    → codes "output " ++ (name ++ (codes " next " ++ (decimal n ++ codes "\n"))) ≡ output_line flow story p
output-text flow story p name n kind named is =
    ap (λ x. codes "output " ++ (x ++ (codes " next " ++ (decimal n ++ codes "\n")))) named
    ∙ ap (λ x. codes "output " ++ ((node_at flow p).name ++ (codes " next " ++ (decimal x ++ codes "\n")))) is
    ∙ sym (ap (λ b. cond b (codes "output " ++ ((node_at flow p).name ++ (codes " next " ++ (decimal (ack_count_of story.now.state p) ++ codes "\n")))) []) kind)

-- the line of a source
pub source-text : (flow : Dataflow) (story : Story) (p : ℕ) (name : List ℕ) (came injected : ℕ) (word : List ℕ)
    → is_input_kind (kind_of flow p) ≡ true → name ≡ (node_at flow p).name → came ≡ came_in_story flow story p
    → injected ≡ injected_count p (events story.now.state.history) → word ≡ open_word (story.now.opened p)
    → codes "source " ++ (name ++ (codes " came " ++ (decimal came ++ (codes " injected " ++ (decimal injected ++ (codes " " ++ (word ++ codes "\n")))))))
    ≡ source_line flow story p
source-text flow story p name came injected word kind named came_is injected_is word_is =
    ap (λ x. codes "source " ++ (x ++ (codes " came " ++ (decimal came ++ (codes " injected " ++ (decimal injected ++ (codes " " ++ (word ++ codes "\n")))))))) named
    ∙ ap (λ x. codes "source " ++ ((node_at flow p).name ++ (codes " came " ++ (decimal x ++ (codes " injected " ++ (decimal injected ++ (codes " " ++ (word ++ codes "\n")))))))) came_is
    ∙ ap (λ x. codes "source " ++ ((node_at flow p).name ++ (codes " came " ++ (decimal (came_in_story flow story p) ++ (codes " injected " ++ (decimal x ++ (codes " " ++ (word ++ codes "\n")))))))) injected_is
    ∙ ap (λ x. codes "source " ++ ((node_at flow p).name ++ (codes " came " ++ (decimal (came_in_story flow story p) ++ (codes " injected "
    ++ (decimal (injected_count p (events story.now.state.history)) ++ (codes " " ++ (x ++ codes "\n")))))))) word_is
    ∙ sym (ap (λ b. cond b (codes "source " ++ ((node_at flow p).name ++ (codes " came " ++ (decimal (came_in_story flow story p) ++ (codes " injected "
    ++ (decimal (injected_count p (events story.now.state.history)) ++ (codes " " ++ (open_word (story.now.opened p) ++ codes "\n")))))))) []) kind)

-- the line of a node
pub failed-text : (flow : Dataflow) (story : Story) (p : ℕ) (name : List ℕ) (b : Bool) → name ≡ (node_at flow p).name → b ≡ true
    → b ≡ is_failed story.now.state p → codes "node " ++ (name ++ codes " failed\n") ≡ settled_line flow story p
failed-text flow story p name b named it-is is =
    ap (λ x. codes "node " ++ (x ++ codes " failed\n")) named
    ∙ sym (ap (λ b. codes "node " ++ ((node_at flow p).name ++ cond b (codes " failed\n")
    (codes " " ++ (front_text (front_of story.now.state.settled p) ++ codes "\n")))) (sym is ∙ it-is))

pub settled-text : (flow : Dataflow) (story : Story) (p : ℕ) (name : List ℕ) (b : Bool) (front : List (List ℕ)) → name ≡ (node_at flow p).name
    → b ≡ false → b ≡ is_failed story.now.state p → front ≡ front_of story.now.state.settled p
    → codes "node " ++ (name ++ (codes " " ++ (front_text front ++ codes "\n"))) ≡ settled_line flow story p
settled-text flow story p name b front named it-is-not is there =
    ap (λ x. codes "node " ++ (x ++ (codes " " ++ (front_text front ++ codes "\n")))) named
    ∙ ap (λ x. codes "node " ++ ((node_at flow p).name ++ (codes " " ++ (front_text x ++ codes "\n")))) there
    ∙ sym (ap (λ b. codes "node " ++ ((node_at flow p).name ++ cond b (codes " failed\n")
    (codes " " ++ (front_text (front_of story.now.state.settled p) ++ codes "\n")))) (sym is ∙ it-is-not))

-- one line more
pub line-more : (line_at : ℕ → List ℕ) (place : ℕ) (old all line new : List ℕ) → all ≡ old ++ flat_map line_at (range_with_len 0 place)
    → line ≡ line_at place → new ≡ all ++ line → new ≡ old ++ flat_map line_at (range_with_len 0 (place + 1))
line-more line_at place old all line new a l n =
    n ∙ ap (λ xs. xs ++ line) a ∙ append_assoc old (flat_map line_at (range_with_len 0 place)) line
    ∙ ap (λ xs. old ++ (flat_map line_at (range_with_len 0 place) ++ xs)) l ∙ sym (ap (λ xs. old ++ xs) (joined_more line_at place))

-- five parts, one behind the other
pub five-parts : {A : Type 0} (old a b c d e one two three four five : List A) → one ≡ old ++ a → two ≡ one ++ b → three ≡ two ++ c → four ≡ three ++ d
    → five ≡ four ++ e → five ≡ old ++ (a ++ (b ++ (c ++ (d ++ e))))
five-parts old a b c d e one two three four five p q r s t =
    t ∙ ap (λ xs. xs ++ e) s ∙ append_assoc three d e ∙ ap (λ xs. xs ++ (d ++ e)) r ∙ append_assoc two c (d ++ e)
    ∙ ap (λ xs. xs ++ (c ++ (d ++ e))) q ∙ append_assoc one b (c ++ (d ++ e)) ∙ ap (λ xs. xs ++ (b ++ (c ++ (d ++ e)))) p
    ∙ append_assoc old a (b ++ (c ++ (d ++ e)))

-- ---- writes

pub as-many : (sys : System) (state : Machine) (entries : List Entry) (writes : List Write) → AreEntriesOf sys state entries writes
    → length entries ≡ length writes
as-many sys state [] [] z = refl
as-many sys state [] (w ∷ writes) z = absurd z
as-many sys state (e ∷ entries) [] z = absurd z
as-many sys state (e ∷ entries) (w ∷ writes) z = omega (arith, as-many sys state entries writes z.1)

flies : (stage : Stage) → (stage ≡ collected → ⊥) → not (is_counted kept stage) ≡ is_in_flight stage
flies in_flight n = refl
flies acknowledged n = refl
flies collected n = absurd (n refl)

not-there : (stage : Stage) → not (is_collected stage) ≡ true → stage ≡ collected → ⊥
not-there in_flight e s = absurd cc
not-there acknowledged e s = absurd cc
not-there collected e s = absurd cc

keep-more : {A B : Type 0} (x : A) (y : B) (xs : List A) (ys : List B) (b c : Bool) → b ≡ c → length xs ≡ length ys
    → length (cond b (x ∷ xs) xs) ≡ length (cond c (y ∷ ys) ys)
keep-more x y xs ys true true e l = omega (arith, l)
keep-more x y xs ys false false e l = l
keep-more x y xs ys true false e l = absurd cc
keep-more x y xs ys false true e l = absurd cc

-- none of those that stand is collected
pub each-stands : (state : Machine) → AllByRecursion (λ (w : Write). not_collected w ≡ true) (uncollected state)
each-stands state =
    each-filter (λ (w : Write). not_collected w ≡ true) not_collected state.writes
    (each-one (λ (w : Write). not_collected w ≡ true → not_collected w ≡ true) state.writes (λ w e. e))

-- as many are in flight
pub as-many-fly : (sys : System) (state : Machine) (entries : List Entry) (writes : List Write)
    → AllByRecursion (λ (w : Write). not_collected w ≡ true) writes → AreEntriesOf sys state entries writes
    → length (filter (λ (e : Entry). not e.acknowledged) entries) ≡ length (filter (λ (w : Write). is_in_flight w.stage) writes)
as-many-fly sys state [] [] all z = refl
as-many-fly sys state [] (w ∷ writes) all z = absurd z
as-many-fly sys state (e ∷ entries) [] all z = absurd z
as-many-fly sys state (e ∷ entries) (w ∷ writes) all z =
    keep-more e w (filter (λ (e : Entry). not e.acknowledged) entries) (filter (λ (w : Write). is_in_flight w.stage) writes) (not e.acknowledged)
    (is_in_flight w.stage) (ap not z.0.acknowledged ∙ flies w.stage (not-there w.stage all.0)) (as-many-fly sys state entries writes all.1 z.1)

pub writes-text : (n m k l : ℕ) → n ≡ k → m ≡ l
    → codes "writes " ++ (decimal n ++ (codes " in flight " ++ (decimal m ++ codes "\n")))
    ≡ codes "writes " ++ (decimal k ++ (codes " in flight " ++ (decimal l ++ codes "\n")))
writes-text n m k l e f =
    ap (λ x. codes "writes " ++ (decimal x ++ (codes " in flight " ++ (decimal m ++ codes "\n")))) e
    ∙ ap (λ x. codes "writes " ++ (decimal k ++ (codes " in flight " ++ (decimal x ++ codes "\n")))) f
