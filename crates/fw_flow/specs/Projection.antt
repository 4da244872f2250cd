-- Projections: what of an edge comes from a frontier of its sender, and where a frontier of its sender can send.
use Rattle.std.specs.Prelude.{◌≡◌, ℕ, suc, zero, ◌+◌, ◌-◌, ◌*◌, ◌/◌, Bool, ◌&&◌, ◌||◌, ◌==◌, nat_lt, if◌then◌else◌, List, [], ◌∷◌, min, filter}
use Rattle.fw_flow.specs.Counting.{how_many}
use Rattle.std.specs.List.{list_all}
use Rattle.fw_time.specs.Stamp.{Stamp, nest, outer, counter}
use Rattle.fw_frontier.specs.Frontier.{Frontier, IsFrontier}
use Rattle.fw_flow.specs.declared.event.Event.{Event}
use Rattle.fw_flow.specs.declared.event.Message.{Message}
use Rattle.fw_flow.specs.Kind.{Kind}
use Rattle.fw_flow.specs.declared.kind.Kind.TheVariants.{Enter, Feedback, Leave, Sequence, Regroup}
use Rattle.fw_flow.specs.Dataflow.{System, Dataflow, kind_of, sender, domain_of_kind, out_domain_of_kind, greatest_of_kind, bounds_of_domain, bounds_of}
use Rattle.fw_time.specs.Stamp.{in_domain}
use Rattle.fw_flow.specs.NodeFunction.{event_node, sent_by}

-- the events of node p in a history, the latest first
abbrev pub events_at : Dataflow → ℕ → List Event → List Event
events_at flow p h = filter (λ v. event_node flow v == p) h

-- whether all causes are inside
abbrev pub all_inside : Frontier → List Stamp → Bool
all_inside f cs = list_all f cs

-- how many of the messages have all their causes inside
abbrev pub count_from : Frontier → List Message → ℕ
count_from f ms = how_many (λ m. all_inside f m.causes) ms

-- how many messages the events of node p inside f sent
abbrev pub sent_count : System → List Event → ℕ → Frontier → ℕ
sent_count sys h p f = count_from f (sent_by sys p (events_at sys.flow p h))

-- how many messages a table of epochs and counts has for the epochs inside
abbrev pub table_count : Frontier → List (ℕ × ℕ) → ℕ
table_count f [] = 0
table_count f (entry ∷ entries) = if f (entry.0 ∷ []) then entry.1 + table_count f entries else table_count f entries

-- the table is that of node p after a history: whatever epochs are inside, it counts what their events sent
abbrev pub IsSentTable : System → List Event → ℕ → List (ℕ × ℕ) → Type 0
IsSentTable sys h p table = (f : Frontier) → table_count f table ≡ sent_count sys h p f

-- the first number of a stamp
abbrev pub first_coordinate : Stamp → ℕ
first_coordinate [] = 0
first_coordinate (n ∷ t) = n

-- whether each counter up to c of the stamp is inside
abbrev pub each_counter : Frontier → Stamp → ℕ → Bool
each_counter f x zero = f (nest x 0)
each_counter f x (suc c) = f (nest x (suc c)) && each_counter f x c

-- whether some counter up to c of the stamp is inside
abbrev pub some_counter : Frontier → Stamp → ℕ → Bool
some_counter f x zero = f (nest x 0)
some_counter f x (suc c) = f (nest x (suc c)) || some_counter f x c

-- The messages at which stamps come from events inside f, by the kind of the sender and the greatest stamp of its
-- domain: entering, at each counter of a stamp inside; feeding back, at counter 0 and at the next counter of a stamp
-- inside; leaving, at a stamp all of whose counters are inside; from a sequence, the numbers below the count of messages
-- that the events inside sent, and all for all; regrouped, at an epoch up to whose last number all are inside.
abbrev pub phi_of_kind : Stamp → Kind → ℕ → Frontier → Frontier
phi_of_kind greatest (Enter l) count f u = f (outer u)
phi_of_kind greatest (Feedback l) count f u = counter u == 0 || f (nest (outer u) (counter u - 1))
phi_of_kind greatest (Leave l) count f u = each_counter f u (counter greatest)
phi_of_kind greatest Sequence count f u = f greatest || nat_lt (first_coordinate u) count
phi_of_kind greatest (Regroup n) count f u = f (min (first_coordinate u * n + n - 1) (first_coordinate greatest) ∷ [])
phi_of_kind greatest kind count f u = f u

-- if the sender of e keeps f, each message on e at a stamp inside comes from an event in f
unfoldable pub phi : System → List Event → ℕ → Frontier → Frontier
phi sys h e f u =
    in_domain (bounds_of_domain sys.flow (out_domain_of_kind sys.flow (kind_of sys.flow (sender sys.flow e)))) u
    && phi_of_kind (greatest_of_kind sys.flow (kind_of sys.flow (sender sys.flow e))) (kind_of sys.flow (sender sys.flow e)) (sent_count sys h (sender sys.flow e) f) f u

-- the same, where the events of the sender inside f sent so many messages in all
unfoldable pub phi_by_count : Dataflow → ℕ → ℕ → Frontier → Frontier
phi_by_count flow count e f u =
    in_domain (bounds_of_domain flow (out_domain_of_kind flow (kind_of flow (sender flow e)))) u
    && phi_of_kind (greatest_of_kind flow (kind_of flow (sender flow e))) (kind_of flow (sender flow e)) count f u

-- Below which stamps events inside f can send, by the kind of the sender and the greatest stamp of its domain, for the
-- kinds that may keep nothing.
abbrev pub psi_of_kind : Stamp → Kind → Frontier → Frontier
psi_of_kind greatest (Enter l) f u = counter u == 0 && f (outer u)
psi_of_kind greatest (Feedback l) f u = f (nest (outer u) (counter u - 1))
psi_of_kind greatest (Leave l) f u = some_counter f u (counter greatest)
psi_of_kind greatest (Regroup n) f u = f ((first_coordinate u * n) ∷ [])
psi_of_kind greatest kind f u = f u

-- the cover of the stamps at which an event of the sender of e inside f can send on e, for a kind that may keep nothing
unfoldable pub psi : Dataflow → ℕ → Frontier → Frontier
psi flow e f u =
    in_domain (bounds_of_domain flow (out_domain_of_kind flow (kind_of flow (sender flow e)))) u
    && psi_of_kind (greatest_of_kind flow (kind_of flow (sender flow e))) (kind_of flow (sender flow e)) f u

-- At which stamps, and below which, events send inside g alone, by the kind of the sender and the greatest stamp of its
-- domain, for the kinds that may keep nothing: the last counter of a loop sends nothing that a lesser one does not.
abbrev pub psi_back_of_kind : Stamp → Kind → Frontier → Frontier
psi_back_of_kind greatest (Enter l) g t = g (nest t 0)
psi_back_of_kind greatest (Feedback l) g t = g (nest (outer t) (min (counter t + 1) (counter greatest)))
psi_back_of_kind greatest (Leave l) g t = g (outer t)
psi_back_of_kind greatest (Regroup n) g t = g ((first_coordinate t / n) ∷ [])
psi_back_of_kind greatest kind g t = g t

-- the largest frontier of the sender of e whose psi lies within g, for a kind that may keep nothing
unfoldable pub psi_back : Dataflow → ℕ → Frontier → Frontier
psi_back flow e g t =
    in_domain (bounds_of_domain flow (domain_of_kind flow (kind_of flow (sender flow e)))) t
    && psi_back_of_kind (greatest_of_kind flow (kind_of flow (sender flow e))) (kind_of flow (sender flow e)) g t

-- the frontier is one of the sender's domain
abbrev pub IsSenderFrontier : Dataflow → ℕ → Frontier → Type 0
IsSenderFrontier flow e f = IsFrontier (bounds_of flow (sender flow e)) f
