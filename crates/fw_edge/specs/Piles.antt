-- For the proofs: how messages are kept, those at a stamp in a heap, and all by their stamps.
use Rattle.std.specs.Prelude.{◌≡◌, ◌≢◌, List, [], ◌∷◌, map}
use Rattle.std.specs.BinaryHeap.{IsHeap}
use Rattle.std.specs.declared.cmp.Reverse.{Reverse}
use Rattle.std.specs.List.{flat_map, AllByRecursion}
use Rattle.std.specs.List.Sorted.{IsStrictlySortedBy}
use Rattle.std.specs.Map.{keys_of}
use Rattle.fw_time.specs.Stamp.{Stamp, stamp_cmp}
use Rattle.fw_flow.specs.declared.event.Message.{Message}
use Rattle.fw_flow.specs.Message.{message_cmp}
use Rattle.fw_model.specs.SortedMessages.{sorted_messages}

-- the messages of a heap that gives out the greatest first, of an order in which a lesser message is the greater
abbrev pub heaped_messages : List (Reverse Message) → List Message
heaped_messages items = sorted_messages (map (λ item. item.0) items)

-- it does so
abbrev pub IsLeastFirst : List (Reverse Message) → Type 0
IsLeastFirst items = IsHeap (λ x y. message_cmp y.0 x.0) items

-- the messages of piles, one pile after the other
abbrev pub piled_messages : List (Stamp × List Message) → List Message
piled_messages piles = flat_map (λ pile. pile.1) piles

-- a pile has messages, in order, all at its stamp
pub record IsPile (at : Stamp) (messages : List Message) : Type 0 where
  pub some : messages ≢ []
  pub ascending : sorted_messages messages ≡ messages
  pub there : AllByRecursion (λ m. m.at ≡ at) messages

-- the stamps of the piles ascend with no two equal
pub record ArePiles (piles : List (Stamp × List Message)) : Type 0 where
  pub ordered : IsStrictlySortedBy stamp_cmp (keys_of piles)
  pub each : AllByRecursion (λ pile. IsPile pile.0 pile.1) piles

-- the pile of the least stamp stands before the others
abbrev pub IsApartUnlessNone : Stamp → List Message → List (Stamp × List Message) → Type 0
IsApartUnlessNone at head rest = ArePiles rest × (head ≢ [] → ArePiles ((at, head) ∷ rest))

-- and where it has no message there is none
pub record AreApart (at : Stamp) (head : List Message) (rest : List (Stamp × List Message)) : Type 0 where
  pub before : head ≢ [] → ArePiles ((at, head) ∷ rest)
  pub none : head ≡ [] → rest ≡ []
