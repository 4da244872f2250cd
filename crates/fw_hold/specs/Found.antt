-- What is found of roots in a store, and what putting one leaves.
use Rattle.std.specs.Prelude.{◌≡◌, ◌⊎◌, ℕ, ◌≤◌, List, Option, Some, None, IsSome, Ok, Err}
use Rattle.std.specs.FinMap as map
use Rattle.std.specs.Option.{ForSome}
use Rattle.fw_keep.specs.Stored.{Records, AreThere, bytes_under}
use Rattle.fw_root.specs.declared.root.Digests.{Digests}
use Rattle.fw_root.specs.declared.root.Head.{Head}
use Rattle.fw_root.specs.declared.root.Root.{Root}
use Rattle.fw_root.specs.Reading.{read_root_head}
use Rattle.fw_root.specs.Sound.{IsRootFor}
use Rattle.fw_root.specs.Spelling.{root_spelling}
use Rattle.fw_named.specs.Named.{named_ids}
use Rattle.fw_hold.specs.declared.found.FoundRoot.{FoundRoot}
use Rattle.fw_hold.specs.Kept.{HeldTexts, root_id}

-- the id is one under which roots stand
abbrev pub IsRootId : ℕ → Type 0
IsRootId id = (id ≡ root_id 0) ⊎ (id ≡ root_id 1)

-- The bytes begin with this head.
abbrev pub BeginAs : List ℕ → Head → Type 0
BeginAs bytes head = (rest : List ℕ) × (read_root_head bytes ≡ Ok (head, rest))

-- The bytes are under the id of a root, where the store tells its records, and begin with the head.
pub record IsFoundRoot (records : Option Records) (found : FoundRoot) : Type 0 where
  pub id : IsRootId found.id
  pub there : ForSome records (λ held. map.get held found.id ≡ Some found.bytes.items)
  pub begins : BeginAs found.bytes.items found.head

-- Where the store tells its records, each root there begins with a head, of no greater turn than this one.
abbrev pub HasGreatestTurn : Option Records → Head → Type 0
HasGreatestTurn records greatest = ForSome records (λ held. (id : ℕ) (bytes : List ℕ) → IsRootId id → map.get held id ≡ Some bytes
    → (head : Head) × BeginAs bytes head × (head.turn ≤ greatest.turn))

-- where the store tells its records, it has no root
abbrev pub HasNoneFound : Option Records → Type 0
HasNoneFound records = ForSome records (λ held. (id : ℕ) → IsRootId id → map.get held id ≡ None)

-- the bytes begin with no head
abbrev pub BeginAsNone : List ℕ → Type 0
BeginAsNone bytes = (left : ℕ) × (read_root_head bytes ≡ Err left)

-- the bytes begin as a root of the texts, and are the spelling of none
pub record AreNoRoot (texts : HeldTexts) (bytes : List ℕ) : Type 0 where
  pub head : Head
  pub begins : BeginAs bytes head
  pub of_texts : head.digests ≡ texts.digests
  pub none : (root : Root) → IsRootFor texts.flow texts.batches root → bytes ≡ root_spelling root → ⊥

-- The store gave last, under this id, which is one of a root, bytes that begin with no head; or with one of these texts, and are no root.
pub record GaveNoRoot (texts : HeldTexts) (id : ℕ) (given : Option (ℕ × List ℕ)) : Type 0 where
  pub of_root : IsRootId id
  pub bytes : List ℕ
  pub gave : given ≡ Some (id, bytes)
  pub broken : BeginAsNone bytes ⊎ AreNoRoot texts bytes

-- The store gave last, under the id of a root, bytes that begin as a root of other texts.
pub record GaveForeign (digests : Digests) (given : Option (ℕ × List ℕ)) : Type 0 where
  pub id : ℕ
  pub of_root : IsRootId id
  pub bytes : List ℕ
  pub gave : given ≡ Some (id, bytes)
  pub head : Head
  pub begins : BeginAs bytes head
  pub other : head.digests ≡ digests → ⊥

-- The store gave under this id, which is one of a root, bytes that begin with no head; where it tells its records, it has them there.
pub record GaveNoHead (records : Option Records) (id : ℕ) (given : Option (ℕ × List ℕ)) : Type 0 where
  pub of_root : IsRootId id
  pub bytes : List ℕ
  pub gave : given ≡ Some (id, bytes)
  pub broken : BeginAsNone bytes
  pub there : ForSome records (λ held. map.get held id ≡ Some bytes)

-- where the store tells its records at the end it told them before, and under any other id there is what was there
pub record ChangesOnly (id : ℕ) (old new : Option Records) : Type 0 where
  pub told_before : IsSome new → IsSome old
  pub others : IsSome new → (other : ℕ) → (other ≡ id → ⊥) → bytes_under other new ≡ bytes_under other old

-- where the store tells its records at the end, there is under the id what was there, or nothing
abbrev pub IsLeftOrGone : ℕ → Option Records → Option Records → Type 0
IsLeftOrGone id old new = IsSome new → (bytes_under id new ≡ bytes_under id old) ⊎ (bytes_under id new ≡ None)

-- where the store tells its records, it has one under each id that the root names
abbrev pub HasNamed : Root → Option Records → Type 0
HasNamed root records = AreThere (named_ids root) records
