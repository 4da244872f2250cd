-- For the proofs of src/flow.rt and src/walks.rt: greatest stamps and depths, loop by loop.
use Rattle.std.proofs.Common.{◌≡◌, ℕ, [], ◌∷◌, length, refl, sym, ap, ◌∙◌, arith}
use Rattle.fw_time.specs.Stamp.{nest}
use Rattle.fw_flow.specs.declared.kind.Domain.{Domain}
use Rattle.fw_flow.specs.declared.kind.Domain.TheVariants.{Epoch, Number, Loop as InLoop}
use Rattle.fw_flow.specs.Dataflow.{Dataflow, max_of, greatest_number, greatest_of, loops_of, parent_of}
use Rattle.fw_flow.proofs.Chains.{loops-unfold, loops-few, greatest-unfold}

-- the domain is no loop's
abbrev pub IsFlat : Domain → Type 0
IsFlat d = (x : ℕ) → d ≡ InLoop x → ⊥

flat-greatest : (flow : Dataflow) (d : Domain) → IsFlat d → greatest_of flow d ≡ greatest_number ∷ []
flat-greatest flow Epoch f = refl
flat-greatest flow Number f = refl
flat-greatest flow (InLoop l) f = absurd (f l refl)

pub greatest-flat : (flow : Dataflow) (d : Domain) → IsFlat d → greatest_number ∷ [] ≡ greatest_of flow d
greatest-flat flow d f = sym (flat-greatest flow d f)

pub greatest-one : (flow : Dataflow) (d : Domain) (a : ℕ) → d ≡ InLoop a → IsFlat (parent_of flow a) → greatest_of flow d ≡ greatest_number ∷ max_of flow a ∷ []
greatest-one flow d a is flat =
    ap (greatest_of flow) is ∙ greatest-unfold flow a ∙ ap (λ g. nest g (max_of flow a)) (flat-greatest flow (parent_of flow a) flat)

pub greatest-two : (flow : Dataflow) (d : Domain) (a b : ℕ) → d ≡ InLoop a → parent_of flow a ≡ InLoop b → IsFlat (parent_of flow b)
    → greatest_of flow d ≡ greatest_number ∷ max_of flow b ∷ max_of flow a ∷ []
greatest-two flow d a b is up flat =
    ap (greatest_of flow) is ∙ greatest-unfold flow a ∙ ap (λ g. nest g (max_of flow a)) (greatest-one flow (parent_of flow a) b up flat)

-- a loop within a loop within a loop is in no fourth one
outermost : (flow : Dataflow) (a b c : ℕ) → parent_of flow a ≡ InLoop b → parent_of flow b ≡ InLoop c → IsFlat (parent_of flow c)
outermost flow a b c up upper x is =
    let few = loops-few flow (InLoop a) in
    let one = ap length (loops-unfold flow a ∙ ap (λ d. a ∷ loops_of flow d) up) in
    let two = ap length (loops-unfold flow b ∙ ap (λ d. b ∷ loops_of flow d) upper) in
    let three = ap length (loops-unfold flow c ∙ ap (λ d. c ∷ loops_of flow d) is) in
    let four = ap length (loops-unfold flow x) in
    absurd (omega arith)

pub greatest-three : (flow : Dataflow) (d : Domain) (a b c : ℕ) → d ≡ InLoop a → parent_of flow a ≡ InLoop b → parent_of flow b ≡ InLoop c
    → greatest_of flow d ≡ greatest_number ∷ max_of flow c ∷ max_of flow b ∷ max_of flow a ∷ []
greatest-three flow d a b c is up upper =
    ap (greatest_of flow) is ∙ greatest-unfold flow a
    ∙ ap (λ g. nest g (max_of flow a)) (greatest-two flow (parent_of flow a) b c up upper (outermost flow a b c up upper))

-- ---- in how many loops a domain lies

flat-depth : (flow : Dataflow) (d : Domain) → IsFlat d → length (loops_of flow d) ≡ 0
unfolding loops_of
flat-depth flow Epoch f = refl
flat-depth flow Number f = refl
flat-depth flow (InLoop l) f = absurd (f l refl)

pub depth-flat : (flow : Dataflow) (d : Domain) → IsFlat d → 0 ≡ length (loops_of flow d)
depth-flat flow d f = sym (flat-depth flow d f)

pub depth-one : (flow : Dataflow) (d : Domain) (a : ℕ) → d ≡ InLoop a → IsFlat (parent_of flow a) → 1 ≡ length (loops_of flow d)
depth-one flow d a is flat =
    let own = ap (λ x. length (loops_of flow x)) is in
    let more = ap length (loops-unfold flow a) in
    let none = flat-depth flow (parent_of flow a) flat in
    omega arith

pub depth-two : (flow : Dataflow) (d : Domain) (a b : ℕ) → d ≡ InLoop a → parent_of flow a ≡ InLoop b → IsFlat (parent_of flow b) → 2 ≡ length (loops_of flow d)
depth-two flow d a b is up flat =
    let own = ap (λ x. length (loops_of flow x)) is in
    let more = ap length (loops-unfold flow a) in
    let one = depth-one flow (parent_of flow a) b up flat in
    omega arith

pub depth-three : (flow : Dataflow) (d : Domain) (a b c : ℕ) → d ≡ InLoop a → parent_of flow a ≡ InLoop b → parent_of flow b ≡ InLoop c → 3 ≡ length (loops_of flow d)
depth-three flow d a b c is up upper =
    let own = ap (λ x. length (loops_of flow x)) is in
    let more = ap length (loops-unfold flow a) in
    let two = depth-two flow (parent_of flow a) b c up upper (outermost flow a b c up upper) in
    omega arith
