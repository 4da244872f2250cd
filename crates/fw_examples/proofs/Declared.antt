-- The running total, declared name by name.
use Rattle.std.proofs.Common.{List, [], None, Result, Ok, Err, MatchResult, ap, codes, refl, subst, sym, true, ◌∙◌, ◌≡◌}
use Rattle.std.proofs.lemmas.Bool.{false≢true}
use Rattle.fw_flow.specs.Builder.{Declares, IfBroken, has_names, with_declaration}
use Rattle.fw_flow.specs.Check.{IsChecked, IsFirstBroken}
use Rattle.fw_flow.specs.Dataflow.{Dataflow}
use Rattle.fw_flow.specs.Expand.{expand}
use Rattle.fw_flow.proofs.ExpandLaws.{checked-whole}
use Rattle.fw_flow.specs.Raw.{flow_of_declarations, is_new}
use Rattle.fw_flow.specs.declared.builder.BuildFault.{BuildFault}
use Rattle.fw_flow.specs.declared.builder.BuildFault.TheVariants.{BadName, Broken, NameTaken, NoMemory}
use Rattle.fw_flow.specs.declared.kind.Policy.TheVariants as policy
use Rattle.fw_flow.specs.Declaring.{Declaration}
use Rattle.fw_flow.specs.declared.raw.Declaration.TheVariants.{Edge, Node}
use Rattle.fw_flow.specs.Declaring.{Declared}
use Rattle.fw_flow.specs.declared.kind.Kind.TheVariants.{Input, OutputEpoch, Total}
use Rattle.fw_flow.proofs.Checks.{checked_or_refused}
use Rattle.fw_examples.specs.RunningTotal.{total_flow}
use Rattle.fw_examples.proofs.Witnesses.{totals_are_well_formed}

-- the five declarations
abbrev source : Declaration
source = Node (codes "src") Input policy.None None None

abbrev total : Declaration
total = Node (codes "run") Total policy.Lazy None None

abbrev output : Declaration
output = Node (codes "out") OutputEpoch policy.None None None

abbrev to_total : Declaration
to_total = Edge (codes "a") (codes "src") (codes "run")

abbrev to_output : Declaration
to_output = Edge (codes "b") (codes "run") (codes "out")

-- one more declaration
abbrev more : Declaration → List Declared → List Declared
more d raw = with_declaration raw d

-- the three nodes
abbrev pub three : List Declared
three = more output (more total (more source []))

-- and an edge
abbrev pub four : List Declared
four = more to_total three

pub after_three : (none one two all : List Declared) → none ≡ [] → one ≡ more source none → two ≡ more total one → all ≡ more output two → all ≡ three
after_three none one two all a b c d = d ∙ ap (more output) (c ∙ ap (more total) (b ∙ ap (more source) a))

pub after_four : (nodes all : List Declared) → nodes ≡ three → all ≡ more to_total nodes → all ≡ four
after_four nodes all a b = b ∙ ap (more to_total) a

-- a new declaration whose names are names is refused for want of memory alone
only_memory : (raw : List Declared) (d : Declaration) → has_names d ≡ true → is_new raw d ≡ true → (fault : BuildFault) → Declares raw d (Err fault) → fault ≡ NoMemory
only_memory raw d names new BadName x = absurd (false≢true (sym x ∙ names))
only_memory raw d names new NameTaken x = absurd (false≢true (sym x.1 ∙ new))
only_memory raw d names new (Broken refusal) x = absurd x
only_memory raw d names new NoMemory x = refl

pub first_edge : (raw : List Declared) → raw ≡ three → (fault : BuildFault) → Declares raw to_total (Err fault) → fault ≡ NoMemory
first_edge raw e = only_memory raw to_total refl (subst (λ r. is_new r to_total ≡ true) (sym e) refl)

pub second_edge : (raw : List Declared) → raw ≡ four → (fault : BuildFault) → Declares raw to_output (Err fault) → fault ≡ NoMemory
second_edge raw e = only_memory raw to_output refl (subst (λ r. is_new r to_output ≡ true) (sym e) refl)

-- they are those of the running total's flow, which is well formed
all_checked : IsChecked (expand (more to_output four)) total_flow
all_checked = checked-whole (more to_output four) total_flow (refl, (refl, (refl, (refl, (refl, tt))))) totals_are_well_formed.well_formed.flow refl

pub built : (raw all : List Declared) → raw ≡ four → all ≡ more to_output raw → (result : Result Dataflow BuildFault)
    → MatchResult result (IsChecked (expand all)) (IfBroken (IsFirstBroken (expand all))) → MatchResult result (λ flow. flow ≡ total_flow) (λ fault. fault ≡ NoMemory)
built raw all a b (Ok flow) x = x.value ∙ ap (λ ds. flow_of_declarations (expand ds)) (b ∙ ap (more to_output) a)
built raw all a b (Err BadName) x = absurd x
built raw all a b (Err NameTaken) x = absurd x
built raw all a b (Err (Broken refusal)) x = absurd (checked_or_refused (expand all) total_flow refusal (subst (λ r. IsChecked (expand r) total_flow) (sym (b ∙ ap (more to_output) a)) all_checked) x)
built raw all a b (Err NoMemory) x = refl
