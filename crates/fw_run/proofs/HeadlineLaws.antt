-- What the machine does with accepted texts.
use Rattle.std.proofs.Common.{true, List, [], ◌++◌, map, refl, sym, ◌∙◌, subst}
use Rattle.fw_lemmas.proofs.Lists.{none-mapped}
use Rattle.fw_flow.specs.declared.step.Step.{Step}
use Rattle.fw_flow.specs.Dataflow.{Dataflow, System, node_ids}
use Rattle.fw_flow.specs.WellFormed.{IsWellFormedSystem}
use Rattle.fw_schedule.specs.declared.item.Item.{Item}
use Rattle.fw_schedule.specs.declared.item.Item.TheVariants.{Auto}
use Rattle.fw_schedule.specs.Schedule.{step_count}
use Rattle.fw_model.proofs.GoingOn.{runs-go_on}
use Rattle.fw_model.specs.Denotation.{Family, IsDenotation}
use Rattle.fw_model.specs.Machine.{first_state}
use Rattle.fw_model.specs.Steps.{Outcome, Run}
use Rattle.fw_rest.proofs.FinishLaws.{enough-acknowledged}
use Rattle.fw_rest.specs.Rest.{AreAllLive}
use Rattle.fw_headline.proofs.RightLaws.{runs-right}
use Rattle.fw_headline.proofs.RunLaws.{the-run}
use Rattle.fw_hold.proofs.ChainLaws.{starts-one_run}
use Rattle.fw_run.proofs.ItemLaws.{comes-on, items-run, items-one, items-few, items-live, autos-one}
use Rattle.fw_command.proofs.TextLaws.{well_formed_system}
use Rattle.fw_run.specs.Headline.{HasOneRun, EndInAuto, IsAllAcknowledged, Headline}
use Rattle.fw_run.specs.Items.{ComesTo}
use Rattle.fw_generate.specs.Laws.{AreAccepted}
use Rattle.fw_generate.specs.Texts.{Texts}
use Rattle.fw_command.specs.Texts.{spelled_system}

items-one_run : (sys : System) → IsWellFormedSystem sys → (items : List Item) → HasOneRun sys items
items-one_run sys w items =
    let found = items-run sys w [] [] (first_state sys) refl items in
    let one = items-one sys w items in
    let mine = one.3 found.steps found.last found.comes in
    record {
      steps = found.steps;
      outcomes = found.outcomes;
      last = found.last;
      comes = found.comes;
      only = λ others other c. let theirs = one.3 others other c in (theirs.0 ∙ sym mine.0, theirs.1 ∙ sym mine.1);
      run = the-run sys found.steps found.outcomes found.last found.run;
    }

-- at first no node is failed
first-live : (sys : System) → AreAllLive sys (first_state sys)
first-live sys p l = none-mapped (node_ids sys.flow) p

-- a run of items that end in enough `auto` has acknowledged all
ended-acknowledged : (sys : System) → IsWellFormedSystem sys → (family : Family) → IsDenotation sys family → (items : List Item) (one : HasOneRun sys items)
    → EndInAuto sys family items → IsAllAcknowledged sys family one.outcomes one.last
ended-acknowledged sys w family den items one end =
    let before = items-run sys w [] [] (first_state sys) refl end.earlier in
    let autos = items-run sys w before.steps before.outcomes before.last before.run (map Auto end.counts) in
    let live = items-live sys w [] [] (first_state sys) refl end.earlier before.steps before.last before.comes true (λ e. first-live sys) end.live in
    let few = items-few sys end.earlier before.steps (first_state sys) before.last before.comes in
    let taken = autos-one sys end.counts autos.steps before.last autos.last autos.comes in
    let all : IsAllAcknowledged sys family (before.outcomes ++ autos.outcomes) autos.last =
    enough-acknowledged sys family w den before.steps before.outcomes before.last before.run live (step_count end.earlier) (step_count (map Auto end.counts)) few end.enough
    autos.steps autos.outcomes autos.last taken autos.run in
    let parts = comes-on sys (first_state sys) before.last autos.last end.earlier (map Auto end.counts) before.steps autos.steps before.comes autos.comes in
    let whole : ComesTo sys (first_state sys) items (before.steps ++ autos.steps) autos.last =
    subst (λ (items : List Item). ComesTo sys (first_state sys) items (before.steps ++ autos.steps) autos.last) (sym end.parts) parts in
    let run = runs-go_on sys (first_state sys) before.last autos.last before.steps autos.steps before.outcomes autos.outcomes before.run autos.run in
    let same = one.only (before.steps ++ autos.steps) autos.last whole in
    let here : Run sys (first_state sys) one.steps (before.outcomes ++ autos.outcomes) autos.last =
    subst (λ (steps : List Step). Run sys (first_state sys) steps (before.outcomes ++ autos.outcomes) autos.last) same.0 run in
    let once = one.run.only (before.outcomes ++ autos.outcomes) autos.last here in
    subst (λ (outcomes : List Outcome). IsAllAcknowledged sys family outcomes one.last) once.0
    (subst (IsAllAcknowledged sys family (before.outcomes ++ autos.outcomes)) once.1 all)

pub texts-headline : (texts : Texts) (flow : Dataflow) (items : List Item) → AreAccepted texts flow → Headline (spelled_system flow texts) items
texts-headline texts flow items a =
    let sys = spelled_system flow texts in
    let w = well_formed_system texts flow a in
    let one = items-one_run sys w items in
    let right = runs-right sys w in
    record {
      one_run = one;
      right = right;
      acknowledged = λ family den end. ended-acknowledged sys w family den items one end;
      held = λ starts last lead.
          let run = starts-one_run sys items starts last lead in
          record { run = run; right = right.right run.steps run.outcomes last.point.state run.run };
    }
