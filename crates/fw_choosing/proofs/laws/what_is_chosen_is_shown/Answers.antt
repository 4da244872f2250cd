use Rattle.fw_schedule.proofs.WrittenLaws.{IsNamed}
use Rattle.fw_choosing.proofs.ReadBackLaws.{chosen-read_back, never-not_shown, none-read_back}
use Rattle.fw_choosing.proofs.laws.what_is_chosen_is_shown.Goals as goal

pub returns : goal.returns
returns c =
    let names = c.names_are_names.ensures in
    let once = c.names_are_distinct.ensures in
    let named : IsNamed c.args.flow.now = record {
      well_formed = c.flow_is_well_formed.ensures;
      nodes_once = once.nodes;
      edges_once = once.edges;
      nodes_named = names.nodes;
      edges_named = names.edges;
    } in
    record {
      chosen = λ offers text h short. chosen-read_back c.args.flow.now offers text named h short;
      no_choice = λ offers text h short. none-read_back c.args.flow.now offers text named h short;
      verified = λ offers text line claim right accepted answer. never-not_shown c.args.flow.now offers text line claim right accepted answer;
    }
