use Rattle.std.proofs.Common.{◌||◌, ℕ, List, ap, ◌∙◌, subst}
use Rattle.std.proofs.lemmas.Result.{IfOk-weaker, on_ok_weaker}
use Rattle.fw_time.specs.Stamp.{same}
use Rattle.fw_flow.specs.Kind.{Kind}
use Rattle.fw_flow.specs.Dataflow.{kind_of, in_edges}
use Rattle.fw_model.specs.Told.{is_told}
use Rattle.fw_node.specs.Arrived.{arrived}
use Rattle.fw_node.specs.NodeTable.{IsNodeTable}
use Rattle.fw_node.specs.Past.{past_of}
use Rattle.fw_node.specs.Answers.{caused_by}
use Rattle.fw_node.proofs.MessageLaws.{messages-caused}
use Rattle.fw_node.proofs.NodeLaws.{notice_same, numbered_after, sum_of_taken}
use Rattle.fw_node.proofs.NodeOfLaws.{can-send, of_node}
use Rattle.fw_node.proofs.node.Node.notify.Goals as goal

pub returns-clause-ok : goal.returns-clause-ok
returns-clause-ok c = λ flow p settled before out untold node.
    let ins : List ℕ = in_edges flow p in
    let k : Kind = kind_of flow p in
    let N : ℕ → Type 0 = λ n. IsNodeTable flow c.notify-sent.new.self k (record {
      settled = settled;
      told = λ s. same s c.args.at.now || is_told before s;
      numbered = n;
      came = arrived ins before;
    }) in
    on_ok_weaker c.notify-sent.result
    (λ t. record {
      table = subst N (numbered_after ins before c.args.at.now) t;
      sides = node.sides;
      bounds = node.bounds;
      places = node.places;
      on_edges = node.on_edges;
      in_the_domain = node.in_the_domain;
    })
    (c.notify-sent.ensures.ok flow k (past_of ins settled before) node.table out untold)

pub returns-clause-sent : goal.returns-clause-sent
returns-clause-sent c = λ flow p settled before out untold sum node.
    let ins : List ℕ = in_edges flow p in
    let k : Kind = kind_of flow p in
    IfOk-weaker c.notify-sent.result _ _ (λ sent e. messages-caused c.args.at.now sent ∙ ap (caused_by c.args.at.now) (e ∙ notice_same k ins settled before c.args.at.now))
    (c.notify-sent.ensures.sent flow k (past_of ins settled before) node.table out untold (sum_of_taken k ins settled before c.args.at.now sum))

pub returns-clause-node : goal.returns-clause-node
returns-clause-node c = λ flow p n. record { table = c.notify-sent.ensures.of_kind flow (kind_of flow p) ∙ n.table; sides = n.sides; bounds = n.bounds }

pub returns-clause-domain : goal.returns-clause-domain
returns-clause-domain c = λ flow p w n.
    IfOk-weaker c.notify-sent.result _ _ (λ sent at. can-send flow p c.args.at.now sent w (of_node flow p c.args.self.now c.args.at.now n c.requires) at)
    (c.notify-sent.ensures.at flow (kind_of flow p) n.table)
