use Rattle.fw_policy.specs.declared.view.NodeView.{NodeView}
use Rattle.fw_policy.specs.Shaped.{IsViewFor}
use Rattle.fw_choose.proofs.HeldLaws.{view-held}
use Rattle.fw_choose.proofs.ViewLaws.{view-fits, view-known}
use Rattle.fw_choose.proofs.viewing.view.Goals as goal

pub returns-clause-of_flow : goal.returns-clause-of_flow
returns-clause-of_flow c =
    view-fits c.args.running.now c.args.node c.in_ok-stamps.stamps _ c.requires.shaped c.in_ok-of_domains.ensures c.in_ok-settled_front.ensures c.in_ok-low_front.ensures
    c.border.ensures c.in_ok-lost_stamps.ensures

pub returns-clause-of_state : goal.returns-clause-of_state
returns-clause-of_state c =
    let node : NodeView = record {
      stamps = c.in_ok-of_domains.field-0;
      table = c.in_ok-sent_by_epoch.field-0;
      settled = c.in_ok-settled_front.field-0;
      low = c.in_ok-low_front.field-0;
      border = c.border.result;
      lost = c.in_ok-lost_stamps.field-0;
      failed = c.counts_as_failed.result;
    } in
    let fits : IsViewFor c.args.running.now.flow c.args.node node =
    view-fits c.args.running.now c.args.node c.in_ok-stamps.stamps node c.requires.shaped c.in_ok-of_domains.ensures c.in_ok-settled_front.ensures c.in_ok-low_front.ensures
    c.border.ensures c.in_ok-lost_stamps.ensures in
    view-known c.args.running.now c.args.lost c.args.node c.in_ok-stamps.stamps node c.requires.there fits c.in_ok-stamps.ensures.stamps c.in_ok-of_domains.ensures
    c.in_ok-sent_by_epoch.ensures c.in_ok-settled_front.ensures c.in_ok-low_front.ensures c.border.ensures c.in_ok-lost_stamps.ensures c.counts_as_failed.ensures

pub returns-clause-of_held : goal.returns-clause-of_held
returns-clause-of_held c =
    let node : NodeView = record {
      stamps = c.in_ok-of_domains.field-0;
      table = c.in_ok-sent_by_epoch.field-0;
      settled = c.in_ok-settled_front.field-0;
      low = c.in_ok-low_front.field-0;
      border = c.border.result;
      lost = c.in_ok-lost_stamps.field-0;
      failed = c.counts_as_failed.result;
    } in
    let fits : IsViewFor c.args.running.now.flow c.args.node node =
    view-fits c.args.running.now c.args.node c.in_ok-stamps.stamps node c.requires.shaped c.in_ok-of_domains.ensures c.in_ok-settled_front.ensures c.in_ok-low_front.ensures
    c.border.ensures c.in_ok-lost_stamps.ensures in
    view-held c.args.running.now c.args.lost c.args.node c.in_ok-stamps.stamps node c.requires.there fits c.in_ok-stamps.ensures.stamps c.in_ok-stamps.ensures.kept
    c.in_ok-of_domains.ensures c.in_ok-sent_by_epoch.ensures c.in_ok-settled_front.ensures c.in_ok-low_front.ensures c.border.ensures c.in_ok-lost_stamps.ensures
    c.counts_as_failed.ensures
