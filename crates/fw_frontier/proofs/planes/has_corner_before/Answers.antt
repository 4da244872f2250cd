use Rattle.std.proofs.Common.{rules, ◌-◌, nat_lt, get_or, ap, ◌∙◌}
use Rattle.std.proofs.lemmas.List.Sorted.{IsPartitionedBy-ltb, IsPartitionPoint-from_clause}
use Rattle.std.specs.List.Sorted.{IsNonDecreasingBy}
use Rattle.fw_frontier.specs.declared.planes.Corner.{Corner}
use Rattle.fw_frontier.specs.declared.planes.TheConstants.{PAST}
use Rattle.fw_frontier.proofs.CornerLaws.{corners-look_up, corners-sorted, some-before, none-before}
use Rattle.fw_frontier.proofs.planes.has_corner_before.Goals as goal

pub returns-then-before-gt0 : goal.returns-then-before-gt0
returns-then-before-gt0 c = λ vs z w sorted e l.
    let cs = c.args.corners.now in
    let p = c.partition_point-before.result in
    let d : Corner = record { x = 0; y = 0 } in
    let rising : IsNonDecreasingBy (λ c. c.x) cs = rw e (corners-sorted vs z w PAST sorted) in
    let parted = IsPartitionedBy-ltb (λ c. c.x) cs c.args.x_end rising in
    let point = IsPartitionPoint-from_clause (λ k. nat_lt k.x c.args.x_end) _ _ c.partition_point-before.ensures.partitioned parted (λ a r q k. search rules) in
    ap (λ n. nat_lt n c.args.y_end) c.from.ensures
    ∙ some-before p (nat_lt (get_or cs (p - 1) d).y c.args.y_end) c.if-before-gt0.true
    ∙ corners-look_up vs cs c.args.x_end c.args.y_end z w PAST p d sorted e l c.partition_point-before.ensures.bound point.0 point.1

pub returns-else-before-gt0 : goal.returns-else-before-gt0
returns-else-before-gt0 c = λ vs z w sorted e l.
    let cs = c.args.corners.now in
    let p = c.partition_point-before.result in
    let d : Corner = record { x = 0; y = 0 } in
    let rising : IsNonDecreasingBy (λ c. c.x) cs = rw e (corners-sorted vs z w PAST sorted) in
    let parted = IsPartitionedBy-ltb (λ c. c.x) cs c.args.x_end rising in
    let point = IsPartitionPoint-from_clause (λ k. nat_lt k.x c.args.x_end) _ _ c.partition_point-before.ensures.partitioned parted (λ a r q k. search rules) in
    none-before p (nat_lt (get_or cs (p - 1) d).y c.args.y_end) c.if-before-gt0.false
    ∙ corners-look_up vs cs c.args.x_end c.args.y_end z w PAST p d sorted e l c.partition_point-before.ensures.bound point.0 point.1
