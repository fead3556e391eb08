use Rattle.std.specs.Prelude.{◌&&◌, List, not}
use Rattle.std.proofs.Common.{ap, sym, ◌∙◌}
use Rattle.std.specs.FinMap.{contains_key}
use Rattle.ns_settlement.proofs.Reaching.{quota_added, quota_passed}
use Rattle.ns_types.specs.State.Names.{Name, has_name}
use Rattle.ns_tables.specs.World.{world_of}
use Rattle.ns_settlement.proofs.reached.quotas_of.Goals as goal
use Rattle.ns_settlement.proofs.reached.quotas_of.Goals.{then-is_other+in_ok-clone+in_ok-push, else-is_other}

pub loop-name-preserved : goal.loop-name-preserved
loop-name-preserved c =
    let tested = sym (c.is_other.ensures ∙ ap (λ (qs : List Name). contains_key (world_of c.args.tables.now).quotas c.name-item.result
    && not (has_name qs c.name-item.result)) c.as_slice.ensures) in
    elim c.if-is_other.branch [
      | then-is_other+in_ok-clone+in_ok-push w ↦ quota_added (world_of c.args.tables.now) c.args.names.now c.loop-name.name-index c.name-item.result
          c.loop-name-test.true c.name-item.is c.loop-name.quotas c.loop-name.invariant (tested ∙ w.if-is_other.true) w.in_ok-clone.field-0
          c.if-is_other.quotas w.in_ok-clone.ensures.cases (w.quotas-is ∙ w.in_ok-push.ensures.ok)
      | else-is_other w ↦ λ quota. ap (λ (l : List Name). has_name l quota) w.quotas-is
          ∙ quota_passed (world_of c.args.tables.now) c.args.names.now c.loop-name.name-index c.name-item.result c.loop-name-test.true c.name-item.is
          c.loop-name.quotas c.loop-name.invariant (tested ∙ w.if-is_other.false) quota
    ]
