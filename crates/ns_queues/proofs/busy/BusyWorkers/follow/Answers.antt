use Rattle.std.specs.Prelude.{IsTrue, is_some}
use Rattle.std.proofs.Common.{ap, subst, sym, ◌∙◌}
use Rattle.std.proofs.Math.ListN.{drop_of_length-le}
use Rattle.std.specs.Option.{option_copied}
use Rattle.keyed.proofs.Levels.{none_there}
use Rattle.keyed.proofs.Queues.{from_here}
use Rattle.ns_queues.proofs.BusyNames.{there_behind}
use Rattle.ns_queues.proofs.BusyWorld.{right_after}
use Rattle.ns_queues.proofs.BusyRows.{Following, all_followed, none_followed, not_changed, not_there, one_followed, rows_room}
use Rattle.ns_queues.proofs.busy.BusyWorkers.follow.Goals as goal
use Rattle.ns_queues.proofs.busy.BusyWorkers.follow.Goals.{in-Some+then-is_some, in-Some+else-is_some, in_default}

pub loop-slot-init : goal.loop-slot-init
loop-slot-init c = none_followed c.args.tables.now.tenants c.args.settled.now c.args.self.now _ c.as_slice-slot-items.ensures c.requires

pub put_all-requires : goal.put_all-requires
put_all-requires c = rows_room c.args.tables.now.tenants c.args.settled.now c.args.self.now c.slot-item.result.0 c.slot-item.result.1 _ _
    (from_here c.as_slice-slot-items.result.now c.loop-slot.slot-index c.slot-item.result c.loop-slot-test.true c.slot-item.is)
    c.loop-slot.self c.loop-slot.invariant c.in-Some.change c.in-Some.is

pub loop-slot-preserved : goal.loop-slot-preserved
loop-slot-preserved c =
    let is = from_here c.as_slice-slot-items.result.now c.loop-slot.slot-index c.slot-item.result c.loop-slot-test.true c.slot-item.is in
    elim c.match-slot.branch [
      | in-Some+then-is_some w ↦ subst (λ b. Following c.args.tables.now.tenants c.args.settled.now c.args.self.now b _) (sym w.self-is)
          (one_followed c.args.tables.now.tenants c.args.settled.now c.args.self.now c.slot-item.result.0 c.slot-item.result.1 _ _ is c.loop-slot.self
          c.loop-slot.invariant w.put_all.new.self w.in-Some.change
          (subst (λ r. IsTrue (is_some r)) w.get.ensures (there_behind w.get.result (sym w.if-is_some.ensures))) w.in-Some.is w.put_all.ensures)
      | in-Some+else-is_some w ↦ not_there c.args.tables.now.tenants c.args.settled.now c.args.self.now c.slot-item.result.0 c.slot-item.result.1 _ _ is
          c.loop-slot.self c.loop-slot.invariant c.match-slot.self w.self-is
          (sym w.get.ensures ∙ ap option_copied (none_there w.get.result (sym w.if-is_some.ensures)))
      | in_default w ↦ not_changed c.args.tables.now.tenants c.args.settled.now c.args.self.now c.slot-item.result.0 c.slot-item.result.1 _ _ is
          c.loop-slot.self c.loop-slot.invariant c.match-slot.self w.self-is w.in_default.is
    ]

pub returns : goal.returns
returns c right number ns = right_after c.args.tables.now c.args.settled.now c.args.self.now c.loop-slot.self right
    (all_followed c.args.tables.now.tenants c.args.settled.now c.args.self.now c.loop-slot.self _
    (drop_of_length-le c.as_slice-slot-items.result.now c.loop-slot-test.false) c.loop-slot.invariant) number ns
