use Rattle.std.proofs.Common.{ap, ◌∙◌}
use Rattle.keyed.specs.Over.{over}
use Rattle.keyed.specs.Table.{emptied}
use Rattle.ns_types.proofs.Named.{names, one_name}
use Rattle.ns_change.specs.Changed.{changed_pool}
use Rattle.ns_change.proofs.Pools.{over-vacant}
use Rattle.ns_change.proofs.placing.remove_among.Goals as goal

pub returns : goal.returns
returns c = λ base i. record (changed_pool base c.args.changed.now) {
  nodes = (ap (over base.nodes) (c.take.ensures.slots ∙ ap (λ m. emptied m c.args.name.now) c.in_ok-reserve.ensures.ok) ∙
      over-vacant names one_name base.nodes c.args.changed.now.nodes c.args.name.now) i;
}
