use Rattle.std.proofs.Common.{ap, ◌∙◌}
use Rattle.keyed.specs.Over.{over}
use Rattle.keyed.specs.Table.{emptied}
use Rattle.ns_types.proofs.Named.{names, one_name}
use Rattle.ns_change.specs.Changed.{changed_tenant}
use Rattle.ns_change.proofs.Pools.{over-vacant}
use Rattle.ns_change.proofs.jobs.remove_among.Goals as goal

pub returns : goal.returns
returns c = λ base i. record (changed_tenant base c.args.changed.now) {
  jobs = (ap (over base.jobs) (c.take.ensures.slots ∙ ap (λ m. emptied m c.args.id.now) c.in_ok-reserve.ensures.ok) ∙
      over-vacant names one_name base.jobs c.args.changed.now.jobs c.args.id.now) i;
}
