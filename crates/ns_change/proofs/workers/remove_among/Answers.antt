use Rattle.std.proofs.Common.{ap, ◌∙◌}
use Rattle.keyed.specs.Over.{over}
use Rattle.keyed.specs.Table.{emptied}
use Rattle.ns_types.proofs.Named.{numbers, one_number}
use Rattle.ns_change.specs.Changed.{changed_tenant}
use Rattle.ns_change.proofs.Pools.{over-vacant}
use Rattle.ns_change.proofs.workers.remove_among.Goals as goal

pub returns : goal.returns
returns c = λ base i. record (changed_tenant base c.args.changed.now) {
  workers = (ap (over base.workers) (c.take.ensures.slots ∙ ap (λ m. emptied m c.args.number) c.in_ok-reserve.ensures.ok) ∙
      over-vacant numbers one_number base.workers c.args.changed.now.workers c.args.number) i;
}
