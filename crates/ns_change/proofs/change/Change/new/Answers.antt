use Rattle.std.proofs.Common.{◌∙◌}
use Rattle.ns_change.specs.Changed.{view}
use Rattle.ns_change.proofs.Nothing.{nothing_changed}
use Rattle.ns_change.proofs.change.Change.new.Goals as goal

pub returns : goal.returns
returns c t = (λ i. view t (record {
  tenants = c.new.ensures i;
  pools = c.new-2.ensures i;
  quotas = c.new-3.ensures i;
  ready = c.new-4.ensures i;
  plans = c.new-5.ensures i;
  blocked = c.new-6.ensures i;
})) ∙ nothing_changed t
