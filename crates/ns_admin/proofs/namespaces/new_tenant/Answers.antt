use Rattle.std.proofs.Common.{ap, ◌∙◌}
use Rattle.keyed.specs.Table.{rows}
use Rattle.keyed.proofs.Tables.{rows-empty}
use Rattle.ns_admin.proofs.namespaces.new_tenant.Goals as goal

pub returns : goal.returns
returns c = λ i. record {
  namespace = c.args.namespace;
  index = 0;
  evaluation_number = 0;
  allocation_number = 0;
  jobs = (ap (λ m. rows m) c.new-2.ensures ∙ rows-empty) i;
  evaluations = (ap (λ m. rows m) c.new-3.ensures ∙ rows-empty) i;
  allocations = (ap (λ m. rows m) c.new-4.ensures ∙ rows-empty) i;
  workers = (ap (λ m. rows m) c.new-5.ensures ∙ rows-empty) i;
  events = c.in_ok-events.ensures i;
}
