use Rattle.std.proofs.Common.{ap, ◌∙◌}
use Rattle.std.specs.FinMap.{from_entries}
use Rattle.keyed.specs.Table.{rows}
use Rattle.keyed.proofs.Tables.{rows-empty}
use Rattle.ns_types.specs.State.Names.{class_cmp}
use Rattle.ns_admin.proofs.pools.new_pool.Goals as goal

pub returns : goal.returns
returns c = λ i. record {
  pool = c.args.pool;
  release = 0;
  classes = ap (λ es. from_entries {R = class_cmp} es) c.new.ensures i;
  nodes = (ap (λ m. rows m) c.new-2.ensures ∙ rows-empty) i;
}
