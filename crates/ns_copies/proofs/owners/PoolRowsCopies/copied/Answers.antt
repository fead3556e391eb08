use Rattle.std.proofs.Common.{refl}
use Rattle.ns_copies.proofs.Owned.{all_names, pool_copied}
use Rattle.ns_copies.proofs.owners.PoolRowsCopies.copied.Goals as goal

pub returns : goal.returns
returns c = pool_copied (record {
  pool = c.in_ok-clone.field-0;
  release = c.args.self.now.release;
  classes = c.in_ok-copied_classes.field-0;
  nodes = c.in_ok-copied_names.field-0;
}) c.args.self.now c.in_ok-clone.ensures.cases refl c.in_ok-copied_classes.ensures
    (all_names _ c.args.self.now.nodes c.in_ok-copied_names.ensures)
