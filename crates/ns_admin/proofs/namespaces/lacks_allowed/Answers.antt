use Rattle.std.proofs.Common.{not, ap, ◌∙◌}
use Rattle.std.specs.List.{list_all}
use Rattle.std.specs.FinMap.{contains_key}
use Rattle.ns_tables.specs.World.{world_of}
use Rattle.ns_admin.proofs.namespaces.lacks_allowed.Goals as goal

pub returns-in-Some : goal.returns-in-Some
returns-in-Some c = rw c.in-Some.is (ap not (c.has_pools.ensures ∙ ap (list_all (contains_key (world_of c.args.tables.now).pools)) c.as_slice.ensures))
