use Rattle.std.proofs.Common.{ap, sym, ◌∙◌}
use Rattle.std.specs.Option.{option_copied}
use Rattle.std.specs.Prelude.{is_some, option_map}
use Rattle.ns_tables.specs.World.{pool_of}
use Rattle.ns_tables.proofs.World.{pool_at}
use Rattle.ns_jobs.proofs.registration.has_pool.Goals as goal

pub returns-in-Some : goal.returns-in-Some
returns-in-Some c = sym (ap is_some (pool_at c.args.tables.now c.args.pool.now ∙ ap (option_map pool_of) (sym c.get.ensures ∙ ap option_copied c.in-Some.is)))

pub returns-in-None : goal.returns-in-None
returns-in-None c = sym (ap is_some (pool_at c.args.tables.now c.args.pool.now ∙ ap (option_map pool_of) (sym c.get.ensures ∙ ap option_copied c.in-None.is)))
