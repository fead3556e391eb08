use Rattle.std.specs.Prelude.{option_map}
use Rattle.std.proofs.Common.{ap, sym, ◌∙◌}
use Rattle.std.specs.Option.{option_copied, option_map_or}
use Rattle.ns_broker.proofs.snapshot.taking.release_of.Goals as goal
use Rattle.ns_tables.proofs.World.{pool_at}
use Rattle.ns_tables.specs.World.{pool_of}

pub returns-in-Some : goal.returns-in-Some
returns-in-Some c = sym (ap (λ o. option_map_or (λ p. p.release) o 0)
    (pool_at c.args.tables.now c.args.pool.now ∙ ap (option_map pool_of) (sym c.get.ensures ∙ ap option_copied c.in-Some.is)))

pub returns-in-None : goal.returns-in-None
returns-in-None c = sym (ap (λ o. option_map_or (λ p. p.release) o 0)
    (pool_at c.args.tables.now c.args.pool.now ∙ ap (option_map pool_of) (sym c.get.ensures ∙ ap option_copied c.in-None.is)))
