use Rattle.std.proofs.Common.{ap, sym, ◌∙◌}
use Rattle.std.specs.FinMap.{get}
use Rattle.std.specs.Option.{option_and_then, option_copied, option_map}
use Rattle.keyed.proofs.Tables.{get-rows}
use Rattle.ns_types.proofs.Named.{names}
use Rattle.ns_types.specs.State.Rows.{PoolRows}
use Rattle.ns_tables.specs.World.{pool_of}
use Rattle.ns_tables.proofs.World.{pool_at}
use Rattle.ns_tables.proofs.tables.Tables.node.Goals as goal

pub returns-in-Some : goal.returns-in-Some
returns-in-Some c = c.get-in-Some.ensures ∙ sym (ap (option_and_then (λ (p : PoolRows). get p.nodes c.args.name.now))
    (pool_at c.args.self.now c.args.pool.now ∙ ap (option_map pool_of) (sym c.get.ensures ∙ ap option_copied c.in-Some.is))
    ∙ get-rows names c.in-Some.rows.now.nodes c.args.name.now)

pub returns-in-None : goal.returns-in-None
returns-in-None c = sym (ap (option_and_then (λ (p : PoolRows). get p.nodes c.args.name.now))
    (pool_at c.args.self.now c.args.pool.now ∙ ap (option_map pool_of) (sym c.get.ensures ∙ ap option_copied c.in-None.is)))
