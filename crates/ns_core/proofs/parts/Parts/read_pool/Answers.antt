use Rattle.std.proofs.Common.{refl, sym, ap, ◌∙◌}
use Rattle.std.specs.Option.{option_copied}
use Rattle.ns_types.specs.Asking.Nodes.{ask_pool}
use Rattle.ns_types.specs.Settling.Outcome.{Done}
use Rattle.ns_types.proofs.Outcomes.{found_none, found_some, memory_last}
use Rattle.ns_admin.proofs.World.{pool_is}
use Rattle.ns_tables.specs.World.{pool_of}
use Rattle.ns_core.specs.Viewed.{world_of}
use Rattle.ns_core.proofs.parts.Parts.read_pool.Goals as goal

pub returns-in_default : goal.returns-in_default
unfolding ask_pool
returns-in_default c = (found_none _ _ (pool_is c.args.self.now.tables c.args.name.now _ (sym c.get.ensures ∙ ap option_copied c.in_default.is)), refl)

pub returns-in_err-content : goal.returns-in_err-content
unfolding ask_pool
returns-in_err-content c = rw (found_some _ _ (pool_of c.in-Some.pool.now)
    (pool_is c.args.self.now.tables c.args.name.now _ (sym c.get.ensures ∙ ap option_copied c.in-Some.is)))
    (memory_last _ _ _ c.from_residual.result c.from_residual.ensures.1 refl refl)

pub returns : goal.returns
unfolding ask_pool
returns c = found_some _ _ (pool_of c.in-Some.pool.now)
    (pool_is c.args.self.now.tables c.args.name.now _ (sym c.get.ensures ∙ ap option_copied c.in-Some.is))
    ∙ ap (λ content. Done content (world_of c.args.self.now)) (sym c.in_ok-content.ensures)
