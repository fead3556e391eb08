use Rattle.std.proofs.Common.{ap, refl, subst, sym, ◌∙◌}
use Rattle.std.specs.Option.{option_copied}
use Rattle.std.specs.Prelude.{IsTrue, is_some}
use Rattle.ns_admin.proofs.World.{pool_new}
use Rattle.keyed.proofs.Tables.{slot_made}
use Rattle.ns_types.proofs.Named.{names}
use Rattle.ns_admin.proofs.writing.write_pool.Goals as goal

pub replace_pool-requires : goal.replace_pool-requires
replace_pool-requires c = subst (λ r. IsTrue (is_some r)) (sym (ap option_copied c.in-Some.is) ∙ c.get.ensures) refl

pub set-requires : goal.set-requires
set-requires c = slot_made names _ _ _ c.in_ok-reserve.ensures.ok

pub returns-clause-written : goal.returns-clause-written
returns-clause-written c = pool_new c.args.tables.now c.args.name.now c.reserve.new.self c.set.new.self c.args.pool c.new_pool.result
    (sym c.get.ensures ∙ ap option_copied c.in_default.is) c.new_pool.ensures c.in_ok-reserve.ensures.ok c.set.ensures
