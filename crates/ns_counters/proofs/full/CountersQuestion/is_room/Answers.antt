use Rattle.std.proofs.Common.{ap, sym, ◌∙◌, Some, None}
use Rattle.std.specs.Option.{option_copied}
use Rattle.ns_types.specs.State.Rows.{offered_class}
use Rattle.ns_counters.proofs.Passing.{pool_bound}
use Rattle.ns_counters.proofs.full.CountersQuestion.is_room.Goals as goal

pub returns-in-Some : goal.returns-in-Some
returns-in-Some c = c.is_at_bound.ensures ∙ sym (pool_bound c.args.self.now.tables.now c.args.pool.now (offered_class c.args._offer.now)
    (Some c.in-Some.rows.now) (sym c.get.ensures ∙ ap option_copied c.in-Some.is))

pub returns-in-None : goal.returns-in-None
returns-in-None c = sym (pool_bound c.args.self.now.tables.now c.args.pool.now (offered_class c.args._offer.now) None
    (sym c.get.ensures ∙ ap option_copied c.in-None.is))
