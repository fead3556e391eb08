use Rattle.std.proofs.Common.{ap, not, sym, ◌∙◌}
use Rattle.std.specs.Option.{option_copied}
use Rattle.std.specs.Prelude.{is_some}
use Rattle.ns_broker.proofs.Dequeued.{idle_by}
use Rattle.ns_broker.proofs.taking.is_idle.Goals as goal
use Rattle.ns_tables.specs.World.{world_of}

pub returns-in-Some : goal.returns-in-Some
returns-in-Some c = ap (λ ns. not (is_some ns)) (sym (ap option_copied c.in-Some.is) ∙ c.namespace_of.ensures)
    ∙ idle_by (world_of c.args.tables.now) c.args.number

pub returns-in-None : goal.returns-in-None
returns-in-None c = ap (λ ns. not (is_some ns)) (sym (ap option_copied c.in-None.is) ∙ c.namespace_of.ensures)
    ∙ idle_by (world_of c.args.tables.now) c.args.number
