use Rattle.std.specs.Prelude.{ℕ, Option, option_map}
use Rattle.std.proofs.Common.{ap, sym, ◌∙◌}
use Rattle.std.specs.Option.{option_and_then, option_copied}
use Rattle.ns_queues.proofs.Holding.{row_again}
use Rattle.ns_types.specs.State.Names.{Name}
use Rattle.ns_types.specs.State.Rows.{World}
use Rattle.ns_types.specs.Working.Looks.{worker_at}
use Rattle.ns_types.specs.Working.Worker.{Worker}
use Rattle.ns_broker.proofs.looking.row_of.Goals as goal
use Rattle.ns_tables.specs.World.{world_of}

-- the worker's row in the namespace, where there is one
abbrev row_by : World → ℕ → Option Name → Option (Name × Worker)
row_by w number ns = option_and_then (λ ns. option_map (λ row. (ns, row)) (worker_at w number ns)) ns

pub returns-in_default : goal.returns-in_default
returns-in_default c = let w = world_of c.args.tables.now in
    ap (row_by w c.args.number) (sym (ap option_copied c.in_default.is) ∙ c.namespace_of.ensures) ∙ sym (row_again w c.args.number)

pub returns-in-Some-worker_at : goal.returns-in-Some-worker_at
returns-in-Some-worker_at c = let w = world_of c.args.tables.now in
    ap (option_map (λ row. (c.in-Some.namespace.now, row))) (sym (ap option_copied c.in-Some-worker_at.is) ∙ c.worker_at.ensures)
    ∙ ap (row_by w c.args.number) (sym (ap option_copied c.in-Some.is) ∙ c.namespace_of.ensures) ∙ sym (row_again w c.args.number)

pub returns-in-None : goal.returns-in-None
returns-in-None c = let w = world_of c.args.tables.now in
    ap (option_map (λ row. (c.in-Some.namespace.now, row))) (sym (ap option_copied c.in-None.is) ∙ c.worker_at.ensures)
    ∙ ap (row_by w c.args.number) (sym (ap option_copied c.in-Some.is) ∙ c.namespace_of.ensures) ∙ sym (row_again w c.args.number)
