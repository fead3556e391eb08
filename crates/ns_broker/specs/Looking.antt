-- A worker's row, with the namespace for which it is busy, and its fields.
use Rattle.std.specs.Prelude.{ℕ, Option, option_map}
use Rattle.ns_types.specs.declared.worker.Phase.{Phase}
use Rattle.ns_types.specs.Working.Worker.{Worker}
use Rattle.ns_types.specs.State.Names.{Name}
use Rattle.ns_types.specs.State.Rows.{World}
use Rattle.ns_types.specs.Working.Looks.{row_of}
use Rattle.ns_broker.specs.declared.looking.Busy.{Busy}

-- the namespace for which the worker is busy
abbrev pub busy_for : World → ℕ → Option Name
busy_for w number = option_map (λ row. row.0) (row_of w number)

-- a busy worker's namespace, evaluation, phase and tries
abbrev pub busy_of : Name × Worker → Name × ℕ × Phase × ℕ
busy_of row = (row.0, row.1.evaluation, row.1.phase, row.1.tries)

abbrev pub busy_fields : Busy → Name × ℕ × Phase × ℕ
busy_fields b = (b.namespace.now, b.evaluation, b.phase, b.tries)
