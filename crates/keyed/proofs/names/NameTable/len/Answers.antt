use Rattle.std.proofs.Common.{◌∙◌, ap}
use Rattle.std.specs.FinMap.{len}
use Rattle.ns_types.proofs.Named.{names}
use Rattle.keyed.specs.Table.{rows}
use Rattle.keyed.proofs.Tables.{len-rows}
use Rattle.keyed.proofs.names.NameTable.len.Goals as goal

pub returns : goal.returns
returns g c = c.len.ensures ∙ len-rows names _ c.self.invariant ∙ ap (λ m. len (rows m)) c.self.view_is
