use Rattle.std.proofs.Common.{◌∙◌, ap}
use Rattle.std.specs.FinMap.{from_sorted}
use Rattle.keyed.proofs.Tables.{empty_table}
use Rattle.keyed.proofs.names.NameTable.new.Goals as goal

pub returns : goal.returns
returns g c = ap from_sorted c.new.ensures ∙ empty_table
