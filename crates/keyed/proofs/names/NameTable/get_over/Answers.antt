use Rattle.std.proofs.Common.{ap, sym, ◌∙◌}
use Rattle.std.specs.Option.{option_copied}
use Rattle.std.specs.Prelude.{unwrap_or}
use Rattle.std.specs.FinMap.{get}
use Rattle.ns_types.proofs.Named.{names, one_name}
use Rattle.keyed.specs.Table.{rows}
use Rattle.keyed.proofs.Over.{get-over}
use Rattle.keyed.proofs.Tables.{get-rows}
use Rattle.keyed.proofs.names.NameTable.get_over.Goals as goal

pub returns-in-Some : goal.returns-in-Some
returns-in-Some g c = c.as_ref.ensures.value ∙ sym (get-over names one_name (rows c.args.self.now) c.args.changes.now c.args.key.now
    ∙ ap (λ r. unwrap_or r (get (rows c.args.self.now) c.args.key.now)) (sym c.slot.ensures ∙ ap option_copied c.in-Some.is))

pub returns-in-None : goal.returns-in-None
returns-in-None g c = c.get.ensures ∙ sym (get-rows names c.args.self.now c.args.key.now) ∙
    sym (get-over names one_name (rows c.args.self.now) c.args.changes.now c.args.key.now
    ∙ ap (λ r. unwrap_or r (get (rows c.args.self.now) c.args.key.now)) (sym c.slot.ensures ∙ ap option_copied c.in-None.is))
