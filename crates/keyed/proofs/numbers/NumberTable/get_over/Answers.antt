use Rattle.std.proofs.Common.{ap, sym, ◌∙◌}
use Rattle.std.specs.Option.{option_copied}
use Rattle.std.specs.Prelude.{unwrap_or}
use Rattle.std.specs.FinMap.{get}
use Rattle.ns_types.proofs.Named.{numbers, one_number}
use Rattle.keyed.specs.Table.{rows}
use Rattle.keyed.proofs.Over.{get-over}
use Rattle.keyed.proofs.Tables.{get-rows}
use Rattle.keyed.proofs.numbers.NumberTable.get_over.Goals as goal

pub returns-in-Some : goal.returns-in-Some
returns-in-Some g c = c.as_ref.ensures.value ∙ sym (get-over numbers one_number (rows c.args.self.now) c.args.changes.now c.args.key
    ∙ ap (λ r. unwrap_or r (get (rows c.args.self.now) c.args.key)) (sym c.slot.ensures ∙ ap option_copied c.in-Some.is))

pub returns-in-None : goal.returns-in-None
returns-in-None g c = c.get.ensures ∙ sym (get-rows numbers c.args.self.now c.args.key) ∙
    sym (get-over numbers one_number (rows c.args.self.now) c.args.changes.now c.args.key
    ∙ ap (λ r. unwrap_or r (get (rows c.args.self.now) c.args.key)) (sym c.slot.ensures ∙ ap option_copied c.in-None.is))
