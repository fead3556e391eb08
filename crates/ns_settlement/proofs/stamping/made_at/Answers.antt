use Rattle.std.proofs.Common.{ap, sym, ◌∙◌}
use Rattle.std.specs.Option.{option_copied, option_map_or}
use Rattle.keyed.proofs.Tables.{get-rows}
use Rattle.ns_types.proofs.Named.{numbers}
use Rattle.ns_settlement.proofs.stamping.made_at.Goals as goal

pub returns-in-Some : goal.returns-in-Some
returns-in-Some g c = c.made.ensures ∙ sym (ap (λ o. option_map_or g.R.ShownByNumber.kind.made o c.args.index)
    (get-rows numbers c.args.before.now c.args.number ∙
    sym c.get.ensures ∙ ap option_copied c.in-Some.is))

pub returns-in-None : goal.returns-in-None
returns-in-None g c = sym (ap (λ o. option_map_or g.R.ShownByNumber.kind.made o c.args.index)
    (get-rows numbers c.args.before.now c.args.number ∙ sym c.get.ensures ∙
    ap option_copied c.in-None.is))
