use Rattle.std.proofs.Common.{ap, sym, ◌∙◌, not, true}
use Rattle.std.specs.Option.{option_copied, option_map_or}
use Rattle.std.specs.Prelude.{◌||◌}
use Rattle.keyed.proofs.Tables.{get-rows}
use Rattle.ns_types.specs.Settling.Releases.{same_offer}
use Rattle.ns_types.specs.State.Rows.{is_free}
use Rattle.ns_types.proofs.Named.{names}
use Rattle.ns_change.proofs.Any.{or_else, or_then}
use Rattle.ns_release.proofs.releasing.differs.Goals as goal

pub returns-then-not-is_free : goal.returns-then-not-is_free
returns-then-not-is_free c = or_then _ _ (not (same_offer c.in-Some.old.now.offer c.args.node.now.offer)) (ap not c.if-not-is_free.true)
    (ap not c.is_free.ensures)
    ∙ sym (ap (λ o. option_map_or (λ old. not (is_free old) || not (same_offer old.offer c.args.node.now.offer)) o true)
    (get-rows names c.args.rows.now.nodes c.args.name.now ∙ sym c.get.ensures ∙ ap option_copied c.in-Some.is))

pub returns-else-not-is_free : goal.returns-else-not-is_free
returns-else-not-is_free c = or_else _ _ _ _ (ap not c.if-not-is_free.false) (ap not c.is_free.ensures) (ap not c.same_offer.ensures)
    ∙ sym (ap (λ o. option_map_or (λ old. not (is_free old) || not (same_offer old.offer c.args.node.now.offer)) o true)
    (get-rows names c.args.rows.now.nodes c.args.name.now ∙ sym c.get.ensures ∙ ap option_copied c.in-Some.is))

pub returns-in-None : goal.returns-in-None
returns-in-None c = sym (ap (λ o. option_map_or (λ old. not (is_free old) || not (same_offer old.offer c.args.node.now.offer)) o true)
    (get-rows names c.args.rows.now.nodes c.args.name.now ∙ sym c.get.ensures ∙ ap option_copied c.in-None.is))
