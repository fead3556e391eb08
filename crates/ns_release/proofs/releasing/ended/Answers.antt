use Rattle.std.proofs.Common.{ap, sym, ◌∙◌, not, refl}
use Rattle.std.specs.Option.{option_copied, option_map_or}
use Rattle.std.specs.Prelude.{◌&&◌, Some, None, false, true}
use Rattle.ns_types.specs.State.Rows.{is_live}
use Rattle.ns_release.proofs.Released.{ended_by}
use Rattle.ns_release.proofs.releasing.ended.Goals as goal

pub returns-in_default : goal.returns-in_default
returns-in_default c = ended_by c.args.tenant.now c.args.slot.now.0 c.args.slot.now.1 None (sym c.get.ensures ∙ ap option_copied c.in_default.is) false refl

pub returns-then-ends : goal.returns-then-ends
returns-then-ends c = ended_by c.args.tenant.now c.args.slot.now.0 c.args.slot.now.1 (Some c.in-Some.old.now)
    (sym c.get.ensures ∙ ap option_copied c.in-Some.is) true
    ((λ i. sym c.is_live.ensures i && not ((ap (λ r. option_map_or is_live r false) (sym c.as_ref.ensures.value) ∙ sym c.lives_on.ensures) i)) ∙ c.if-ends.true)

pub returns-else-ends : goal.returns-else-ends
returns-else-ends c = ended_by c.args.tenant.now c.args.slot.now.0 c.args.slot.now.1 (Some c.in-Some.old.now)
    (sym c.get.ensures ∙ ap option_copied c.in-Some.is) false
    ((λ i. sym c.is_live.ensures i && not ((ap (λ r. option_map_or is_live r false) (sym c.as_ref.ensures.value) ∙ sym c.lives_on.ensures) i)) ∙
    c.if-ends.false)
