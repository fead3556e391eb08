use Rattle.std.proofs.Common.{ap, sym, subst, ◌∙◌}
use Rattle.std.specs.Option.{option_copied}
use Rattle.ns_live_index.specs.Shown.{HidesRow}
use Rattle.ns_live_index.proofs.Unmoved.{beside_last, none_hidden}
use Rattle.ns_live_index.proofs.live.is_beside.Goals as goal

pub returns-then-is_live_on : goal.returns-then-is_live_on
returns-then-is_live_on c there shown h = subst (λ r. HidesRow r shown) (sym (ap option_copied c.in-Some.is))
    (beside_last (option_copied c.args.last) c.in-Some.row.now (sym c.is_live_on.ensures ∙ c.if-is_live_on.true)
    (λ its is. c.is_placed_by.ensures its is there) shown h)

pub returns-in-None : goal.returns-in-None
returns-in-None c there shown h = subst (λ r. HidesRow r shown) (sym (ap option_copied c.in-None.is)) (none_hidden shown)
