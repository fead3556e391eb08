use Rattle.std.proofs.Common.{ap, refl, sym, ◌∙◌, ◌≡◌}
use Rattle.std.specs.Option.{option_copied_mut}
use Rattle.std.specs.Prelude.{true}
use Rattle.ns_settlement.specs.Committed.{raised_quota}
use Rattle.ns_settlement.proofs.Owned.{in_place}
use Rattle.ns_settlement.proofs.commit.quotas.raise_quota.Goals as goal

pub returns-in-Some : goal.returns-in-Some
returns-in-Some c = in_place c.args.name.now c.args.table.now _ _ refl (λ a b. b ≡ raised_quota true a) c.in-Some.quota.now
    (sym c.get_mut.ensures.value ∙ ap option_copied_mut c.in-Some.is) refl
