use Rattle.std.proofs.Common.{ap, refl, sym, ◌∙◌, ◌≡◌}
use Rattle.std.specs.Option.{option_copied_mut}
use Rattle.ns_change.specs.Changed.{changed_quota}
use Rattle.ns_tables.specs.World.{quota_of}
use Rattle.ns_settlement.proofs.Owned.{in_place}
use Rattle.ns_settlement.proofs.commit.quotas.put_quota.Goals as goal

pub returns-in-Some : goal.returns-in-Some
returns-in-Some c = in_place c.args.name.now c.args.table.now _ _ refl (λ a b. quota_of b ≡ changed_quota (quota_of a) c.args.quota) c.in-Some.row.now
    (sym c.get_mut.ensures.value ∙ ap option_copied_mut c.in-Some.is) refl
