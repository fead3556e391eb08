-- What live allocations take together stays small.
use Rattle.std.specs.Prelude.{◌≡◌, ◌<◌, ◌^◌, ℕ}
use Rattle.std.proofs.Common.{arith, refl}
use Rattle.ns_types.proofs.Amounts.{every}
use Rattle.ns_types.specs.State.Resources.{quantity}
use Rattle.ns_types.specs.declared.resources.Resources.{Resources}
use Rattle.ns_types.specs.State.Rows.{World}
use Rattle.ns_types.proofs.LiveSums.{all_live, all_small, live_by_tenant, load_small, quota_small}
use Rattle.ns_laws.specs.Sums as law
use Rattle.ns_laws.specs.Sums.{live_sum}

live_rows : (w : World) (amount : Resources → ℕ) → all_live w amount ≡ live_sum w amount
unfolding live_sum
live_rows w amount = live_by_tenant w amount

pub live_use_is_small : law.LiveUseIsSmall
live_use_is_small s valid = every (λ r. live_sum s.world (quantity r) < 2 ^ 55) (λ r.
    let rows = live_rows s.world (quantity r) in
    omega (arith, rows, all_small s.world valid.world r))

pub quota_use_is_small : law.QuotaUseIsSmall
quota_use_is_small s quota valid = quota_small s.world quota valid.world

pub node_load_is_small : law.NodeLoadIsSmall
node_load_is_small s pool node valid = load_small s.world pool node valid.world

pub quantities_are_fields : law.QuantitiesAreFields
quantities_are_fields a = (refl, refl, refl)

pub limits_are_fields : law.LimitsAreFields
limits_are_fields l = (refl, refl, refl)
