-- A valid state is orderly.
use Rattle.std.specs.Prelude.{◌≡◌, ℕ, Bool, true, false, T, Option, Some, None, is_some}
use Rattle.std.proofs.Common.{refl, sym, ap, subst, ◌∙◌}
use Rattle.std.specs.FinMap.{get}
use Rattle.std.specs.Option.{option_and_then}
use Rattle.ns_types.specs.declared.evaluation.Evaluation.{Evaluation}
use Rattle.ns_types.specs.declared.evaluation.Status.{Status}
use Rattle.ns_types.specs.State.Names.{Name, has_key, same_name}
use Rattle.ns_types.specs.State.Rows.{World, Tenant, is_pending, is_blocked, evaluation_at}
use Rattle.ns_types.specs.Validity.{IsAllowed, IsSound, IsSoundTenant}
use Rattle.ns_types.proofs.Lists.{not_both}
use Rattle.ns_types.proofs.Named.{same_name_is, same_name_refl}
use Rattle.ns_types.proofs.Tests.{not_Some}
use Rattle.ns_audit.specs.Orderly.{IsAllowedTo, IsOrderlyTenant, IsReadyIn, IsBlockedIn, IsListed, IsOrderly}

pub pending_is : (s : Status) → is_pending s ≡ true → s ≡ Status.Pending
pending_is Status.Pending e = refl
pending_is Status.Blocked e = absurd (subst T (sym e) tt)
pending_is Status.Complete e = absurd (subst T (sym e) tt)
pending_is Status.Failed e = absurd (subst T (sym e) tt)
pending_is Status.Canceled e = absurd (subst T (sym e) tt)

pub blocked_is : (s : Status) → is_blocked s ≡ true → s ≡ Status.Blocked
blocked_is Status.Pending e = absurd (subst T (sym e) tt)
blocked_is Status.Blocked e = refl
blocked_is Status.Complete e = absurd (subst T (sym e) tt)
blocked_is Status.Failed e = absurd (subst T (sym e) tt)
blocked_is Status.Canceled e = absurd (subst T (sym e) tt)

allowed_to : (w : World) (t : Tenant) (pool : Name) (quota : Option Name) → IsAllowed w t pool quota → IsAllowedTo t.namespace pool quota
allowed_to w t pool quota a = record { permitted = a.permitted; its_quota = a.its_quota }

pub turned_name : (a b : Name) → same_name a b ≡ false → same_name b a ≡ false
turned_name a b e = by (same_name b a) refl
  where
    by : (c : Bool) → same_name b a ≡ c → c ≡ false
    by true same = not_both (ap (λ x. same_name x b) (sym (same_name_is b a same)) ∙ same_name_refl b) e
    by false _ = refl

module _ (w : World) (s : IsSound w) where
  tenant_orderly : (ns : Name) (t : Tenant) → get w.tenants ns ≡ Some t → IsOrderlyTenant ns t
  tenant_orderly ns t is = record {
    job = λ id j at. (r.job id j at).allowed.permitted;
    evaluation = λ n e at open_. allowed_to w t e.pool e.quota ((r.evaluation n e at).allowed open_);
    allocation = λ n a at live. ((r.allocation n a at).placed live).allowed.permitted;
    snapshot = λ n worker kept at has. let k = (r.worker n worker at).snapshot kept has in
        record { namespace = k.namespace; allowed = allowed_to w t kept.pool _ k.allowed };
    held = λ n worker at. let k = r.worker n worker at in record { row = k.row; is_row = k.is_row; is_pending = pending_is k.row.status k.pending };
    one_each = r.one_each;
    numbers = λ n e at. (r.evaluation n e at).below;
  }
    where
      r : IsSoundTenant w ns t
      r = s.tenant ns t is

  -- an entry's evaluation is a row of a namespace
  module _ {P : Tenant → ℕ → Type 0} (ns : Name) (n : ℕ) where
    listed_at : (e : Evaluation) → evaluation_at w (ns, n) ≡ Some e → ((t : Tenant) → get w.tenants ns ≡ Some t → get t.evaluations n ≡ Some e → P t n) →
        IsListed w P ns n
    listed_at e at h = by (get w.tenants ns) refl at
      where
        by : (o : Option Tenant) → get w.tenants ns ≡ o → option_and_then (λ t. get t.evaluations n) o ≡ Some e → IsListed w P ns n
        by None is at = absurd (not_Some _ at)
        by (Some t) is at = record { tenant = t; is_tenant = is; entry = h t is at }

  ready_orderly : (ns : Name) (n : ℕ) → has_key w.ready (ns, n) ≡ true → IsListed w IsReadyIn ns n
  ready_orderly ns n has = let k = s.ready (ns, n) has in listed_at {P = IsReadyIn} ns n k.row k.is_row (λ t is at. record {
    pending = record { row = k.row; is_row = at; is_pending = pending_is k.row.status k.pending };
    free = λ m worker has_it same. not_both has (ap (λ n. has_key w.ready (ns, n)) (sym same) ∙ ((s.tenant ns t is).worker m worker has_it).not_ready);
  })

  blocked_orderly : (ns : Name) (n : ℕ) → has_key w.blocked (ns, n) ≡ true → IsListed w IsBlockedIn ns n
  blocked_orderly ns n has = by (evaluation_at w (ns, n)) refl (s.blocked (ns, n) has)
    where
      by : (o : Option Evaluation) → evaluation_at w (ns, n) ≡ o → is_some (evaluation_at w (ns, n)) ≡ true → IsListed w IsBlockedIn ns n
      by None at some = absurd (subst T (sym some ∙ ap is_some at) tt)
      by (Some e) at some = listed_at {P = IsBlockedIn} ns n e at
          (λ t is row. record { row = e; is_row = row; is_blocked = blocked_is e.status (sym ((s.tenant ns t is).blocked_listed n e row) ∙ has) })

  pub orderly : IsOrderly w
  orderly = record { tenant = tenant_orderly; ready = ready_orderly; blocked = blocked_orderly }
