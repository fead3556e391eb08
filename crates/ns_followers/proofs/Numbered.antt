-- Numbers of evaluations that can be given, as rows change.
use Rattle.std.specs.Prelude.{◌≡◌, ℕ, ◌+◌, ◌<◌, ◌^◌, Option, Some, None}
use Rattle.std.proofs.Common.{refl, ap, sym, subst, ◌∙◌}
use Rattle.std.specs.Option.{option_map_or, unwrap_or}
use Rattle.std.specs.FinMap.{get}
use Rattle.ns_types.specs.Settling.Making.{change_tenant, put_tenant}
use Rattle.ns_types.specs.State.Names.{Name}
use Rattle.ns_types.specs.State.Rows.{World, Tenant}
use Rattle.ns_types.specs.Working.Work.{blocked_of, tied_to, without_blocked, without_key}
use Rattle.ns_types.proofs.Named.{names, one_name}
use Rattle.ns_types.proofs.TableRows.{get_put}
use Rattle.ns_change.specs.Changed.{HasEvaluationLeft, unlist_blocked}
use Rattle.ns_followers.proofs.Kept.{ending_keeps}
use Rattle.ns_followers.specs.Ending.{Ended, ended_as, ended_in}
use Rattle.ns_types.proofs.Bounds.{tied_number}

pub ended_stays : (e : Ended) (t : Tenant) → (ended_as e t).evaluation_number ≡ t.evaluation_number
ended_stays = ending_keeps (λ t. t.evaluation_number) (λ t rows. refl) (λ t rows. refl)

-- a change of the namespace that gives no number
left_kept : (f : Tenant → Tenant) → ((t : Tenant) → (f t).evaluation_number ≡ t.evaluation_number) →
    (w : World) (ns : Name) → HasEvaluationLeft w ns → HasEvaluationLeft (change_tenant ns f w) ns
left_kept f stays w ns left = by (get w.tenants ns) refl
  where
    by : (r : Option Tenant) → get w.tenants ns ≡ r → (t : Tenant) →
        get (option_map_or (λ t. put_tenant ns (f t) w) r w).tenants ns ≡ Some t → t.evaluation_number + 1 < 2 ^ 64
    by None is t there = left t there
    by (Some u) is t there =
        let same : f u ≡ t = ap (λ r. unwrap_or r t) (sym (get_put names one_name w.tenants ns (f u)) ∙ there) in
        subst (λ (k : ℕ). k + 1 < 2 ^ 64) (sym (stays u) ∙ ap (λ (t : Tenant). t.evaluation_number) same) (left u is)

-- that an evaluation names its follower takes no number
pub left_still : (w : World) (ns : Name) (n follower : ℕ) → HasEvaluationLeft w ns → HasEvaluationLeft (change_tenant ns (tied_to n follower) w) ns
left_still w ns n follower = left_kept (tied_to n follower) (tied_number n follower) w ns

pub tenants_stay : (ns job : Name) (w : World) → (unlist_blocked ns job w).tenants ≡ w.tenants
tenants_stay ns job w = by (get w.tenants ns)
  where
    one : (r : Option ℕ) → (option_map_or (λ n. record w { blocked = without_key (ns, n) w.blocked }) r w).tenants ≡ w.tenants
    one None = refl
    one (Some n) = refl

    by : (r : Option Tenant) → (option_map_or (λ t. without_blocked ns job t w) r w).tenants ≡ w.tenants
    by None = refl
    by (Some t) = one (blocked_of t job)

-- nor does the end of one
pub left_at_end : (w : World) (e : Ended) → HasEvaluationLeft w e.key.0 → HasEvaluationLeft (ended_in e w) e.key.0
left_at_end w e left =
    left_kept (ended_as e) (ended_stays e)
    (unlist_blocked e.key.0 e.job w) e.key.0
    (λ t there. left t (ap (λ m. get m e.key.0) (sym (tenants_stay e.key.0 e.job w)) ∙ there))
