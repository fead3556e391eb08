-- The opening state, and so each state that the server reaches, has what isolation rests on.
use Rattle.std.specs.Prelude.{◌≡◌, ℕ, false, T, List, [], ◌∷◌, ◌||◌, Some, nat_lt}
use Rattle.std.proofs.Common.{◌⊎◌, inl, inr, arith, sym, ap, subst, ◌∙◌}
use Rattle.std.specs.FinMap.{get, get-empty, empty, insert}
use Rattle.ns_types.specs.declared.node.Node.{Node}
use Rattle.ns_types.specs.declared.step.Step.{Step}
use Rattle.ns_types.specs.State.Names.{Name, name_cmp, default_name}
use Rattle.ns_types.specs.State.Rows.{State, QuotaRows}
use Rattle.ns_types.specs.Steps.{Answer, greatest, is_tenant_past_bound, is_pool_past_bound, is_past_bound, opening_tenant, opening_pool, opening_world}
use Rattle.ns_types.specs.Steps.{opening, Run}
use Rattle.ns_types.specs.State.Tables.{any_row}
use Rattle.ns_types.proofs.Named.{names, one_name}
use Rattle.ns_types.proofs.Tables.{any_row-none}
use Rattle.ns_types.proofs.Tests.{not_Some}
use Rattle.ns_types.proofs.TableRows.{row_of_insert}
use Rattle.ns_audit.specs.Headline.{ReachedIsSteady}
use Rattle.ns_audit.specs.Orderly.{IsOrderlyTenant, IsOrderly, IsSteady}
use Rattle.ns_audit.proofs.Steady.Admins.{new_orderly}
use Rattle.ns_audit.proofs.Alone.Running.{steady_step}

none_below : (n : ℕ) → nat_lt n 0 ≡ false
none_below n = grind arith

-- the one row of a table
pub only_row : {X : Type 0} (k : Name) (v : X) (q : Name) (x : X) → get (insert (empty {R = name_cmp}) k v) q ≡ Some x → v ≡ x
only_row {X = X} k v q x at = by (row_of_insert names one_name (empty {R = name_cmp}) k v q x at)
  where
    by : ((q ≡ k) × (v ≡ x)) ⊎ (get (empty {X = X} {R = name_cmp}) q ≡ Some x) → v ≡ x
    by (inl e) = e.1
    by (inr none) = absurd (not_Some _ (sym (get-empty name_cmp q) ∙ none))

opening_orderly : IsOrderly opening_world
opening_orderly = record {
  tenant = λ ns t is. subst (IsOrderlyTenant ns) (only_row default_name opening_tenant ns t is) (new_orderly ns opening_tenant.namespace);
  ready = λ ns n has. absurd (subst T (sym has) tt);
  blocked = λ ns n has. absurd (subst T (sym has) tt);
}

no_tenant_over : any_row (λ _ t. is_tenant_past_bound t) opening_world.tenants ≡ false
no_tenant_over = any_row-none names one_name (λ _ t. is_tenant_past_bound t) opening_world.tenants
    (λ ns t is. ap is_tenant_past_bound (sym (only_row default_name opening_tenant ns t is)) ∙
    (λ i. none_below greatest i || none_below greatest i || none_below greatest i))

no_pool_over : any_row (λ _ p. is_pool_past_bound p) opening_world.pools ≡ false
no_pool_over = any_row-none names one_name (λ _ p. is_pool_past_bound p) opening_world.pools
    (λ name p is. ap is_pool_past_bound (sym (only_row default_name opening_pool name p is))
    ∙ (λ i. none_below greatest i || any_row-none names one_name (λ _ (node : Node). nat_lt greatest node.places) empty
    (λ k node at. absurd (not_Some _ (sym (get-empty name_cmp k) ∙ at))) i))

no_quota_over : any_row (λ _ (q : QuotaRows). nat_lt greatest q.release) opening_world.quotas ≡ false
no_quota_over = any_row-none names one_name (λ _ (q : QuotaRows). nat_lt greatest q.release) empty
    (λ k q at. absurd (not_Some _ (sym (get-empty name_cmp k) ∙ at)))

opening_steady : (secret : Name) → IsSteady (opening secret)
unfolding opening is_past_bound
opening_steady secret = record { orderly = opening_orderly; within = λ i. no_tenant_over i || no_pool_over i || no_quota_over i }

along : (s s' : State) (steps : List Step) (answers : List Answer) → IsSteady s → Run s steps answers s' → IsSteady s'
along s s' [] [] steady run = subst IsSteady (sym run) steady
along s s' [] (answer ∷ answers) steady run = absurd run
along s s' (step ∷ steps) [] steady run = absurd run
along s s' (step ∷ steps) (answer ∷ answers) steady run = along run.0 s' steps answers (steady_step s run.0 step answer steady run.1) run.2

pub reached_is_steady : ReachedIsSteady
reached_is_steady secret s steps answers run = along (opening secret) s steps answers (opening_steady secret) run
