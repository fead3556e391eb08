-- What is asked, and what is not.
use Rattle.std.proofs.Common.{◌≡◌, List, ℕ, true, false, is_some, refl}
use Rattle.std.specs.Prelude.{Option, Some, None}
use Rattle.ns_types.proofs.Lists.{not_both}
use Rattle.ns_types.specs.Wire.Http.{Asked}
use Rattle.ns_request.specs.declared.endpoint.Endpoint.{Endpoint}
use Rattle.ns_request.specs.declared.method.Method.TheVariants as Method
use Rattle.ns_endpoints.specs.Asking.{asked_of, not_served}

-- what is read as a UUID can't be refused
pub unparsed : (o : Option (List ℕ)) → is_some o ≡ true → ((u : List ℕ) × (o ≡ Some u) → false ≡ true) → ⊥
unparsed None e refused = not_both e refl
unparsed (Some u) e refused = not_both (refused (u, refl)) refl

-- ---- what no path asks by a method

pub read_elsewhere : (endpoint : Endpoint) (a : Asked)
    → (endpoint ≡ Endpoint.Jobs → ⊥)
    → (endpoint ≡ Endpoint.Job → ⊥)
    → (endpoint ≡ Endpoint.JobAllocations → ⊥)
    → (endpoint ≡ Endpoint.JobEvaluations → ⊥)
    → (endpoint ≡ Endpoint.Evaluations → ⊥)
    → (endpoint ≡ Endpoint.Evaluation → ⊥)
    → (endpoint ≡ Endpoint.Allocations → ⊥)
    → (endpoint ≡ Endpoint.Allocation → ⊥)
    → (endpoint ≡ Endpoint.Namespaces → ⊥)
    → (endpoint ≡ Endpoint.Namespace → ⊥)
    → (endpoint ≡ Endpoint.Quotas → ⊥)
    → (endpoint ≡ Endpoint.Quota → ⊥)
    → (endpoint ≡ Endpoint.QuotaUsage → ⊥)
    → (endpoint ≡ Endpoint.EventStream → ⊥)
    → (endpoint ≡ Endpoint.Pools → ⊥)
    → (endpoint ≡ Endpoint.Pool → ⊥)
    → (endpoint ≡ Endpoint.PoolNodes → ⊥)
    → (endpoint ≡ Endpoint.Policy → ⊥)
    → asked_of endpoint Method.Get a ≡ not_served
unfolding asked_of
read_elsewhere Endpoint.Jobs a f _ _ _ _ _ _ _ _ _ _ _ _ _ _ _ _ _ = absurd (f refl)
read_elsewhere Endpoint.Job a _ f _ _ _ _ _ _ _ _ _ _ _ _ _ _ _ _ = absurd (f refl)
read_elsewhere Endpoint.JobAllocations a _ _ f _ _ _ _ _ _ _ _ _ _ _ _ _ _ _ = absurd (f refl)
read_elsewhere Endpoint.JobEvaluations a _ _ _ f _ _ _ _ _ _ _ _ _ _ _ _ _ _ = absurd (f refl)
read_elsewhere Endpoint.Evaluations a _ _ _ _ f _ _ _ _ _ _ _ _ _ _ _ _ _ = absurd (f refl)
read_elsewhere Endpoint.Evaluation a _ _ _ _ _ f _ _ _ _ _ _ _ _ _ _ _ _ = absurd (f refl)
read_elsewhere Endpoint.Allocations a _ _ _ _ _ _ f _ _ _ _ _ _ _ _ _ _ _ = absurd (f refl)
read_elsewhere Endpoint.Allocation a _ _ _ _ _ _ _ f _ _ _ _ _ _ _ _ _ _ = absurd (f refl)
read_elsewhere Endpoint.Namespaces a _ _ _ _ _ _ _ _ f _ _ _ _ _ _ _ _ _ = absurd (f refl)
read_elsewhere Endpoint.Namespace a _ _ _ _ _ _ _ _ _ f _ _ _ _ _ _ _ _ = absurd (f refl)
read_elsewhere Endpoint.Quotas a _ _ _ _ _ _ _ _ _ _ f _ _ _ _ _ _ _ = absurd (f refl)
read_elsewhere Endpoint.Quota a _ _ _ _ _ _ _ _ _ _ _ f _ _ _ _ _ _ = absurd (f refl)
read_elsewhere Endpoint.QuotaUsage a _ _ _ _ _ _ _ _ _ _ _ _ f _ _ _ _ _ = absurd (f refl)
read_elsewhere Endpoint.EventStream a _ _ _ _ _ _ _ _ _ _ _ _ _ f _ _ _ _ = absurd (f refl)
read_elsewhere Endpoint.Pools a _ _ _ _ _ _ _ _ _ _ _ _ _ _ f _ _ _ = absurd (f refl)
read_elsewhere Endpoint.Pool a _ _ _ _ _ _ _ _ _ _ _ _ _ _ _ f _ _ = absurd (f refl)
read_elsewhere Endpoint.PoolNodes a _ _ _ _ _ _ _ _ _ _ _ _ _ _ _ _ f _ = absurd (f refl)
read_elsewhere Endpoint.Policy a _ _ _ _ _ _ _ _ _ _ _ _ _ _ _ _ _ f = absurd (f refl)
read_elsewhere _ a _ _ _ _ _ _ _ _ _ _ _ _ _ _ _ _ _ _ = refl

pub write_elsewhere : (endpoint : Endpoint) (a : Asked)
    → (endpoint ≡ Endpoint.Jobs → ⊥)
    → (endpoint ≡ Endpoint.NewNamespace → ⊥)
    → (endpoint ≡ Endpoint.Namespace → ⊥)
    → (endpoint ≡ Endpoint.NewQuota → ⊥)
    → (endpoint ≡ Endpoint.Quota → ⊥)
    → (endpoint ≡ Endpoint.Pools → ⊥)
    → (endpoint ≡ Endpoint.Pool → ⊥)
    → (endpoint ≡ Endpoint.AllocationStop → ⊥)
    → (endpoint ≡ Endpoint.Node → ⊥)
    → (endpoint ≡ Endpoint.NodeStatus → ⊥)
    → (endpoint ≡ Endpoint.NodeEligibility → ⊥)
    → (endpoint ≡ Endpoint.NodeReport → ⊥)
    → (endpoint ≡ Endpoint.Policy → ⊥)
    → (endpoint ≡ Endpoint.NewToken → ⊥)
    → asked_of endpoint Method.Write a ≡ not_served
unfolding asked_of
write_elsewhere Endpoint.Jobs a f _ _ _ _ _ _ _ _ _ _ _ _ _ = absurd (f refl)
write_elsewhere Endpoint.NewNamespace a _ f _ _ _ _ _ _ _ _ _ _ _ _ = absurd (f refl)
write_elsewhere Endpoint.Namespace a _ _ f _ _ _ _ _ _ _ _ _ _ _ = absurd (f refl)
write_elsewhere Endpoint.NewQuota a _ _ _ f _ _ _ _ _ _ _ _ _ _ = absurd (f refl)
write_elsewhere Endpoint.Quota a _ _ _ _ f _ _ _ _ _ _ _ _ _ = absurd (f refl)
write_elsewhere Endpoint.Pools a _ _ _ _ _ f _ _ _ _ _ _ _ _ = absurd (f refl)
write_elsewhere Endpoint.Pool a _ _ _ _ _ _ f _ _ _ _ _ _ _ = absurd (f refl)
write_elsewhere Endpoint.AllocationStop a _ _ _ _ _ _ _ f _ _ _ _ _ _ = absurd (f refl)
write_elsewhere Endpoint.Node a _ _ _ _ _ _ _ _ f _ _ _ _ _ = absurd (f refl)
write_elsewhere Endpoint.NodeStatus a _ _ _ _ _ _ _ _ _ f _ _ _ _ = absurd (f refl)
write_elsewhere Endpoint.NodeEligibility a _ _ _ _ _ _ _ _ _ _ f _ _ _ = absurd (f refl)
write_elsewhere Endpoint.NodeReport a _ _ _ _ _ _ _ _ _ _ _ f _ _ = absurd (f refl)
write_elsewhere Endpoint.Policy a _ _ _ _ _ _ _ _ _ _ _ _ f _ = absurd (f refl)
write_elsewhere Endpoint.NewToken a _ _ _ _ _ _ _ _ _ _ _ _ _ f = absurd (f refl)
write_elsewhere _ a _ _ _ _ _ _ _ _ _ _ _ _ _ _ = refl

pub delete_elsewhere : (endpoint : Endpoint) (a : Asked)
    → (endpoint ≡ Endpoint.Job → ⊥)
    → (endpoint ≡ Endpoint.Namespace → ⊥)
    → (endpoint ≡ Endpoint.Quota → ⊥)
    → (endpoint ≡ Endpoint.Pool → ⊥)
    → (endpoint ≡ Endpoint.Node → ⊥)
    → (endpoint ≡ Endpoint.Policy → ⊥)
    → (endpoint ≡ Endpoint.Token → ⊥)
    → asked_of endpoint Method.Delete a ≡ not_served
unfolding asked_of
delete_elsewhere Endpoint.Job a f _ _ _ _ _ _ = absurd (f refl)
delete_elsewhere Endpoint.Namespace a _ f _ _ _ _ _ = absurd (f refl)
delete_elsewhere Endpoint.Quota a _ _ f _ _ _ _ = absurd (f refl)
delete_elsewhere Endpoint.Pool a _ _ _ f _ _ _ = absurd (f refl)
delete_elsewhere Endpoint.Node a _ _ _ _ f _ _ = absurd (f refl)
delete_elsewhere Endpoint.Policy a _ _ _ _ _ f _ = absurd (f refl)
delete_elsewhere Endpoint.Token a _ _ _ _ _ _ f = absurd (f refl)
delete_elsewhere _ a _ _ _ _ _ _ _ = refl
