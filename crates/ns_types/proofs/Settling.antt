-- What a step does at its end where it releases nothing, and where it changes one namespace.
use Rattle.std.specs.Prelude.{◌≡◌, ℕ, ◌+◌, if◌then◌else◌, Bool, true, false, not, ◌&&◌, ◌||◌, [], Option, Some, None, map, is_some}
use Rattle.std.proofs.Common.{refl, sym, ap, ◌∙◌}
use Rattle.std.proofs.Math.Bool.{and-false}
use Rattle.std.specs.Option.{option_map_or, option_and_then}
use Rattle.std.specs.List.{list_any}
use Rattle.std.specs.Ordering.{eq_by_cmp}
use Rattle.std.specs.FinMap.{get, insert}
use Rattle.ns_types.specs.declared.allocation.Allocation.{Allocation}
use Rattle.ns_types.specs.declared.evaluation.Evaluation.{Evaluation}
use Rattle.ns_types.specs.declared.job.Job.{Job}
use Rattle.ns_types.specs.declared.node.Node.{Node}
use Rattle.ns_types.specs.declared.records.Namespace.{Namespace}
use Rattle.ns_types.specs.State.Names.{Name, name_cmp, has_key}
use Rattle.ns_types.specs.Settling.Releases.{ends, is_on, counts_in, changes_limits, gives_room}
use Rattle.ns_types.specs.Settling.Releases.{released_classes, classes_of, releases_quota, wakes_by, released_between}
use Rattle.ns_types.specs.Settling.Releases.{is_released_quota, same_offer, wakes, woken}
use Rattle.ns_types.specs.State.Resources.{limits_in}
use Rattle.ns_types.specs.State.Rows.{World, Tenant, PoolRows, QuotaRows, is_live, is_free, allocation_at, evaluation_at, node_at, class_of}
use Rattle.ns_types.specs.Settling.Same.{same_job, same_evaluation, same_allocation}
use Rattle.ns_types.specs.Settling.Settle.{after_release, after_quota_release, changes_job, changes_evaluation, changes_allocation, is_changed, is_touched}
use Rattle.ns_types.specs.Settling.Settle.{number_releases, settle, stamp, stamp_tenant, stamped, wake}
use Rattle.ns_types.specs.State.Tables.{map_rows}
use Rattle.ns_types.proofs.Lists.{each, filter_all, filter_none}
use Rattle.ns_types.proofs.Named.{names, one_name, numbers, one_number}
use Rattle.ns_types.proofs.Tables.{any_row-none, map_rows_idle, tied}
use Rattle.ns_types.proofs.Alike.{same_job_refl, same_evaluation_refl, same_allocation_refl, same_limits_refl, same_offer_refl}
use Rattle.ns_types.proofs.TableRows.{filter_no_row, get_other, get_put, map_rows-put}
use Rattle.ns_types.proofs.Tests.{same_Some}

-- what was live is live
abbrev pub KeepsLive : World → World → Type 0
KeepsLive w w' = (ns : Name) (t : Tenant) (n : ℕ) (a : Allocation) → get w.tenants ns ≡ Some t → get t.allocations n ≡ Some a → is_live a ≡ true →
    option_map_or is_live (allocation_at w' (ns, n)) false ≡ true

-- and pools and quotas are as they were
pub record KeepsRoom (w w' : World) : Type 0 where
  pub pools : w'.pools ≡ w.pools
  pub quotas : w'.quotas ≡ w.quotas
  pub live : KeepsLive w w'

pub live_in : (t : Tenant) (n : ℕ) (a : Allocation) (found : Option Tenant) → found ≡ Some t → get t.allocations n ≡ Some a → is_live a ≡ true
    → option_map_or is_live (option_and_then (λ t. get t.allocations n) found) false ≡ true
live_in t n a found is at live = (λ i. option_map_or is_live (option_and_then (λ t. get t.allocations n) (is i)) false) ∙
    ap (λ x. option_map_or is_live x false) at ∙ live

pub keeps_all : (w : World) → KeepsRoom w w
keeps_all w = record { pools = refl; quotas = refl; live = λ ns t n a is at live. live_in t n a (get w.tenants ns) is at live }

-- one namespace is changed, and its allocations are not
pub keeps_elsewhere : (w w' : World) (ns : Name) (t t' : Tenant) → w'.pools ≡ w.pools → w'.quotas ≡ w.quotas → w'.tenants ≡ insert w.tenants ns t' →
    get w.tenants ns ≡ Some t → t'.allocations ≡ t.allocations → KeepsRoom w w'
keeps_elsewhere w w' ns t t' pools quotas tenants is allocations =
    record { pools = pools; quotas = quotas; live = λ q x n a at row live. by q x n a at row live (eq_by_cmp name_cmp q ns) refl }
  where
    by : (q : Name) (x : Tenant) (n : ℕ) (a : Allocation) → get w.tenants q ≡ Some x → get x.allocations n ≡ Some a → is_live a ≡ true
        → (b : Bool) → eq_by_cmp name_cmp q ns ≡ b → option_map_or is_live (allocation_at w' (q, n)) false ≡ true
    by q x n a at row live true e = live_in t' n a (get w'.tenants q)
        (ap (get w'.tenants) (tied one_name q ns e) ∙ ap (λ m. get m ns) tenants ∙ get_put names one_name w.tenants ns t')
        (ap (λ m. get m n) (allocations ∙ ap (λ y. y.allocations) (same_Some t x (sym is ∙ ap (get w.tenants) (sym (tied one_name q ns e)) ∙ at))) ∙ row) live
    by q x n a at row live false e = live_in x n a (get w'.tenants q) (ap (λ m. get m q) tenants ∙ get_other names one_name w.tenants ns t' q e ∙ at) row live

never : (a b : Bool) → (a ≡ true → b ≡ false) → (a && b) ≡ false
never true b h = h refl
never false b h = refl

-- ---- where nothing ends, a node gives room only if it is new or changed

module _ (w w' : World) (live : KeepsLive w w') where
  pub ends_none : (passes : Namespace → Allocation → Bool) → ends w w' passes ≡ false
  unfolding ends
  ends_none passes = any_row-none names one_name _ w.tenants
      (λ ns t is. any_row-none numbers one_number _ t.allocations (λ n a at. by ns t n a is at (is_live a) refl (passes t.namespace a)))
    where
      by : (ns : Name) (t : Tenant) (n : ℕ) (a : Allocation) → get w.tenants ns ≡ Some t → get t.allocations n ≡ Some a → (l : Bool) → is_live a ≡ l →
          (p : Bool)
          → (l && p && not (option_map_or is_live (allocation_at w' (ns, n)) false)) ≡ false
      by ns t n a is at false l p = refl
      by ns t n a is at true l false = refl
      by ns t n a is at true l true = ap not (live ns t n a is at l)

  pub node_gives_none : (name n : Name) (node : Node) → node_at w name n ≡ Some node → gives_room w w' name n node ≡ false
  node_gives_none name n node at = never (is_free node) _ (λ free.
      (λ i. option_map_or (λ old. not (is_free old) || not (same_offer old.offer node.offer)) (at i) true || ends_none (is_on name n) i)
      ∙ (λ i. (not (free i) || not (same_offer_refl node.offer i)) || false))

-- ---- where no pool gives room and no quota is released, rows are stamped and nothing else

pub wake_none : (w : World) → wake [] w ≡ w
unfolding wake
wake_none w = λ i. record w {
  tenants = map_rows_idle names one_name _ w.tenants
      (λ ns t is i. record t { evaluations = map_rows_idle numbers one_number (λ n e. e) t.evaluations (λ n e at. refl) i }) i;
  blocked = filter_all (λ _. true) w.blocked (each _ (λ key. refl) w.blocked) i;
}

module _ (w w' : World) (no_room : (name : Name) (pool : PoolRows) → get w'.pools name ≡ Some pool → released_classes w w' name pool ≡ []) where
  pub no_classes : (name : Name) → classes_of w w' name ≡ []
  no_classes name = by (get w'.pools name) refl
    where
      by : (p : Option PoolRows) → get w'.pools name ≡ p → option_map_or (released_classes w w' name) p [] ≡ []
      by None is = refl
      by (Some pool) is = no_room name pool is

  module _ (no_quota : (name : Name) (quota : QuotaRows) → get w'.quotas name ≡ Some quota → releases_quota w w' name quota ≡ false) where
    released_none : (name : Name) → is_released_quota w w' name ≡ false
    released_none name = by (get w'.quotas name) refl
      where
        by : (q : Option QuotaRows) → get w'.quotas name ≡ q → option_map_or (releases_quota w w' name) q false ≡ false
        by None is = refl
        by (Some quota) is = no_quota name quota is

    wakes_not : (e : Evaluation) → wakes w w' e ≡ false
    unfolding wakes
    wakes_not e = by e.quota
      where
        by : (q : Option Name) → wakes_by (released_between w w') e q ≡ false
        by (Some q) = released_none q
        by None = ap (list_any _) (no_classes e.pool)

    pub none_woken : woken w w' ≡ []
    unfolding woken
    none_woken = filter_none _ w.blocked (each _ (λ key. ap (λ b. has_key w'.blocked key && b) (by (evaluation_at w key)) ∙ and-false (has_key w'.blocked key))
        w.blocked)
      where
        by : (e : Option Evaluation) → option_map_or (wakes w w') e false ≡ false
        by None = refl
        by (Some e) = wakes_not e

    none_numbered : number_releases w w' w' ≡ w'
    unfolding number_releases
    none_numbered = λ i. record w' {
      pools = map_rows_idle names one_name _ w'.pools (λ name pool is. ap (λ classes. after_release classes pool) (no_room name pool is)) i;
      quotas = map_rows_idle names one_name _ w'.quotas (λ name quota is. ap (λ b. after_quota_release b quota) (no_quota name quota is)) i;
    }

    pub stamps_alone : settle w w' ≡ stamp w w'
    unfolding settle
    stamps_alone = ap (λ keys. stamp w (number_releases w w' (wake keys w'))) none_woken
        ∙ ap (λ x. stamp w (number_releases w w' x)) (wake_none w') ∙ ap (stamp w) none_numbered

-- ---- where room is kept nothing is released

module _ (w w' : World) (keeps : KeepsRoom w w') where
  room_none : (name : Name) (pool : PoolRows) (n : Name) (node : Node) → get w.pools name ≡ Some pool → get pool.nodes n ≡ Some node →
      gives_room w w' name n node ≡ false
  room_none name pool n node is at = node_gives_none w w' keeps.live name n node (ap (option_and_then (λ p. get p.nodes n)) is ∙ at)

  pub classes_none : (name : Name) (pool : PoolRows) → get w'.pools name ≡ Some pool → released_classes w w' name pool ≡ []
  unfolding released_classes
  classes_none name pool is = ap (map (λ e. class_of e.1))
      (filter_no_row names one_name (gives_room w w' name) pool.nodes
      (λ n node at. room_none name pool n node (ap (λ m. get m name) (sym keeps.pools) ∙ is) at))

  pub quota_none : (name : Name) (quota : QuotaRows) → get w'.quotas name ≡ Some quota → releases_quota w w' name quota ≡ false
  unfolding releases_quota
  quota_none name quota is = (λ i. option_map_or (λ old. changes_limits old quota) ((ap (λ m. get m name) (sym keeps.quotas) ∙ is) i) false
      || ends_none w w' keeps.live (counts_in name) i)
      ∙ ap (λ b. not b || false) (same_limits_refl (limits_in quota.quota.limits))

  pub wakes_none : woken w w' ≡ []
  wakes_none = none_woken w w' classes_none quota_none

pub releases_nothing : (w w' : World) → KeepsRoom w w' → settle w w' ≡ stamp w w'
releases_nothing w w' keeps = stamps_alone w w' (classes_none w w' keeps) (quota_none w w' keeps)

-- ---- rows that are as they were are not stamped

pub unchanged : {X : Type 0} (same : X → X → Bool) (x : X) (old : Option X) → old ≡ Some x → same x x ≡ true → is_changed same old x ≡ false
unchanged same x old is e = ap (λ o. is_changed same o x) is ∙ ap not e

pub kept_job : (t : Tenant) (id : Name) → changes_job t t id ≡ false
kept_job t id = by (get t.jobs id) refl
  where
    by : (job : Option Job) → get t.jobs id ≡ job → option_map_or (is_changed same_job job) job (is_some job) ≡ false
    by None is = refl
    by (Some job) is = ap not (same_job_refl job)

pub kept_evaluation : (t : Tenant) (n : ℕ) (e : Evaluation) → get t.evaluations n ≡ Some e → changes_evaluation t n e ≡ false
kept_evaluation t n e is = unchanged same_evaluation e _ is (same_evaluation_refl e)

pub kept_allocation : (t : Tenant) (n : ℕ) (a : Allocation) → get t.allocations n ≡ Some a → changes_allocation t n a ≡ false
kept_allocation t n a is = unchanged same_allocation a _ is (same_allocation_refl a)

pub untouched : (t : Tenant) → is_touched t t ≡ false
untouched t = λ i.
    any_row-none names one_name (λ id _. changes_job t t id) t.jobs (λ id job is. kept_job t id) i
    || any_row-none names one_name (λ id _. changes_job t t id) t.jobs (λ id job is. kept_job t id) i
    || any_row-none numbers one_number (changes_evaluation t) t.evaluations (kept_evaluation t) i
    || any_row-none numbers one_number (changes_allocation t) t.allocations (kept_allocation t) i

pub stamp_same : (t : Tenant) → stamp_tenant (Some t) t ≡ t
unfolding stamp_tenant
stamp_same t = ap (λ b. if b then stamped (t.index + 1) t t else t) (untouched t)

stamped_same : (w : World) (ns : Name) (t : Tenant) → get w.tenants ns ≡ Some t → stamp_tenant (get w.tenants ns) t ≡ t
stamped_same w ns t is = ap (λ o. stamp_tenant o t) is ∙ stamp_same t

pub stamp_one : (w w' : World) (ns : Name) (t t' : Tenant) → w'.tenants ≡ insert w.tenants ns t' → get w.tenants ns ≡ Some t
    → stamp w w' ≡ record w' { tenants = insert w.tenants ns (stamp_tenant (Some t) t') }
unfolding stamp
stamp_one w w' ns t t' tenants is = λ i. record w' { tenants = rows i }
  where
    rows : map_rows (λ ns t. stamp_tenant (get w.tenants ns) t) w'.tenants ≡ insert w.tenants ns (stamp_tenant (Some t) t')
    rows = ap (map_rows (λ ns t. stamp_tenant (get w.tenants ns) t)) tenants
        ∙ map_rows-put names one_name (λ ns t. stamp_tenant (get w.tenants ns) t) w.tenants ns t' (stamped_same w)
        ∙ ap (λ o. insert w.tenants ns (stamp_tenant o t')) is

-- a step that changes nothing does nothing at its end
pub settle_same : (w : World) → settle w w ≡ w
unfolding stamp
settle_same w = releases_nothing w w (keeps_all w)
    ∙ (λ i. record w { tenants = map_rows_idle names one_name (λ ns t. stamp_tenant (get w.tenants ns) t) w.tenants (stamped_same w) i })
