-- What administrators ask keeps what is said of evaluations.
use Rattle.std.specs.Prelude.{◌≡◌, ℕ, Bool, true, false, cond, Option, Some, None, ◌&&◌, ◌||◌, is_some}
use Rattle.std.proofs.Common.{refl, sym, ap, subst, ◌∙◌}
use Rattle.std.specs.FinMap.{get, get-empty, get-remove, contains_key, remove}
use Rattle.std.specs.Option.{option_map_or}
use Rattle.std.specs.Ordering.{nat_cmp}
use Rattle.ns_types.specs.declared.evaluation.Evaluation.{Evaluation}
use Rattle.ns_types.specs.declared.job.Job.{Job}
use Rattle.ns_types.specs.declared.records.Namespace.{Namespace}
use Rattle.ns_types.specs.declared.step.AdminCommand.{AdminCommand}
use Rattle.ns_types.specs.Asking.Policies.{with_world, with_acl, administer}
use Rattle.ns_types.specs.Asking.Admins.{looks_to_pool, names_pool, new_tenant, with_namespace, put_namespace, delete_namespace, put_quota, delete_quota}
use Rattle.ns_types.specs.Asking.Admins.{read_quota, put_pool_record, delete_pool}
use Rattle.ns_types.specs.State.Names.{Name, name_cmp, same_name, same_key, has_key}
use Rattle.ns_types.specs.Settling.Outcome.{Outcome, lift}
use Rattle.ns_types.specs.State.Rows.{State, World, Acl, Tenant, is_open}
use Rattle.ns_types.specs.Validity.{IsSound}
use Rattle.ns_types.proofs.Lists.{left_none, right_none}
use Rattle.ns_types.proofs.Named.{names, one_name, one_number}
use Rattle.ns_types.proofs.Tables.{none_of_any}
use Rattle.ns_types.proofs.Tests.{not_Some}
use Rattle.ns_types.proofs.TableRows.{row_of_remove}
use Rattle.ns_types.proofs.Leads.{Leads, leads_unless, leads_found, leads_lift, leads_whole}
use Rattle.ns_audit.proofs.Alone.Orderly.{turned_name}
use Rattle.ns_audit.proofs.ValidEvaluations.Filed.{IsFiledEvaluation, IsFiledJob, IsFiledTenant, IsFiled, put_filed, put_pool_filed}
use Rattle.ns_audit.proofs.ValidEvaluations.Pairs.{Pairs}
use Rattle.ns_audit.proofs.ValidEvaluations.Settle.{index_in, pools_in, sound_filed}

-- a world to which a step may lead from a sound one, before it settles
abbrev pub IsFiledAfter : World → World → Type 0
IsFiledAfter w x = (pools : Name → Bool) × IsFiled pools (index_in w) x

pub new_tenant_filed : (pools : Name → Bool) (listed : ℕ → Bool) (namespace : Namespace) → IsFiledTenant pools 0 listed (new_tenant namespace)
new_tenant_filed pools listed namespace = (
  record {
    row = λ n e at. absurd (not_Some _ (sym (get-empty nat_cmp n) ∙ at));
    in_list = λ n e at _. absurd (not_Some _ (sym (get-empty nat_cmp n) ∙ at));
    one = λ m n d e at _ _ _ _. absurd (not_Some _ (sym (get-empty nat_cmp m) ∙ at));
  },
  (λ id j at. absurd (not_Some _ (sym (get-empty name_cmp id) ∙ at))),
  refl,
)

-- where nothing looks to a pool, jobs and open evaluations have others
module _ (pool : Name) (t : Tenant) (unlooked : looks_to_pool (same_name pool) t ≡ false) where
  evaluation_elsewhere : (n : ℕ) (e : Evaluation) → get t.evaluations n ≡ Some e → is_open e.status ≡ true → same_name pool e.pool ≡ false
  evaluation_elsewhere n e at open_ = ap (λ b. b && same_name pool e.pool) (sym open_) ∙
      none_of_any one_number (λ _ e. is_open e.status && same_name pool e.pool) t.evaluations n e (right_none _ _ (left_none _ _ unlooked)) at

  job_elsewhere : (id : Name) (j : Job) → get t.jobs id ≡ Some j → same_name pool j.document.pool ≡ false
  job_elsewhere id j at = none_of_any one_name (λ _ job. same_name pool job.document.pool) t.jobs id j (left_none _ _ (left_none _ _ unlooked)) at

module _ (w : World) (s : IsSound w) where
  abbrev Keeps : Outcome World → Type 0
  Keeps = Leads (IsFiledAfter w)

  filed : IsFiled (pools_in w) (index_in w) w
  filed = sound_filed w s

  -- ---- namespaces

  namespace_put : (name : Name) (namespace : Namespace) → Keeps (put_namespace name namespace w)
  unfolding put_namespace
  namespace_put name namespace = leads_unless _ _ _ _
      (λ _. leads_unless _ _ _ _ (λ _. leads_unless _ _ _ _ (λ _. leads_unless _ _ _ _ (λ _. leads_unless _ _ _ _ (λ _.
      (pools_in w, put_filed (pools_in w) (index_in w) name (with_namespace namespace (get w.tenants name)) w filed (by (get w.tenants name) refl)))))))
    where
      by : (o : Option Tenant) → get w.tenants name ≡ o → IsFiledTenant (pools_in w) (option_map_or (λ t. t.index) o 0) (λ n. has_key w.blocked (name, n))
          (with_namespace namespace o)
      by None is = new_tenant_filed (pools_in w) (λ n. has_key w.blocked (name, n)) namespace
      by (Some t) is = subst (λ i. IsFiledTenant (pools_in w) i (λ n. has_key w.blocked (name, n)) t) (ap (λ o. option_map_or (λ (t : Tenant). t.index) o 0) is)
          (filed.tenant name t is)

  namespace_deleted : (name : Name) → Keeps (delete_namespace name w)
  unfolding delete_namespace
  namespace_deleted name = leads_found _ (get w.tenants name) _ (λ t is. leads_unless _ _ _ _ (λ _. leads_unless _ _ _ _ (λ _.
      (pools_in w, record { known = filed.known; once = filed.once; tenant = λ k x at. filed.tenant k x (row_of_remove w.tenants name k x at) }))))

  -- ---- a pool that nothing names

  pool_deleted : (name : Name) → Keeps (delete_pool name w)
  unfolding delete_pool
  pool_deleted name = leads_found _ (get w.pools name) _ (λ p _. leads_unless _ _ _ _ (λ _. leads_unless _ _ _ _ (λ free. (
    left,
    record {
      known = λ k has. has;
      once = filed.once;
      tenant =
          λ ns t is. still ns t is (none_of_any one_name (λ _ t. names_pool name t.namespace || looks_to_pool (same_name name) t) w.tenants ns t
          (right_none _ _ free) is);
    },
  ))))
    where
      left : Name → Bool
      left k = contains_key (remove w.pools name) k

      stays : (k : Name) → contains_key w.pools k ≡ true → same_name name k ≡ false → left k ≡ true
      stays k has other = ap is_some (get-remove names w.pools name k) ∙ ap (λ b. is_some (cond b None (get w.pools k))) (turned_name name k other) ∙ has

      still : (ns : Name) (t : Tenant) → get w.tenants ns ≡ Some t → (names_pool name t.namespace || looks_to_pool (same_name name) t) ≡ false →
          IsFiledTenant left (index_in w ns) (λ n. has_key w.blocked (ns, n)) t
      still ns t is none = (record { row = row; in_list = r.0.in_list; one = r.0.one }, job, r.2)
        where
          r : IsFiledTenant (pools_in w) (index_in w ns) (λ n. has_key w.blocked (ns, n)) t
          r = filed.tenant ns t is

          unlooked : looks_to_pool (same_name name) t ≡ false
          unlooked = right_none (names_pool name t.namespace) _ none

          row : (n : ℕ) (e : Evaluation) → get t.evaluations n ≡ Some e → IsFiledEvaluation left t.evaluation_number (index_in w ns) e
          row n e at = let f = r.0.row n e at in record {
            named = f.named;
            priority = f.priority;
            previous = f.previous;
            follower = f.follower;
            given_back = f.given_back;
            few_nacks = f.few_nacks;
            created = f.created;
            modified = f.modified;
            exists = λ open_. stays e.pool (f.exists open_) (evaluation_elsewhere name t unlooked n e at open_);
          }

          job : (id : Name) (j : Job) → get t.jobs id ≡ Some j → IsFiledJob left j
          job id j at = let f = r.1 id j at in record {
            pool = f.pool;
            priority = f.priority;
            exists = stays j.document.pool f.exists (job_elsewhere name t unlooked id j at);
          }

-- ---- all that they ask

-- a change of the state leads to such a world
abbrev pub HoldsAfter : World → Outcome State → Type 0
HoldsAfter w = Leads (λ (x : State). IsFiledAfter w x.world)

module _ (s : State) (sound : IsSound s.world) where
  pub of_world : (c : Outcome World) → Leads (IsFiledAfter s.world) c → HoldsAfter s.world (lift (with_world s.acl) c)
  of_world = leads_lift (λ x. IsFiledAfter s.world x.world) (with_world s.acl) (IsFiledAfter s.world) (λ w h. h)

  pub of_same_pools : (c : Outcome World) → Leads (IsFiled (pools_in s.world) (index_in s.world)) c → HoldsAfter s.world (lift (with_world s.acl) c)
  of_same_pools = leads_lift (λ x. IsFiledAfter s.world x.world) (with_world s.acl) (IsFiled (pools_in s.world) (index_in s.world))
      (λ w h. (pools_in s.world, h))

  present : IsFiled (pools_in s.world) (index_in s.world) s.world
  present = sound_filed s.world sound

  same : IsFiledAfter s.world s.world
  same = (pools_in s.world, present)

  of_acl : (c : Outcome Acl) → HoldsAfter s.world (lift (with_acl s.world) c)
  of_acl = leads_whole (λ x. IsFiledAfter s.world x.world) (with_acl s.world) (λ acl. same)

  -- other quotas
  quotas_filed : (x : World) → x.tenants ≡ s.world.tenants → x.pools ≡ s.world.pools → x.blocked ≡ s.world.blocked → IsFiledAfter s.world x
  quotas_filed x tenants pools blocked = (
    pools_in s.world,
    record {
      known = λ name has. ap (λ m. contains_key m name) pools ∙ has;
      once = subst (Pairs (λ a b. same_key a b ≡ false)) (sym blocked) present.once;
      tenant = λ ns t is. subst (λ keys. IsFiledTenant (pools_in s.world) (index_in s.world ns) (λ n. has_key keys (ns, n)) t) (sym blocked)
          (present.tenant ns t (sym (ap (λ m. get m ns) tenants) ∙ is));
    },
  )

  pub administer_filed : (secret : Option Name) (command : AdminCommand) → HoldsAfter s.world (administer secret command s)
  unfolding administer put_quota delete_quota put_pool_record
  administer_filed secret AdminCommand.ListNamespaces = same
  administer_filed secret (AdminCommand.PutNamespace name namespace) = of_world _ (namespace_put s.world sound name namespace)
  administer_filed secret (AdminCommand.DeleteNamespace name) = of_world _ (namespace_deleted s.world sound name)
  administer_filed secret AdminCommand.ListQuotas = same
  administer_filed secret (AdminCommand.ReadQuota name) = of_world (read_quota name s.world) (leads_found _ (get s.world.quotas name) _ (λ q _. same))
  administer_filed secret (AdminCommand.PutQuota name quota) =
      of_world (put_quota name quota s.world) (leads_unless _ _ _ _ (λ _. quotas_filed _ refl refl refl))
  administer_filed secret (AdminCommand.DeleteQuota name) =
      of_world (delete_quota name s.world) (leads_found _ (get s.world.quotas name) _ (λ q _. leads_unless _ _ _ _ (λ _. quotas_filed _ refl refl refl)))
  administer_filed secret AdminCommand.ListPools = same
  administer_filed secret (AdminCommand.PutPool name pool) =
      of_world (put_pool_record name pool s.world)
      (leads_unless _ _ _ _ (λ _. (pools_in s.world, put_pool_filed (pools_in s.world) (index_in s.world) name _ s.world present)))
  administer_filed secret (AdminCommand.DeletePool name) = of_world _ (pool_deleted s.world sound name)
  administer_filed secret (AdminCommand.ReadPolicy name) = of_acl _
  administer_filed secret (AdminCommand.PutPolicy name policy) = of_acl _
  administer_filed secret (AdminCommand.DeletePolicy name) = of_acl _
  administer_filed secret (AdminCommand.CreateToken new) = of_acl _
  administer_filed secret (AdminCommand.DeleteToken accessor) = of_acl _
