-- No step but a put of a namespace takes away that a namespace is apart, and who intrudes is said by what records permit.
use Rattle.std.specs.Prelude.{◌≡◌, ℕ, Bool, true, false, cond, not, List, [], ◌∷◌, Option, Some, None, ◌&&◌, ◌||◌, Ok, Err, is_none, option_map}
use Rattle.std.proofs.Common.{refl, sym, ap, subst, ◌∙◌}
use Rattle.std.specs.FinMap.{get, get-remove, remove}
use Rattle.std.specs.List.{list_any}
use Rattle.std.specs.Option.{option_map_or}
use Rattle.ns_types.specs.declared.allocation.Allocation.{Allocation}
use Rattle.ns_types.specs.declared.evaluation.Evaluation.{Evaluation}
use Rattle.ns_types.specs.declared.name.NameKind.TheVariants as NameKind
use Rattle.ns_types.specs.declared.records.Namespace.{Namespace}
use Rattle.ns_types.specs.declared.refusal.Refusal.TheVariants as Refusal
use Rattle.ns_types.specs.declared.snapshot.Snapshot.{Snapshot}
use Rattle.ns_types.specs.declared.step.AdminCommand.{AdminCommand}
use Rattle.ns_types.specs.declared.step.Step.{Step}
use Rattle.ns_types.specs.Access.Sharing.{permits_by, permits, is_confined, namespace_at, intrudes, is_apart, names_within, stays_within, strays_from}
use Rattle.ns_types.specs.Asking.Admins.{delete_namespace, put_quota, delete_quota, read_quota, put_pool_record, delete_pool}
use Rattle.ns_types.specs.Asking.Policies.{administer, with_world, with_acl}
use Rattle.ns_types.specs.Isolation.{part_of}
use Rattle.ns_types.specs.Settling.Outcome.{Outcome, NotEnabled, Refused, Done, lift}
use Rattle.ns_types.specs.Settling.Settle.{settle}
use Rattle.ns_types.specs.State.Limits.{is_pool_list, is_pool_name, is_text}
use Rattle.ns_types.specs.State.Lists.{is_empty}
use Rattle.ns_types.specs.State.Name.{is_name}
use Rattle.ns_types.specs.State.Names.{Name, same_name, has_name}
use Rattle.ns_types.specs.State.Rows.{Acl, State, World, Tenant, is_open, is_held, is_live}
use Rattle.ns_types.specs.State.Tables.{any_row}
use Rattle.ns_types.specs.Steps.{Answer, said, act, after, is_allowed, concluded, reply_of, is_past_bound}
use Rattle.ns_types.specs.Working.Worker.{Worker}
use Rattle.ns_types.proofs.Leads.{Leads, leads_unless, leads_found, leads_lift, leads_whole}
use Rattle.ns_types.proofs.Lists.{not_both}
use Rattle.ns_types.proofs.Named.{names, one_name, numbers, one_number, same_name_is, same_name_refl, second_of_both}
use Rattle.ns_types.proofs.Tables.{any_row-none}
use Rattle.ns_types.proofs.Tests.{not_Some, same_Some}
use Rattle.ns_audit.specs.Laws.{is_admin}
use Rattle.ns_audit.specs.Orderly.{IsOrderlyTenant, IsSteady}
use Rattle.ns_audit.proofs.Alone.Records.{plain_keeps}
use Rattle.ns_audit.proofs.Alone.Recording.{namespace_settled}
use Rattle.ns_audit.proofs.Alone.Running.{steady_step, struck_steady_run}
use Rattle.ns_audit.proofs.Held.Rows.{Holds}
use Rattle.ns_audit.proofs.Held.Steps.{after_holds}
use Rattle.ns_audit.specs.Parted.{DefaultIsPermitted, IntrudesByPermits}
use Rattle.ns_audit.specs.Staying.{puts_namespace, ApartStep, StaysApart, StruckFromApart}
use Rattle.ns_audit.proofs.Alone.Bordering.{among, at_home, confined, confined_names, foreign, its_pool, within}

-- ---- records after a step

-- each record was there before
abbrev IsOld : State → State → Type 0
IsOld s x = (k : Name) (namespace : Namespace) → namespace_at x.world k ≡ Some namespace → namespace_at s.world k ≡ Some namespace

module _ (s : State) where
  still : IsOld s s
  still k namespace is = is

  of_world : (o : Outcome World) → Leads (λ w. IsOld s (with_world s.acl w)) o → Leads (IsOld s) (lift (with_world s.acl) o)
  of_world o h = leads_lift (IsOld s) (with_world s.acl) (λ w. IsOld s (with_world s.acl w)) (λ w h. h) o h

  of_acl : (o : Outcome Acl) → Leads (IsOld s) (lift (with_acl s.world) o)
  of_acl o = leads_whole (IsOld s) (with_acl s.world) (λ acl. still) o

  abbrev OldIn : World → Type 0
  OldIn w = IsOld s (with_world s.acl w)

  namespace_deleted : (name : Name) → Leads OldIn (delete_namespace name s.world)
  unfolding delete_namespace
  namespace_deleted name = leads_found OldIn (get s.world.tenants name) _ (λ t _. leads_unless OldIn _ _ _ (λ _. leads_unless OldIn _ _ _ (λ _. gone)))
    where
      gone : OldIn (record s.world { tenants = remove s.world.tenants name })
      gone k namespace is = by (same_name k name) (sym (ap (option_map (λ (t : Tenant). t.namespace)) (get-remove names s.world.tenants name k)) ∙ is)
        where
          by : (b : Bool) → option_map (λ (t : Tenant). t.namespace) (cond b None (get s.world.tenants k)) ≡ Some namespace →
              namespace_at s.world k ≡ Some namespace
          by true is = absurd (not_Some _ is)
          by false is = is

  administered : (secret : Option Name) (command : AdminCommand) →
      puts_namespace (Step.Admin secret command) ≡ false → Leads (IsOld s) (administer secret command s)
  unfolding administer put_quota delete_quota put_pool_record delete_pool
  administered secret AdminCommand.ListNamespaces other = still
  administered secret (AdminCommand.PutNamespace name namespace) other = not_both refl other
  administered secret (AdminCommand.DeleteNamespace name) other = of_world _ (namespace_deleted name)
  administered secret AdminCommand.ListQuotas other = still
  administered secret (AdminCommand.ReadQuota name) other = of_world (read_quota name s.world) (leads_found OldIn (get s.world.quotas name) _ (λ q _. still))
  administered secret (AdminCommand.PutQuota name quota) other = of_world (put_quota name quota s.world) (leads_unless OldIn _ _ _ (λ _. still))
  administered secret (AdminCommand.DeleteQuota name) other = of_world (delete_quota name s.world)
      (leads_found OldIn (get s.world.quotas name) _ (λ q _. leads_unless OldIn _ _ _ (λ _. still)))
  administered secret AdminCommand.ListPools other = still
  administered secret (AdminCommand.PutPool name pool) other = of_world (put_pool_record name pool s.world) (leads_unless OldIn _ _ _ (λ _. still))
  administered secret (AdminCommand.DeletePool name) other = of_world (delete_pool name s.world)
      (leads_found OldIn (get s.world.pools name) _ (λ p _. leads_unless OldIn _ _ _ (λ _. leads_unless OldIn _ _ _ (λ _. still))))
  administered secret (AdminCommand.ReadPolicy name) other = of_acl _
  administered secret (AdminCommand.PutPolicy name policy) other = of_acl _
  administered secret (AdminCommand.DeletePolicy name) other = of_acl _
  administered secret (AdminCommand.CreateToken new) other = of_acl _
  administered secret (AdminCommand.DeleteToken accessor) other = of_acl _

  module _ (s' : State) (secret : Option Name) (command : AdminCommand) (answer : Answer) where
    at_rest : s ≡ s' → IsOld s s'
    at_rest e = subst (IsOld s) e still

    concluded_old : (o : Outcome State) → Leads (IsOld s) o → concluded (Step.Admin secret command) s o ≡ said answer s' → IsOld s s'
    concluded_old NotEnabled h e = absurd (not_Some _ e)
    concluded_old (Refused refusal) h e = at_rest (ap (λ x. x.1) (same_Some _ _ e))
    concluded_old (Done content x) h e = by (is_past_bound (settle s.world x.world)) e
      where
        y : State
        y = record x { world = settle s.world x.world }

        by : (b : Bool) → cond b (said (Err Refusal.Full) s) (said (Ok (reply_of (Step.Admin secret command) content
            (settle s.world x.world))) y) ≡ said answer s' →
            IsOld s s'
        by true e = at_rest (ap (λ x. x.1) (same_Some _ _ e))
        by false e = subst (IsOld s) (ap (λ x. x.1) (same_Some _ _ e)) (λ k namespace is. h k namespace (sym (namespace_settled s.world x.world k) ∙ is))

    admin_old : puts_namespace (Step.Admin secret command) ≡ false → after (Step.Admin secret command) s ≡ said answer s' → IsOld s s'
    unfolding after act
    admin_old other e = by (is_allowed (Step.Admin secret command) s.acl) e
      where
        by : (b : Bool) → cond b (concluded (Step.Admin secret command) s (administer secret command s)) (said
            (Err Refusal.Denied) s) ≡ said answer s' → IsOld s s'
        by true e = concluded_old (administer secret command s) (administered secret command other) e
        by false e = at_rest (ap (λ x. x.1) (same_Some _ _ e))

  plain_old : (s' : State) (step : Step) (answer : Answer) → is_admin step ≡ false → after step s ≡ said answer s' → IsOld s s'
  plain_old s' step answer plain e k namespace is = sym (plain_keeps s s' step answer plain k e).0 ∙ is

old_records : (s s' : State) (step : Step) (answer : Answer) → puts_namespace step ≡ false → after step s ≡ said answer s' → IsOld s s'
old_records s s' (Step.Ask ns secret command) answer other e = plain_old s s' (Step.Ask ns secret command) answer refl e
old_records s s' (Step.Admin secret command) answer other e = admin_old s s' secret command answer other e
old_records s s' (Step.Node pool secret command) answer other e = plain_old s s' (Step.Node pool secret command) answer refl e
old_records s s' (Step.Dequeue worker ns n) answer other e = plain_old s s' (Step.Dequeue worker ns n) answer refl e
old_records s s' (Step.Snap worker ns) answer other e = plain_old s s' (Step.Snap worker ns) answer refl e
old_records s s' (Step.Submit worker ns) answer other e = plain_old s s' (Step.Submit worker ns) answer refl e
old_records s s' (Step.Apply worker ns) answer other e = plain_old s s' (Step.Apply worker ns) answer refl e
old_records s s' (Step.Finish worker ns) answer other e = plain_old s s' (Step.Finish worker ns) answer refl e
old_records s s' (Step.Nack worker ns) answer other e = plain_old s s' (Step.Nack worker ns) answer refl e

-- ---- a state whose records were there before

-- the row of a record
record Row (w : World) (k : Name) (namespace : Namespace) : Type 0 where
  tenant : Tenant
  is_row : get w.tenants k ≡ Some tenant
  same : tenant.namespace ≡ namespace

row_of : (w : World) (k : Name) (namespace : Namespace) → namespace_at w k ≡ Some namespace → Row w k namespace
row_of w k namespace is = by (get w.tenants k) refl is
  where
    by : (o : Option Tenant) → get w.tenants k ≡ o → option_map (λ (t : Tenant). t.namespace) o ≡ Some namespace → Row w k namespace
    by None at is = absurd (not_Some _ is)
    by (Some t) at is = record { tenant = t; is_row = at; same = same_Some _ _ is }

pub inside : (test home : Bool) → (test ≡ true → home ≡ true) → (test && not home) ≡ false
inside true home h = ap not (h refl)
inside false home h = refl

module _ (ns : Name) (pools quotas : List Name) (s s' : State) (steady : IsSteady s') (apart : is_apart s.world ns pools quotas ≡ true) (old : IsOld s s')
    (holds : Holds s.world s'.world) where
  record_of : (k : Name) (x : Tenant) → get s'.world.tenants k ≡ Some x → Row s.world k x.namespace
  record_of k x at = row_of s.world k x.namespace (old k x.namespace (ap (option_map (λ (t : Tenant). t.namespace)) at))

  no_other : any_row (λ name other. not (same_name name ns) && intrudes pools quotas other.namespace) s'.world.tenants ≡ false
  no_other = any_row-none names one_name _ s'.world.tenants (λ k x at. by k x at (same_name k ns) refl)
    where
      turned : (k : Name) → same_name k ns ≡ false → same_name ns k ≡ false
      turned k differs = other (same_name ns k) refl
        where
          other : (b : Bool) → same_name ns k ≡ b → b ≡ false
          other true same = not_both (ap (λ x. same_name x ns) (sym (same_name_is ns k same)) ∙ same_name_refl ns) differs
          other false _ = refl

      by : (k : Name) (x : Tenant) → get s'.world.tenants k ≡ Some x → (b : Bool) → same_name k ns ≡ b → (not b && intrudes pools quotas x.namespace) ≡ false
      by k x at true same = refl
      by k x at false differs = let r = record_of k x at in
          ap (intrudes pools quotas) (sym r.same) ∙ foreign s.world ns pools quotas apart k r.tenant r.is_row (turned k differs)

  module _ (x : Tenant) (at : get s'.world.tenants ns ≡ Some x) where
    was : Row s.world ns x.namespace
    was = record_of ns x at

    is_within : names_within (has_name pools) (has_name quotas) x.namespace ≡ true
    is_within = ap (names_within (has_name pools) (has_name quotas)) (sym was.same) ∙
        within s.world ns pools quotas apart ns was.tenant was.is_row (same_name_refl ns)

    is_confined_there : is_confined x.namespace ≡ true
    is_confined_there = ap is_confined (sym was.same) ∙ confined s.world ns pools quotas apart ns was.tenant was.is_row (same_name_refl ns)

    permitted_home : (pool : Name) → permits x.namespace pool ≡ true → has_name pools pool ≡ true
    permitted_home pool permitted = its_pool (part_of ns pools quotas) x.namespace is_within pool (confined_names x.namespace pool is_confined_there permitted)

    orderly : IsOrderlyTenant ns x
    orderly = steady.orderly.tenant ns x at

    held_home : (n : ℕ) (a : Allocation) → get x.allocations n ≡ Some a → is_held a.client ≡ true → has_name pools a.pool ≡ true
    held_home n a row held = by (is_live a) refl
      where
        by : (b : Bool) → is_live a ≡ b → has_name pools a.pool ≡ true
        by true live = permitted_home a.pool (orderly.allocation n a row live)
        by false dead = let q = holds ns x n a at row held dead in
            ap (has_name pools) (sym q.same) ∙ at_home s.world ns pools quotas apart ns q.tenant n q.row q.is_tenant q.is_row q.held (same_name_refl ns)

    kept_home : (n : ℕ) (worker : Worker) → get x.workers n ≡ Some worker →
        option_map_or (λ (kept : Snapshot). not (has_name pools kept.pool)) worker.kept false ≡ false
    kept_home n worker row = by worker.kept refl
      where
        by : (kept : Option Snapshot) → worker.kept ≡ kept → option_map_or (λ (kept : Snapshot). not (has_name pools kept.pool)) kept false ≡ false
        by None has = refl
        by (Some kept) has = ap not (permitted_home kept.pool (orderly.snapshot n worker kept row has).allowed.permitted)

    strays_none : strays_from pools x ≡ false
    strays_none = λ i.
        any_row-none numbers one_number (λ _ (e : Evaluation). is_open e.status && not (has_name pools e.pool)) x.evaluations
        (λ n e row. inside (is_open e.status) _ (λ open_. permitted_home e.pool (orderly.evaluation n e row open_).permitted)) i
        || any_row-none numbers one_number (λ _ (worker : Worker). option_map_or (λ (kept : Snapshot). not (has_name pools kept.pool)) worker.kept false)
        x.workers kept_home i
        || any_row-none numbers one_number (λ _ (a : Allocation). is_held a.client && not (has_name pools a.pool)) x.allocations
        (λ n a row. inside (is_held a.client) _ (held_home n a row)) i

    stays_there : stays_within pools quotas x ≡ true
    stays_there = λ i. is_confined_there i && is_within i && not (strays_none i)

  still_apart : is_apart s'.world ns pools quotas ≡ true
  unfolding is_apart
  still_apart = λ i. not (no_other i) && by (get s'.world.tenants ns) refl i
    where
      by : (o : Option Tenant) → get s'.world.tenants ns ≡ o → option_map_or (stays_within pools quotas) o true ≡ true
      by None at = refl
      by (Some x) at = stays_there x at

pub apart_step : ApartStep
apart_step ns pools quotas s s' step answer steady apart other e =
    still_apart ns pools quotas s s' (steady_step s s' step answer steady e) apart (old_records s s' step answer other e) (after_holds s step s' answer e)

-- ---- a run

pub stays_apart : StaysApart
stays_apart ns pools quotas s s1 [] [] steady apart run = (apart, run)
stays_apart ns pools quotas s s1 [] (answer ∷ answers) steady apart run = absurd run
stays_apart ns pools quotas s s1 (step ∷ steps) [] steady apart run = absurd run
stays_apart ns pools quotas s s1 (step ∷ steps) (answer ∷ answers) steady apart run = (
  run.0,
  apart,
  run.1,
  run.2,
  stays_apart ns pools quotas run.0 s1 steps answers (steady_step s run.0 step answer steady run.1) (by (puts_namespace step) refl) run.4,
)
  where
    by : (b : Bool) → puts_namespace step ≡ b → is_apart run.0.world ns pools quotas ≡ true
    by true put = run.3 put
    by false other = apart_step ns pools quotas s run.0 step answer steady apart other run.1

pub struck_from_apart : StruckFromApart
struck_from_apart ns pools quotas s0 s1 steps answers steady apart run =
    struck_steady_run ns pools quotas s0 s1 steps answers steady (stays_apart ns pools quotas s0 s1 steps answers steady apart run)

-- ---- a record within its limits

pub default_is_permitted : DefaultIsPermitted
default_is_permitted namespace good = by namespace.allowed
  where
    before : Bool
    before = is_text namespace.description && option_map_or (is_name NameKind.Quota) namespace.quota true && is_pool_name namespace.default_pool
        && option_map_or is_pool_list namespace.allowed true && is_pool_list namespace.denied && (is_none namespace.allowed || is_empty namespace.denied)

    by : (o : Option (List Name)) → permits_by o namespace namespace.default_pool ≡ true
    by None = second_of_both before _ good
    by (Some allowed) = ap (λ b. b || has_name allowed namespace.default_pool) (same_name_refl namespace.default_pool)

pub intrudes_by_permits : IntrudesByPermits
intrudes_by_permits pools quotas other good = ap (λ b. b || option_map_or (has_name quotas) other.quota false)
    (by (has_name pools other.default_pool) refl (list_any (permits other) pools) refl)
  where
    by : (d : Bool) → has_name pools other.default_pool ≡ d → (b : Bool) → list_any (permits other) pools ≡ b → (b || d) ≡ b
    by d is true some = refl
    by true is false none = not_both (default_is_permitted other good) (among (permits other) other.default_pool pools is none)
    by false is false none = refl
