-- What the tests of requests say of the rows, each in both directions.
use Rattle.std.specs.Prelude.{◌≡◌, ◌≢◌, ◌≤◌, ◌<◌, ℕ, Bool, true, false, not, ◌&&◌, ◌||◌, Decides, List, [], ◌∷◌, Option, Some, None, is_some, nat_le}
use Rattle.std.proofs.Common.{◌⊎◌, inl, inr, refl, sym, ap, ◌∙◌, Ordering}
use Rattle.std.proofs.lemmas.Bool.{false_from_ne_true, leb-true, le-leb, leb-false, lt-leb, not_from_false, or_left, or_right}
use Rattle.std.proofs.lemmas.Bool.Decides.{Decides-and, Decides-like, Decides-not, Decides-or}
use Rattle.std.specs.Cmp.{IsTotalOrder}
use Rattle.std.specs.FinMap.{FinMap, IsAntisymmetric, get, len, contains_key, entries}
use Rattle.std.specs.List.{list_any, list_all}
use Rattle.std.specs.Option.{option_map_or, option_eq}
use Rattle.ns_types.specs.declared.allocation.Allocation.{Allocation}
use Rattle.ns_types.specs.declared.allocation.ClientStatus.{ClientStatus}
use Rattle.ns_types.specs.declared.evaluation.Evaluation.{Evaluation}
use Rattle.ns_types.specs.declared.job.Job.{Job}
use Rattle.ns_types.specs.declared.records.Namespace.{Namespace}
use Rattle.ns_types.specs.declared.resources.Resources.{Resources}
use Rattle.ns_types.specs.declared.snapshot.Snapshot.{Snapshot}
use Rattle.ns_types.specs.Access.Sharing.{permits}
use Rattle.ns_types.specs.Asking.Admins.{forbids_put, has_live, has_open, is_withdrawn, looks_to_pool, names_pool, same_quota, uses_pool}
use Rattle.ns_types.specs.Asking.Nodes.{may_become, same_client}
use Rattle.ns_types.specs.State.Lists.{Each}
use Rattle.ns_types.specs.State.Names.{Name, ByName, has_name, same_name}
use Rattle.ns_types.specs.State.Resources.{Resource, Cpu, Memory, Disk, is_within, quantity}
use Rattle.ns_types.specs.State.Rows.{Tenant, is_live, is_open, is_held}
use Rattle.ns_types.specs.State.Tables.{any_row}
use Rattle.ns_types.specs.Wire.Words.{client_text}
use Rattle.ns_types.specs.Working.Worker.{Worker}
use Rattle.ns_types.proofs.Alike.{option_eq_refl}
use Rattle.ns_types.proofs.Amounts.{true_at}
use Rattle.ns_types.proofs.Lists.{not_both}
use Rattle.ns_types.proofs.Named.{names, numbers, one_name, one_number, same_name_is, same_name_refl}
use Rattle.ns_types.proofs.TableRows.{some_row}
use Rattle.ns_types.proofs.Tables.{each_row}
use Rattle.ns_types.proofs.Tests.{is_no, not_Some, same_Some}
use Rattle.ns_audit.proofs.Alone.Bordering.{one_of_all}
use Rattle.ns_laws.specs.Reasons.{IsActive, NamesPool, UsesPool, NeedsOld, IsFullFor, IsNoSuccessor}

-- ---- names, rows, what may be absent

pub decides_itself : (b : Bool) → Decides b (b ≡ true)
decides_itself b = ((λ e. e), (λ e. e))

-- the second name is the first
pub decides_same : (a b : Name) → Decides (same_name a b) (b ≡ a)
decides_same a b = ((λ e. sym (same_name_is a b e)), (λ e. ap (same_name a) e ∙ same_name_refl a))

pub record Row {K X : Type 0} {R : K → K → Ordering} (P : K → X → Type 0) (m : FinMap R X) : Type 0 where
  pub key : K
  pub row : X
  pub is_row : get m key ≡ Some row
  pub holds : P key row

module _ {K X : Type 0} {R : K → K → Ordering} (o : IsTotalOrder R) (same : IsAntisymmetric R) (f : K → X → Bool) where
  module _ (P : K → X → Type 0) (each : (k : K) (x : X) → Decides (f k x) (P k x)) (m : FinMap R X) where
    among : (es : List (K × X)) → Each (λ e. get m e.0 ≡ Some e.1) es → list_any (λ e. f e.0 e.1) es ≡ true → Row P m
    among [] h e = not_both e refl
    among (x ∷ es) h e = by (among es h.1) (f x.0 x.1) refl e
      where
        by : (list_any (λ e. f e.0 e.1) es ≡ true → Row P m) → (b : Bool) → f x.0 x.1 ≡ b → (b || list_any (λ e. f e.0 e.1) es) ≡ true → Row P m
        by later true is e = record { key = x.0; row = x.1; is_row = h.0; holds = (each x.0 x.1).0 is }
        by later false is e = later e

    pub decides_rows : Decides (any_row f m) (Row P m)
    unfolding any_row
    decides_rows = (
      (λ e. among (entries m) (each_row o same (λ k x. get m k ≡ Some x) m (λ k x is. is)) e),
      (λ r. some_row o same f m r.key r.row r.is_row ((each r.key r.row).1 r.holds)),
    )

  -- some row passes the test
  pub decides_any : (m : FinMap R X) → Decides (any_row f m) (Row (λ k x. f k x ≡ true) m)
  decides_any m = decides_rows (λ k x. f k x ≡ true) (λ k x. decides_itself (f k x)) m

pub record Has {A : Type 0} (P : A → Type 0) (o : Option A) : Type 0 where
  pub thing : A
  pub is_thing : o ≡ Some thing
  pub holds : P thing

pub decides_option : {A : Type 0} (f : A → Bool) (P : A → Type 0) → ((x : A) → Decides (f x) (P x)) → (o : Option A) →
    Decides (option_map_or f o false) (Has P o)
decides_option f P each None = ((λ e. not_both e refl), (λ h. absurd (not_Some h.thing h.is_thing)))
decides_option f P each (Some x) = (
  (λ e. record { thing = x; is_thing = refl; holds = (each x).0 e }),
  (λ h. ap f (same_Some x h.thing h.is_thing) ∙ (each h.thing).1 h.holds),
)

pub decides_absent : {A : Type 0} (o : Option A) → Decides (not (is_some o)) (o ≡ None)
decides_absent None = ((λ _. refl), (λ _. refl))
decides_absent (Some x) = ((λ e. not_both e refl), (λ e. absurd (not_Some x (sym e))))

pub decides_full : {X : Type 0} (table : ByName X) (name : Name) (most : ℕ) →
    Decides (not (contains_key table name) && nat_le most (len table)) (IsFullFor table name most)
decides_full table name most = ((λ e. let is = both.0 e in record { is_new = is.0; has_most = is.1 }), (λ r. both.1 (r.is_new, r.has_most)))
  where
    both : Decides (not (contains_key table name) && nat_le most (len table)) ((get table name ≡ None) × (most ≤ len table))
    both = Decides-and (not (contains_key table name)) (nat_le most (len table)) (decides_absent (get table name))
        (leb-true most (len table), le-leb most (len table))

-- a name in a list that a test does not pass
pub record Outside (f : Name → Bool) (xs : List Name) : Type 0 where
  pub name : Name
  pub listed : has_name xs name ≡ true
  pub fails : f name ≡ false

one_outside : (f : Name → Bool) (xs : List Name) → list_all f xs ≡ false → Outside f xs
one_outside f [] e = not_both refl e
one_outside f (x ∷ xs) e = by (one_outside f xs) (f x) refl e
  where
    by : (list_all f xs ≡ false → Outside f xs) → (b : Bool) → f x ≡ b → (b && list_all f xs) ≡ false → Outside f (x ∷ xs)
    by later true is e = let r = later e in record { name = r.name; listed = or_right (same_name r.name x) (has_name xs r.name) r.listed; fails = r.fails }
    by later false is e = record { name = x; listed = or_left (same_name x x) (has_name xs x) (same_name_refl x); fails = is }

pub decides_outside : (f : Name → Bool) (xs : List Name) → Decides (not (list_all f xs)) (Outside f xs)
decides_outside f xs = (
  (λ e. one_outside f xs (is_no (list_all f xs) e)),
  (λ r. not_from_false (list_all f xs) (false_from_ne_true (list_all f xs) (λ all. not_both (one_of_all f r.name xs all r.listed) r.fails))),
)

-- ---- what a namespace uses

abbrev OpenRow : Tenant → Type 0
OpenRow t = Row (λ n (e : Evaluation). is_open e.status ≡ true) t.evaluations

abbrev LiveRow : Tenant → Type 0
LiveRow t = Row (λ n (a : Allocation). is_live a ≡ true) t.allocations

pub decides_active : (t : Tenant) → Decides (has_open t || has_live t) (IsActive t)
decides_active t = Decides-like (has_open t || has_live t) active rows (Decides-or (has_open t) (has_live t)
    (decides_any numbers one_number (λ _ (e : Evaluation). is_open e.status) t.evaluations)
    (decides_any numbers one_number (λ _ (a : Allocation). is_live a) t.allocations))
  where
    active : OpenRow t ⊎ LiveRow t → IsActive t
    active (inl r) = IsActive.open_evaluation r.key r.row r.is_row r.holds
    active (inr r) = IsActive.live_allocation r.key r.row r.is_row r.holds

    rows : IsActive t → OpenRow t ⊎ LiveRow t
    rows (IsActive.open_evaluation n e at is) = inl (record { key = n; row = e; is_row = at; holds = is })
    rows (IsActive.live_allocation n a at is) = inr (record { key = n; row = a; is_row = at; holds = is })

-- a pool that passes, and of which P holds
pub record Passing (passes : Name → Bool) (P : Name → Type 0) : Type 0 where
  pub pool : Name
  pub passing : passes pool ≡ true
  pub holds : P pool

module _ (passes : Name → Bool) (t : Tenant) where
  abbrev jobs_pass : Bool
  jobs_pass = any_row (λ _ (job : Job). passes job.document.pool) t.jobs

  abbrev evaluations_pass : Bool
  evaluations_pass = any_row (λ _ (e : Evaluation). is_open e.status && passes e.pool) t.evaluations

  abbrev workers_pass : Bool
  workers_pass = any_row (λ _ (worker : Worker). option_map_or (λ kept. passes kept.pool) worker.kept false) t.workers

  abbrev allocations_pass : Bool
  allocations_pass = any_row (λ _ (a : Allocation). is_live a && passes a.pool) t.allocations

  abbrev JobRow : Type 0
  JobRow = Row (λ id (job : Job). passes job.document.pool ≡ true) t.jobs

  abbrev EvaluationRow : Type 0
  EvaluationRow = Row (λ n (e : Evaluation). (is_open e.status ≡ true) × (passes e.pool ≡ true)) t.evaluations

  abbrev Keeps : ℕ → Worker → Type 0
  Keeps number worker = Has (λ (kept : Snapshot). passes kept.pool ≡ true) worker.kept

  abbrev AllocationRow : Type 0
  AllocationRow = Row (λ n (a : Allocation). (is_live a ≡ true) × (passes a.pool ≡ true)) t.allocations

  evaluation_rows : Decides evaluations_pass EvaluationRow
  evaluation_rows = decides_rows numbers one_number (λ _ (e : Evaluation). is_open e.status && passes e.pool)
      (λ n e. (is_open e.status ≡ true) × (passes e.pool ≡ true))
      (λ n e. Decides-and (is_open e.status) (passes e.pool) (decides_itself (is_open e.status)) (decides_itself (passes e.pool))) t.evaluations

  worker_rows : Decides workers_pass (Row Keeps t.workers)
  worker_rows = decides_rows numbers one_number (λ _ (worker : Worker). option_map_or (λ kept. passes kept.pool) worker.kept false) Keeps (λ number worker.
      decides_option (λ kept. passes kept.pool) (λ kept. passes kept.pool ≡ true) (λ kept. decides_itself (passes kept.pool)) worker.kept) t.workers

  allocation_rows : Decides allocations_pass AllocationRow
  allocation_rows = decides_rows numbers one_number (λ _ (a : Allocation). is_live a && passes a.pool) (λ n a. (is_live a ≡ true) × (passes a.pool ≡ true))
      (λ n a. Decides-and (is_live a) (passes a.pool) (decides_itself (is_live a)) (decides_itself (passes a.pool))) t.allocations

  at_pool : {pool other : Name} → other ≡ pool → passes pool ≡ true → passes other ≡ true
  at_pool e is = ap passes e ∙ is

  pub decides_names : Decides (looks_to_pool passes t) (Passing passes (NamesPool t))
  decides_names = Decides-like (looks_to_pool passes t) passing (λ p. rows p.pool p.passing p.holds)
      (Decides-or (jobs_pass || evaluations_pass) workers_pass (Decides-or jobs_pass evaluations_pass
      (decides_any names one_name (λ _ (job : Job). passes job.document.pool) t.jobs) evaluation_rows) worker_rows)
    where
      passing : (JobRow ⊎ EvaluationRow) ⊎ Row Keeps t.workers → Passing passes (NamesPool t)
      passing (inl (inl r)) = record { pool = r.row.document.pool; passing = r.holds; holds = NamesPool.a_job r.key r.row r.is_row refl }
      passing (inl (inr r)) =
          record { pool = r.row.pool; passing = r.holds.1; holds = NamesPool.open_evaluation r.key r.row r.is_row r.holds.0 refl }
      passing (inr r) = record {
        pool = r.holds.thing.pool;
        passing = r.holds.holds;
        holds = NamesPool.a_snapshot r.key r.row r.holds.thing r.is_row r.holds.is_thing refl;
      }

      rows : (pool : Name) → passes pool ≡ true → NamesPool t pool → (JobRow ⊎ EvaluationRow) ⊎ Row Keeps t.workers
      rows pool is (NamesPool.a_job id job at same) = inl (inl (record { key = id; row = job; is_row = at; holds = at_pool same is }))
      rows pool is (NamesPool.open_evaluation n e at opens same) =
          inl (inr (record { key = n; row = e; is_row = at; holds = (opens, at_pool same is) }))
      rows pool is (NamesPool.a_snapshot number worker kept at has same) =
          inr (record { key = number; row = worker; is_row = at; holds = record { thing = kept; is_thing = has; holds = at_pool same is } })

  pub decides_uses : Decides (uses_pool passes t) (Passing passes (UsesPool t))
  decides_uses = Decides-like (uses_pool passes t) passing (λ p. rows p.pool p.passing p.holds)
      (Decides-or (looks_to_pool passes t) allocations_pass decides_names allocation_rows)
    where
      passing : Passing passes (NamesPool t) ⊎ AllocationRow → Passing passes (UsesPool t)
      passing (inl p) = record { pool = p.pool; passing = p.passing; holds = UsesPool.names p.holds }
      passing (inr r) = record { pool = r.row.pool; passing = r.holds.1; holds = UsesPool.live_allocation r.key r.row r.is_row r.holds.0 refl }

      rows : (pool : Name) → passes pool ≡ true → UsesPool t pool → Passing passes (NamesPool t) ⊎ AllocationRow
      rows pool is (UsesPool.names named) = inl (record { pool = pool; passing = is; holds = named })
      rows pool is (UsesPool.live_allocation n a at live same) = inr (record { key = n; row = a; is_row = at; holds = (live, at_pool same is) })

-- ---- a namespace that is put

pub same_options : {X : Type 0} (same : X → X → Bool) → ((a b : X) → same a b ≡ true → a ≡ b) → (a b : Option X) → option_eq same a b ≡ true → a ≡ b
same_options same is None None e = refl
same_options same is None (Some b) e = not_both e refl
same_options same is (Some a) None e = not_both e refl
same_options same is (Some a) (Some b) e = ap Some (is a b e)

decides_same_quota : (a b : Namespace) → Decides (same_quota a b) (a.quota ≡ b.quota)
decides_same_quota a b = (
  same_options same_name same_name_is a.quota b.quota,
  (λ same. ap (option_eq same_name a.quota) (sym same) ∙ option_eq_refl same_name same_name_refl a.quota),
)

module _ (namespace : Namespace) (t : Tenant) where
  abbrev withdrawn : Name → Bool
  withdrawn = is_withdrawn t.namespace namespace

  abbrev other : Bool
  other = not (same_quota t.namespace namespace)

  abbrev active : Bool
  active = has_open t || has_live t

  pub decides_needs : Decides (forbids_put namespace t) (NeedsOld namespace t)
  decides_needs = Decides-like (forbids_put namespace t) needs parts (Decides-or (uses_pool withdrawn t) (other && active) (decides_uses withdrawn t)
      (Decides-and other active (Decides-not (same_quota t.namespace namespace) (decides_same_quota t.namespace namespace)) (decides_active t)))
    where
      is_withdrawn_pool : (pool : Name) → Decides (withdrawn pool) ((permits t.namespace pool ≡ true) × (permits namespace pool ≡ false))
      is_withdrawn_pool pool = Decides-and (permits t.namespace pool) (not (permits namespace pool)) (decides_itself (permits t.namespace pool))
          (is_no (permits namespace pool), not_from_false (permits namespace pool))

      needs : Passing withdrawn (UsesPool t) ⊎ ((t.namespace.quota ≢ namespace.quota) × IsActive t) → NeedsOld namespace t
      needs (inl p) = let is = (is_withdrawn_pool p.pool).0 p.passing in NeedsOld.pool p.pool is.0 is.1 p.holds
      needs (inr (differs, is_active)) = NeedsOld.quota differs is_active

      parts : NeedsOld namespace t → Passing withdrawn (UsesPool t) ⊎ ((t.namespace.quota ≢ namespace.quota) × IsActive t)
      parts (NeedsOld.pool pool old new uses) = inl (record { pool = pool; passing = (is_withdrawn_pool pool).1 (old, new); holds = uses })
      parts (NeedsOld.quota differs is_active) = inr (differs, is_active)

-- ---- a pool

module _ (pool : Name) (namespace : Namespace) where
  abbrev Lists : Type 0
  Lists = Has (λ (allowed : List Name). has_name allowed pool ≡ true) namespace.allowed

  pub decides_named : Decides (names_pool pool namespace) ((namespace.default_pool ≡ pool) ⊎ Lists)
  decides_named =
      Decides-or (same_name pool namespace.default_pool) (option_map_or (λ allowed. has_name allowed pool) namespace.allowed false)
      (decides_same pool namespace.default_pool) (decides_option (λ allowed. has_name allowed pool) (λ allowed. has_name allowed pool ≡ true)
      (λ allowed. decides_itself (has_name allowed pool)) namespace.allowed)

-- ---- resources, and statuses

-- a resource of which one amount has more than the other
pub record Exceeds (used capacity : Resources) : Type 0 where
  pub resource : Resource
  pub more : quantity resource capacity < quantity resource used

pub decides_exceeds : (used capacity : Resources) → Decides (not (is_within used capacity)) (Exceeds used capacity)
decides_exceeds used capacity = (
  (λ e. search_in (test Cpu) refl (test Memory) refl (is_no (is_within used capacity) e)),
  (λ x. not_from_false (is_within used capacity) (false_from_ne_true (is_within used capacity) (λ all.
      not_both (true_at test all x.resource) (lt-leb (quantity x.resource used) (quantity x.resource capacity) x.more)))),
)
  where
    test : Resource → Bool
    test r = nat_le (quantity r used) (quantity r capacity)

    at : (r : Resource) → test r ≡ false → Exceeds used capacity
    at r e = record { resource = r; more = leb-false (quantity r used) (quantity r capacity) e }

    search_in : (a : Bool) → test Cpu ≡ a → (b : Bool) → test Memory ≡ b → (a && b && test Disk) ≡ false → Exceeds used capacity
    search_in false e b f none = at Cpu e
    search_in true e false f none = at Memory f
    search_in true e true f none = at Disk none

pub same_client_is : (old new : ClientStatus) → old ≢ new → same_client old new ≡ false
same_client_is ClientStatus.Pending ClientStatus.Pending h = absurd (h refl)
same_client_is ClientStatus.Running ClientStatus.Running h = absurd (h refl)
same_client_is ClientStatus.Complete ClientStatus.Complete h = absurd (h refl)
same_client_is ClientStatus.Failed ClientStatus.Failed h = absurd (h refl)
same_client_is ClientStatus.Lost ClientStatus.Lost h = absurd (h refl)
same_client_is _ _ h = refl

pub no_successor : (old new : ClientStatus) → same_client old new ≡ false → may_become old new ≡ false → IsNoSuccessor old new
no_successor old new other e = record { differs = differs; why = by old new differs e }
  where
    differs : old ≢ new
    differs is = not_both (ap (same_client old) (sym is) ∙ same_name_refl (client_text old)) other

    by : (old new : ClientStatus) → old ≢ new → may_become old new ≡ false → (is_held old ≡ false) ⊎ ((new ≡ ClientStatus.Pending) ⊎ (new ≡ ClientStatus.Lost))
    by old ClientStatus.Pending h e = inr (inl refl)
    by old ClientStatus.Lost h e = inr (inr refl)
    by ClientStatus.Complete new h e = inl refl
    by ClientStatus.Failed new h e = inl refl
    by ClientStatus.Lost new h e = inl refl
    by ClientStatus.Running ClientStatus.Running h e = absurd (h refl)
    by ClientStatus.Running ClientStatus.Complete h e = not_both refl e
    by ClientStatus.Running ClientStatus.Failed h e = not_both refl e
    by ClientStatus.Pending ClientStatus.Running h e = not_both refl e
    by ClientStatus.Pending ClientStatus.Complete h e = not_both refl e
    by ClientStatus.Pending ClientStatus.Failed h e = not_both refl e

pub may_not_become : (old new : ClientStatus) → (is_held old ≡ false) ⊎ ((new ≡ ClientStatus.Pending) ⊎ (new ≡ ClientStatus.Lost)) → may_become old new ≡ false
may_not_become old new (inl e) = by old e
  where
    by : (old : ClientStatus) → is_held old ≡ false → may_become old new ≡ false
    by ClientStatus.Pending e = not_both refl e
    by ClientStatus.Running e = not_both refl e
    by ClientStatus.Complete e = refl
    by ClientStatus.Failed e = refl
    by ClientStatus.Lost e = refl
may_not_become old new (inr e) = by e
  where
    never : (old : ClientStatus) → (may_become old ClientStatus.Pending ≡ false) × (may_become old ClientStatus.Lost ≡ false)
    never ClientStatus.Pending = (refl, refl)
    never ClientStatus.Running = (refl, refl)
    never ClientStatus.Complete = (refl, refl)
    never ClientStatus.Failed = (refl, refl)
    never ClientStatus.Lost = (refl, refl)

    by : (new ≡ ClientStatus.Pending) ⊎ (new ≡ ClientStatus.Lost) → may_become old new ≡ false
    by (inl e) = ap (may_become old) e ∙ (never old).0
    by (inr e) = ap (may_become old) e ∙ (never old).1
