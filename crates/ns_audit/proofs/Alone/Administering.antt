-- What administrators ask of the chosen owners goes alike among them, and what they ask of others leaves them.
use Rattle.std.specs.Prelude.{◌≡◌, ℕ, ◌≤◌, Bool, true, false, cond, not, List, [], ◌∷◌, Option, Some, None, ◌&&◌, ◌||◌, length, nat_le, is_some}
use Rattle.std.proofs.Common.{refl, sym, ap, subst, ◌∙◌, arith}
use Rattle.std.proofs.lemmas.Bool.{le-leb, leb-true}
use Rattle.std.specs.FinMap.{contains_key, entries, get, insert, len, len-entries, remove, retain_keys}
use Rattle.std.specs.List.{list_all}
use Rattle.std.specs.Option.{option_map_or}
use Rattle.ns_types.specs.declared.evaluation.Evaluation.{Evaluation}
use Rattle.ns_types.specs.declared.job.Job.{Job}
use Rattle.ns_types.specs.declared.records.Namespace.{Namespace}
use Rattle.ns_types.specs.declared.records.Pool.{Pool}
use Rattle.ns_types.specs.declared.records.Quota.{Quota}
use Rattle.ns_types.specs.declared.refusal.Refusal.{Refusal}
use Rattle.ns_types.specs.declared.reply.Content.TheVariants as Content
use Rattle.ns_types.specs.declared.snapshot.Snapshot.{Snapshot}
use Rattle.ns_types.specs.Asking.Admins.{most_rows, is_full, looks_to_pool, with_namespace, forbids_put, lacks_quota, lacks_pool, lacks_allowed}
use Rattle.ns_types.specs.Asking.Admins.{put_namespace, delete_namespace, with_quota, put_quota, delete_quota, read_quota, with_pool, put_pool_record}
use Rattle.ns_types.specs.Asking.Admins.{names_pool, is_pool_in_use, delete_pool, has_open, has_live}
use Rattle.ns_types.specs.Isolation.{Part, alone_in}
use Rattle.ns_types.specs.Settling.Making.{put_tenant, put_pool}
use Rattle.ns_types.specs.Settling.Outcome.{Outcome, Refused, Done, unless, found}
use Rattle.ns_types.specs.State.Names.{Name, ByName, same_name, default_name}
use Rattle.ns_types.specs.State.Rows.{World, Tenant, QuotaRows, is_open}
use Rattle.ns_types.specs.State.Sums.{names_quota}
use Rattle.ns_types.specs.State.Tables.{any_row}
use Rattle.ns_types.specs.Working.Worker.{Worker}
use Rattle.ns_types.proofs.Elements.{filter_shorter}
use Rattle.ns_types.proofs.Lists.{not_both}
use Rattle.ns_types.proofs.Named.{names, one_name, numbers, one_number, same_name_is, first_of_both, second_of_both}
use Rattle.ns_types.proofs.Tables.{any_row-none, any_row-retain, entries-retain, get-retain, retain-insert}
use Rattle.ns_audit.specs.Apart.{IsApart, IsKeptWith, Leaves, Follows}
use Rattle.ns_audit.proofs.Alone.Chosen.{GoesAlone, goes_pool, goes_put, pool_alone, quota_alone, retain-remove, tenant_alone}
use Rattle.ns_audit.proofs.Alone.Going.{goes_by, goes_found, goes_read, goes_unless}
use Rattle.ns_types.specs.Access.Sharing.{names_within}
use Rattle.ns_audit.proofs.Alone.Bordering.{its_quota}

-- ---- tables

-- a part of a table has room where the table has
room_kept : {X : Type 0} (m : ByName X) (p : Name → Bool) (name : Name) → p name ≡ true → is_full m name ≡ false → is_full (retain_keys m p) name ≡ false
room_kept {X = X} m p name own room = ap (λ o. not (is_some o) && nat_le most_rows (len (retain_keys m p))) same ∙ by (is_some (get m name)) room
  where
    same : get (retain_keys m p) name ≡ get m name
    same = get-retain names one_name m p name ∙ ap (λ b. cond b (get m name) None) own

    fewer : len (retain_keys m p) ≤ len m
    fewer = subst (λ n. len (retain_keys m p) ≤ n) (sym (len-entries m))
        (subst (λ n. n ≤ length (entries m)) (sym (len-entries (retain_keys m p) ∙ ap length (entries-retain names one_name m p)))
        (filter_shorter (λ e. p e.0) (entries m)))

    few : (b c : Bool) → nat_le most_rows (len m) ≡ b → b ≡ false → nat_le most_rows (len (retain_keys m p)) ≡ c → c ≡ false
    few b true is none all = not_both (le-leb most_rows (len m) (let h = leb-true most_rows (len (retain_keys m p)) all in omega (arith, fewer, h))) (is ∙ none)
    few b false is none all = refl

    by : (b : Bool) → (not b && nat_le most_rows (len m)) ≡ false → (not b && nat_le most_rows (len (retain_keys m p))) ≡ false
    by true e = refl
    by false e = few (nat_le most_rows (len m)) (nat_le most_rows (len (retain_keys m p))) refl e refl

all_alike : (p f g : Name → Bool) → ((k : Name) → p k ≡ true → f k ≡ g k) → (xs : List Name) → list_all p xs ≡ true → list_all f xs ≡ list_all g xs
all_alike p f g h [] all = refl
all_alike p f g h (x ∷ xs) all = λ i. h x (first_of_both (p x) _ all) i && all_alike p f g h xs (second_of_both (p x) _ all) i

-- ---- changes of a table

module _ (part : Part) (b : Bool) (name : Name) where
  goes_quota : (q : QuotaRows) → part.quotas name ≡ b → GoesAlone part b (λ w. record w { quotas = insert w.quotas name q })
  goes_quota q side w = (λ i. record (alone_in part w) {
    quotas = (retain-insert names one_name w.quotas part.quotas name q ∙
        ap (λ b. cond b (insert (alone_in part w).quotas name q) (alone_in part w).quotas) side) i;
  })
      ∙ elim b as (λ b. ◌≡◌ {A = World} (record (alone_in part w) { quotas = cond b (insert (alone_in part w).quotas name q) (alone_in part w).quotas })
      (cond b (record (alone_in part w) { quotas = insert (alone_in part w).quotas name q }) (alone_in part w))) [ true ↦ refl | false ↦ refl ]

  goes_no_quota : part.quotas name ≡ b → GoesAlone part b (λ w. record w { quotas = remove w.quotas name })
  goes_no_quota side w = (λ i. record (alone_in part w) {
    quotas = (retain-remove w.quotas part.quotas name ∙ ap (λ b. cond b (remove (alone_in part w).quotas name) (alone_in part w).quotas) side) i;
  })
      ∙ elim b as (λ b. ◌≡◌ {A = World} (record (alone_in part w) { quotas = cond b (remove (alone_in part w).quotas name) (alone_in part w).quotas })
      (cond b (record (alone_in part w) { quotas = remove (alone_in part w).quotas name }) (alone_in part w))) [ true ↦ refl | false ↦ refl ]

  goes_no_pool : part.pools name ≡ b → GoesAlone part b (λ w. record w { pools = remove w.pools name })
  goes_no_pool side w = (λ i. record (alone_in part w) {
    pools = (retain-remove w.pools part.pools name ∙ ap (λ b. cond b (remove (alone_in part w).pools name) (alone_in part w).pools) side) i;
  })
      ∙ elim b as (λ b. ◌≡◌ {A = World} (record (alone_in part w) { pools = cond b (remove (alone_in part w).pools name) (alone_in part w).pools })
      (cond b (record (alone_in part w) { pools = remove (alone_in part w).pools name }) (alone_in part w))) [ true ↦ refl | false ↦ refl ]

  goes_no_tenant : part.spaces name ≡ b → GoesAlone part b (λ w. record w { tenants = remove w.tenants name })
  goes_no_tenant side w = (λ i. record (alone_in part w) {
    tenants = (retain-remove w.tenants part.spaces name ∙ ap (λ b. cond b (remove (alone_in part w).tenants name) (alone_in part w).tenants) side) i;
  })
      ∙ elim b as (λ b. ◌≡◌ {A = World} (record (alone_in part w) { tenants = cond b (remove (alone_in part w).tenants name) (alone_in part w).tenants })
      (cond b (record (alone_in part w) { tenants = remove (alone_in part w).tenants name }) (alone_in part w))) [ true ↦ refl | false ↦ refl ]

-- ---- what is asked of others

never : {A : Type 0} → false ≡ true → A
never e = not_both e refl

module _ (part : Part) (w : World) where
  leaves_unless : (d : Bool) (refusal : Refusal) (o : Outcome World) → Leaves part w o → Leaves part w (unless d refusal o)
  leaves_unless d refusal o h = goes_unless part w false d d refusal o o never (λ _. h)

  leaves_found : {A : Type 0} (x : Option A) (f : A → Outcome World) → ((a : A) → Leaves part w (f a)) → Leaves part w (found x f)
  leaves_found x f h = goes_found part w false x x f f never (λ a _. h a)

  leaves_by : (f : World → World) → GoesAlone part false f → Leaves part w (Done Content.Written (f w))
  leaves_by f h = goes_by part w false Content.Written f h

  pub other_put_namespace : (name : Name) (namespace : Namespace) → part.spaces name ≡ false → Leaves part w (put_namespace name namespace w)
  unfolding put_namespace
  other_put_namespace name namespace other = leaves_unless _ _ _ (leaves_unless _ _ _ (leaves_unless _ _ _ (leaves_unless _ _ _ (leaves_unless _ _ _
      (leaves_by (put_tenant name (with_namespace namespace (get w.tenants name))) (goes_put part false name other _))))))

  pub other_delete_namespace : (name : Name) → part.spaces name ≡ false → Leaves part w (delete_namespace name w)
  unfolding delete_namespace
  other_delete_namespace name other = leaves_found (get w.tenants name) _ (λ t. leaves_unless _ _ _ (leaves_unless _ _ _
      (leaves_by (λ w. record w { tenants = remove w.tenants name }) (goes_no_tenant part false name other))))

  pub other_put_quota : (name : Name) (quota : Quota) → part.quotas name ≡ false → Leaves part w (put_quota name quota w)
  unfolding put_quota
  other_put_quota name quota other = leaves_unless _ _ _
      (leaves_by (λ x. record x { quotas = insert x.quotas name (with_quota quota (get w.quotas name)) }) (goes_quota part false name _ other))

  pub other_delete_quota : (name : Name) → part.quotas name ≡ false → Leaves part w (delete_quota name w)
  unfolding delete_quota
  other_delete_quota name other = leaves_found (get w.quotas name) _ (λ q. leaves_unless _ _ _
      (leaves_by (λ w. record w { quotas = remove w.quotas name }) (goes_no_quota part false name other)))

  pub other_read_quota : (name : Name) → Leaves part w (read_quota name w)
  unfolding Leaves
  other_read_quota name = leaves_found (get w.quotas name) _ (λ q. refl)

  pub other_put_pool : (name : Name) (pool : Pool) → part.pools name ≡ false → Leaves part w (put_pool_record name pool w)
  unfolding put_pool_record
  other_put_pool name pool other = leaves_unless _ _ _
      (leaves_by (put_pool name (with_pool pool (get w.pools name))) (goes_pool part false name _ other))

  pub other_delete_pool : (name : Name) → part.pools name ≡ false → Leaves part w (delete_pool name w)
  unfolding delete_pool
  other_delete_pool name other = leaves_found (get w.pools name) _ (λ p. leaves_unless _ _ _ (leaves_unless _ _ _
      (leaves_by (λ w. record w { pools = remove w.pools name }) (goes_no_pool part false name other))))

-- ---- what is asked of the chosen owners

-- the outcome is no refusal for want of room, if there is none
abbrev pub IsSpared : Bool → Outcome World → Type 0
IsSpared full o = full ≡ true → o ≡ Refused Refusal.Full → ⊥

module _ (part : Part) (w : World) where
  spared_unless : (full d d' : Bool) (refusal : Refusal) (o o' : Outcome World) → d' ≡ d → (IsSpared full o → Follows part o o') →
      IsSpared full (unless d refusal o) → Follows part (unless d refusal o) (unless d' refusal o')
  unfolding Follows unless
  spared_unless full d d' refusal o o' alike h spared =
      subst (λ c. Follows part (cond d (Refused refusal) o) (cond c (Refused refusal) o')) (sym alike) (by d spared)
    where
      by : (c : Bool) → IsSpared full (cond c (Refused refusal) o) → Follows part (cond c (Refused refusal) o) (cond c (Refused refusal) o')
      by true _ = refl
      by false spared = h spared

  spared_room : (full full' : Bool) (o o' : Outcome World) → (full ≡ false → full' ≡ false) → Follows part o o' →
      IsSpared full (unless full Refusal.Full o) → Follows part (unless full Refusal.Full o) (unless full' Refusal.Full o')
  unfolding Follows unless
  spared_room true full' o o' kept h spared = absurd (spared refl refl)
  spared_room false full' o o' kept h spared = subst (λ c. Follows part o (cond c (Refused Refusal.Full) o')) (sym (kept refl)) h

  follows_unless : (d d' : Bool) (refusal : Refusal) (o o' : Outcome World) → d' ≡ d → Follows part o o' →
      Follows part (unless d refusal o) (unless d' refusal o')
  follows_unless d d' refusal o o' alike h = goes_unless part w true d d' refusal o o' (λ _. alike) (λ _. h)

  follows_found : {A : Type 0} (x x' : Option A) (f f' : A → Outcome World) → x' ≡ x → ((a : A) → x ≡ Some a → Follows part (f a) (f' a)) →
      Follows part (found x f) (found x' f')
  follows_found x x' f f' alike h = goes_found part w true x x' f f' (λ _. alike) h

  follows_by : (f : World → World) → GoesAlone part true f → Follows part (Done Content.Written (f w)) (Done Content.Written (f (alone_in part w)))
  follows_by f h = goes_by part w true Content.Written f h

  -- its record, its pools and its quota
  pub own_put_namespace : (name : Name) (namespace : Namespace) → part.spaces name ≡ true → names_within part.pools part.quotas namespace ≡ true →
      IsSpared (is_full w.tenants name) (put_namespace name namespace w)
      → Follows part (put_namespace name namespace w) (put_namespace name namespace (alone_in part w))
  unfolding put_namespace
  own_put_namespace name namespace own within spared =
      spared_unless full _ _ _ _ _ quota_alike (
      spared_unless full _ _ _ _ _ pool_alike (
      spared_unless full _ _ _ _ _ allowed_alike (
      spared_unless full _ _ _ _ _ (ap (λ t. option_map_or (forbids_put namespace) t false) row) (
      spared_room full (is_full (alone_in part w).tenants name) _ _ (room_kept w.tenants part.spaces name own) done)))) spared
    where
      full : Bool
      full = is_full w.tenants name

      row : get (alone_in part w).tenants name ≡ get w.tenants name
      row = tenant_alone part w name own

      quota_alike : lacks_quota (alone_in part w) namespace ≡ lacks_quota w namespace
      quota_alike = by namespace.quota refl
        where
          by : (q : Option Name) → namespace.quota ≡ q → option_map_or (λ q. not (contains_key (alone_in part w).quotas q)) q false ≡
              option_map_or (λ q. not (contains_key w.quotas q)) q false
          by None is = refl
          by (Some q) is = ap (λ o. not (is_some o)) (quota_alone part w q (its_quota part namespace within q is))

      pool_alike : lacks_pool (alone_in part w) namespace.default_pool ≡ lacks_pool w namespace.default_pool
      pool_alike = ap (λ o. not (is_some o)) (pool_alone part w namespace.default_pool
          (first_of_both _ _ (first_of_both (part.pools namespace.default_pool && option_map_or (list_all part.pools) namespace.allowed true) _ within)))

      allowed_alike : lacks_allowed (alone_in part w) namespace ≡ lacks_allowed w namespace
      allowed_alike = by namespace.allowed (second_of_both (part.pools namespace.default_pool) _
          (first_of_both (part.pools namespace.default_pool && option_map_or (list_all part.pools) namespace.allowed true) _ within))
        where
          by : (a : Option (List Name)) → option_map_or (list_all part.pools) a true ≡ true →
              option_map_or (λ allowed. not (list_all (contains_key (alone_in part w).pools) allowed)) a false ≡
              option_map_or (λ allowed. not (list_all (contains_key w.pools) allowed)) a false
          by None all = refl
          by (Some allowed) all = ap not (all_alike part.pools (contains_key (alone_in part w).pools) (contains_key w.pools)
              (λ k has. ap is_some (pool_alone part w k has)) allowed all)

      done : Follows part (Done Content.Written (put_tenant name (with_namespace namespace (get w.tenants name)) w))
          (Done Content.Written (put_tenant name (with_namespace namespace (get (alone_in part w).tenants name)) (alone_in part w)))
      done = subst (λ t. Follows part (Done Content.Written (put_tenant name (with_namespace namespace (get w.tenants name)) w))
          (Done Content.Written (put_tenant name (with_namespace namespace t) (alone_in part w)))) (sym row)
          (follows_by (put_tenant name (with_namespace namespace (get w.tenants name))) (goes_put part true name own _))

  pub own_delete_namespace : (name : Name) → part.spaces name ≡ true → Follows part (delete_namespace name w) (delete_namespace name (alone_in part w))
  unfolding delete_namespace
  own_delete_namespace name own = follows_found (get w.tenants name) (get (alone_in part w).tenants name) _ _ (tenant_alone part w name own) (λ t _.
      follows_unless (same_name name default_name) _ Refusal.InUse _ _ refl (follows_unless (any_row (λ _ job. true) t.jobs || has_open t || has_live t) _
      Refusal.InUse _ _ refl (follows_by (λ w. record w { tenants = remove w.tenants name }) (goes_no_tenant part true name own))))

  -- a quota: that no other namespace names it is the border's
  pub own_read_quota : (name : Name) → part.quotas name ≡ true → Follows part (read_quota name w) (read_quota name (alone_in part w))
  own_read_quota name own = follows_found (get w.quotas name) (get (alone_in part w).quotas name) _ _ (quota_alone part w name own)
      (λ q _. goes_read part w true (Content.Quota (record { name = name; row = q.quota })))

  pub own_put_quota : (name : Name) (quota : Quota) → part.quotas name ≡ true → IsSpared (is_full w.quotas name) (put_quota name quota w)
      → Follows part (put_quota name quota w) (put_quota name quota (alone_in part w))
  unfolding put_quota
  own_put_quota name quota own spared =
      spared_room (is_full w.quotas name) (is_full (alone_in part w).quotas name) _ _ (room_kept w.quotas part.quotas name own) done spared
    where
      change : Option QuotaRows → World → World
      change old x = record x { quotas = insert x.quotas name (with_quota quota old) }

      done : Follows part (Done Content.Written (change (get w.quotas name) w)) (Done Content.Written (change (get
          (alone_in part w).quotas name) (alone_in part w)))
      done = subst (λ q. Follows part (Done Content.Written (change (get w.quotas name) w)) (Done Content.Written (change q (alone_in part w))))
          (sym (quota_alone part w name own)) (follows_by (change (get w.quotas name)) (goes_quota part true name _ own))

  pub own_delete_quota : IsApart part w → (name : Name) → part.quotas name ≡ true →
      Follows part (delete_quota name w) (delete_quota name (alone_in part w))
  unfolding delete_quota
  own_delete_quota apart name own = follows_found (get w.quotas name) (get (alone_in part w).quotas name) _ _ (quota_alone part w name own) (λ q _.
      follows_unless (any_row (λ _ t. names_quota name t.namespace) w.tenants) _ Refusal.InUse _ _ (sym named)
      (follows_by (λ w. record w { quotas = remove w.quotas name }) (goes_no_quota part true name own)))
    where
      none : (ns : Name) (t : Tenant) → get w.tenants ns ≡ Some t → part.spaces ns ≡ false → (q : Option Name) → t.namespace.quota ≡ q →
          option_map_or (same_name name) q false ≡ false
      none ns t at other None is = refl
      none ns t at other (Some q) is = by (same_name name q) refl
        where
          by : (b : Bool) → same_name name q ≡ b → b ≡ false
          by true same = not_both (sym (apart.quota ns t q at is) ∙ ap part.quotas (sym (same_name_is name q same)) ∙ own) other
          by false _ = refl

      named : any_row (λ _ t. names_quota name t.namespace) w.tenants ≡ any_row (λ _ t. names_quota name t.namespace) (alone_in part w).tenants
      named = any_row-retain names one_name _ _ w.tenants part.spaces (λ ns t at. ((λ _. refl), (λ other. none ns t at other t.namespace.quota refl)))

  -- a pool: that no other namespace names it, or has an open evaluation there, is the border's too
  pub own_put_pool : (name : Name) (pool : Pool) → part.pools name ≡ true → IsSpared (is_full w.pools name) (put_pool_record name pool w)
      → Follows part (put_pool_record name pool w) (put_pool_record name pool (alone_in part w))
  unfolding put_pool_record
  own_put_pool name pool own spared =
      spared_room (is_full w.pools name) (is_full (alone_in part w).pools name) _ _ (room_kept w.pools part.pools name own) done spared
    where
      done : Follows part (Done Content.Written (put_pool name (with_pool pool (get w.pools name)) w))
          (Done Content.Written (put_pool name (with_pool pool (get (alone_in part w).pools name)) (alone_in part w)))
      done = subst (λ p. Follows part (Done Content.Written (put_pool name (with_pool pool (get w.pools name)) w))
          (Done Content.Written (put_pool name (with_pool pool p) (alone_in part w)))) (sym (pool_alone part w name own))
          (follows_by (put_pool name (with_pool pool (get w.pools name))) (goes_pool part true name _ own))

  module _ (apart : IsApart part w)
      (named_side : (ns : Name) (t : Tenant) (p : Name) → get w.tenants ns ≡ Some t → names_pool p t.namespace ≡ true → part.pools p ≡ part.spaces ns)
      (open_side : (ns : Name) (t : Tenant) (n : ℕ) (e : Evaluation) → get w.tenants ns ≡ Some t → get t.evaluations n ≡ Some e → is_open e.status ≡ true →
      part.pools e.pool ≡ part.spaces ns) where
    module _ (name : Name) (own : part.pools name ≡ true) (ns : Name) (t : Tenant) (at : get w.tenants ns ≡ Some t) (other : part.spaces ns ≡ false) where
      -- what is of the other side names another pool
      not_here : (p : Name) → part.pools p ≡ part.spaces ns → same_name name p ≡ false
      not_here p side = by (same_name name p) refl
        where
          by : (b : Bool) → same_name name p ≡ b → b ≡ false
          by true same = not_both (sym side ∙ ap part.pools (sym (same_name_is name p same)) ∙ own) other
          by false _ = refl

      names_none : names_pool name t.namespace ≡ false
      names_none = by (names_pool name t.namespace) refl
        where
          by : (b : Bool) → names_pool name t.namespace ≡ b → b ≡ false
          by true named = not_both (sym (named_side ns t name at named) ∙ own) other
          by false _ = refl

      no_job : any_row (λ _ (job : Job). same_name name job.document.pool) t.jobs ≡ false
      no_job = any_row-none names one_name _ t.jobs (λ id j row. not_here j.document.pool (apart.job ns t id j at row))

      no_evaluation : any_row (λ _ (e : Evaluation). is_open e.status && same_name name e.pool) t.evaluations ≡ false
      no_evaluation = any_row-none numbers one_number _ t.evaluations (λ n e row. by (is_open e.status) e (open_side ns t n e at row))
        where
          by : (b : Bool) (e : Evaluation) → (b ≡ true → part.pools e.pool ≡ part.spaces ns) → (b && same_name name e.pool) ≡ false
          by true e side = not_here e.pool (side refl)
          by false e side = refl

      no_snapshot : any_row (λ _ (worker : Worker). option_map_or (λ kept. same_name name kept.pool) worker.kept false) t.workers ≡ false
      no_snapshot = any_row-none numbers one_number _ t.workers (λ n worker row. by worker.kept (λ kept has. apart.kept ns t n worker kept at row has))
        where
          by : (kept : Option Snapshot) → ((k : Snapshot) → kept ≡ Some k → IsKeptWith part ns k) →
              option_map_or (λ k. same_name name k.pool) kept false ≡ false
          by None h = refl
          by (Some k) h = not_here k.pool (h k refl).with.pool_with

      unused : (names_pool name t.namespace || looks_to_pool (same_name name) t) ≡ false
      unused = λ i. names_none i || (no_job i || no_evaluation i || no_snapshot i)

    pub own_delete_pool : (name : Name) → part.pools name ≡ true → Follows part (delete_pool name w) (delete_pool name (alone_in part w))
    unfolding delete_pool
    own_delete_pool name own = follows_found (get w.pools name) (get (alone_in part w).pools name) _ _ (pool_alone part w name own) (λ p _.
        follows_unless (same_name name default_name) _ Refusal.InUse _ _ refl (
        follows_unless (any_row (λ _ node. true) p.nodes || is_pool_in_use name w) _ Refusal.InUse _ _
        (ap (λ b. any_row (λ _ node. true) p.nodes || b) (sym used))
        (follows_by (λ w. record w { pools = remove w.pools name }) (goes_no_pool part true name own))))
      where
        used : is_pool_in_use name w ≡ is_pool_in_use name (alone_in part w)
        used = any_row-retain names one_name _ _ w.tenants part.spaces (λ ns t at. ((λ _. refl), (λ other. unused name own ns t at other)))
