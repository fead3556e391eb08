-- A snapshot shows what is there.
use Rattle.std.specs.Prelude.{◌≡◌, ◌≢◌, ◌⊎◌, ℕ, Bool, true, false, cond, ◌&&◌, ◌||◌, List, [], ◌∷◌, Option, Some, None, filter, map, option_map}
use Rattle.std.proofs.Common.{refl, sym, ap, subst, ◌∙◌, inl, inr}
use Rattle.std.proofs.lemmas.Bool.{or_right}
use Rattle.std.specs.FinMap.{get, entries, from_entries, get-from_entries}
use Rattle.std.specs.FinMap.Entries.{find}
use Rattle.std.specs.List.{AllPairs, Contains}
use Rattle.std.specs.Option.{option_map_or, option_and_then}
use Rattle.std.specs.Ordering.{nat_cmp, eq_by_cmp}
use Rattle.ns_types.specs.declared.allocation.Allocation.{Allocation}
use Rattle.ns_types.specs.declared.evaluation.Evaluation.{Evaluation}
use Rattle.ns_types.specs.declared.job.Job.{Job}
use Rattle.ns_types.specs.declared.job.JobKind.{JobKind}
use Rattle.ns_types.specs.declared.node.Node.{Node}
use Rattle.ns_types.specs.declared.snapshot.OwnAllocation.{OwnAllocation}
use Rattle.ns_types.specs.declared.snapshot.PoolNode.{PoolNode}
use Rattle.ns_types.specs.declared.snapshot.QuotaSeen.{QuotaSeen}
use Rattle.ns_types.specs.Placing.Wanted.{is_batch}
use Rattle.ns_types.specs.State.Lists.{Each, by_number}
use Rattle.ns_types.specs.State.Names.{Key, Name, same_name, same_number}
use Rattle.ns_types.specs.State.Rows.{World, Tenant, PoolRows, QuotaRows, allocation_at, is_done, is_live, is_live_on}
use Rattle.ns_types.specs.State.Rows.{node_at}
use Rattle.ns_types.specs.State.Resources.{limits_in}
use Rattle.ns_types.specs.State.Sums.{quota_use}
use Rattle.ns_types.specs.Validity.{IsSound}
use Rattle.ns_types.specs.Working.Snapshot.{allocations_on, is_done_for, live_on, nodes_of, own_allocations, pool_for}
use Rattle.ns_types.specs.Working.Snapshot.{namespaces_naming, quota_seen, seen_live, snapshot_of}
use Rattle.ns_types.proofs.Elements.{each_found, each_flat, each_kept, each_mapped}
use Rattle.ns_types.proofs.Lists.{each_map, not_both}
use Rattle.ns_types.proofs.Named.{first_of_both, names, numbers, one_name, one_number, same_name_is, same_name_refl, same_number_refl, second_of_both}
use Rattle.ns_types.proofs.Tables.{each_row, tied}
use Rattle.ns_types.proofs.Tests.{either_of, not_Some, same_Some}
use Rattle.ns_laws.specs.Workers.{Counts, lives, completed, HasPool, IsLiveThere, IsNodeThere, IsOwn, IsPlacedBefore}
use Rattle.ns_laws.specs.Workers.{IsTrueOf, SeesNodes, SeesOwn, SeesQuota, shown_live}
use Rattle.ns_laws.proofs.Elements.{Has, contains_from, each_has, filter_has, flat_has, has_each, has_row, map_has}
use Rattle.ns_laws.proofs.Reading.Use.{use_is}
use Rattle.ns_laws.proofs.Work.Shown.{named_all, named_only, placed_in_order}

-- ---- the job's own allocations

batch_kind : (kind : JobKind) → is_batch kind ≡ true → kind ≡ JobKind.Batch
batch_kind JobKind.Service e = not_both e refl
batch_kind JobKind.Batch e = refl

counts_of : (job : Option Job) (a : Allocation) → (is_live a || is_done_for job a) ≡ true → Counts job a
counts_of job a e = by (either_of (is_live a) (is_done_for job a) e)
  where
    done_for : (o : Option Job) → job ≡ o → is_done_for o a ≡ true → Counts job a
    done_for None is e = not_both e refl
    done_for (Some row) is e =
        let both = first_of_both (is_batch row.document.kind && same_number a.job_modify_index row.modify_index) (is_done a) e in
        completed row is (batch_kind row.document.kind (first_of_both (is_batch row.document.kind) _ both))
        (tied one_number a.job_modify_index row.modify_index (second_of_both (is_batch row.document.kind) _ both))
        (second_of_both (is_batch row.document.kind && same_number a.job_modify_index row.modify_index) (is_done a) e)

    by : (is_live a ≡ true) ⊎ (is_done_for job a ≡ true) → Counts job a
    by (inl live) = lives live
    by (inr done) = done_for job refl done

counts_back : (job : Option Job) (a : Allocation) → Counts job a → (is_live a || is_done_for job a) ≡ true
counts_back job a (lives live) = ap (λ b. b || is_done_for job a) live
counts_back job a (completed row is batch index done) = or_right (is_live a) _ (ap (λ o. is_done_for o a) is
    ∙ (λ i. is_batch (batch i) && same_number (index i) row.modify_index && done i) ∙ ap (λ b. b && true) (same_number_refl row.modify_index))

module _ (t : Tenant) (id : Name) where
  abbrev counted : ℕ × Allocation → Bool
  counted a = same_name id a.1.job && (is_live a.1 || is_done_for (get t.jobs id) a.1)

  abbrev as_own : ℕ × Allocation → OwnAllocation
  as_own a = record { number = a.0; row = a.1 }

  sees_own : SeesOwn t id (own_allocations t id (get t.jobs id))
  sees_own = record {
    no_other = each_mapped (IsOwn t id) as_own (filter counted (entries t.allocations))
        (each_map (λ a h. record {
          is_row = h.0;
          is_its = sym (same_name_is id a.1.job (first_of_both (same_name id a.1.job) _ h.1));
          counts = counts_of (get t.jobs id) a.1 (second_of_both (same_name id a.1.job) _ h.1);
        }) (filter counted (entries t.allocations))
        (each_kept (λ a. get t.allocations a.0 ≡ Some a.1) counted (entries t.allocations)
        (each_row numbers one_number (λ k x. get t.allocations k ≡ Some x) t.allocations (λ k x is. is))));
    all = λ own is. contains_from _ own (map_has as_own (filter counted (entries t.allocations)) (own.number, own.row)
        (filter_has counted (entries t.allocations) (own.number, own.row) (has_row one_number t.allocations own.number own.row is.is_row)
        ((λ i. same_name id (is.is_its i) && counts_back (get t.jobs id) own.row is.counts i) ∙ ap (λ b. b && true) (same_name_refl id))));
  }

-- ---- lists in the order of numbers

module _ {X : Type 0} (number : X → ℕ) (xs : List X) where
  abbrev keyed : X → ℕ × X
  keyed x = (number x, x)

  each_keyed : Each (λ (e : ℕ × X). Has xs e.1 × (e.0 ≡ number e.1)) (map keyed xs)
  each_keyed = each_mapped (λ (e : ℕ × X). Has xs e.1 × (e.0 ≡ number e.1)) keyed xs (each_map (λ x h. (h, refl)) xs (has_each xs))

  at_number : (k : ℕ) (y : X) → get (from_entries {R = nat_cmp} (map keyed xs)) k ≡ Some y → Has xs y × (k ≡ number y)
  at_number k y is = each_found one_number (λ (e : ℕ × X). Has xs e.1 × (e.0 ≡ number e.1)) (map keyed xs) each_keyed k y
      (sym (get-from_entries numbers (map keyed xs) k) ∙ is)

  by_number_each : (P : X → Type 0) → ((x : X) → Has xs x → P x) → Each P (by_number number xs)
  by_number_each P h = each_mapped P (λ (e : ℕ × X). e.1) (entries (from_entries {R = nat_cmp} (map keyed xs)))
      (each_row numbers one_number (λ k x. P x) (from_entries {R = nat_cmp} (map keyed xs)) (λ k x is. h x (at_number k x is).0))

  -- the first of those with the number of one that is there
  first_found : (es : List (ℕ × X)) (k : ℕ) (x : X) → Has es (k, x) → find nat_cmp k es ≢ None
  first_found [] k x h = absurd h
  first_found (e ∷ es) k x h = by (first_found es k x) (eq_by_cmp nat_cmp k e.0) refl h
    where
      by : (Has es (k, x) → find nat_cmp k es ≢ None) → (b : Bool) → eq_by_cmp nat_cmp k e.0 ≡ b → (e ≡ (k, x)) ⊎ Has es (k, x) →
          cond b (Some e.1) (find nat_cmp k es) ≢ None
      by later true same h none = not_Some e.1 (sym none)
      by later false other (inl is) none = not_both (same_number_refl k) (ap (λ (y : ℕ × X). eq_by_cmp nat_cmp k y.0) (sym is) ∙ other)
      by later false other (inr h) none = later h none

  by_number_has : (x : X) → Has xs x → ((y : X) → Has xs y → number x ≡ number y → y ≡ x) → Has (by_number number xs) x
  by_number_has x h one = by (get (from_entries {R = nat_cmp} (map keyed xs)) (number x)) refl
    where
      by : (o : Option X) → get (from_entries {R = nat_cmp} (map keyed xs)) (number x) ≡ o → Has (by_number number xs) x
      by None is = absurd (first_found (map keyed xs) (number x) x (map_has keyed xs x h) (sym (get-from_entries numbers (map keyed xs) (number x)) ∙ is))
      by (Some y) is = subst (Has (by_number number xs)) (one y (at_number (number x) y is).0 (at_number (number x) y is).1)
          (map_has (λ (e : ℕ × X). e.1) (entries (from_entries {R = nat_cmp} (map keyed xs))) (number x, y)
          (has_row one_number (from_entries {R = nat_cmp} (map keyed xs)) (number x) y is))

-- ---- what is live on a node

abbrev Placed : Type 0
Placed = Name × (ℕ × Allocation)

module _ (w : World) (pool node : Name) where
  -- it is there, and live on the node
  abbrev IsThere : Placed → Type 0
  IsThere a = (allocation_at w (a.0, a.1.0) ≡ Some a.1.1) × (is_live_on pool node a.1.1 ≡ true)

  all_there : Each IsThere (allocations_on w pool node)
  all_there = each_flat IsThere (λ (t : Name × Tenant). map (λ (a : ℕ × Allocation). (t.0, a))
      (filter (λ a. is_live_on pool node a.1) (entries t.1.allocations)))
      (entries w.tenants) (each_row names one_name
      (λ ns (t : Tenant). Each IsThere (map (λ (a : ℕ × Allocation). (ns, a)) (filter (λ a. is_live_on pool node a.1) (entries t.allocations))))
      w.tenants (λ ns t is. each_mapped IsThere (λ (a : ℕ × Allocation). (ns, a)) (filter (λ a. is_live_on pool node a.1) (entries t.allocations))
      (each_kept (λ (a : ℕ × Allocation). allocation_at w (ns, a.0) ≡ Some a.1) (λ a. is_live_on pool node a.1) (entries t.allocations)
      (each_row numbers one_number (λ n (a : Allocation). allocation_at w (ns, n) ≡ Some a) t.allocations
      (λ n a at. ap (option_and_then (λ (t : Tenant). get t.allocations n)) is ∙ at)))))

  has_there : (key : Key) (a : Allocation) → allocation_at w key ≡ Some a → is_live_on pool node a ≡ true →
      Has (allocations_on w pool node) (key.0, (key.1, a))
  has_there key a at live = by (get w.tenants key.0) refl at
    where
      by : (o : Option Tenant) → get w.tenants key.0 ≡ o → option_and_then (λ (t : Tenant). get t.allocations key.1) o ≡ Some a →
          Has (allocations_on w pool node) (key.0, (key.1, a))
      by None is e = absurd (not_Some a e)
      by (Some t) is e = flat_has
          (λ (t : Name × Tenant). map (λ (a : ℕ × Allocation). (t.0, a)) (filter (λ a. is_live_on pool node a.1) (entries t.1.allocations)))
          (key.0, (key.1, a)) (entries w.tenants) (key.0, t) (has_row one_name w.tenants key.0 t is)
          (map_has (λ (a : ℕ × Allocation). (key.0, a)) (filter (λ a. is_live_on pool node a.1) (entries t.allocations)) (key.1, a)
          (filter_has (λ a. is_live_on pool node a.1) (entries t.allocations) (key.1, a) (has_row one_number t.allocations key.1 a e) live))

  abbrev place : Placed → ℕ
  place a = a.1.1.place

  live_there : Each (IsLiveThere w pool node) (live_on w pool node)
  unfolding live_on
  live_there = each_mapped (IsLiveThere w pool node) seen_live (by_number place (allocations_on w pool node))
      (by_number_each place (allocations_on w pool node) (λ a. IsLiveThere w pool node (seen_live a)) (λ a h.
      let there = each_has IsThere (allocations_on w pool node) a h all_there in
      record { row = a.1.1; is_row = there.0; lives = there.1; priority = refl; size = refl }))

  live_in_order : AllPairs (IsPlacedBefore w) (live_on w pool node)
  unfolding live_on
  live_in_order = placed_in_order w (allocations_on w pool node) (by_number_each place (allocations_on w pool node)
      (λ a. allocation_at w (a.0, a.1.0) ≡ Some a.1.1) (λ a h. (each_has IsThere (allocations_on w pool node) a h all_there).0))

  module _ (sound : IsSound w) where
    on_pool : (a : Allocation) → is_live_on pool node a ≡ true → pool ≡ a.pool
    on_pool a on = same_name_is pool a.pool (first_of_both (same_name pool a.pool) _ (second_of_both (is_live a) _ on))

    on_node : (a : Allocation) → is_live_on pool node a ≡ true → node ≡ a.node
    on_node a on = same_name_is node a.node (second_of_both (same_name pool a.pool) _ (second_of_both (is_live a) _ on))

    one_there : (a b : Placed) → IsThere a → IsThere b → place a ≡ place b → b ≡ a
    one_there a b there other same =
        let key = sound.one_place (b.0, b.1.0) (a.0, a.1.0) b.1.1 a.1.1 (other.0, first_of_both (is_live b.1.1) _ other.1)
        (there.0, first_of_both (is_live a.1.1) _ there.1) (sym (on_pool b.1.1 other.1) ∙ on_pool a.1.1 there.1)
        (sym (on_node b.1.1 other.1) ∙ on_node a.1.1 there.1) (sym same) in
        let row = same_Some b.1.1 a.1.1 (sym other.0 ∙ ap (allocation_at w) key ∙ there.0) in
        (λ i. ((key i).0, ((key i).1, row i)))

    live_all : (key : Key) (a : Allocation) → allocation_at w key ≡ Some a → is_live_on pool node a ≡ true →
        Contains (live_on w pool node) (shown_live key a)
    unfolding live_on
    live_all key a at on =
        let has = has_there key a at on in
        contains_from _ (shown_live key a) (map_has seen_live (by_number place (allocations_on w pool node)) (key.0, (key.1, a))
        (by_number_has place (allocations_on w pool node) (key.0, (key.1, a)) has
        (λ b h same. one_there (key.0, (key.1, a)) b (at, on) (each_has IsThere (allocations_on w pool node) b h all_there) same)))

-- ---- nodes

sees_nodes : (w : World) (pool : Name) → IsSound w → SeesNodes w pool (nodes_of w pool)
sees_nodes w pool sound = by (get w.pools pool) refl
  where
    seen : Name × Node → PoolNode
    seen n = record { name = n.0; row = n.1; live = live_on w pool n.0 }

    by : (o : Option PoolRows) → get w.pools pool ≡ o → SeesNodes w pool (option_map_or (λ p. map seen (entries p.nodes)) o [])
    by None is = record { no_other = tt; all = λ name there. absurd (there (ap (option_and_then (λ (p : PoolRows). get p.nodes name)) is)) }
    by (Some p) is = record {
      no_other = each_mapped (IsNodeThere w pool) seen (entries p.nodes)
          (each_row names one_name (λ name row. IsNodeThere w pool (seen (name, row))) p.nodes (λ name row at. record {
            is_row = ap (option_and_then (λ (p : PoolRows). get p.nodes name)) is ∙ at;
            no_other = live_there w pool name;
            all = live_all w pool name sound;
            in_order = live_in_order w pool name;
          }));
      all = λ name there. found name there (get p.nodes name) refl;
    }
      where
        found : (name : Name) → node_at w pool name ≢ None → (o : Option Node) → get p.nodes name ≡ o →
            (node : PoolNode) × Contains (map seen (entries p.nodes)) node × (node.name ≡ name)
        found name there None at = absurd (there (ap (option_and_then (λ (p : PoolRows). get p.nodes name)) is ∙ at))
        found name there (Some row) at =
            (seen (name, row), contains_from _ (seen (name, row)) (map_has seen (entries p.nodes) (name, row) (has_row one_name p.nodes name row at)), refl)

-- ---- the quota

module _ (w : World) where
  sees_quota : (own : Option Name) (seen : QuotaSeen) → option_and_then (quota_seen w) own ≡ Some seen →
      (quota : Name) × (own ≡ Some quota) × SeesQuota w quota seen
  sees_quota None seen e = absurd (not_Some seen e)
  sees_quota (Some quota) seen e = (quota, refl, by (get w.quotas quota) refl e)
    where
      as_seen : QuotaRows → QuotaSeen
      as_seen q = record {
        name = quota;
        limits = limits_in q.quota.limits;
        used = quota_use w quota;
        release = q.release;
        namespaces = namespaces_naming w quota;
      }

      by : (o : Option QuotaRows) → get w.quotas quota ≡ o → option_map as_seen o ≡ Some seen → SeesQuota w quota seen
      by None is e = absurd (not_Some seen e)
      by (Some q) is e = subst (SeesQuota w quota) (same_Some (as_seen q) seen e)
          (record {
            name = refl;
            row = q;
            is_row = is;
            limits = refl;
            release = refl;
            used = use_is w quota;
            no_other = named_only w quota;
            all = named_all w quota;
          })

  quota_there : (own : Option Name) (quota : Name) → own ≡ Some quota → get w.quotas quota ≢ None → option_and_then (quota_seen w) own ≢ None
  quota_there own quota is there none = by (get w.quotas quota) refl (ap (option_and_then (quota_seen w)) (sym is) ∙ none)
    where
      by : (o : Option QuotaRows) → get w.quotas quota ≡ o → option_and_then (quota_seen w) (Some quota) ≡ None → ⊥
      by None at e = there at
      by (Some q) at e = not_Some _ (sym e ∙ ap (option_map (λ (q : QuotaRows). record {
        name = quota;
        limits = limits_in q.quota.limits;
        used = quota_use w quota;
        release = q.release;
        namespaces = namespaces_naming w quota;
      })) at)

-- ---- the whole

has_pool : (job : Option Job) (e : Evaluation) → HasPool job e (pool_for e job)
has_pool None e = refl
has_pool (Some job) e = refl

pub is_true_of : (w : World) (ns : Name) (t : Tenant) (n : ℕ) (e : Evaluation) → IsSound w → get t.evaluations n ≡ Some e →
    IsTrueOf w ns t n (snapshot_of w ns t n e)
is_true_of w ns t n e sound at = record {
  namespace = refl;
  number = refl;
  evaluation = at;
  job = refl;
  own = sees_own t e.job;
  pool = has_pool (get t.jobs e.job) e;
  nodes = sees_nodes w (pool_for e (get t.jobs e.job)) sound;
  release = λ p is. ap (λ o. option_map_or (λ (p : PoolRows). p.release) o 0) is;
  quota = sees_quota w t.namespace.quota;
  quota_seen = quota_there w t.namespace.quota;
}
