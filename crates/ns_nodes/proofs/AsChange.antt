-- A node that goes down, as one change of the world: the rows of each namespace, and the node.
use Rattle.std.specs.Prelude.{◌≡◌, ℕ, ◌+◌, Bool, true, false, cond, not, ◌||◌, List, [], ◌∷◌, ◌++◌, Option, Some, None, filter, fold, is_some}
use Rattle.std.specs.Prelude.{length}
use Rattle.std.specs.Prelude.{option_map, unwrap_or}
use Rattle.std.proofs.Common.{refl, sym, ap, ◌∙◌, arith, Ordering}
use Rattle.std.proofs.lemmas.List.{length-map}
use Rattle.std.proofs.Math.Bool.{or-true}
use Rattle.std.specs.Option.{option_and_then, option_map_or}
use Rattle.std.specs.Cmp.{IsTotalOrder}
use Rattle.std.specs.FinMap.{FinMap, IsAntisymmetric, empty, get, get-empty, get-insert, insert, same_map}
use Rattle.keyed.specs.Over.{over}
use Rattle.keyed.specs.Table.{flat, row_at}
use Rattle.keyed.proofs.Over.{get-over, over-empty, over-put}
use Rattle.ns_types.specs.declared.allocation.Allocation.{Allocation}
use Rattle.ns_types.specs.declared.evaluation.Evaluation.{Evaluation}
use Rattle.ns_types.specs.declared.evaluation.Trigger.TheVariants as Trigger
use Rattle.ns_types.specs.declared.node.Node.{Node}
use Rattle.ns_types.specs.declared.node.NodeStatus.TheVariants as NodeStatus
use Rattle.ns_types.specs.Asking.Nodes.{go_down, lose, losing_jobs, losses, lost}
use Rattle.ns_types.specs.Settling.Making.{evaluation_for, make, make_in, put_pool, put_tenant, with_evaluation, with_node}
use Rattle.ns_types.specs.State.Names.{Name, Key, ByName, has_key, name_cmp, same_key, same_name}
use Rattle.ns_types.specs.State.Rows.{World, PoolRows, Tenant, node_at}
use Rattle.ns_types.specs.State.Tables.{map_rows, table_of}
use Rattle.ns_types.proofs.Elements.{filter_map}
use Rattle.ns_types.proofs.Lists.{not_both}
use Rattle.ns_types.proofs.Named.{names, numbers, one_name, one_number, same_key_refl}
use Rattle.ns_types.proofs.Queue.{queue_keeps}
use Rattle.ns_types.proofs.TableRows.{get_put, stays}
use Rattle.ns_types.proofs.Tables.{get-map_rows, get-table_of, map_rows_idle, tied}
use Rattle.ns_change.specs.declared.change.Change.{Change}
use Rattle.ns_change.specs.declared.change.PoolChange.{PoolChange}
use Rattle.ns_change.specs.declared.change.TenantChange.{TenantChange}
use Rattle.ns_change.specs.Changed.{changed, changed_pool, changed_quota, changed_tenant, perhaps}
use Rattle.ns_nodes.proofs.Gone.{lost_rows}
use Rattle.ns_change.proofs.Nothing.{no_entries, list_stays}
use Rattle.ns_renewal.specs.Renewing.{keys_in}
use Rattle.ns_renewal.proofs.Made.{get_made, made_at, renewal}
use Rattle.ns_nodes.proofs.Renewed.{all_rows, keys_counted, keys_of, losses_are, lost_tenant}

-- ---- one namespace

-- with an evaluation of each of its losses
abbrev pub renewed_in : List (Name × Allocation) → Name → Tenant → Tenant
renewed_in [] ns t = t
renewed_in (loss ∷ losses) ns t = renewed_in losses ns (made_at loss.0 (λ t. evaluation_for t loss.1 Trigger.NodeUpdate) ns t)

renewed_tenants : (w : World) (losses : List (Name × Allocation)) (x : World) (ns : Name) →
    get (fold (renewal Trigger.NodeUpdate w) x losses).tenants ns ≡ option_map (renewed_in losses ns) (get x.tenants ns)
renewed_tenants w [] x ns = by (get x.tenants ns)
  where
    by : (o : Option Tenant) → o ≡ option_map (renewed_in [] ns) o
    by None = refl
    by (Some t) = refl
renewed_tenants w (loss ∷ losses) x ns = renewed_tenants w losses (renewal Trigger.NodeUpdate w x loss) ns
    ∙ ap (option_map (renewed_in losses ns)) (get_made loss.0 (λ t. evaluation_for t loss.1 Trigger.NodeUpdate) x ns) ∙ by (get x.tenants ns)
  where
    by : (o : Option Tenant) →
        option_map (renewed_in losses ns) (option_map (made_at loss.0 (λ t. evaluation_for t loss.1 Trigger.NodeUpdate) ns) o)
        ≡ option_map (renewed_in (loss ∷ losses) ns) o
    by None = refl
    by (Some t) = refl

abbrev pub own : Name → List (Name × Allocation) → ℕ
own ns losses = length (filter (λ loss. same_name ns loss.0) losses)

-- a namespace with its evaluations, and the others of its rows as there
abbrev IsAlone : List (Name × Allocation) → Name → Tenant → Tenant → Type 0
IsAlone losses ns base t = renewed_in losses ns t ≡ record base {
  evaluation_number = (renewed_in losses ns t).evaluation_number;
  evaluations = (renewed_in losses ns t).evaluations;
}

-- nothing else changes
renewed_alone : (losses : List (Name × Allocation)) (ns : Name) (t : Tenant) → IsAlone losses ns t t
renewed_alone [] ns t = refl
renewed_alone (loss ∷ losses) ns t = by (same_name ns loss.0) (λ u. renewed_alone losses ns u)
  where
    made : Evaluation
    made = evaluation_for t loss.1 Trigger.NodeUpdate

    by : (b : Bool) → ((u : Tenant) → IsAlone losses ns u u) → IsAlone losses ns t (cond b (with_evaluation made t) t)
    by true later = later (with_evaluation made t)
    by false later = later t

-- no evaluation goes
renewed_there : (losses : List (Name × Allocation)) (ns : Name) (t : Tenant) (n : ℕ) → is_some (get t.evaluations n) ≡ true →
    is_some (get (renewed_in losses ns t).evaluations n) ≡ true
renewed_there [] ns t n is = is
renewed_there (loss ∷ losses) ns t n is = by (same_name ns loss.0) (λ u. renewed_there losses ns u n)
  where
    made : Evaluation
    made = evaluation_for t loss.1 Trigger.NodeUpdate

    by : (b : Bool) → ((u : Tenant) → is_some (get u.evaluations n) ≡ true → is_some (get (renewed_in losses ns u).evaluations n) ≡ true) →
        is_some (get (renewed_in losses ns (cond b (with_evaluation made t) t)).evaluations n) ≡ true
    by true later = later (with_evaluation made t) (stays numbers one_number t.evaluations (t.evaluation_number + 1) made n is)
    by false later = later t is

-- by one of each loss of its own
pub renewed_number : (losses : List (Name × Allocation)) (ns : Name) (t : Tenant) →
    (renewed_in losses ns t).evaluation_number ≡ t.evaluation_number + own ns losses
renewed_number [] ns t = omega arith
renewed_number (loss ∷ losses) ns t = by (same_name ns loss.0) (λ u. renewed_number losses ns u)
  where
    made : Evaluation
    made = evaluation_for t loss.1 Trigger.NodeUpdate

    by : (b : Bool) → ((u : Tenant) → (renewed_in losses ns u).evaluation_number ≡ u.evaluation_number + own ns losses) →
        (renewed_in losses ns (cond b (with_evaluation made t) t)).evaluation_number
        ≡ t.evaluation_number + length (cond b (loss ∷ filter (λ loss. same_name ns loss.0) losses) (filter (λ loss. same_name ns loss.0) losses))
    by true later = later (with_evaluation made t) ∙ omega arith
    by false later = later t

-- without a loss of its own it stays
pub renewed_none : (losses : List (Name × Allocation)) (ns : Name) (t : Tenant) → own ns losses ≡ 0 →
    renewed_in losses ns t ≡ t
renewed_none [] ns t none = refl
renewed_none (loss ∷ losses) ns t none = by (same_name ns loss.0) none (renewed_none losses ns t)
  where
    by : (b : Bool) → length (cond b (loss ∷ filter (λ loss. same_name ns loss.0) losses) (filter (λ loss. same_name ns loss.0) losses)) ≡ 0 →
        (own ns losses ≡ 0 → renewed_in losses ns t ≡ t) →
        renewed_in losses ns (cond b (with_evaluation (evaluation_for t loss.1 Trigger.NodeUpdate) t) t) ≡ t
    by true is later = absurd (omega arith)
    by false is later = later is

-- a namespace has as many losses as losing jobs
pub losses_counted : (w : World) (pool node : Name) (ns : Name) (t : Tenant) → get w.tenants ns ≡ Some t →
    own ns (losses pool node w) ≡ length (losing_jobs pool node t)
losses_counted w pool node ns t at = ap (own ns) (losses_are pool node w)
    ∙ ap length (filter_map (λ (loss : Name × Allocation). same_name ns loss.0) (λ e. (e.0, e.1.1)) (all_rows pool node w))
    ∙ length-map (filter (λ e. same_name ns e.0) (all_rows pool node w)) (λ e. (e.0, e.1.1))
    ∙ sym (length-map (filter (λ e. same_name ns e.0) (all_rows pool node w)) (λ e. (e.0, e.1.0)))
    ∙ ap length (sym (filter_map (λ (key : Key). same_name ns key.0) (λ e. (e.0, e.1.0)) (all_rows pool node w)))
    ∙ ap (keys_in ns) (sym (keys_of pool node w)) ∙ keys_counted pool node w ns t at

-- ---- the rest of the world

module _ {A : Type 0} (part : World → A) (ready : (w : World) (keys : List Key) → part (record w { ready = keys }) ≡ part w)
    (tenants : (w : World) (m : ByName Tenant) → part (record w { tenants = m }) ≡ part w) where
  made_keeps : (ns : Name) (evaluation : Tenant → Evaluation) (x : World) → part (make ns evaluation x) ≡ part x
  made_keeps ns evaluation x = by (get x.tenants ns)
    where
      by : (o : Option Tenant) → part (option_map_or (λ t. make_in ns (evaluation t) x t) o x) ≡ part x
      by None = refl
      by (Some t) = queue_keeps part ready (put_tenant ns (with_evaluation (evaluation t) t) x) (ns, t.evaluation_number + 1)
          ∙ tenants x (insert x.tenants ns (with_evaluation (evaluation t) t))

  renewed_keeps : (w : World) (losses : List (Name × Allocation)) (x : World) → part (fold (renewal Trigger.NodeUpdate w) x losses) ≡ part x
  renewed_keeps w [] x = refl
  renewed_keeps w (loss ∷ losses) x = renewed_keeps w losses (renewal Trigger.NodeUpdate w x loss)
      ∙ made_keeps loss.0 (λ t. evaluation_for t loss.1 Trigger.NodeUpdate) x

-- ---- tables and lists with changes over them

module _ {K X : Type 0} {R : K → K → Ordering} (o : IsTotalOrder R) (same : IsAntisymmetric R) where
  -- all rows of another table that has one at each of the keys
  over_all : (m n : FinMap R X) → ((k : K) → is_some (get m k) ≡ true → is_some (get n k) ≡ true) → over m (table_of (λ _ x. Some x) n) ≡ n
  over_all m n there = same_map o same _ _ (λ q. get-over o same m _ q
      ∙ ap (λ r. unwrap_or r (get m q)) (get-table_of o same (λ _ x. Some x) n q) ∙ by q (get m q) refl (get n q) refl)
    where
      by : (q : K) (a : Option X) → get m q ≡ a → (b : Option X) → get n q ≡ b → unwrap_or (option_map (λ x. Some x) b) a ≡ b
      by q None is None none = refl
      by q (Some x) is None none = not_both (there q (ap is_some is)) (ap is_some none)
      by q a is (Some y) some = refl

  -- each row changed
  over_each : (f : X → X) (m : FinMap R X) → over m (table_of (λ _ x. Some (f x)) m) ≡ map_rows (λ _ x. f x) m
  over_each f m = same_map o same _ _ (λ q. get-over o same m _ q
      ∙ ap (λ r. unwrap_or r (get m q)) (get-table_of o same (λ _ x. Some (f x)) m q) ∙ by (get m q) ∙ sym (get-map_rows o same (λ _ x. f x) m q))
    where
      by : (a : Option X) → unwrap_or (option_map (λ x. Some (f x)) a) a ≡ option_map f a
      by None = refl
      by (Some x) = refl

none_left : (base keys : List Key) → ((k : Key) → has_key keys k ≡ true → has_key base k ≡ true)
    → filter (λ key. not (has_key base key)) keys ≡ []
none_left base [] inside = refl
none_left base (key ∷ keys) inside =
    ap (λ b. cond (not b) (key ∷ filter (λ key. not (has_key base key)) keys) (filter (λ key. not (has_key base key)) keys))
    (inside key (ap (λ b. b || has_key keys key) (same_key_refl key)))
    ∙ none_left base keys (λ k is. inside k (ap (λ b. same_key k key || b) is ∙ or-true (same_key k key)))

-- ---- the change

module _ (w : World) (pool name : Name) (p : PoolRows) (at : get w.pools pool ≡ Some p) (row : Node) where
  abbrev pub down_row : Node
  down_row = record row { status = NodeStatus.Down }

  abbrev pub after : Name → Tenant → Tenant
  after ns t = renewed_in (losses pool name w) ns (lost_rows pool name t)

  abbrev pub with_down : World
  with_down = put_pool pool (with_node name down_row p) w

  abbrev pub then_world : World
  then_world = go_down pool name with_down

  pub tenants_then : (ns : Name) → get then_world.tenants ns ≡ option_map (after ns) (get w.tenants ns)
  unfolding go_down
  tenants_then ns = renewed_tenants w (losses pool name w) (lose pool name with_down) ns
      ∙ ap (option_map (renewed_in (losses pool name w) ns)) (lost_tenant pool name with_down ns) ∙ by (get w.tenants ns)
    where
      by : (o : Option Tenant) → option_map (renewed_in (losses pool name w) ns) (option_map (lost_rows pool name) o) ≡ option_map (after ns) o
      by None = refl
      by (Some t) = refl

  then_keeps : {A : Type 0} (part : World → A) → ((w : World) (keys : List Key) → part (record w { ready = keys }) ≡ part w) →
      ((w : World) (m : ByName Tenant) → part (record w { tenants = m }) ≡ part w) → part then_world ≡ part with_down
  unfolding go_down
  then_keeps part ready tenants = renewed_keeps part ready tenants w (losses pool name w) (lose pool name with_down)
      ∙ tenants with_down (lose pool name with_down).tenants

  abbrev pub whole : Name → Tenant → TenantChange
  whole ns t = record {
    evaluation_number = (after ns t).evaluation_number;
    allocation_number = t.allocation_number;
    jobs = empty;
    evaluations = table_of (λ _ e. Some e) (after ns t).evaluations;
    allocations = table_of (λ _ a. Some (lost pool name a)) t.allocations;
    workers = empty;
  }

  abbrev pub nodes : PoolChange
  nodes = record { nodes = insert empty name (Some down_row) }

  abbrev pub change : Change
  change = record {
    tenants = table_of (λ ns t. Some (whole ns t)) w.tenants;
    pools = insert empty pool (Some nodes);
    quotas = empty;
    ready = record { taken = w.ready; added = then_world.ready };
    plans = no_entries;
    blocked = no_entries;
  }

  whole_is : (ns : Name) (t : Tenant) → changed_tenant t (whole ns t) ≡ after ns t
  whole_is ns t = (λ i. record t {
    evaluation_number = (after ns t).evaluation_number;
    allocation_number = t.allocation_number;
    jobs = over-empty names one_name t.jobs i;
    evaluations = over_all numbers one_number t.evaluations (after ns t).evaluations
        (λ n is. renewed_there (losses pool name w) ns (lost_rows pool name t) n is) i;
    allocations = over_each numbers one_number (lost pool name) t.allocations i;
    workers = over-empty numbers one_number t.workers i;
  }) ∙ sym (renewed_alone (losses pool name w) ns (lost_rows pool name t))

  slot_at : (ns : Name) (t : Tenant) → get w.tenants ns ≡ Some t → row_at change.tenants ns ≡ Some (whole ns t)
  slot_at ns t is = ap flat (get-table_of names one_name (λ ns t. Some (whole ns t)) w.tenants ns ∙ ap (option_map (λ t. Some (whole ns t))) is)

  tenants_are : (changed w change).tenants ≡ then_world.tenants
  unfolding changed
  tenants_are = same_map names one_name _ _ (λ ns. get-map_rows names one_name (λ ns t. perhaps changed_tenant (row_at change.tenants ns) t) w.tenants ns
      ∙ by ns (get w.tenants ns) refl ∙ sym (tenants_then ns))
    where
      by : (ns : Name) (o : Option Tenant) → get w.tenants ns ≡ o →
          option_map (perhaps changed_tenant (row_at change.tenants ns)) o ≡ option_map (after ns) o
      by ns None is = refl
      by ns (Some t) is = ap Some (ap (λ x. perhaps changed_tenant x t) (slot_at ns t is) ∙ whole_is ns t)

  pool_put : changed_pool p nodes ≡ with_node name down_row p
  pool_put = λ i. record p {
    nodes = (over-put names one_name p.nodes empty name down_row ∙ ap (λ m. insert m name down_row) (over-empty names one_name p.nodes)) i;
  }

  pools_are : (changed w change).pools ≡ then_world.pools
  unfolding changed
  pools_are = same_map names one_name _ _ (λ q. get-map_rows names one_name (λ name p. perhaps changed_pool (row_at change.pools name) p) w.pools q
      ∙ ap (λ r. option_map (perhaps changed_pool (flat r)) (get w.pools q)) (get-insert names empty pool (Some nodes) q)
      ∙ by q (same_name q pool) refl ∙ sym (get-insert names w.pools pool (with_node name down_row p) q))
      ∙ sym (then_keeps (λ w. w.pools) (λ w keys. refl) (λ w m. refl))
    where
      idle : (o : Option PoolRows) → option_map (perhaps changed_pool None) o ≡ o
      idle None = refl
      idle (Some p) = refl

      by : (q : Name) (b : Bool) → same_name q pool ≡ b →
          option_map (perhaps changed_pool (flat (cond b (Some (Some nodes)) (get (empty {X = Option PoolChange} {R = name_cmp}) q)))) (get w.pools q)
          ≡ cond b (Some (with_node name down_row p)) (get w.pools q)
      by q true e = ap (option_map (perhaps changed_pool (Some nodes))) (ap (get w.pools) (tied one_name q pool e) ∙ at) ∙ ap Some pool_put
      by q false e = ap (λ r. option_map (perhaps changed_pool (flat r)) (get w.pools q)) (get-empty name_cmp q) ∙ idle (get w.pools q)

  quotas_are : (changed w change).quotas ≡ then_world.quotas
  unfolding changed
  quotas_are = map_rows_idle names one_name (λ name q. perhaps changed_quota (row_at change.quotas name) q) w.quotas
      (λ name q at. ap (λ r. perhaps changed_quota (flat r) q) (get-empty name_cmp name))
      ∙ sym (then_keeps (λ w. w.quotas) (λ w keys. refl) (λ w m. refl))

  ready_are : (changed w change).ready ≡ then_world.ready
  unfolding changed
  ready_are = ap (λ keys. keys ++ then_world.ready) (none_left w.ready w.ready (λ k is. is))

  plans_are : (changed w change).plans ≡ then_world.plans
  unfolding changed
  plans_are = list_stays w.plans ∙ sym (then_keeps (λ w. w.plans) (λ w keys. refl) (λ w m. refl))

  blocked_are : (changed w change).blocked ≡ then_world.blocked
  unfolding changed
  blocked_are = list_stays w.blocked ∙ sym (then_keeps (λ w. w.blocked) (λ w keys. refl) (λ w m. refl))

  pub changed_is : changed w change ≡ then_world
  changed_is = λ i. record {
    tenants = tenants_are i;
    pools = pools_are i;
    quotas = quotas_are i;
    ready = ready_are i;
    plans = plans_are i;
    blocked = blocked_are i;
  }

  pub node_then : node_at (changed w change) pool name ≡ Some down_row
  node_then = ap (λ x. node_at x pool name) changed_is
      ∙ ap (λ pools. option_and_then (λ (p : PoolRows). get p.nodes name) (get pools pool)) (then_keeps (λ w. w.pools) (λ w keys. refl) (λ w m. refl))
      ∙ ap (option_and_then (λ (p : PoolRows). get p.nodes name)) (get_put names one_name w.pools pool (with_node name down_row p))
      ∙ get_put names one_name p.nodes name down_row
