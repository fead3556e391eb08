-- The counters of an Apply: those that its counts and its ends pass, owner by owner.
use Rattle.std.specs.Prelude.{◌≡◌, ℕ, ◌+◌, Bool, true, false, cond, ◌&&◌, ◌||◌, if◌then◌else◌, List, [], ◌∷◌, Option, Some, None, filter, length, map, nat_lt}
use Rattle.std.proofs.Common.{refl, sym, ap, ◌∙◌, arith}
use Rattle.std.proofs.lemmas.List.Folds.{list_any-append}
use Rattle.std.specs.Cmp.{eq_by_cmp_equiv}
use Rattle.std.specs.Option.{option_and_then, option_map_or}
use Rattle.std.specs.List.{list_any}
use Rattle.std.specs.FinMap.{get}
use Rattle.keyed.proofs.Over.{any_both}
use Rattle.ns_types.specs.declared.node.Node.{Node}
use Rattle.ns_types.specs.declared.plan.Placement.{Placement}
use Rattle.ns_types.specs.declared.snapshot.Snapshot.{Snapshot}
use Rattle.ns_types.specs.State.Names.{Name, ByName, has_name, same_name}
use Rattle.ns_types.specs.State.Rows.{World, PoolRows, Tenant}
use Rattle.ns_types.specs.State.Tables.{any_row}
use Rattle.ns_types.specs.Steps.{greatest, is_past_bound, is_pool_past_bound, is_tenant_past_bound}
use Rattle.ns_types.specs.Working.Commit.{Victim, node_name}
use Rattle.ns_types.proofs.Elements.{any_map, any_same}
use Rattle.ns_types.proofs.Lists.{left_none, right_none}
use Rattle.ns_types.proofs.Named.{names, one_name}
use Rattle.ns_types.proofs.TableRows.{any_row-alike}
use Rattle.ns_types.proofs.Tables.{none_of_any}
use Rattle.ns_release.proofs.Rooms.{any_row-at}
use Rattle.ns_counters.specs.Bounds.{is_at_bound, is_last_index}
use Rattle.ns_counters.proofs.Bounded.{any_named, any_row-either, any_with, any_chosen}
use Rattle.ns_types.specs.Working.Parts.{goes_to}
use Rattle.ns_applier.specs.HeadroomApplying.{Doing, PassesByApply, apply_raise, does_something, ended_keys, evaluations_pass}
use Rattle.ns_applier.specs.HeadroomApplying.{losing_in, own_passes, own_passes_in, place_passes, place_passes_on, places_on, stop_passes, victim_key}
use Rattle.ns_applier.specs.Passing.{end_passes}
use Rattle.ns_applier.specs.Raising.{places_pass, raises_pass}
use Rattle.ns_applier.proofs.Ended.{and_moved}
use Rattle.ns_applier.proofs.Raised.{counts_pass}
use Rattle.std.proofs.Math.Bool.{and-false}

-- the row at a name, where it passes
at_owner : {X : Type 0} (name : Name) (p : X → Bool) (m : ByName X) → any_row (λ q x. same_name q name && p x) m ≡ option_map_or p (get m name) false
at_owner name p m = any_row-alike names one_name _ (λ q x. same_name name q && p x) m (λ q x _. ap (λ b. b && p x) ((eq_by_cmp_equiv names).symm q name))
    ∙ any_row-at names one_name name (λ _ x. p x) m

no_more : (b : Bool) (n k : ℕ) → nat_lt greatest n ≡ false → nat_lt greatest (n + (if b then k else 0)) ≡ (b && nat_lt greatest (n + k))
no_more true n k within = refl
no_more false n k within = ap (nat_lt greatest) same ∙ within
  where
    same : n + 0 ≡ n
    same = omega arith

module _ (w : World) (within : is_past_bound w ≡ false) (kept : Snapshot) (d : Doing) where
  -- ---- namespaces

  number_within : (ns : Name) (t : Tenant) → get w.tenants ns ≡ Some t → nat_lt greatest t.allocation_number ≡ false
  unfolding is_past_bound
  number_within ns t is = right_none (nat_lt greatest t.index || nat_lt greatest t.evaluation_number) _
      (none_of_any one_name (λ _ t. is_tenant_past_bound t) w.tenants ns t (left_none _ _ (left_none _ _ within)) is)

  abbrev is_own : Name → Bool
  is_own ns = same_name ns kept.namespace

  abbrev has_victim : Name → Bool
  has_victim ns = has_name (map (λ (v : Victim). v.0) d.victims) ns

  abbrev own_number : Tenant → Bool
  own_number t = nat_lt greatest (t.allocation_number + length d.placed)

  one_namespace : (ns : Name) (t : Tenant) → get w.tenants ns ≡ Some t →
      (nat_lt greatest (t.evaluation_number + losing_in ns d.victims)
      || nat_lt greatest (t.allocation_number + (if is_own ns then length d.placed else 0))
      || (is_at_bound t.index && ((is_own ns && does_something d) || has_victim ns)))
      ≡ ((nat_lt greatest (t.evaluation_number + losing_in ns d.victims) || (is_own ns && own_passes_in d t)) || (has_victim ns && is_at_bound t.index))
  one_namespace ns t is = ap (λ b. nat_lt greatest (t.evaluation_number + losing_in ns d.victims) || b
      || (is_at_bound t.index && ((is_own ns && does_something d)
      || has_victim ns))) (no_more (is_own ns) t.allocation_number (length d.placed) (number_within ns t is))
      ∙ by (nat_lt greatest (t.evaluation_number + losing_in ns d.victims)) (is_own ns) (own_number t) (is_at_bound t.index) (does_something d) (has_victim ns)
    where
      by : (e o n i s v : Bool) → (e || (o && n) || (i && ((o && s) || v))) ≡ ((e || (o && (n || (i && s)))) || (v && i))
      by true o n i s v = refl
      by false true true i s v = refl
      by false true false true true v = refl
      by false true false true false true = refl
      by false true false true false false = refl
      by false true false false s true = refl
      by false true false false s false = refl
      by false false n true s true = refl
      by false false n true s false = refl
      by false false n false s true = refl
      by false false n false s false = refl

  namespaces_are : raises_pass w (apply_raise kept d)
      ≡ ((evaluations_pass w d.victims || own_passes w kept.namespace d) || list_any (λ v. is_last_index w v.0) d.victims)
  namespaces_are = any_row-alike names one_name _
      (λ ns t. (nat_lt greatest (t.evaluation_number + losing_in ns d.victims) || (is_own ns && own_passes_in d t))
      || (has_victim ns && is_at_bound t.index)) w.tenants one_namespace
      ∙ any_row-either (λ ns t. nat_lt greatest (t.evaluation_number + losing_in ns d.victims)
      || (is_own ns && own_passes_in d t)) (λ ns t. has_victim ns && is_at_bound t.index) w.tenants
      ∙ (λ i. any_row-either (λ ns t. nat_lt greatest (t.evaluation_number + losing_in ns d.victims)) (λ ns t. is_own ns
      && own_passes_in d t) w.tenants i || victims i)
      ∙ ap (λ b. (evaluations_pass w d.victims || b) || list_any (λ v. is_last_index w v.0) d.victims) (at_owner kept.namespace (own_passes_in d) w.tenants)
    where
      victims : any_row (λ ns t. has_victim ns && is_at_bound t.index) w.tenants ≡ list_any (λ v. is_last_index w v.0) d.victims
      victims = any_row-alike names one_name _ (λ ns t. list_any (λ (v : Victim). same_name ns v.0) d.victims && is_at_bound t.index) w.tenants
          (λ ns t _. ap (λ b. b && is_at_bound t.index) (any_map (same_name ns) (λ (v : Victim). v.0) d.victims))
          ∙ any_chosen (λ v. v.0) (λ t. is_at_bound t.index) w.tenants d.victims

  -- ---- nodes

  pub place_within : (pool : Name) (p : PoolRows) → get w.pools pool ≡ Some p → (name : Name) (node : Node) → get p.nodes name ≡ Some node →
      nat_lt greatest node.places ≡ false
  unfolding is_past_bound
  place_within pool p is name node at = none_of_any one_name (λ _ node. nat_lt greatest node.places) p.nodes name node
      (right_none (nat_lt greatest p.release) _ (none_of_any one_name (λ _ p. is_pool_past_bound p) w.pools pool p
      (right_none (any_row (λ _ t. is_tenant_past_bound t) w.tenants) _ (left_none _ _ within)) is)) at

  abbrev pub past_on : Name → Name → Node → Bool
  past_on pool name node = nat_lt greatest (node.places + places_on kept d.placed pool name)

  abbrev name_of : Placement → Name
  name_of p = node_name kept p.node

  -- where nothing goes to the node, its number is as it was
  pub one_node : (pool name : Name) (node : Node) → nat_lt greatest node.places ≡ false →
      past_on pool name node ≡ (list_any (goes_to kept pool name) d.placed && past_on pool name node)
  one_node pool name node none = by d.placed (list_any (goes_to kept pool name) d.placed) refl
    where
      same : node.places + 0 ≡ node.places
      same = omega arith

      empty_filter : (xs : List Placement) → list_any (goes_to kept pool name) xs ≡ false → filter (goes_to kept pool name) xs ≡ []
      empty_filter [] e = refl
      empty_filter (x ∷ xs) e = ap (λ b. cond b (x ∷ filter (goes_to kept pool name) xs) (filter (goes_to kept pool name) xs)) (left_none _ _ e)
          ∙ empty_filter xs (right_none (goes_to kept pool name x) _ e)

      by : (xs : List Placement) (b : Bool) → list_any (goes_to kept pool name) xs ≡ b →
          nat_lt greatest (node.places + length (filter (goes_to kept pool name) xs))
          ≡ (b && nat_lt greatest (node.places + length (filter (goes_to kept pool name) xs)))
      by xs true e = refl
      by xs false e = ap (λ l. nat_lt greatest (node.places + length l)) (empty_filter xs e) ∙ ap (nat_lt greatest) same ∙ none

  one_pool : (pool : Name) (p : PoolRows) → get w.pools pool ≡ Some p →
      any_row (past_on pool) p.nodes
      ≡ list_any (λ q. same_name pool kept.pool && option_map_or (past_on pool (name_of q)) (get p.nodes (name_of q)) false) d.placed
  one_pool pool p is = any_row-alike names one_name (past_on pool)
      (λ name node. list_any (λ q. same_name name (name_of q) && (same_name pool kept.pool && past_on pool name node)) d.placed) p.nodes
      (λ name node at. one_node pool name node (place_within pool p is name node at) ∙ any_with (goes_to kept pool name) (past_on pool name node) d.placed
      ∙ any_same _ _ (λ q. and_moved (same_name pool kept.pool) (same_name name (name_of q)) (past_on pool name node)) d.placed)
      ∙ any_named name_of (λ q name node. same_name pool kept.pool && past_on pool name node) p.nodes d.placed
      ∙ any_same _ _ (λ q. out (same_name pool kept.pool) (past_on pool (name_of q)) (get p.nodes (name_of q))) d.placed
    where
      out : (b : Bool) (f : Node → Bool) (o : Option Node) → option_map_or (λ node. b && f node) o false ≡ (b && option_map_or f o false)
      out b f None = sym (and-false b)
      out b f (Some node) = refl

  nodes_are : places_pass w (places_on kept d.placed) ≡ list_any (place_passes w kept d.placed) d.placed
  nodes_are = any_row-alike names one_name _
      (λ pool p. list_any (λ q. same_name pool kept.pool && option_map_or (past_on pool (name_of q)) (get p.nodes (name_of q)) false) d.placed) w.pools one_pool
      ∙ any_named (λ _. kept.pool) (λ q pool p. option_map_or (past_on pool (name_of q)) (get p.nodes (name_of q)) false) w.pools d.placed
      ∙ any_same _ (place_passes w kept d.placed) (λ q. by q (get w.pools kept.pool)) d.placed
    where
      by : (q : Placement) (o : Option PoolRows) → option_map_or (λ p. option_map_or (past_on kept.pool (name_of q)) (get p.nodes (name_of q)) false) o false
          ≡ option_map_or (place_passes_on kept d.placed (name_of q)) (option_and_then (λ p. get p.nodes (name_of q)) o) false
      by q None = refl
      by q (Some p) = refl

  -- ---- what ends

  ends_are : list_any (end_passes w w) (ended_keys kept d)
      ≡ (list_any (stop_passes w kept.namespace) d.stops || list_any (λ v. end_passes w w (victim_key v)) d.victims)
  ends_are = list_any-append (end_passes w w) (map (λ n. (kept.namespace, n)) d.stops) (map victim_key d.victims)
      ∙ (λ i. any_map (end_passes w w) (λ n. (kept.namespace, n)) d.stops i || any_map (end_passes w w) victim_key d.victims i)

pub apply_pass : PassesByApply
apply_pass w x kept d within only raises = counts_pass w x (ended_keys kept d) (apply_raise kept d) (places_on kept d.placed) within only raises
    ∙ (λ i. namespaces_are w within kept d i || nodes_are w within kept d i || ends_are w within kept d i)
    ∙ turned (evaluations_pass w d.victims
    || own_passes w kept.namespace d) (list_any (λ v. is_last_index w v.0) d.victims) (list_any (place_passes w kept d.placed) d.placed)
    (list_any (stop_passes w kept.namespace) d.stops) (list_any (λ v. end_passes w w (victim_key v)) d.victims)
    ∙ ap (λ b. evaluations_pass w d.victims || own_passes w kept.namespace d || list_any (place_passes w kept d.placed) d.placed
    || list_any (stop_passes w kept.namespace) d.stops || b)
    (sym (any_both (λ v. is_last_index w v.0) (λ v. end_passes w w (victim_key v)) d.victims))
  where
    turned : (a i p s v : Bool) → ((a || i) || p || (s || v)) ≡ (a || p || s || (i || v))
    turned true i p s v = refl
    turned false true true s v = refl
    turned false true false true v = refl
    turned false true false false v = refl
    turned false false true s v = refl
    turned false false false true v = refl
    turned false false false false v = refl
