-- The nodes that Apply names are none of those on which it makes allocations.
use Rattle.std.specs.Prelude.{◌≡◌, ◌≢◌, ◌⊎◌, ℕ, suc, ◌+◌, Bool, true, false, cond, ◌||◌, List, [], ◌∷◌, ◌++◌}
use Rattle.std.specs.Prelude.{Option, Some, None, filter, fold, map, not, slice_get}
use Rattle.std.proofs.Common.{refl, sym, ap, subst, ◌∙◌, inl, inr}
use Rattle.std.specs.FinMap.{get}
use Rattle.std.specs.Option.{option_map_or}
use Rattle.std.proofs.lemmas.Bool.{or_right}
use Rattle.ns_types.specs.declared.allocation.Allocation.{Allocation}
use Rattle.ns_types.specs.declared.evaluation.Evaluation.{Evaluation}
use Rattle.ns_types.specs.declared.job.Job.{Job}
use Rattle.ns_types.specs.declared.plan.Placement.{Placement}
use Rattle.ns_types.specs.declared.reply.Content.TheVariants as Content
use Rattle.ns_types.specs.declared.reply.Reply.{Reply}
use Rattle.ns_types.specs.declared.snapshot.PoolNode.{PoolNode}
use Rattle.ns_types.specs.declared.snapshot.Snapshot.{Snapshot}
use Rattle.ns_types.specs.Placing.Plan.{plan}
use Rattle.ns_types.specs.Settling.Settle.{settle}
use Rattle.ns_types.specs.State.Lists.{Each, first_each}
use Rattle.ns_types.specs.State.Names.{Name, has_name, has_number, same_name, same_number}
use Rattle.ns_types.specs.State.Rows.{State, Tenant}
use Rattle.ns_types.specs.Validity.{IsValid}
use Rattle.ns_types.specs.Working.Commit.{Commit, begun, commit, decide, done, names_in, node_name, nodes_in, numbers_after, refused_whole, still_stands}
use Rattle.ns_types.specs.Working.Worker.{Worker}
use Rattle.ns_types.proofs.Elements.{each_append, each_both, each_first, each_mapped, each_passes}
use Rattle.ns_types.proofs.Lists.{each, each_map, not_both}
use Rattle.ns_types.proofs.Named.{other_number, same_name_is, same_number_refl}
use Rattle.ns_types.proofs.Tests.{either_of, is_no, or_none, same_Some}
use Rattle.ns_audit.proofs.ValidEvaluations.Pairs.{Pairs, pairs_still}
use Rattle.ns_laws.specs.Surplus as law
use Rattle.ns_laws.proofs.Plans.ApplyStep.{after_apply, marked}
use Rattle.ns_laws.proofs.Plans.Deciding.{committing, decide_either, dropping}
use Rattle.ns_laws.proofs.Plans.ApplyRows.{Ends, decided, dropped_is, each_slice, ends, first_number, has_or, later_number, made_for}
use Rattle.ns_laws.proofs.Plans.ApplyRows.{made_is, no_placements, placed, sorted_has, stopped}
use Rattle.ns_laws.proofs.Plans.Planning.{places_on_fit_nodes}
use Rattle.ns_laws.proofs.Plans.Surplus.{no_one}

-- ---- lists

each_number : {X : Type 0} (P : ℕ → Type 0) (xs : List X) (n : ℕ) → ((i : ℕ) (x : X) → slice_get xs i ≡ Some x → P (n + (i + 1))) → Each P (numbers_after n xs)
each_number P [] n h = tt
each_number P (x ∷ xs) n h = (subst P (first_number n) (h 0 x refl), each_number P xs (n + 1) (λ i y e. subst P (later_number n i) (h (suc i) y e)))

-- no number is in the list twice
abbrev Once : List ℕ → Type 0
Once = Pairs (λ x y. x ≢ y)

first_once : (xs : List ℕ) → Once (first_each same_number xs)
first_once [] = tt
first_once (x ∷ xs) = (
  each_map (λ y e same. not_both (ap (same_number x) (sym same) ∙ same_number_refl x) (is_no _ e))
      (filter (λ y. not (same_number x y)) (first_each same_number xs)) (each_passes (λ y. not (same_number x y)) (first_each same_number xs)),
  pairs_still (λ x y. x ≢ y) (λ y. not (same_number x y)) (first_each same_number xs) (first_once xs),
)

-- ---- no node is both committed and dropped

module _ (kept : Snapshot) (ps : List Placement) (P : ℕ → Type 0) where
  -- so far; and the nodes that come are neither
  record Parts (ks : List ℕ) (c : Commit) : Type 0 where
    apart : (n : ℕ) → has_number c.committed n ≡ true → has_number c.dropped n ≡ true → ⊥
    known : Each P c.dropped
    ahead : Each (λ k. (has_number c.committed k ≡ false) × (has_number c.dropped k ≡ false)) ks

  decide_parts : (c : Commit) (k : ℕ) (ks : List ℕ) → Each (λ n. k ≢ n) ks → P k → Parts (k ∷ ks) c → Parts ks (decide kept ps c k)
  decide_parts c k ks differ here h = decide_either kept ps (Parts ks) c k (λ _. commits) drops
    where
      not_added : (xs : List ℕ) (n : ℕ) → k ≢ n → has_number xs n ≡ false → has_number (xs ++ k ∷ []) n ≡ false
      not_added xs n other e = has_or xs (k ∷ []) n ∙ (λ i. e i || (other_number n k (λ same. other (sym same)) i || false))

      of_added : (xs : List ℕ) (n : ℕ) → has_number (xs ++ k ∷ []) n ≡ true → (has_number xs n ≡ true) ⊎ (same_number n k ≡ true)
      of_added xs n e = split (either_of (has_number xs n) (has_number (k ∷ []) n) (sym (has_or xs (k ∷ []) n) ∙ e))
        where
          split : (has_number xs n ≡ true) ⊎ (has_number (k ∷ []) n ≡ true) → (has_number xs n ≡ true) ⊎ (same_number n k ≡ true)
          split (inl e) = inl e
          split (inr e) = inr (sym (or_none (same_number n k)) ∙ e)

      not_it : (xs : List ℕ) (n : ℕ) → has_number xs k ≡ false → same_number n k ≡ true → has_number xs n ≡ true → ⊥
      not_it xs n out same has = not_both same (other_number n k (λ e. not_both (ap (has_number xs) (sym e) ∙ has) out))

      apart_yes : (n : ℕ) → (has_number c.committed n ≡ true) ⊎ (same_number n k ≡ true) → has_number c.dropped n ≡ true → ⊥
      apart_yes n (inl e) drops = h.apart n e drops
      apart_yes n (inr same) drops = not_it c.dropped n h.ahead.0.1 same drops

      apart_no : (n : ℕ) → has_number c.committed n ≡ true → (has_number c.dropped n ≡ true) ⊎ (same_number n k ≡ true) → ⊥
      apart_no n commits (inl e) = h.apart n commits e
      apart_no n commits (inr same) = not_it c.committed n h.ahead.0.0 same commits

      commits : Parts ks (committing kept ps c k)
      commits = record {
        apart = λ n commits drops. apart_yes n (of_added c.committed n commits) drops;
        known = h.known;
        ahead = each_map (λ m both. (not_added c.committed m both.0 both.1.0, both.1.1)) ks (each_both (λ n. k ≢ n) _ ks differ h.ahead.1);
      }

      drops : Parts ks (dropping kept ps c k)
      drops = record {
        apart = λ n commits drops. apart_no n commits (of_added c.dropped n drops);
        known = each_append P c.dropped (k ∷ []) h.known (here, tt);
        ahead = each_map (λ m both. (both.1.0, not_added c.dropped m both.0 both.1.1)) ks (each_both (λ n. k ≢ n) _ ks differ h.ahead.1);
      }

  all_parts : (ks : List ℕ) (c : Commit) → Once ks → Each P ks → Parts ks c → Parts [] (fold (decide kept ps) c ks)
  all_parts [] c once are h = h
  all_parts (k ∷ ks) c once are h = all_parts ks (decide kept ps c k) once.1 are.1 (decide_parts c k ks once.0 are.0 h)

-- the node at that place of the snapshot
abbrev IsThere : Snapshot → ℕ → Type 0
IsThere kept k = (node : PoolNode) × (slice_get kept.nodes k ≡ Some node)

-- a name is of one of the nodes
record IsNameOf (kept : Snapshot) (ks : List ℕ) (q : Name) : Type 0 where
  place : ℕ
  has : has_number ks place ≡ true
  node : PoolNode
  is_node : slice_get kept.nodes place ≡ Some node
  same : q ≡ node.name

name_of : (kept : Snapshot) (ks : List ℕ) (q : Name) → Each (IsThere kept) ks → has_name (map (node_name kept) ks) q ≡ true → IsNameOf kept ks q
name_of kept [] q h e = not_both e refl
name_of kept (k ∷ ks) q h e = by (either_of (same_name q (node_name kept k)) _ e) (name_of kept ks q h.1)
  where
    by : (same_name q (node_name kept k) ≡ true) ⊎ (has_name (map (node_name kept) ks) q ≡ true) →
        (has_name (map (node_name kept) ks) q ≡ true → IsNameOf kept ks q)
        → IsNameOf kept (k ∷ ks) q
    by (inl same) later = record {
      place = k;
      has = ap (λ b. b || has_number ks k) (same_number_refl k);
      node = h.0.0;
      is_node = h.0.1;
      same = same_name_is q (node_name kept k) same ∙ ap (λ o. option_map_or (λ (n : PoolNode). n.name) o []) h.0.1;
    }
    by (inr e) later = let r = later e in record {
      place = r.place;
      has = or_right (same_number r.place k) _ r.has;
      node = r.node;
      is_node = r.is_node;
      same = r.same;
    }

-- ---- what Apply makes

abbrev NoneOn : List Name → Tenant → ℕ → Type 0
NoneOn dropped now n = (row : Allocation) → get now.allocations n ≡ Some row → has_name dropped row.node ≡ false

module _ (s : State) (valid : IsValid s) (number : ℕ) (ns : Name) (before : Tenant) (is : get s.world.tenants ns ≡ Some before)
    (worker : Worker) (kept : Snapshot) (same_namespace : kept.namespace ≡ ns) (e : Evaluation)
    (nodes_once : (i j : ℕ) (m n : PoolNode) → slice_get kept.nodes i ≡ Some m → slice_get kept.nodes j ≡ Some n → m.name ≡ n.name → i ≡ j) where
  abbrev ps : List Placement
  ps = (plan kept).placing.placements

  abbrev out : Commit
  out = decided s valid number ns before is worker kept same_namespace e

  abbrev new : List Placement
  new = placed s valid number ns before is worker kept same_namespace e

  each_there : Each (IsThere kept) (nodes_in (plan kept).placing.placements)
  each_there = each_first (IsThere kept) same_number (map (λ p. p.node) ps) (each_mapped (IsThere kept) (λ (p : Placement). p.node) ps
      (each_map (λ p h. (h.holds.node, h.holds.is_node)) ps (places_on_fit_nodes kept)))

  parts : Parts kept ps (IsThere kept) [] out
  parts = all_parts kept ps (IsThere kept) (nodes_in ps) (begun (stopped s valid number ns before is worker kept same_namespace e))
      (first_once (map (λ p. p.node) ps)) each_there (record {
        apart = λ n commits _. not_both commits refl;
        known = tt;
        ahead = each _ (λ k. (refl, refl)) (nodes_in ps);
      })

  none_at : (j : Job) (has_job : kept.job ≡ Some j) (now : Tenant) → Ends s valid number ns before is worker kept same_namespace e now →
      (i : ℕ) (p : Placement) → slice_get new i ≡ Some p → NoneOn (names_in kept out.dropped) now (before.allocation_number + (i + 1))
  none_at j has_job now h i p at row is_row = no_one (has_name (names_in kept out.dropped) row.node) (λ has.
      let m = made_for s valid number ns before is worker kept same_namespace e j has_job now h i p at in
      let same = same_Some m.row row (sym m.is_row ∙ is_row) in
      let f = name_of kept out.dropped m.node.name parts.known (sym (sorted_has (map (node_name kept) out.dropped) m.node.name)
      ∙ ap (has_name (names_in kept out.dropped)) (sym m.on_node ∙ ap (λ (a : Allocation). a.node) same) ∙ has) in
      let place = nodes_once p.node f.place m.node f.node m.is_node f.is_node f.same in
      parts.apart f.place (ap (has_number out.committed) (sym place) ∙ committed) f.has)
    where
      committed : has_number out.committed p.node ≡ true
      committed = each_slice (λ p. has_number out.committed p.node ≡ true) new (each_passes (λ p. has_number out.committed p.node) ps) i p at

  none_made : (now : Tenant) → Ends s valid number ns before is worker kept same_namespace e now →
      Each (NoneOn (names_in kept out.dropped) now) (numbers_after before.allocation_number new)
  none_made now h = by kept.job refl
    where
      by : (o : Option Job) → kept.job ≡ o → Each (NoneOn (names_in kept out.dropped) now) (numbers_after before.allocation_number new)
      by None none = subst (λ xs. Each (NoneOn (names_in kept out.dropped) now) (numbers_after before.allocation_number xs))
          (sym (no_placements s valid number ns before is worker kept same_namespace e none)) tt
      by (Some j) has_job = each_number (NoneOn (names_in kept out.dropped) now) new before.allocation_number (none_at j has_job now h)

  commits_none : (made : List ℕ) (names : List Name) (now : Tenant) → (commit kept (plan kept) s.world before).made ≡ made →
      (commit kept (plan kept) s.world before).dropped ≡ names →
      get (settle s.world (marked number ns worker e (commit kept (plan kept) s.world before))).tenants ns ≡ Some now → Each (NoneOn names now) made
  unfolding commit
  commits_none made names now same same_names there = by (still_stands kept.job (get before.jobs kept.evaluation.job)) same same_names there
    where
      by : (b : Bool) → (cond b (done kept (plan kept) s.world before) (refused_whole kept (plan kept) s.world)).made ≡ made
          → (cond b (done kept (plan kept) s.world before) (refused_whole kept (plan kept) s.world)).dropped ≡ names
          → get (settle s.world (marked number ns worker e (cond b (done kept (plan kept) s.world before)
          (refused_whole kept (plan kept) s.world)))).tenants ns ≡ Some now
          → Each (NoneOn names now) made
      by true same same_names there = subst (Each (NoneOn names now)) same
          (subst (λ x. Each (NoneOn x now) (numbers_after before.allocation_number new)) same_names
          (none_made now (ends s valid number ns before is worker kept same_namespace e now there)))
      by false same same_names there = subst (Each (NoneOn names now)) same tt

-- what the law says of what an Apply says and leaves
NamesUndone : State → ℕ → Name → Reply → State → Type 0
NamesUndone s number ns reply t = (made : List ℕ) (dropped : List Name) (now : Tenant) → reply.content ≡ Content.Applied made dropped →
    get t.world.tenants ns ≡ Some now
    → Each (NoneOn dropped now) made

pub names_undone_only : law.NamesUndoneOnly
unfolding NamesUndone
names_undone_only s t number ns reply made dropped now valid is content_is is_now =
    after_apply number ns s t reply (NamesUndone s number ns) is
    (λ u w e k there is_worker keeps made dropped now content_is now_there.
    let sound = ((valid.world.tenant ns u there).worker number w is_worker).snapshot k keeps in
    commits_none s valid number ns u there w k sound.namespace e sound.nodes_once made dropped now
    (made_is (commit k (plan k) s.world u).made made (commit k (plan k) s.world u).dropped dropped content_is)
    (dropped_is (commit k (plan k) s.world u).made made (commit k (plan k) s.world u).dropped dropped content_is) now_there)
    made dropped now content_is is_now
