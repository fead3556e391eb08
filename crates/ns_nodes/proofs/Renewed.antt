-- Evaluations of the jobs that lose an allocation with a node.
use Rattle.std.specs.Prelude.{◌≡◌, ℕ, ◌+◌, ◌<◌, ◌^◌, true, false, cond, List, [], ◌∷◌, ◌++◌, Option, Some, None, filter, flat_map, fold}
use Rattle.std.specs.Prelude.{length, map, option_map}
use Rattle.std.proofs.Common.{refl, sym, ap, subst, ◌∙◌}
use Rattle.std.proofs.lemmas.List.{length-map, map-append}
use Rattle.std.specs.FinMap.{entries, from_entries, get, get-from_entries}
use Rattle.ns_types.specs.declared.allocation.Allocation.{Allocation}
use Rattle.ns_types.specs.declared.evaluation.Trigger.TheVariants as Trigger
use Rattle.ns_types.specs.Asking.Nodes.{go_down, losing_jobs, losses, lose, lost}
use Rattle.ns_types.specs.State.Lists.{Each}
use Rattle.ns_types.specs.State.Names.{Name, Key, name_cmp, same_name}
use Rattle.ns_types.specs.State.Rows.{World, Tenant, is_live_on}
use Rattle.ns_types.specs.State.Tables.{map_rows}
use Rattle.ns_types.proofs.Elements.{each_flat, each_mapped, each_still, found_of, map_map}
use Rattle.ns_types.proofs.Lists.{each, filter_all, filter_flat_map, filter_none}
use Rattle.ns_types.proofs.Named.{names, numbers, one_name, one_number, same_name_refl}
use Rattle.ns_types.proofs.TableRows.{filter_one_row, turned}
use Rattle.ns_types.proofs.Tables.{each_row, get-map_rows, none_of_any}
use Rattle.ns_types.proofs.Tests.{not_Some, same_Some}
use Rattle.ns_renewal.specs.Renewing.{HasNumbers, SameJobs, keys_in, renewed}
use Rattle.ns_renewal.proofs.Made.{IsThere, all_renewed, renewal}
use Rattle.ns_nodes.specs.Losing.{losing_keys, losing_keys_in, losing_rows, numbers_pass, numbers_pass_in}
use Rattle.ns_nodes.proofs.Losses.{jobs_are}
use Rattle.ns_types.proofs.Bounds.{within_bound}

-- ---- those of a node that goes down

map_flat : {A B C : Type 0} (f : B → C) (g : A → List B) (xs : List A) → map f (flat_map g xs) ≡ flat_map (λ x. map f (g x)) xs
map_flat f g [] = refl
map_flat f g (x ∷ xs) = map-append f (g x) (flat_map g xs) ∙ ap (λ l. map f (g x) ++ l) (map_flat f g xs)

module _ (pool node : Name) where
  abbrev pub rows_of : Name × Tenant → List (Name × (ℕ × Allocation))
  rows_of e = map (λ a. (e.0, a)) (losing_rows pool node e.1)

  abbrev pub all_rows : World → List (Name × (ℕ × Allocation))
  all_rows w = flat_map rows_of (entries w.tenants)

  pub losses_are : (w : World) → losses pool node w ≡ map (λ e. (e.0, e.1.1)) (all_rows w)
  losses_are w = ap (λ f. flat_map f (entries w.tenants)) (λ i e. (ap (map (λ a. (e.0, a))) (jobs_are pool node e.1)
      ∙ map_map (λ a. (e.0, a)) (λ a. a.1) (losing_rows pool node e.1)
      ∙ sym (map_map (λ (r : Name × (ℕ × Allocation)). (r.0, r.1.1)) (λ a. (e.0, a)) (losing_rows pool node e.1))) i)
      ∙ sym (map_flat (λ (r : Name × (ℕ × Allocation)). (r.0, r.1.1)) rows_of (entries w.tenants))

  pub keys_of : (w : World) → losing_keys pool node w ≡ map (λ e. (e.0, e.1.0)) (all_rows w)
  keys_of w = ap (λ f. flat_map f (entries w.tenants)) (λ i e.
      sym (map_map (λ (r : Name × (ℕ × Allocation)). (r.0, r.1.0)) (λ a. (e.0, a)) (losing_rows pool node e.1)) i)
      ∙ sym (map_flat (λ (r : Name × (ℕ × Allocation)). (r.0, r.1.0)) rows_of (entries w.tenants))

  were_there : (w : World) → Each (IsThere w) (all_rows w)
  were_there w = each_flat (IsThere w) rows_of (entries w.tenants)
      (each_row names one_name (λ ns t. Each (IsThere w) (rows_of (ns, t))) w.tenants (λ ns t at.
      each_mapped (IsThere w) (λ a. (ns, a)) (losing_rows pool node t) (each_mapped (λ a. IsThere w (ns, a)) (λ e. e.1)
      (entries (from_entries {R = name_cmp} (jobs t))) (each_row names one_name (λ job a. IsThere w (ns, a)) (from_entries {R = name_cmp} (jobs t))
      (λ job a is. found_of name_cmp (λ a. IsThere w (ns, a)) (jobs t) job a (each_job ns t at) (sym (get-from_entries names (jobs t) job) ∙ is))))))
    where
      jobs : Tenant → List (Name × (ℕ × Allocation))
      jobs t = map (λ a. (a.1.job, a)) (filter (λ a. is_live_on pool node a.1) (entries t.allocations))

      each_job : (ns : Name) (t : Tenant) → get w.tenants ns ≡ Some t → Each (λ (e : Name × (ℕ × Allocation)). IsThere w (ns, e.1)) (jobs t)
      each_job ns t at = each_mapped (λ (e : Name × (ℕ × Allocation)). IsThere w (ns, e.1)) (λ a. (a.1.job, a))
          (filter (λ a. is_live_on pool node a.1) (entries t.allocations))
          (each_still (λ a. IsThere w (ns, a)) (λ a. is_live_on pool node a.1) (entries t.allocations)
          (each_row numbers one_number (λ n a. IsThere w (ns, (n, a))) t.allocations (λ n a row. (t, at, row))))

  pub lost_tenant : (x : World) (ns : Name) → get (lose pool node x).tenants ns
      ≡ option_map (λ (t : Tenant). record t { allocations = map_rows (λ _ a. lost pool node a) t.allocations }) (get x.tenants ns)
  lost_tenant x ns = get-map_rows names one_name (λ _ (t : Tenant). record t { allocations = map_rows (λ _ a. lost pool node a) t.allocations }) x.tenants ns

  -- where the namespaces were not changed before
  pub goes_down : (w x : World) → x.tenants ≡ w.tenants → go_down pool node x ≡ fold (renewed Trigger.NodeUpdate w) (lose pool node x) (losing_keys pool node w)
  unfolding go_down
  goes_down w x same = ap (λ m. fold (renewal Trigger.NodeUpdate w) (lose pool node x)
      (flat_map (λ e. map (λ a. (e.0, a)) (losing_jobs pool node e.1)) (entries m))) same
      ∙ ap (fold (renewal Trigger.NodeUpdate w) (lose pool node x)) (losses_are w)
      ∙ all_renewed Trigger.NodeUpdate w (all_rows w) (lose pool node x) jobs (were_there w)
      ∙ ap (fold (renewed Trigger.NodeUpdate w) (lose pool node x)) (sym (keys_of w))
    where
      jobs : SameJobs w (lose pool node x)
      jobs ns = ap (option_map (λ (t : Tenant). t.jobs)) (lost_tenant x ns) ∙ by (get x.tenants ns)
          ∙ ap (λ m. option_map (λ (t : Tenant). t.jobs) (get m ns)) same
        where
          by : (o : Option Tenant) → option_map (λ (t : Tenant). t.jobs)
              (option_map (λ (t : Tenant). record t { allocations = map_rows (λ _ a. lost pool node a) t.allocations }) o)
              ≡ option_map (λ (t : Tenant). t.jobs) o
          by None = refl
          by (Some t) = refl

module _ (pool node : Name) (w : World) where
  -- a namespace has as many keys as losing jobs
  pub keys_counted : (ns : Name) (t : Tenant) → get w.tenants ns ≡ Some t → keys_in ns (losing_keys pool node w) ≡ length (losing_jobs pool node t)
  keys_counted ns t at = ap length (filter_flat_map (λ (e : Name × Tenant). same_name ns e.0) (λ (key : Key). same_name ns key.0)
      (λ e. losing_keys_in pool node e.0 e.1) (entries w.tenants) (each _ (λ e. (all_own e, none_own e)) (entries w.tenants))
      ∙ ap (flat_map (λ e. losing_keys_in pool node e.0 e.1)) (filter_one_row names one_name (λ k _. same_name ns k) w.tenants ns t at
      (λ q y _ other. turned names q ns other)
      ∙ ap (λ b. cond b ((ns, t) ∷ []) []) (same_name_refl ns)))
      ∙ ap length (append_nothing (losing_keys_in pool node ns t))
      ∙ length-map (losing_rows pool node t) (λ a. (ns, a.0))
      ∙ sym (length-map (losing_rows pool node t) (λ a. a.1)) ∙ ap length (sym (jobs_are pool node t))
    where
      append_nothing : {A : Type 0} (xs : List A) → xs ++ [] ≡ xs
      append_nothing [] = refl
      append_nothing (x ∷ xs) = ap (λ l. x ∷ l) (append_nothing xs)

      all_own : (e : Name × Tenant) → same_name ns e.0 ≡ true →
          filter (λ (key : Key). same_name ns key.0) (losing_keys_in pool node e.0 e.1) ≡ losing_keys_in pool node e.0 e.1
      all_own e own = filter_all (λ (key : Key). same_name ns key.0) (losing_keys_in pool node e.0 e.1)
          (each_mapped (λ (key : Key). same_name ns key.0 ≡ true) (λ a. (e.0, a.0)) (losing_rows pool node e.1) (each _ (λ _. own) (losing_rows pool node e.1)))

      none_own : (e : Name × Tenant) → same_name ns e.0 ≡ false → filter (λ (key : Key). same_name ns key.0) (losing_keys_in pool node e.0 e.1) ≡ []
      none_own e other = filter_none (λ (key : Key). same_name ns key.0) (losing_keys_in pool node e.0 e.1)
          (each_mapped (λ (key : Key). same_name ns key.0 ≡ false) (λ a. (e.0, a.0)) (losing_rows pool node e.1) (each _ (λ _. other)
          (losing_rows pool node e.1)))

  -- where no number passes, each of them can be given
  pub numbers_left : numbers_pass pool node w ≡ false → (x : World) → x.tenants ≡ w.tenants → HasNumbers (lose pool node x) (losing_keys pool node w)
  numbers_left fits x same ns z at = by (get w.tenants ns) refl (sym (lost_tenant pool node x ns ∙ ap (λ m. option_map
      (λ (t : Tenant). record t { allocations = map_rows (λ _ a. lost pool node a) t.allocations }) (get m ns)) same) ∙ at)
    where
      by : (o : Option Tenant) → get w.tenants ns ≡ o →
          option_map (λ (t : Tenant). record t { allocations = map_rows (λ _ a. lost pool node a) t.allocations }) o ≡ Some z →
          z.evaluation_number + keys_in ns (losing_keys pool node w) < 2 ^ 64
      by None is e = absurd (not_Some z e)
      by (Some t) is e =
          let number : t.evaluation_number ≡ z.evaluation_number = ap (λ (z : Tenant). z.evaluation_number) (same_Some _ _ e) in
          let counted : keys_in ns (losing_keys pool node w) ≡ length (losing_jobs pool node t) = keys_counted ns t is in
          subst (λ n. n < 2 ^ 64) (λ i. number i + sym counted i)
          (within_bound _ (none_of_any one_name (λ _ t. numbers_pass_in pool node t) w.tenants ns t fits is))
