-- What a snapshot shows of a node and of a quota: live allocations in their order, and the namespaces that name the quota.
use Rattle.std.specs.Prelude.{◌≡◌, ℕ, ◌<◌, Bool, true, false, List, Option, Some, None, filter, map}
use Rattle.std.proofs.Common.{refl, sym, ap, ◌∙◌, arith}
use Rattle.std.specs.FinMap.{get, entries, entries_sorted, from_entries, get-from_entries}
use Rattle.std.specs.List.{AllPairs, Contains}
use Rattle.std.specs.Option.{option_map_or}
use Rattle.std.specs.Ordering.{nat_cmp}
use Rattle.ns_types.specs.declared.allocation.Allocation.{Allocation}
use Rattle.ns_types.specs.State.Lists.{Each, by_number}
use Rattle.ns_types.specs.State.Names.{Name, same_name}
use Rattle.ns_types.specs.State.Rows.{World, Tenant, allocation_at}
use Rattle.ns_types.specs.State.Sums.{names_quota}
use Rattle.ns_types.specs.Working.Snapshot.{namespaces_naming, seen_live}
use Rattle.ns_types.proofs.Elements.{each_found, each_kept, each_mapped}
use Rattle.ns_types.proofs.Lists.{each, each_map, not_both}
use Rattle.ns_types.proofs.Named.{names, numbers, one_name, one_number, same_name_is, same_name_refl}
use Rattle.ns_types.proofs.Tables.{each_row}
use Rattle.ns_types.proofs.Tests.{same_Some}
use Rattle.ns_audit.proofs.ValidEvaluations.Pairs.{Pairs, pairs_mapped, pairs_of, pairs_with}
use Rattle.ns_laws.specs.Workers.{IsPlacedBefore, NamesQuota}
use Rattle.ns_laws.proofs.Elements.{contains_from, filter_has, has_row, map_has}
use Rattle.ns_laws.proofs.PairLemmas.{all_pairs}
use Rattle.ns_laws.proofs.Plans.Surplus.{rising}

-- ---- the live allocations of a node

-- by number, an earlier element has the lower number
module _ {X : Type 0} (number : X → ℕ) (xs : List X) where
  abbrev keyed : List (ℕ × X)
  keyed = map (λ x. (number x, x)) xs

  at_own : (k : ℕ) (x : X) → get (from_entries {R = nat_cmp} keyed) k ≡ Some x → k ≡ number x
  at_own k x is = each_found one_number (λ (e : ℕ × X). e.0 ≡ number e.1) keyed
      (each_mapped (λ (e : ℕ × X). e.0 ≡ number e.1) (λ x. (number x, x)) xs (each (λ x. number x ≡ number x) (λ x. refl) xs)) k x
      (sym (get-from_entries numbers keyed k) ∙ is)

  by_number_rises : Pairs (λ x y. number x < number y) (by_number number xs)
  by_number_rises = pairs_mapped (λ (e : ℕ × X). e.1) (λ x y. number x < number y) rows
      (pairs_of (λ (d e : ℕ × X). (d.0 ≡ number d.1) × (e.0 ≡ number e.1) × (d.0 < e.0)) (λ (d e : ℕ × X). number d.1 < number e.1)
      (λ d e h. let own = h.0 in let later = h.1 in let less = h.2 in omega (arith, own, later, less)) rows
      (pairs_with (λ (e : ℕ × X). e.0 ≡ number e.1) (λ (d e : ℕ × X). d.0 < e.0) rows
      (each_row numbers one_number (λ k x. k ≡ number x) (from_entries {R = nat_cmp} keyed) at_own)
      (rising rows (entries_sorted (from_entries {R = nat_cmp} keyed)))))
    where
      rows : List (ℕ × X)
      rows = entries (from_entries {R = nat_cmp} keyed)

module _ (w : World) (xs : List (Name × (ℕ × Allocation))) where
  abbrev IsAt : Name × (ℕ × Allocation) → Type 0
  IsAt a = allocation_at w (a.0, a.1.0) ≡ Some a.1.1

  abbrev placed : List (Name × (ℕ × Allocation))
  placed = by_number (λ (a : Name × (ℕ × Allocation)). a.1.1.place) xs

  pub placed_in_order : Each IsAt placed → AllPairs (IsPlacedBefore w) (map seen_live placed)
  placed_in_order at = all_pairs (IsPlacedBefore w) (map seen_live placed) (pairs_mapped seen_live (IsPlacedBefore w) placed
      (pairs_of (λ a b. IsAt a × IsAt b × (a.1.1.place < b.1.1.place)) (λ a b. IsPlacedBefore w (seen_live a) (seen_live b)) before placed
      (pairs_with IsAt (λ a b. a.1.1.place < b.1.1.place) placed at (by_number_rises (λ a. a.1.1.place) xs))))
    where
      before : (a b : Name × (ℕ × Allocation)) → IsAt a × IsAt b × (a.1.1.place < b.1.1.place) → IsPlacedBefore w (seen_live a) (seen_live b)
      before a b h first second there other =
          let less = h.2 in
          let one = ap (λ (a : Allocation). a.place) (same_Some a.1.1 first (sym h.0 ∙ there)) in
          let two = ap (λ (a : Allocation). a.place) (same_Some b.1.1 second (sym h.1 ∙ other)) in
          omega (arith, less, one, two)

-- ---- the namespaces that name a quota

module _ (w : World) (quota : Name) where
  named : (o : Option Name) → option_map_or (same_name quota) o false ≡ true → o ≡ Some quota
  named None e = not_both e refl
  named (Some other) e = ap Some (sym (same_name_is quota other e))

  abbrev names_it : Name × Tenant → Bool
  names_it t = names_quota quota t.1.namespace

  pub named_only : Each (NamesQuota w quota) (namespaces_naming w quota)
  unfolding namespaces_naming
  named_only = each_mapped (NamesQuota w quota) (λ (t : Name × Tenant). t.0) (filter names_it (entries w.tenants))
      (each_map (λ t h. (t.1, h.0, named t.1.namespace.quota h.1)) (filter names_it (entries w.tenants))
      (each_kept (λ (t : Name × Tenant). get w.tenants t.0 ≡ Some t.1) names_it (entries w.tenants)
      (each_row names one_name (λ ns (t : Tenant). get w.tenants ns ≡ Some t) w.tenants (λ ns t is. is))))

  pub named_all : (ns : Name) → NamesQuota w quota ns → Contains (namespaces_naming w quota) ns
  unfolding namespaces_naming
  named_all ns is = contains_from _ ns (map_has (λ (t : Name × Tenant). t.0) (filter names_it (entries w.tenants)) (ns, is.0)
      (filter_has names_it (entries w.tenants) (ns, is.0) (has_row one_name w.tenants ns is.0 is.1)
      (ap (λ o. option_map_or (same_name quota) o false) is.2 ∙ same_name_refl quota)))
