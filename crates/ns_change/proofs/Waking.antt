-- Waking is a change of status, one evaluation after another, and then the queue.
use Rattle.std.specs.Prelude.{◌≡◌, ℕ, Bool, true, false, cond, not, List, [], ◌∷◌, Option, Some, None, ◌&&◌, ◌||◌, option_map, filter, fold}
use Rattle.std.proofs.Common.{refl, sym, ap, ◌∙◌}
use Rattle.std.specs.Option.{option_map_or}
use Rattle.std.specs.FinMap.{get, get-insert, insert, same_map}
use Rattle.ns_types.specs.declared.evaluation.Evaluation.{Evaluation}
use Rattle.ns_types.specs.declared.evaluation.Status.TheVariants as Status
use Rattle.ns_types.specs.Settling.Making.{change_tenant, put_tenant, with_status}
use Rattle.ns_types.specs.State.Names.{Name, Key, ByName, ByNumber, same_name, same_number, has_key}
use Rattle.ns_types.specs.Working.Queue.{queue}
use Rattle.ns_types.specs.State.Rows.{World, Tenant}
use Rattle.ns_types.specs.Settling.Settle.{pending, unblocked_in, wake, woken_row}
use Rattle.ns_types.specs.State.Tables.{map_rows}
use Rattle.ns_types.proofs.Named.{names, one_name, numbers, one_number}
use Rattle.ns_types.proofs.Tables.{get-map_rows, map_rows_idle, tied}
use Rattle.ns_change.specs.Changed.{without_keys}

abbrev pub unblock_one : World → Key → World
unblock_one w key = change_tenant key.0 (with_status key.1 Status.Pending) w

twice : (b : Bool) (e : Evaluation) → cond b (pending (pending e)) (pending e) ≡ pending e
twice true e = refl
twice false e = refl

-- one status is changed, and then those of the others
module _ (key : Key) (keys : List Key) where
  no_namespace : (ns : Name) → same_name ns key.0 ≡ false → (n : ℕ) (e : Evaluation) → woken_row keys ns n e ≡ woken_row (key ∷ keys) ns n e
  no_namespace ns other n e = ap (λ b. cond ((b && same_number n key.1) || has_key keys (ns, n)) (pending e) e) (sym other)

  other_tenant : (ns : Name) (t : Tenant) → same_name ns key.0 ≡ false → unblocked_in keys ns t ≡ unblocked_in (key ∷ keys) ns t
  other_tenant ns t other i = record t { evaluations = map_rows (λ n e. no_namespace ns other n e i) t.evaluations }

  own_rows : (m : ByNumber Evaluation) (ns : Name) → same_name ns key.0 ≡ true → (r : Option Evaluation) → get m key.1 ≡ r
      → map_rows (woken_row keys ns) (option_map_or (λ e. insert m key.1 (pending e)) r m) ≡ map_rows (woken_row (key ∷ keys) ns) m
  own_rows m ns own r is = same_map numbers one_number _ _ (λ q. get-map_rows numbers one_number (woken_row keys ns) _ q ∙ by r is q (same_number q key.1) refl
      ∙ sym (get-map_rows numbers one_number (woken_row (key ∷ keys) ns) m q))
    where
      here : (q : ℕ) (b : Bool) → same_number q key.1 ≡ b → (e : Evaluation) → woken_row (key ∷ keys) ns q e ≡ cond (b || has_key keys (ns, q)) (pending e) e
      here q b t e = λ i. cond ((own i && t i) || has_key keys (ns, q)) (pending e) e

      by : (r : Option Evaluation) → get m key.1 ≡ r → (q : ℕ) (b : Bool) → same_number q key.1 ≡ b
          → option_map (woken_row keys ns q) (get (option_map_or (λ e. insert m key.1 (pending e)) r m) q) ≡ option_map (woken_row (key ∷ keys) ns q) (get m q)
      by None is q true t = ap (option_map (woken_row keys ns q)) (ap (get m) (tied one_number q key.1 t) ∙ is) ∙
          ap (option_map (woken_row (key ∷ keys) ns q)) (sym (ap (get m) (tied one_number q key.1 t) ∙ is))
      by None is q false t = λ i. option_map (λ e. sym (here q false t e) i) (get m q)
      by (Some e) is q true t = ap (option_map (woken_row keys ns q)) (get-insert numbers m key.1 (pending e) q ∙
          ap (λ b. cond b (Some (pending e)) (get m q)) t)
          ∙ ap Some (twice (has_key keys (ns, q)) e) ∙ ap Some (sym (here q true t e)) ∙
          ap (option_map (woken_row (key ∷ keys) ns q)) (sym (ap (get m) (tied one_number q key.1 t) ∙ is))
      by (Some e) is q false t = ap (option_map (woken_row keys ns q)) (get-insert numbers m key.1 (pending e) q ∙
          ap (λ b. cond b (Some (pending e)) (get m q)) t)
          ∙ (λ i. option_map (λ e. sym (here q false t e) i) (get m q))

  own_tenant : (ns : Name) (t : Tenant) → same_name ns key.0 ≡ true → unblocked_in keys ns (with_status key.1 Status.Pending t) ≡ unblocked_in (key ∷ keys) ns t
  own_tenant ns t own = by (get t.evaluations key.1) refl
    where
      by : (r : Option Evaluation) → get t.evaluations key.1 ≡ r →
          unblocked_in keys ns (option_map_or (λ e. record t { evaluations = insert t.evaluations key.1 (pending e) }) r t) ≡ unblocked_in (key ∷ keys) ns t
      by None is i = record t { evaluations = own_rows t.evaluations ns own None is i }
      by (Some e) is i = record t { evaluations = own_rows t.evaluations ns own (Some e) is i }

  tenants_then : (w : World) → map_rows (unblocked_in keys) (unblock_one w key).tenants ≡ map_rows (unblocked_in (key ∷ keys)) w.tenants
  tenants_then w = same_map names one_name _ _ (λ ns. get-map_rows names one_name (unblocked_in keys) _ ns ∙
      by (get w.tenants key.0) refl ns (same_name ns key.0) refl ∙ sym (get-map_rows names one_name (unblocked_in (key ∷ keys)) w.tenants ns))
    where
      other : (ns : Name) → same_name ns key.0 ≡ false → (r : Option Tenant) → option_map (unblocked_in keys ns) r ≡ option_map (unblocked_in (key ∷ keys) ns) r
      other ns t None = refl
      other ns t (Some x) = ap Some (other_tenant ns x t)

      by : (r : Option Tenant) → get w.tenants key.0 ≡ r → (ns : Name) (b : Bool) → same_name ns key.0 ≡ b
          → option_map (unblocked_in keys ns) (get (option_map_or (λ t. put_tenant key.0 (with_status key.1 Status.Pending t) w) r w).tenants ns) ≡ option_map
          (unblocked_in (key ∷ keys) ns) (get w.tenants ns)
      by None is ns true t = ap (option_map (unblocked_in keys ns)) (ap (get w.tenants) (tied one_name ns key.0 t) ∙ is) ∙
          ap (option_map (unblocked_in (key ∷ keys) ns)) (sym (ap (get w.tenants) (tied one_name ns key.0 t) ∙ is))
      by None is ns false t = other ns t (get w.tenants ns)
      by (Some x) is ns true t = ap (option_map (unblocked_in keys ns)) (get-insert names w.tenants key.0 (with_status key.1 Status.Pending x) ns ∙
          ap (λ b. cond b (Some (with_status key.1 Status.Pending x)) (get w.tenants ns)) t)
          ∙ ap Some (own_tenant ns x t) ∙ ap (option_map (unblocked_in (key ∷ keys) ns)) (sym (ap (get w.tenants) (tied one_name ns key.0 t) ∙ is))
      by (Some x) is ns false t = ap (option_map (unblocked_in keys ns)) (get-insert names w.tenants key.0 (with_status key.1 Status.Pending x) ns ∙
          ap (λ b. cond b (Some (with_status key.1 Status.Pending x)) (get w.tenants ns)) t)
          ∙ other ns t (get w.tenants ns)

  -- a change of a status leaves all but its namespace
  others_then : (w : World) (m : ByName Tenant) → record (unblock_one w key) { tenants = m } ≡ record w { tenants = m }
  others_then w m = by (get w.tenants key.0)
    where
      by : (r : Option Tenant) → record (option_map_or (λ t. put_tenant key.0 (with_status key.1 Status.Pending t) w) r w) { tenants = m } ≡ record w
          { tenants = m }
      by None = refl
      by (Some t) = refl

pub unblocked_all : (keys : List Key) (w : World) → fold unblock_one w keys ≡ record w { tenants = map_rows (unblocked_in keys) w.tenants }
unblocked_all [] w = λ i. record w {
  tenants = sym
      (map_rows_idle names one_name (unblocked_in []) w.tenants
      (λ ns t _ i. record t { evaluations = map_rows_idle numbers one_number (λ _ e. e) t.evaluations (λ _ _ _. refl) i })) i;
}
unblocked_all (key ∷ keys) w = unblocked_all keys (unblock_one w key) ∙ others_then key keys w _ ∙ (λ i. record w { tenants = tenants_then key keys w i })

-- the list `blocked` without them
abbrev pub without_blocked_keys : List Key → World → World
without_blocked_keys keys w = record w { blocked = without_keys keys w.blocked }

pub wake_is : (keys : List Key) (w : World) → wake keys w ≡ fold queue (without_blocked_keys keys (fold unblock_one w keys)) keys
unfolding wake
wake_is keys w = ap (λ x. fold queue (record x { blocked = filter (λ key. not (has_key keys key)) x.blocked }) keys) (sym (unblocked_all keys w))
