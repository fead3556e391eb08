-- The namespace for which a worker is busy, found among the slots.
use Rattle.std.specs.Prelude.{◌≡◌, ℕ, Bool, cond, List, [], ◌∷◌, Option, Some, None, find, is_some, map, option_map}
use Rattle.std.proofs.Common.{refl, ap, sym, ◌∙◌}
use Rattle.std.specs.Option.{option_and_then}
use Rattle.std.specs.FinMap.{contains_key, entries, get}
use Rattle.keyed.specs.Table.{row_at, row_list, rows}
use Rattle.keyed.proofs.Tables.{entries-rows, get-rows}
use Rattle.ns_types.specs.Working.Worker.{Worker}
use Rattle.ns_types.proofs.Named.{numbers}
use Rattle.ns_types.proofs.Tables.{entries-table_of}
use Rattle.ns_types.specs.State.Names.{Name}
use Rattle.ns_types.specs.State.Rows.{Tenant}
use Rattle.ns_broker.specs.Looking.{busy_for}
use Rattle.ns_broker.specs.Serving.{is_busy_for}
use Rattle.ns_tables.specs.declared.tables.Tables.{Tables}
use Rattle.ns_tables.specs.declared.tables.TenantRows.{TenantRows}
use Rattle.ns_tables.specs.World.{tenant_of, world_of}

module _ (number : ℕ) where
  abbrev is_busy : Name × Tenant → Bool
  is_busy t = contains_key t.1.workers number

  abbrev with_name : Name × Tenant → Option (Name × Worker)
  with_name t = option_map (λ worker. (t.0, worker)) (get t.1.workers number)

  abbrev named : Name × TenantRows → Name × Tenant
  named e = (e.0, tenant_of e.1)

  abbrev name_of : Option (Name × Tenant) → Option Name
  name_of t = option_map (λ row. row.0) (option_and_then with_name t)

  found_among : (es : List (Name × Option TenantRows)) → option_map (λ e. e.0) (find (is_busy_for number) es)
      ≡ name_of (find is_busy (map named (row_list es)))
  found_among [] = refl
  found_among ((ns, None) ∷ es) = found_among es
  found_among ((ns, Some x) ∷ es) = by (found_among es) (row_at x.workers number) (get-rows numbers x.workers number)
    where
      by : option_map (λ e. e.0) (find (is_busy_for number) es) ≡ name_of (find is_busy (map named (row_list es))) →
          (r : Option Worker) → get (rows x.workers) number ≡ r →
          option_map (λ e. e.0) (cond (is_some r) (Some (ns, Some x)) (find (is_busy_for number) es))
          ≡ name_of (cond (is_busy (ns, tenant_of x)) (Some (ns, tenant_of x)) (find is_busy (map named (row_list es))))
      by rest None is = rest ∙ sym (ap (λ b. name_of (cond b (Some (ns, tenant_of x)) (find is_busy (map named (row_list es))))) (ap is_some is))
      by rest (Some worker) is = ap (λ (r : Option Worker). option_map (λ (row : Name × Worker). row.0) (option_map (λ worker. (ns, worker)) r)) (sym is)
          ∙ sym (ap (λ b. name_of (cond b (Some (ns, tenant_of x)) (find is_busy (map named (row_list es))))) (ap is_some is))

  pub busy_found : (t : Tables) → option_map (λ e. e.0) (find (is_busy_for number) (entries t.tenants)) ≡ busy_for (world_of t) number
  unfolding world_of
  busy_found t = found_among (entries t.tenants)
      ∙ ap (λ es. name_of (find is_busy (map named es))) (sym (entries-rows t.tenants))
      ∙ ap (λ es. name_of (find is_busy es)) (sym (entries-table_of (λ (_ : Name) (x : TenantRows). tenant_of x) (rows t.tenants)))
