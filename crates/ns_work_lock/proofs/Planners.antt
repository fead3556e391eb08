-- A worker is busy with an evaluation only where its row in that namespace has it.
use Rattle.std.specs.Prelude.{◌≡◌, ℕ, Bool, true, false, ◌&&◌, Option, Some, None, find, nat_eq, option_map}
use Rattle.std.proofs.Common.{refl, ap, sym, ◌∙◌}
use Rattle.std.specs.FinMap.{contains_key, entries, get}
use Rattle.std.specs.Option.{option_and_then, option_map_or}
use Rattle.ns_audit.proofs.Steady.Workers.{find_each}
use Rattle.ns_types.proofs.Named.{names, one_name, same_name_is}
use Rattle.ns_types.proofs.Tables.{each_row}
use Rattle.ns_types.specs.State.Names.{Key, Name, same_name}
use Rattle.ns_types.specs.State.Rows.{Tenant, World}
use Rattle.ns_types.specs.Working.Worker.{Worker}
use Rattle.ns_work_lock.specs.Looking.{has_evaluation, is_busy_with}

module _ (w : World) (n : ℕ) (key : Key) (none : has_evaluation w n key ≡ false) where
  abbrev has : Name × Worker → Bool
  has row = same_name row.0 key.0 && nat_eq row.1.evaluation key.1

  in_tenant : (t : Name × Tenant) → get w.tenants t.0 ≡ Some t.1 →
      option_map_or has (option_map (λ worker. (t.0, worker)) (get t.1.workers n)) false ≡ false
  in_tenant t is = by (get t.1.workers n) refl
    where
      own : (row : Worker) → get t.1.workers n ≡ Some row → (b : Bool) → same_name t.0 key.0 ≡ b → (b && nat_eq row.evaluation key.1) ≡ false
      own row at false e = refl
      own row at true e = sym (ap (λ t. option_map_or (λ row. nat_eq row.evaluation key.1) (option_and_then (λ t. get t.workers n) t) false)
          (ap (get w.tenants) (sym (same_name_is t.0 key.0 e)) ∙ is) ∙ ap (λ o. option_map_or (λ row. nat_eq row.evaluation key.1) o false) at) ∙ none

      by : (o : Option Worker) → get t.1.workers n ≡ o → option_map_or has (option_map (λ worker. (t.0, worker)) o) false ≡ false
      by None at = refl
      by (Some row) at = own row at (same_name t.0 key.0) refl

  pub not_busy : false ≡ is_busy_with w n key
  not_busy = sym (by (find (λ t. contains_key t.1.workers n) (entries w.tenants)) refl)
    where
      by : (o : Option (Name × Tenant)) → find (λ t. contains_key t.1.workers n) (entries w.tenants) ≡ o →
          option_map_or has (option_and_then (λ t. option_map (λ worker. (t.0, worker)) (get t.1.workers n)) o) false ≡ false
      by None is = refl
      by (Some t) is = in_tenant t (find_each (λ e. get w.tenants e.0 ≡ Some e.1) (λ t. contains_key t.1.workers n) (entries w.tenants) t
          (each_row names one_name (λ k x. get w.tenants k ≡ Some x) w.tenants (λ k x at. at)) is).0
