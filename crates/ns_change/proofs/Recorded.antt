-- A quota's record that is put.
use Rattle.std.specs.Prelude.{◌≡◌, Bool, true, false, cond, Option, Some, None, option_map}
use Rattle.std.proofs.Common.{refl, sym, ap, ◌∙◌}
use Rattle.std.specs.Option.{option_map_or}
use Rattle.std.specs.Ordering.{eq_by_cmp}
use Rattle.std.specs.FinMap.{FinMap, get, get-insert, insert, same_map}
use Rattle.keyed.specs.Table.{row_at, with_slot}
use Rattle.ns_types.specs.declared.records.Quota.{Quota}
use Rattle.ns_types.specs.State.Names.{Name, ByName, name_cmp}
use Rattle.ns_types.specs.State.Rows.{QuotaRows}
use Rattle.ns_types.specs.State.Tables.{map_rows}
use Rattle.ns_types.proofs.Named.{names, one_name}
use Rattle.ns_types.proofs.Tables.{get-map_rows, tied}
use Rattle.ns_change.specs.declared.change.Change.{Change}
use Rattle.ns_change.specs.Changed.{changed, changed_quota, perhaps, view, with_record}
use Rattle.ns_change.proofs.Opening.{row_set, row_with_slot}
use Rattle.ns_tables.specs.declared.tables.Tables.{Tables}
use Rattle.ns_tables.specs.World.{world_of}

module _ (before : ByName QuotaRows) (m : FinMap name_cmp (Option Quota)) (name : Name) (x : Quota) where
  abbrev slots : FinMap name_cmp (Option Quota)
  slots = insert (with_slot m name) name (Some x)

  abbrev old : ByName QuotaRows
  old = map_rows (λ k q. perhaps changed_quota (row_at m k) q) before

  abbrev new : ByName QuotaRows
  new = map_rows (λ k q. perhaps changed_quota (row_at slots k) q) before

  old_is : (k : Name) → get old k ≡ option_map (perhaps changed_quota (row_at m k)) (get before k)
  old_is k = get-map_rows names one_name _ before k

  new_is : (k : Name) → get new k ≡ option_map (perhaps changed_quota (cond (eq_by_cmp name_cmp k name) (Some x) (row_at m k))) (get before k)
  new_is k = get-map_rows names one_name _ before k ∙ ap (λ r. option_map (perhaps changed_quota r) (get before k))
      (row_set names one_name (with_slot m name) name x k ∙ ap (cond (eq_by_cmp name_cmp k name) (Some x)) (row_with_slot names one_name m name k))

  nowhere : get before name ≡ None → new ≡ old
  nowhere none = same_map names one_name _ _ (λ k. new_is k ∙ by k (eq_by_cmp name_cmp k name) refl ∙ sym (old_is k))
    where
      none_at : (k : Name) → eq_by_cmp name_cmp k name ≡ true → get before k ≡ None
      none_at k e = ap (get before) (tied one_name k name e) ∙ none

      by : (k : Name) (b : Bool) → eq_by_cmp name_cmp k name ≡ b →
          option_map (perhaps changed_quota (cond b (Some x) (row_at m k))) (get before k) ≡ option_map (perhaps changed_quota (row_at m k)) (get before k)
      by k true e = ap (option_map (perhaps changed_quota (Some x))) (none_at k e) ∙ sym (ap (option_map (perhaps changed_quota (row_at m k))) (none_at k e))
      by k false e = refl

  abbrev put : QuotaRows → QuotaRows
  put q = changed_quota (perhaps changed_quota (row_at m name) q) x

  there : (q : QuotaRows) → get before name ≡ Some q → new ≡ insert old name (put q)
  there q at = same_map names one_name _ _ (λ k. new_is k ∙ by k (eq_by_cmp name_cmp k name) refl
      ∙ sym (get-insert names old name (put q) k ∙ ap (cond (eq_by_cmp name_cmp k name) (Some (put q))) (old_is k)))
    where
      twice : (r : Option Quota) → changed_quota q x ≡ changed_quota (perhaps changed_quota r q) x
      twice None = refl
      twice (Some y) = refl

      by : (k : Name) (b : Bool) → eq_by_cmp name_cmp k name ≡ b →
          option_map (perhaps changed_quota (cond b (Some x) (row_at m k))) (get before k)
          ≡ cond b (Some (put q)) (option_map (perhaps changed_quota (row_at m k)) (get before k))
      by k true e = ap (option_map (perhaps changed_quota (Some x))) (ap (get before) (tied one_name k name e) ∙ at) ∙ ap Some (twice (row_at m name))
      by k false e = refl

pub record_put : (t : Tables) (c : Change) (name : Name) (x : Quota) →
    view t (record c { quotas = insert (with_slot c.quotas name) name (Some x) }) ≡ with_record name x (view t c)
unfolding changed
record_put t c name x = by (get (world_of t).quotas name) refl
  where
    seen : (r : Option QuotaRows) → get (world_of t).quotas name ≡ r →
        get (view t c).quotas name ≡ option_map (perhaps changed_quota (row_at c.quotas name)) r
    seen r is = old_is (world_of t).quotas c.quotas name x name ∙ ap (option_map (perhaps changed_quota (row_at c.quotas name))) is

    by : (r : Option QuotaRows) → get (world_of t).quotas name ≡ r →
        view t (record c { quotas = insert (with_slot c.quotas name) name (Some x) }) ≡ with_record name x (view t c)
    by None is = (λ i. record (view t c) { quotas = nowhere (world_of t).quotas c.quotas name x is i })
        ∙ sym (ap (λ o. option_map_or (λ q. record (view t c) { quotas = insert (view t c).quotas name (changed_quota q x) }) o (view t c)) (seen None is))
    by (Some q) is = (λ i. record (view t c) { quotas = there (world_of t).quotas c.quotas name x q is i })
        ∙ sym (ap (λ o. option_map_or (λ q. record (view t c) { quotas = insert (view t c).quotas name (changed_quota q x) }) o (view t c)) (seen (Some q) is))
