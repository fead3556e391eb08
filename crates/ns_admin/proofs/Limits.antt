-- A put of a quota with other limits.
use Rattle.std.specs.Prelude.{◌≡◌, true, false, not, ◌&&◌, Option, Some, None, is_some, nat_le}
use Rattle.std.proofs.Common.{sym, ap, ◌∙◌, refl}
use Rattle.std.specs.Option.{option_map_or}
use Rattle.std.specs.FinMap.{get, insert, len}
use Rattle.ns_types.specs.declared.records.Quota.{Quota}
use Rattle.ns_types.specs.declared.reply.Content.TheVariants as Content
use Rattle.ns_types.specs.Asking.Admins.{is_relimited, most_rows, put_quota, with_quota}
use Rattle.ns_types.specs.Settling.Outcome.{Done}
use Rattle.ns_types.specs.Settling.Releases.{changes_limits}
use Rattle.ns_types.specs.State.Names.{Name}
use Rattle.ns_types.specs.State.Rows.{QuotaRows, World}
use Rattle.ns_types.proofs.Lists.{not_both}
use Rattle.ns_types.proofs.Outcomes.{unless_not}
use Rattle.ns_change.specs.Changed.{changed_quota, with_record}

module _ (w : World) (name : Name) (quota : Quota) (relimited : is_relimited name quota w ≡ true) where
  -- the quota is there
  old : (q : QuotaRows) × (get w.quotas name ≡ Some q)
  old = by (get w.quotas name) refl
    where
      by : (o : Option QuotaRows) → get w.quotas name ≡ o → (q : QuotaRows) × (get w.quotas name ≡ Some q)
      by None none = not_both relimited (ap (λ o. option_map_or (λ old. changes_limits old (with_quota quota (Some old))) o false) none)
      by (Some q) there = (q, there)

  -- so its put is not refused
  pub puts_record : put_quota name quota w ≡ Done Content.Written (with_record name quota w)
  unfolding put_quota
  puts_record = unless_not _ _ _ (ap (λ o. not (is_some o) && nat_le most_rows (len w.quotas)) old.1)
      ∙ ap (λ (o : Option QuotaRows). Done Content.Written (record w { quotas = insert w.quotas name (with_quota quota o) })) old.1
      ∙ sym (ap (λ o. Done Content.Written
      (option_map_or (λ q. record w { quotas = insert w.quotas name (changed_quota q quota) }) o w)) old.1)
