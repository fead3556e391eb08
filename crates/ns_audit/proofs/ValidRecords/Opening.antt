-- What administrators and registrations write is sound in the state in which the server begins.
use Rattle.std.specs.Prelude.{◌≡◌, ◌≤◌, true, not, List, [], ◌∷◌, map, Some, ◌&&◌, is_some, nat_le}
use Rattle.std.proofs.Common.{◌⊎◌, inl, inr, refl, sym, ap, subst, ◌∙◌, arith}
use Rattle.std.specs.FinMap.{get, get-empty, contains_key, empty, entries, insert, len, len-empty, values}
use Rattle.ns_types.specs.declared.acl.Policy.{Policy}
use Rattle.ns_types.specs.declared.acl.Token.{Token}
use Rattle.ns_types.specs.declared.acl.TokenKind.TheVariants as TokenKind
use Rattle.ns_types.specs.declared.name.NameKind.TheVariants as NameKind
use Rattle.ns_types.specs.Asking.Policies.{bootstrap_accessor}
use Rattle.ns_types.specs.Asking.Admins.{most_rows}
use Rattle.ns_types.specs.State.Limits.{is_distinct, is_good_token}
use Rattle.ns_types.specs.State.Lists.{Each}
use Rattle.ns_types.specs.State.Name.{is_name}
use Rattle.ns_types.specs.State.Names.{Name, name_cmp, same_name, default_name}
use Rattle.ns_types.specs.State.Rows.{Tenant, QuotaRows}
use Rattle.ns_types.specs.Steps.{opening_tenant, opening_pool, opening_world, opening_acl, opening}
use Rattle.ns_types.specs.Validity.{IsSoundAcl}
use Rattle.ns_types.proofs.Named.{names, one_name, same_name_refl}
use Rattle.ns_types.proofs.Tables.{each_row}
use Rattle.ns_types.proofs.Tests.{not_Some}
use Rattle.ns_types.proofs.TableRows.{row_of_insert}
use Rattle.ns_audit.proofs.ValidRecords.Statement.{IsGoodPool, RecordsOpening}
use Rattle.ns_audit.proofs.Steady.Keeping.{at_inserted}
use Rattle.ns_audit.proofs.Steady.Opening.{reached_is_steady}
use Rattle.ns_audit.proofs.ValidRecords.Sound.{kept_of, IsGoodKept, IsRecorded}
use Rattle.ns_audit.proofs.ValidRecords.Admins.{new_pool_good, new_tenant_good}
use Rattle.ns_audit.proofs.ValidRecords.Tables.{len_room}
use Rattle.ns_audit.proofs.ValidRecords.Distinct.{distinct_inserted}
use Rattle.ns_audit.proofs.ValidRecords.Step.{has_records}

-- ---- tables of one row

none_few : (X : Type 0) → len (empty {X = X} {R = name_cmp}) ≤ most_rows
none_few X = subst (λ n. n ≤ most_rows) (sym (len-empty name_cmp X)) (omega arith)

module _ {X : Type 0} where
  none_yet : {A : Type 0} (q : Name) (x : X) → get (empty {X = X} {R = name_cmp}) q ≡ Some x → A
  none_yet q x is = absurd (not_Some _ (sym (get-empty name_cmp q) ∙ is))

  one_few : (k : Name) (v : X) → len (insert (empty {R = name_cmp}) k v) ≤ most_rows
  one_few k v = len_room empty k v most_rows (none_few X)
      (ap (λ b. not b && nat_le most_rows (len (empty {X = X} {R = name_cmp}))) (ap is_some (get-empty name_cmp k)) ∙
      ap (nat_le most_rows) (len-empty name_cmp X))

  -- what holds of the one row holds of each
  of_one : (P : Name → X → Type 0) (k : Name) (v : X) → P k v → (q : Name) (x : X) → get (insert (empty {R = name_cmp}) k v) q ≡ Some x → P q x
  of_one P k v h q x is = by (row_of_insert names one_name (empty {R = name_cmp}) k v q x is)
    where
      by : ((q ≡ k) × (v ≡ x)) ⊎ (get (empty {X = X} {R = name_cmp}) q ≡ Some x) → P q x
      by (inl e) = subst (P q) e.1 (subst (λ q. P q v) (sym e.0) h)
      by (inr none) = none_yet q x none

-- ---- the access lists

none_distinct : is_distinct same_name (map (λ (x : Token). x.accessor) (values (empty {X = Token} {R = name_cmp}))) ≡ true
none_distinct = by (entries (empty {X = Token} {R = name_cmp})) (each_row names one_name (λ _ _. ⊥) empty (λ k x is. none_yet k x is))
  where
    by : (es : List (Name × Token)) → Each (λ _. ⊥) es → is_distinct same_name (map (λ (x : Token). x.accessor) (map (λ e. e.1) es)) ≡ true
    by [] h = refl
    by (e ∷ es) h = absurd h.0

abbrev first_token : Token
first_token = record { accessor = bootstrap_accessor; name = []; kind = TokenKind.Management; policies = [] }

acl_sound : (secret : Name) → is_name NameKind.Secret secret ≡ true → IsSoundAcl (opening_acl secret)
acl_sound secret named = record {
  few_policies = none_few Policy;
  few_tokens = one_few secret first_token;
  policy = λ name p is. none_yet name p is;
  token = of_one (λ k x. (is_name NameKind.Secret k && is_good_token x) ≡ true) secret first_token (λ i. named i && true);
  accessors = distinct_inserted names one_name same_name (λ (x : Token). x.accessor) empty secret first_token (λ k x is. none_yet k x is) none_distinct;
}

-- ---- the whole

has_default : contains_key opening_world.pools default_name ≡ true
has_default = ap is_some (at_inserted names (empty {R = name_cmp}) default_name opening_pool (same_name_refl default_name))

opening_recorded : IsRecorded opening_world
opening_recorded = record {
  few_tenants = one_few default_name opening_tenant;
  few_pools = one_few default_name opening_pool;
  few_quotas = none_few QuotaRows;
  tenant = of_one (λ ns (t : Tenant). IsGoodKept (contains_key opening_world.pools) (contains_key opening_world.quotas) ns t.index (kept_of t))
      default_name opening_tenant
      (new_tenant_good (contains_key opening_world.pools) (contains_key opening_world.quotas) default_name opening_tenant.namespace refl
      (record { good = refl; default = has_default; allowed = λ listed none. absurd (not_Some _ none); quota = λ q none. absurd (not_Some _ none) }));
  pool = of_one IsGoodPool default_name opening_pool (new_pool_good default_name opening_pool.pool refl refl);
  quota = λ name q is. none_yet name q is;
}

pub records_opening : RecordsOpening
unfolding opening
records_opening secret named = has_records (opening secret) (record { acl = acl_sound secret named; world = opening_recorded })
    (reached_is_steady secret (opening secret) [] [] refl)
