-- What administrators ask of policies and tokens keeps the access lists sound.
use Rattle.std.specs.Prelude.{◌≡◌, true, not, Some, ◌&&◌, ◌||◌, nat_le}
use Rattle.std.proofs.Common.{◌⊎◌, inl, inr, sym, ap, subst, ◌∙◌}
use Rattle.std.proofs.Math.Nat.{le_trans}
use Rattle.std.specs.FinMap.{get, contains_key, len}
use Rattle.ns_types.specs.declared.acl.Policy.{Policy}
use Rattle.ns_types.specs.declared.acl.Token.{Token}
use Rattle.ns_types.specs.declared.name.NameKind.TheVariants as NameKind
use Rattle.ns_types.specs.declared.step.NewToken.{NewToken}
use Rattle.ns_types.specs.Asking.Policies.{read_policy, put_policy, delete_policy, has_accessor, token_of, create_token, secret_of, delete_token}
use Rattle.ns_types.specs.Asking.Admins.{most_rows, is_full}
use Rattle.ns_types.specs.State.Limits.{is_good_policy, is_good_token}
use Rattle.ns_types.specs.State.Name.{is_name}
use Rattle.ns_types.specs.State.Names.{Name, same_name}
use Rattle.ns_types.specs.State.Rows.{Acl}
use Rattle.ns_types.specs.Validity.{IsSoundAcl}
use Rattle.ns_types.proofs.Lists.{left_none, right_none}
use Rattle.ns_types.proofs.Named.{names, one_name}
use Rattle.ns_types.proofs.Tables.{none_of_any}
use Rattle.ns_types.proofs.TableRows.{row_of_insert, row_of_remove}
use Rattle.ns_types.proofs.Leads.{Leads, leads_unless, leads_found}
use Rattle.ns_audit.proofs.Alone.Orderly.{turned_name}
use Rattle.ns_audit.proofs.ValidRecords.Tables.{len_removed, len_room}
use Rattle.ns_audit.proofs.ValidRecords.Distinct.{distinct_inserted, distinct_removed}

module _ (acl : Acl) (s : IsSoundAcl acl) where
  pub policy_read : (name : Name) → Leads IsSoundAcl (read_policy name acl)
  policy_read name = leads_found IsSoundAcl (get acl.policies name) _ (λ policy _. s)

  pub policy_put : (name : Name) (policy : Policy) → (is_name NameKind.Policy name && is_good_policy policy) ≡ true →
      Leads IsSoundAcl (put_policy name policy acl)
  policy_put name policy good = leads_unless IsSoundAcl (is_full acl.policies name) _ _ (λ room. record {
    few_policies = len_room acl.policies name policy most_rows s.few_policies room;
    few_tokens = s.few_tokens;
    policy = λ k p at. by k p (row_of_insert names one_name acl.policies name policy k p at);
    token = s.token;
    accessors = s.accessors;
  })
    where
      by : (k : Name) (p : Policy) → ((k ≡ name) × (policy ≡ p)) ⊎ (get acl.policies k ≡ Some p) → (is_name NameKind.Policy k && is_good_policy p) ≡ true
      by k p (inl e) = subst (λ p. (is_name NameKind.Policy k && is_good_policy p) ≡ true) e.1
          (subst (λ k. (is_name NameKind.Policy k && is_good_policy policy) ≡ true) (sym e.0) good)
      by k p (inr at) = s.policy k p at

  pub policy_deleted : (name : Name) → Leads IsSoundAcl (delete_policy name acl)
  policy_deleted name = leads_found IsSoundAcl (get acl.policies name) _ (λ policy _. record {
    few_policies = le_trans (len_removed acl.policies name) s.few_policies;
    few_tokens = s.few_tokens;
    policy = λ k p at. s.policy k p (row_of_remove acl.policies name k p at);
    token = s.token;
    accessors = s.accessors;
  })

  pub token_created : (new : NewToken) → (is_name NameKind.Secret new.secret && is_good_token (token_of new)) ≡ true → Leads IsSoundAcl (create_token new acl)
  token_created new good = leads_unless IsSoundAcl (contains_key acl.tokens new.secret || has_accessor acl new.accessor) _ _
      (λ fresh. leads_unless IsSoundAcl (nat_le most_rows (len acl.tokens)) _ _ (λ room. record {
        few_policies = s.few_policies;
        few_tokens = len_room acl.tokens new.secret (token_of new) most_rows s.few_tokens
            (ap (λ b. not b && nat_le most_rows (len acl.tokens)) (left_none _ _ fresh) ∙ room);
        policy = s.policy;
        token = λ k x at. by k x (row_of_insert names one_name acl.tokens new.secret (token_of new) k x at);
        accessors = distinct_inserted names one_name same_name (λ (x : Token). x.accessor) acl.tokens new.secret (token_of new)
            (λ k x at. let other = none_of_any one_name (λ _ token. same_name new.accessor token.accessor) acl.tokens k x
            (right_none (contains_key acl.tokens new.secret) _ fresh) at in (other, turned_name new.accessor x.accessor other)) s.accessors;
      }))
    where
      by : (k : Name) (x : Token) → ((k ≡ new.secret) × (token_of new ≡ x)) ⊎ (get acl.tokens k ≡ Some x) →
          (is_name NameKind.Secret k && is_good_token x) ≡ true
      by k x (inl e) = subst (λ x. (is_name NameKind.Secret k && is_good_token x) ≡ true) e.1
          (subst (λ k. (is_name NameKind.Secret k && is_good_token (token_of new)) ≡ true) (sym e.0) good)
      by k x (inr at) = s.token k x at

  pub token_deleted : (accessor : Name) → Leads IsSoundAcl (delete_token accessor acl)
  token_deleted accessor = leads_found IsSoundAcl (secret_of acl accessor) _ (λ secret _. leads_unless IsSoundAcl _ _ _ (λ _. record {
    few_policies = s.few_policies;
    few_tokens = le_trans (len_removed acl.tokens secret) s.few_tokens;
    policy = s.policy;
    token = λ k x at. s.token k x (row_of_remove acl.tokens secret k x at);
    accessors = distinct_removed names one_name same_name (λ (x : Token). x.accessor) acl.tokens secret s.accessors;
  }))
