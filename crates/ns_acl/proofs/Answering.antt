-- What each change of policies and tokens answers.
use Rattle.std.specs.Prelude.{◌≡◌, ◌||◌, true, false, Some, None, is_some, nat_le}
use Rattle.std.proofs.Common.{sym, ap, ◌∙◌}
use Rattle.std.specs.FinMap.{contains_key, get, insert, len, remove}
use Rattle.ns_types.specs.declared.acl.Policy.{Policy}
use Rattle.ns_types.specs.declared.acl.Token.{Token}
use Rattle.ns_types.specs.declared.refusal.Refusal.{Refusal}
use Rattle.ns_types.specs.declared.reply.Content.{Content}
use Rattle.ns_types.specs.declared.step.NewToken.{NewToken}
use Rattle.ns_types.specs.Asking.Policies.{bootstrap_accessor, create_token, delete_policy, delete_token, has_accessor, put_policy, read_policy, secret_of}
use Rattle.ns_types.specs.Asking.Policies.{token_of}
use Rattle.ns_types.specs.Asking.Admins.{is_full, most_rows}
use Rattle.ns_types.specs.State.Names.{Name, same_name}
use Rattle.ns_types.specs.Settling.Outcome.{Outcome, Done, Refused, found, unless}
use Rattle.ns_types.proofs.Outcomes.{found_absent, found_there, unless_not, unless_so}
use Rattle.ns_types.specs.State.Rows.{Acl}

module _ (acl : Acl) where
  module _ (name : Name) where
    pub read_nothing : get acl.policies name ≡ None → read_policy name acl ≡ Refused Refusal.NotFound
    read_nothing e = found_absent (get acl.policies name) (λ policy. Done (Content.Policy (record { name = name; row = policy })) acl) (ap is_some e)

    pub read_done : (policy : Policy) → get acl.policies name ≡ Some policy →
        read_policy name acl ≡ Done (Content.Policy (record { name = name; row = policy })) acl
    read_done policy e = ap (λ x. found x (λ policy. Done (Content.Policy (record { name = name; row = policy })) acl)) e

    pub put_full : (policy : Policy) → is_full acl.policies name ≡ true → put_policy name policy acl ≡ Refused Refusal.Full
    put_full policy e = unless_so _ Refusal.Full (Done Content.Written (record acl { policies = insert acl.policies name policy })) e

    pub put_done : (policy : Policy) (new : Acl) → is_full acl.policies name ≡ false → new.policies ≡ insert acl.policies name policy → new.tokens ≡ acl.tokens
        → put_policy name policy acl ≡ Done Content.Written new
    put_done policy new e p t = unless_not _ Refusal.Full (Done Content.Written (record acl { policies = insert acl.policies name policy })) e
        ∙ (λ i. Done Content.Written (record { policies = sym p i; tokens = sym t i }))

    pub delete_nothing : contains_key acl.policies name ≡ false → delete_policy name acl ≡ Refused Refusal.NotFound
    delete_nothing e = found_absent (get acl.policies name) (λ _. Done Content.Written (record acl { policies = remove acl.policies name })) e

    pub delete_done : (new : Acl) → contains_key acl.policies name ≡ true → new.policies ≡ remove acl.policies name → new.tokens ≡ acl.tokens
        → delete_policy name acl ≡ Done Content.Written new
    delete_done new e p t = found_there (get acl.policies name) (Done Content.Written (record acl { policies = remove acl.policies name })) e
        ∙ (λ i. Done Content.Written (record { policies = sym p i; tokens = sym t i }))

  module _ (new : NewToken) where
    shown : Content
    shown = Content.Token (record { accessor = new.accessor; secret = new.secret; name = new.name; kind = new.kind; policies = new.policies })

    created : Acl
    created = record acl { tokens = insert acl.tokens new.secret (token_of new) }

    pub token_taken : (contains_key acl.tokens new.secret || has_accessor acl new.accessor) ≡ true → create_token new acl ≡ Refused Refusal.Conflict
    unfolding shown created
    token_taken e = unless_so _ Refusal.Conflict (unless (nat_le most_rows (len acl.tokens)) Refusal.Full (Done shown created)) e

    pub token_full : (contains_key acl.tokens new.secret || has_accessor acl new.accessor) ≡ false → nat_le most_rows (len acl.tokens) ≡ true →
        create_token new acl ≡ Refused Refusal.Full
    unfolding shown created
    token_full e f = unless_not _ Refusal.Conflict (unless (nat_le most_rows (len acl.tokens)) Refusal.Full (Done shown created)) e
        ∙ unless_so _ Refusal.Full (Done shown created) f

    pub token_created : (content : Content) (token : Token) (after : Acl) → (contains_key acl.tokens new.secret || has_accessor acl new.accessor) ≡ false →
        nat_le most_rows (len acl.tokens) ≡ false
        → content ≡ Content.Token (record { accessor = new.accessor; secret = new.secret; name = new.name; kind = new.kind; policies = new.policies })
        → token ≡ token_of new → after.policies ≡ acl.policies → after.tokens ≡ insert acl.tokens new.secret token
        → create_token new acl ≡ Done content after
    unfolding shown created
    token_created content token after e f c r p t = unless_not _ Refusal.Conflict
        (unless (nat_le most_rows (len acl.tokens)) Refusal.Full (Done shown created)) e
        ∙ unless_not _ Refusal.Full (Done shown created) f
        ∙ (λ i. Done (sym c i) (record { policies = sym p i; tokens = sym (t ∙ ap (λ token. insert acl.tokens new.secret token) r) i }))

  module _ (accessor : Name) where
    removed : Name → Outcome Acl
    removed secret = unless (same_name accessor bootstrap_accessor) Refusal.InUse (Done Content.Written (record acl { tokens = remove acl.tokens secret }))

    pub no_token : secret_of acl accessor ≡ None → delete_token accessor acl ≡ Refused Refusal.NotFound
    unfolding removed
    no_token e = found_absent (secret_of acl accessor) removed (ap is_some e)

    pub token_kept : (secret : Name) → secret_of acl accessor ≡ Some secret → same_name accessor bootstrap_accessor ≡ true →
        delete_token accessor acl ≡ Refused Refusal.InUse
    unfolding removed
    token_kept secret e b = ap (λ x. found x removed) e ∙ unless_so _ Refusal.InUse (Done Content.Written (record acl { tokens = remove acl.tokens secret })) b

    pub token_deleted : (secret copy : Name) (after : Acl) → secret_of acl accessor ≡ Some secret → same_name accessor bootstrap_accessor ≡ false →
        copy ≡ secret
        → after.policies ≡ acl.policies → after.tokens ≡ remove acl.tokens copy
        → delete_token accessor acl ≡ Done Content.Written after
    unfolding removed
    token_deleted secret copy after e b c p t = ap (λ x. found x removed) e
        ∙ unless_not _ Refusal.InUse (Done Content.Written (record acl { tokens = remove acl.tokens secret })) b
        ∙ (λ i. Done Content.Written (record { policies = sym p i; tokens = sym (t ∙ ap (remove acl.tokens) c) i }))
