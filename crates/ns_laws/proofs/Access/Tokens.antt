-- What becomes of tokens and policies, and what changes nothing.
use Rattle.std.specs.Prelude.{◌≡◌, ◌≢◌, ◌⊎◌, ℕ, ◌<◌, Bool, true, false, cond, not, ◌&&◌, ◌||◌, T, List}
use Rattle.std.specs.Prelude.{[], ◌∷◌, Option, Some, None, Ok, Err, find, map, option_map}
use Rattle.std.specs.Prelude.{is_some, nat_le}
use Rattle.std.proofs.Common.{refl, sym, ap, subst, ◌∙◌, inl, inr, arith}
use Rattle.std.specs.FinMap.{get, get-remove, get-entries, insert, remove, contains_key, entries, len, values}
use Rattle.std.specs.FinMap.{find as find_row}
use Rattle.std.specs.List.{list_any}
use Rattle.std.proofs.lemmas.Bool.{leb-true}
use Rattle.ns_types.specs.declared.acl.Policy.{Policy}
use Rattle.ns_types.specs.declared.acl.Token.{Token}
use Rattle.ns_types.specs.declared.refusal.Refusal.{Refusal}
use Rattle.ns_types.specs.declared.reply.Content.{Content}
use Rattle.ns_types.specs.declared.reply.Reply.{Reply}
use Rattle.ns_types.specs.declared.step.AdminCommand.{AdminCommand}
use Rattle.ns_types.specs.declared.step.AskCommand.{AskCommand}
use Rattle.ns_types.specs.declared.step.NodeCommand.{NodeCommand}
use Rattle.ns_types.specs.declared.step.Step.{Step}
use Rattle.ns_types.specs.Asking.Admins.{is_full, most_rows}
use Rattle.ns_types.specs.Asking.Asks.{ask, asked_in}
use Rattle.ns_types.specs.Asking.Nodes.{ask_pool, asked_in_pool}
use Rattle.ns_types.specs.Asking.Policies.{administer, with_acl, with_world, create_token, delete_token, put_policy, delete_policy}
use Rattle.ns_types.specs.Asking.Policies.{has_accessor, secret_of, token_of, made_token, bootstrap_accessor}
use Rattle.ns_types.specs.Settling.Outcome.{Outcome, NotEnabled, Refused, Done, unless, found, lift, is_done}
use Rattle.ns_types.specs.State.Lists.{Each}
use Rattle.ns_types.specs.State.Names.{Name, ByName, name_cmp, same_name}
use Rattle.ns_types.specs.State.Rows.{Acl, State, World, Tenant, PoolRows}
use Rattle.ns_types.specs.State.Sums.{names_quota}
use Rattle.ns_types.specs.State.Limits.{is_distinct}
use Rattle.ns_types.specs.State.Tables.{any_row}
use Rattle.ns_types.specs.Steps.{Answer, after, act, said, concluded, is_allowed, is_past_bound, settled, reply_of}
use Rattle.ns_types.specs.Validity.{IsValid}
use Rattle.ns_types.proofs.Tests.{not_Some, same_Some}
use Rattle.ns_types.proofs.Elements.{each_found}
use Rattle.ns_types.proofs.Lists.{not_both, left_none, right_none}
use Rattle.ns_types.proofs.Named.{names, one_name, same_name_is, same_name_refl}
use Rattle.ns_types.proofs.Settling.{settle_same}
use Rattle.ns_types.proofs.TableRows.{get_put, get_other, some_row}
use Rattle.ns_types.proofs.Tables.{any_row-none, each_row, none_of_any}
use Rattle.ns_audit.proofs.ValidEvaluations.Pairs.{Pairs, pairs_of_distinct, pairs_of_mapped}
use Rattle.ns_laws.specs.Secrets as law
use Rattle.ns_audit.proofs.RefusalLemmas.{after_allowed}
use Rattle.ns_audit.proofs.RightsLemmas.{manager_is_allowed}
use Rattle.ns_laws.proofs.Scope.Sharing.{other_name}
use Rattle.ns_audit.proofs.StepLemmas.{made, same_state, not_said}

-- ---- what changes nothing

-- what an outcome leaves, if it is done, is this
abbrev pub Leaves : {S : Type 0} → S → Outcome S → Type 0
Leaves s NotEnabled = Unit {0}
Leaves s (Refused refusal) = Unit {0}
Leaves s (Done content s') = s' ≡ s

leaves_found : {S A : Type 0} (s : S) (o : Option A) (go : A → Outcome S) → ((a : A) → Leaves s (go a)) → Leaves s (found o go)
leaves_found s None go h = tt
leaves_found s (Some a) go h = h a

leaves_if : {S : Type 0} (s : S) (b : Bool) (first later : Outcome S) → Leaves s first → Leaves s later → Leaves s (cond b first later)
leaves_if s true first later h k = h
leaves_if s false first later h k = k

leaves_world : (s : State) (o : Outcome World) → Leaves s.world o → Leaves s (lift (with_world s.acl) o)
leaves_world s NotEnabled h = tt
leaves_world s (Refused refusal) h = tt
leaves_world s (Done content w) h = ap (with_world s.acl) h

pub settled_idle : (s s' : State) → s' ≡ s → settled s s' ≡ s
settled_idle s s' e = ap (settled s) e ∙ ap (with_world s.acl) (settle_same s.world)

concluded_idle : (step : Step) (s t : State) (answer : Answer) (o : Outcome State) → Leaves s o → concluded step s o ≡ said answer t → t ≡ s
concluded_idle step s t answer NotEnabled h e = not_said answer t e
concluded_idle step s t answer (Refused refusal) h e = sym (same_state _ _ s t e)
concluded_idle step s t answer (Done content s') h e = by (is_past_bound (settled s s').world) e
  where
    by : (b : Bool) → cond b (said (Err Refusal.Full) s) (said (Ok (reply_of step content (settled s s').world)) (settled s s')) ≡ said answer t → t ≡ s
    by true e = sym (same_state _ _ s t e)
    by false e = sym (same_state _ _ (settled s s') t e) ∙ settled_idle s s' h

pub idle : (step : Step) (s t : State) (answer : Answer) → (is_allowed step s.acl ≡ true → Leaves s (act step s)) → after step s ≡ said answer t → t ≡ s
unfolding after
idle step s t answer h e = by (is_allowed step s.acl) refl e
  where
    by : (b : Bool) → is_allowed step s.acl ≡ b → cond b (concluded step s (act step s)) (said (Err Refusal.Denied) s) ≡ said answer t → t ≡ s
    by true is e = concluded_idle step s t answer (act step s) (h is) e
    by false is e = sym (same_state _ _ s t e)

pub no_change_without_submit : law.NoChangeWithoutSubmit
unfolding act ask
no_change_without_submit s t secret ns command answer without other e =
    idle (Step.Ask ns secret command) s t answer (λ allowed. leaves_world s (ask ns command s.world)
    (leaves_found s.world (get s.world.tenants ns) (asked_in ns command s.world) (λ x. by command x other allowed))) e
  where
    by : (command : AskCommand) (x : Tenant) → law.is_stop command ≡ false → is_allowed (Step.Ask ns secret command) s.acl ≡ true →
        Leaves s.world (asked_in ns command s.world x)
    by (AskCommand.ListJobs prefix) x other allowed = refl
    by (AskCommand.Register r) x other allowed = not_both allowed without
    by (AskCommand.ReadJob id) x other allowed = leaves_found s.world (get x.jobs id) _ (λ _. refl)
    by (AskCommand.Deregister id purge) x other allowed = not_both allowed without
    by (AskCommand.JobAllocations id) x other allowed = refl
    by (AskCommand.JobEvaluations id) x other allowed = refl
    by (AskCommand.ListEvaluations prefix) x other allowed = refl
    by (AskCommand.ReadEvaluation n) x other allowed = leaves_found s.world (get x.evaluations n) _ (λ _. refl)
    by (AskCommand.ListAllocations prefix) x other allowed = refl
    by (AskCommand.ReadAllocation n) x other allowed = leaves_found s.world (get x.allocations n) _ (λ _. refl)
    by (AskCommand.StopAllocation n) x other allowed = not_both refl other
    by AskCommand.ReadNamespace x other allowed = refl
    by (AskCommand.QuotaUsage quota) x other allowed = leaves_if s.world (names_quota quota x.namespace) _ _ refl tt
    by (AskCommand.Events index) x other allowed = refl

pub no_change_without_write : law.NoChangeWithoutWrite
unfolding act ask_pool
no_change_without_write s t secret pool command answer without e =
    idle (Step.Node pool secret command) s t answer (λ allowed. leaves_world s (ask_pool pool command s.world)
    (leaves_found s.world (get s.world.pools pool) (asked_in_pool pool command s.world) (λ x. by command x allowed))) e
  where
    by : (command : NodeCommand) (x : PoolRows) → is_allowed (Step.Node pool secret command) s.acl ≡ true →
        Leaves s.world (asked_in_pool pool command s.world x)
    by NodeCommand.ReadPool x allowed = refl
    by NodeCommand.ListNodes x allowed = refl
    by (NodeCommand.PutNode name offer) x allowed = not_both allowed without
    by (NodeCommand.DeleteNode name) x allowed = not_both allowed without
    by (NodeCommand.SetStatus name status) x allowed = not_both allowed without
    by (NodeCommand.SetEligible name eligible) x allowed = not_both allowed without
    by (NodeCommand.Report name r) x allowed = not_both allowed without

-- ---- outcomes that are done

acl_of : Outcome State → Outcome Acl
acl_of NotEnabled = NotEnabled
acl_of (Refused refusal) = Refused refusal
acl_of (Done content s) = Done content s.acl

acl_lifted : (w : World) (o : Outcome Acl) → acl_of (lift (with_acl w) o) ≡ o
unfolding acl_of
acl_lifted w NotEnabled = refl
acl_lifted w (Refused refusal) = refl
acl_lifted w (Done content acl) = refl

-- the outcome for the access lists of a step that is made, which leads to these and has this content for its answer
acl_made : (step : Step) (s t : State) (reply : Reply) (o : Outcome Acl) → act step s ≡ lift (with_acl s.world) o → after step s ≡ said (Ok reply) t →
    o ≡ Done reply.content t.acl
unfolding acl_of
acl_made step s t reply o acts e =
    let m = made step s t reply e in
    sym (acl_lifted s.world o) ∙ ap acl_of (sym acts ∙ m.acts)
    ∙ (λ i. Done ((ap (λ (r : Reply). r.content) m.replied) i) ((ap (λ (x : State). x.acl) m.leads) i))

module _ {S : Type 0} where
  not_done : {A : Type 0} (refusal : Refusal) (content : Content) (s : S) → ◌≡◌ {A = Outcome S} (Refused refusal) (Done content s) → A
  not_done refusal content s e = absurd (subst T (sym (ap is_done e)) tt)

  past : (b : Bool) (refusal : Refusal) (rest : Outcome S) (content : Content) (s : S) → unless b refusal rest ≡ Done content s →
      (b ≡ false) × (rest ≡ Done content s)
  unfolding unless
  past true refusal rest content s e = not_done refusal content s e
  past false refusal rest content s e = (refl, e)

  present : {A : Type 0} (o : Option A) (go : A → Outcome S) (content : Content) (s : S) → found o go ≡ Done content s →
      (a : A) × (o ≡ Some a) × (go a ≡ Done content s)
  present None go content s e = not_done Refusal.NotFound content s e
  present (Some a) go content s e = (a, refl, e)

  content_in : Content → Outcome S → Content
  content_in default NotEnabled = default
  content_in default (Refused refusal) = default
  content_in default (Done content s) = content

  left_in : S → Outcome S → S
  left_in default NotEnabled = default
  left_in default (Refused refusal) = default
  left_in default (Done content s) = s

  pub same_done : (a b : Content) (x y : S) → Done a x ≡ Done b y → (a ≡ b) × (x ≡ y)
  unfolding content_in left_in
  same_done a b x y e = (ap (content_in a) e, ap (left_in x) e)

-- ---- tables

absent : {X : Type 0} (m : ByName X) (k : Name) → contains_key m k ≡ false → get m k ≡ None
absent m k e = by (get m k) refl
  where
    by : (o : Option _) → get m k ≡ o → o ≡ None
    by None is = refl
    by (Some x) is = not_both (ap is_some is) e

module _ {X : Type 0} (m : ByName X) (k : Name) where
  get_gone : get (remove m k) k ≡ None
  get_gone = get-remove names m k k ∙ ap (λ b. cond b None (get m k)) (same_name_refl k)

  get_left : (q : Name) → q ≢ k → get (remove m k) q ≡ get m q
  get_left q other = get-remove names m k q ∙ ap (λ b. cond b None (get m q)) (other_name q k (λ same. other (sym same)))

-- ---- tokens

pub token_is_as_asked : law.TokenIsAsAsked
unfolding act administer
token_is_as_asked s t secret new reply e =
    let old = s.acl in
    let outcome = acl_made (Step.Admin secret (AdminCommand.CreateToken new)) s t reply (create_token new old) refl e in
    let unused = past (contains_key old.tokens new.secret || has_accessor old new.accessor) Refusal.Conflict _ reply.content t.acl outcome in
    let room = past (nat_le most_rows (len old.tokens)) Refusal.Full _ reply.content t.acl unused.1 in
    let is = same_done _ _ _ _ room.1 in
    let tokens : t.acl.tokens ≡ insert old.tokens new.secret (token_of new) = sym (ap (λ (acl : Acl). acl.tokens) is.1) in record {
      new_secret = absent old.tokens new.secret (left_none (contains_key old.tokens new.secret) _ unused.0);
      new_accessor = λ other token at same. not_both (ap (same_name new.accessor) same ∙ same_name_refl new.accessor)
          (none_of_any one_name (λ _ token. same_name new.accessor token.accessor) old.tokens other token
          (right_none (contains_key old.tokens new.secret) _ unused.0) at);
      token = token_of new;
      stored = ap (λ m. get m new.secret) tokens ∙ get_put names one_name old.tokens new.secret (token_of new);
      as_asked = record { accessor = refl; name = refl; kind = refl; policies = refl };
      shown = made_token new;
      answered = sym is.0;
      shown_as_asked = record { accessor = refl; secret = refl; name = refl; kind = refl; policies = refl };
      others = λ other differ. ap (λ m. get m other) tokens
          ∙ get_other names one_name old.tokens new.secret (token_of new) other (other_name other new.secret (λ same. differ (sym same)));
      same_policies = sym (ap (λ (acl : Acl). acl.policies) is.1);
    }

-- ---- policies

pub policy_is_as_put : law.PolicyIsAsPut
unfolding act administer
policy_is_as_put s t secret name policy reply e =
    let old = s.acl in
    let outcome = acl_made (Step.Admin secret (AdminCommand.PutPolicy name policy)) s t reply (put_policy name policy old) refl e in
    let room = past (is_full old.policies name) Refusal.Full _ reply.content t.acl outcome in
    let is = sym (same_done _ _ _ _ room.1).1 in
    let policies : t.acl.policies ≡ insert old.policies name policy = ap (λ (acl : Acl). acl.policies) is in (
      ap (λ m. get m name) policies ∙ get_put names one_name old.policies name policy,
      (λ other differ. ap (λ m. get m other) policies ∙ get_other names one_name old.policies name policy other
          (other_name other name (λ same. differ (sym same)))),
      ap (λ (acl : Acl). acl.tokens) is,
    )

pub deleted_policy_is_gone : law.DeletedPolicyIsGone
unfolding act administer
deleted_policy_is_gone s t secret name reply e =
    let old = s.acl in
    let outcome = acl_made (Step.Admin secret (AdminCommand.DeletePolicy name)) s t reply (delete_policy name old) refl e in
    let there = present (get old.policies name) _ reply.content t.acl outcome in
    let is = sym (same_done _ _ _ _ there.2).1 in
    let policies : t.acl.policies ≡ remove old.policies name = ap (λ (acl : Acl). acl.policies) is in (
      ap (λ m. get m name) policies ∙ get_gone old.policies name,
      (λ other differ. ap (λ m. get m other) policies ∙ get_left old.policies name other differ),
      ap (λ (acl : Acl). acl.tokens) is,
    )

-- ---- a token that is deleted

-- the secret that is found is that of a row with the accessor
row_found : (accessor k : Name) (P : Name × Token → Type 0) (es : List (Name × Token)) → Each P es →
    option_map (λ e. e.0) (find (λ e. same_name accessor e.1.accessor) es) ≡ Some k →
    (x : Token) × (same_name accessor x.accessor ≡ true) × P (k, x)
row_found accessor k P [] h e = absurd (not_Some k e)
row_found accessor k P (row ∷ es) h e = by (row_found accessor k P es h.1) (same_name accessor row.1.accessor) refl e
  where
    by : (option_map (λ e. e.0) (find (λ e. same_name accessor e.1.accessor) es) ≡ Some k → (x : Token) × (same_name accessor x.accessor ≡ true) × P (k, x))
        → (b : Bool) → same_name accessor row.1.accessor ≡ b →
        option_map (λ e. e.0) (cond b (Some row) (find (λ e. same_name accessor e.1.accessor) es)) ≡ Some k →
        (x : Token) × (same_name accessor x.accessor ≡ true) × P (k, x)
    by later true is e = (row.1, is, subst (λ q. P (q, row.1)) (same_Some row.0 k e) h.0)
    by later false is e = later e

abbrev DifferInAccessor : Name × Token → Name × Token → Type 0
DifferInAccessor a b = same_name a.1.accessor b.1.accessor ≡ false

one_each : (es : List (Name × Token)) → Pairs DifferInAccessor es → (a b : Name) (x y : Token) → find_row name_cmp a es ≡ Some x →
    find_row name_cmp b es ≡ Some y → x.accessor ≡ y.accessor → a ≡ b
one_each [] h a b x y at to same = absurd (not_Some x at)
one_each (e ∷ es) h a b x y at to same =
    by (one_each es h.1 a b x y) (same_name a e.0) refl at (same_name b e.0) refl to
  where
    unlike : (q : Name) (z : Token) → find_row name_cmp q es ≡ Some z → e.1.accessor ≡ z.accessor → a ≡ b
    unlike q z is alike = not_both (ap (λ n. same_name n z.accessor) alike ∙ same_name_refl z.accessor)
        (each_found one_name (DifferInAccessor e) es h.0 q z is)

    by : (find_row name_cmp a es ≡ Some x → find_row name_cmp b es ≡ Some y → x.accessor ≡ y.accessor → a ≡ b)
        → (c : Bool) → same_name a e.0 ≡ c → cond c (Some e.1) (find_row name_cmp a es) ≡ Some x →
        (d : Bool) → same_name b e.0 ≡ d → cond d (Some e.1) (find_row name_cmp b es) ≡ Some y → a ≡ b
    by later true s at true t to = same_name_is a e.0 s ∙ sym (same_name_is b e.0 t)
    by later true s at false t to = unlike b y to (ap (λ (z : Token). z.accessor) (same_Some e.1 x at) ∙ same)
    by later false s at true t to = unlike a x at (ap (λ (z : Token). z.accessor) (same_Some e.1 y to) ∙ sym same)
    by later false s at false t to = later at to same

one_accessor : (tokens : ByName Token) → is_distinct same_name (map (λ x. x.accessor) (values tokens)) ≡ true → (a b : Name) (x y : Token) →
    get tokens a ≡ Some x → get tokens b ≡ Some y → x.accessor ≡ y.accessor → a ≡ b
one_accessor tokens distinct a b x y at to same = one_each (entries tokens)
    (pairs_of_mapped (λ (e : Name × Token). e.1) (λ x y. same_name x.accessor y.accessor ≡ false) (entries tokens)
    (pairs_of_mapped (λ (x : Token). x.accessor) (λ i j. same_name i j ≡ false) (values tokens)
    (pairs_of_distinct same_name (map (λ x. x.accessor) (values tokens)) distinct)))
    a b x y (sym (get-entries tokens a) ∙ at) (sym (get-entries tokens b) ∙ to) same

pub row_of_secret : (acl : Acl) (accessor k : Name) → secret_of acl accessor ≡ Some k →
    (x : Token) × (same_name accessor x.accessor ≡ true) × (get acl.tokens k ≡ Some x)
row_of_secret acl accessor k e = row_found accessor k (λ row. get acl.tokens row.0 ≡ Some row.1) (entries acl.tokens)
    (each_row names one_name (λ q x. get acl.tokens q ≡ Some x) acl.tokens (λ q x at. at)) e

pub deleted_token_is_unknown : law.DeletedTokenIsUnknown
unfolding act administer
deleted_token_is_unknown s t secret accessor reply valid e =
    let old = s.acl in
    let outcome = acl_made (Step.Admin secret (AdminCommand.DeleteToken accessor)) s t reply (delete_token accessor old) refl e in
    let there = present (secret_of old accessor) _ reply.content t.acl outcome in
    let k = there.0 in
    let row = row_of_secret old accessor k there.1 in
    let its = sym (same_name_is accessor row.0.accessor row.1) in
    let may = past (same_name accessor bootstrap_accessor) Refusal.InUse _ reply.content t.acl there.2 in
    let is = sym (same_done _ _ _ _ may.1).1 in
    let tokens : t.acl.tokens ≡ remove old.tokens k = ap (λ (acl : Acl). acl.tokens) is in
    let at : (q : Name) → get t.acl.tokens q ≡ cond (same_name q k) None (get old.tokens q) =
    (λ q. ap (λ m. get m q) tokens ∙ get-remove names old.tokens k q) in record {
      secret = k;
      token = row.0;
      was = row.2;
      its = its;
      left = λ q x. (
        (λ found. by old accessor k row.0 row.2 its valid.acl.accessors q x (same_name q k) refl (sym (at q) ∙ found)),
        (λ kept. at q ∙ ap (λ b. cond b None (get old.tokens q)) (other_name q k
            (λ same. kept.1 (ap (λ (z : Token). z.accessor) (same_Some x row.0 (sym kept.0 ∙ ap (get old.tokens) (sym same) ∙ row.2)) ∙ its))) ∙ kept.0),
      );
      same_policies = ap (λ (acl : Acl). acl.policies) is;
    }
  where
    by : (old : Acl) (accessor k : Name) (row : Token) → get old.tokens k ≡ Some row → row.accessor ≡ accessor →
        is_distinct same_name (map (λ x. x.accessor) (values old.tokens)) ≡ true → (q : Name) (x : Token) (b : Bool) → same_name q k ≡ b →
        cond b None (get old.tokens q) ≡ Some x → (get old.tokens q ≡ Some x) × (x.accessor ≢ accessor)
    by old accessor k row was its distinct q x true is found = absurd (not_Some x found)
    by old accessor k row was its distinct q x false is found = (
      found,
      (λ same. not_both
          (ap (λ n. same_name n k) (one_accessor old.tokens distinct q k x row found was (same ∙ sym its)) ∙ same_name_refl k) is),
    )

-- ---- what a manager's request makes

passes : {S : Type 0} (b : Bool) (refusal : Refusal) (rest : Outcome S) → b ≡ false → unless b refusal rest ≡ rest
unfolding unless
passes b refusal rest e = ap (λ b. cond b (Refused refusal) rest) e

manager_makes : (s : State) (secret : Name) (command : AdminCommand) (content : Content) (acl : Acl) → IsValid s → law.IsManager s.acl secret →
    act (Step.Admin (Some secret) command) s ≡ Done content (with_acl s.world acl) → law.CanBeMade (Step.Admin (Some secret) command) s
manager_makes s secret command content acl valid manager acts =
    let step = Step.Admin (Some secret) command in
    let s' = settled s (with_acl s.world acl) in (
      s',
      reply_of step content s'.world,
      after_allowed step s (manager_is_allowed s.acl secret manager.0 step manager.1 manager.2 refl) ∙ ap (concluded step s) acts
          ∙ ap (λ b. cond b (said (Err Refusal.Full) s) (said (Ok (reply_of step content s'.world)) s'))
          (ap is_past_bound (settle_same s.world) ∙ valid.world.within),
    )

has_room : (most n : ℕ) → n < most → nat_le most n ≡ false
has_room most n few = by (nat_le most n) refl
  where
    by : (b : Bool) → nat_le most n ≡ b → b ≡ false
    by true e = absurd (let most_is = leb-true most n e in omega (arith, few, most_is))
    by false e = refl

pub manager_creates_token : law.ManagerCreatesToken
unfolding act administer
manager_creates_token s secret new valid manager fresh other room =
    let old = s.acl in
    let unused : has_accessor old new.accessor ≡ false = any_row-none names one_name (λ _ token. same_name new.accessor token.accessor) old.tokens
    (λ k x at. other_name new.accessor x.accessor (other k x at)) in
    manager_makes s secret (AdminCommand.CreateToken new) _ _ valid manager (ap (lift (with_acl s.world))
    (passes (contains_key old.tokens new.secret || has_accessor old new.accessor) Refusal.Conflict _ (λ i. is_some (fresh i) || unused i)
    ∙ passes (nat_le most_rows (len old.tokens)) Refusal.Full _ (has_room most_rows (len old.tokens) room)))

none_passes : (p : Name × Token → Bool) (es : List (Name × Token)) → option_map (λ e. e.0) (find p es) ≡ None → list_any p es ≡ false
none_passes p [] e = refl
none_passes p (row ∷ es) e = by (none_passes p es) (p row) e
  where
    by : (option_map (λ e. e.0) (find p es) ≡ None → list_any p es ≡ false) → (b : Bool) → option_map (λ e. e.0) (cond b (Some row) (find p es)) ≡ None →
        (b || list_any p es) ≡ false
    by later true e = absurd (not_Some row.0 (sym e))
    by later false e = later e

pub secret_is : (acl : Acl) (other : Name) (row : Token) → get acl.tokens other ≡ Some row → (k : Name) × (secret_of acl row.accessor ≡ Some k)
unfolding any_row
secret_is acl other row at = by (secret_of acl row.accessor) refl
  where
    by : (o : Option Name) → secret_of acl row.accessor ≡ o → (k : Name) × (secret_of acl row.accessor ≡ Some k)
    by None is = not_both (some_row names one_name (λ _ token. same_name row.accessor token.accessor) acl.tokens other row at (same_name_refl row.accessor))
        (none_passes (λ e. same_name row.accessor e.1.accessor) (entries acl.tokens) is)
    by (Some k) is = (k, is)

pub manager_deletes_token : law.ManagerDeletesToken
unfolding act administer
manager_deletes_token s secret other row valid manager at differs =
    let k = secret_is s.acl other row at in
    manager_makes s secret (AdminCommand.DeleteToken row.accessor) _ _ valid manager (ap (lift (with_acl s.world))
    (ap (λ o. found o (λ secret. unless (same_name row.accessor bootstrap_accessor) Refusal.InUse
    (Done Content.Written (record s.acl { tokens = remove s.acl.tokens secret })))) k.1
    ∙ passes (same_name row.accessor bootstrap_accessor) Refusal.InUse _ (other_name row.accessor bootstrap_accessor (λ same. differs (sym same)))))

leaves_first : (s : State) (o : Option Name) (go : Name → Outcome Acl) →
    Leaves s (lift (with_acl s.world) (found o (λ secret. unless (same_name bootstrap_accessor bootstrap_accessor) Refusal.InUse (go secret))))
unfolding unless
leaves_first s None go = tt
leaves_first s (Some k) go =
    subst (λ b. Leaves s (lift (with_acl s.world) (cond b (Refused Refusal.InUse) (go k)))) (sym (same_name_refl bootstrap_accessor)) tt

pub first_token_stays : law.FirstTokenStays
unfolding act administer
first_token_stays s t secret answer e = idle (Step.Admin secret (AdminCommand.DeleteToken bootstrap_accessor)) s t answer
    (λ _. leaves_first s (secret_of s.acl bootstrap_accessor) _) e

pub manager_puts_policy : law.ManagerPutsPolicy
unfolding act administer
manager_puts_policy s secret name policy valid manager may =
    manager_makes s secret (AdminCommand.PutPolicy name policy) _ _ valid manager (ap (lift (with_acl s.world))
    (passes (is_full s.acl.policies name) Refusal.Full _ (by may)))
  where
    no_room : (there full : Bool) → there ≡ true → (not there && full) ≡ false
    no_room there full e = ap (λ b. not b && full) e

    room : (there full : Bool) → full ≡ false → (not there && full) ≡ false
    room true full e = refl
    room false full e = e

    by : ((old : Policy) × (get s.acl.policies name ≡ Some old)) ⊎ (len s.acl.policies < most_rows) → is_full s.acl.policies name ≡ false
    by (inl h) = no_room _ _ (ap is_some h.1)
    by (inr few) = room _ _ (has_room most_rows (len s.acl.policies) few)

pub manager_deletes_policy : law.ManagerDeletesPolicy
unfolding act administer
manager_deletes_policy s secret name policy valid manager at =
    manager_makes s secret (AdminCommand.DeletePolicy name) _ _ valid manager (ap (lift (with_acl s.world))
    (ap (λ o. found o (λ policy. Done Content.Written (record s.acl { policies = remove s.acl.policies name }))) at))
