-- Who changes the access lists, and what the lists of namespaces and pools show.
use Rattle.std.specs.Prelude.{◌≡◌, ◌⊎◌, Bool, true, false, cond, List, Option, Some, None, Ok, Err}
use Rattle.std.proofs.Common.{refl, sym, ap, ◌∙◌, inl, inr}
use Rattle.std.specs.FinMap.{get}
use Rattle.std.proofs.lemmas.List.Folds.{list_any_at}
use Rattle.std.specs.List.{Contains, list_any}
use Rattle.ns_types.specs.declared.acl.Token.{Token}
use Rattle.ns_types.specs.declared.acl.TokenKind.{TokenKind}
use Rattle.ns_types.specs.declared.refusal.Refusal.{Refusal}
use Rattle.ns_types.specs.declared.reply.Content.{Content}
use Rattle.ns_types.specs.declared.reply.NamespaceShown.{NamespaceShown}
use Rattle.ns_types.specs.declared.reply.PoolShown.{PoolShown}
use Rattle.ns_types.specs.declared.step.AdminCommand.{AdminCommand}
use Rattle.ns_types.specs.declared.step.Step.{Step}
use Rattle.ns_types.specs.Asking.Policies.{administer, with_acl, with_world}
use Rattle.ns_types.specs.Settling.Outcome.{Outcome, NotEnabled, Refused, Done, found, lift}
use Rattle.ns_types.specs.State.Names.{Name, same_name}
use Rattle.ns_types.specs.State.Rows.{Acl, State, World}
use Rattle.ns_types.specs.Steps.{Answer, after, act, said, concluded, is_allowed, is_past_bound, settled, reply_of}
use Rattle.ns_types.proofs.Lists.{each_map, not_both}
use Rattle.ns_types.proofs.Named.{same_name_refl}
use Rattle.ns_laws.proofs.Access.Secrets.{only_managers_administer}
use Rattle.ns_laws.proofs.Reading.Documents.{namespaces_are_listed, pools_are_listed}
use Rattle.ns_laws.specs.Secrets as law
use Rattle.ns_audit.proofs.RightsLemmas.{unknown_is_denied}
use Rattle.ns_audit.proofs.StepLemmas.{same_state, not_said}

-- ---- who changes the access lists

-- what an outcome leaves, if it is done, has these access lists
abbrev Keeps : Acl → Outcome State → Type 0
Keeps acl NotEnabled = Unit {0}
Keeps acl (Refused refusal) = Unit {0}
Keeps acl (Done content s) = s.acl ≡ acl

keeps_world : (acl : Acl) (o : Outcome World) → Keeps acl (lift (with_world acl) o)
keeps_world acl NotEnabled = tt
keeps_world acl (Refused refusal) = tt
keeps_world acl (Done content w) = refl

keeps_read : {A : Type 0} (s : State) (o : Option A) (content : A → Content) →
    Keeps s.acl (lift (with_acl s.world) (found o (λ a. Done (content a) s.acl)))
keeps_read s None content = tt
keeps_read s (Some a) content = refl

keeps_administered : (s : State) (secret : Option Name) (command : AdminCommand) → law.writes_access (Step.Admin secret command) ≡ false →
    Keeps s.acl (administer secret command s)
unfolding administer
keeps_administered s secret AdminCommand.ListNamespaces e = refl
keeps_administered s secret (AdminCommand.PutNamespace name namespace) e = keeps_world s.acl _
keeps_administered s secret (AdminCommand.DeleteNamespace name) e = keeps_world s.acl _
keeps_administered s secret AdminCommand.ListQuotas e = refl
keeps_administered s secret (AdminCommand.ReadQuota name) e = keeps_world s.acl _
keeps_administered s secret (AdminCommand.PutQuota name quota) e = keeps_world s.acl _
keeps_administered s secret (AdminCommand.DeleteQuota name) e = keeps_world s.acl _
keeps_administered s secret AdminCommand.ListPools e = refl
keeps_administered s secret (AdminCommand.PutPool name pool) e = keeps_world s.acl _
keeps_administered s secret (AdminCommand.DeletePool name) e = keeps_world s.acl _
keeps_administered s secret (AdminCommand.ReadPolicy name) e = keeps_read s (get s.acl.policies name) _
keeps_administered s secret (AdminCommand.PutPolicy name policy) e = not_both refl e
keeps_administered s secret (AdminCommand.DeletePolicy name) e = not_both refl e
keeps_administered s secret (AdminCommand.CreateToken new) e = not_both refl e
keeps_administered s secret (AdminCommand.DeleteToken accessor) e = not_both refl e

keeps_acl : (step : Step) (s : State) → law.writes_access step ≡ false → Keeps s.acl (act step s)
unfolding act
keeps_acl (Step.Ask ns secret command) s e = keeps_world s.acl _
keeps_acl (Step.Admin secret command) s e = keeps_administered s secret command e
keeps_acl (Step.Node pool secret command) s e = keeps_world s.acl _
keeps_acl (Step.Dequeue worker ns n) s e = keeps_world s.acl _
keeps_acl (Step.Snap worker ns) s e = keeps_world s.acl _
keeps_acl (Step.Submit worker ns) s e = keeps_world s.acl _
keeps_acl (Step.Apply worker ns) s e = keeps_world s.acl _
keeps_acl (Step.Finish worker ns) s e = keeps_world s.acl _
keeps_acl (Step.Nack worker ns) s e = keeps_world s.acl _

same_acl : (s t : State) → s ≡ t → t.acl ≡ s.acl
same_acl s t e = ap (λ (x : State). x.acl) (sym e)

concluded_keeps : (step : Step) (s t : State) (answer : Answer) (o : Outcome State) → Keeps s.acl o → concluded step s o ≡ said answer t → t.acl ≡ s.acl
concluded_keeps step s t answer NotEnabled h e = not_said answer t e
concluded_keeps step s t answer (Refused refusal) h e = same_acl s t (same_state _ _ s t e)
concluded_keeps step s t answer (Done content s') h e = by (is_past_bound (settled s s').world) e
  where
    by : (b : Bool) → cond b (said (Err Refusal.Full) s) (said (Ok (reply_of step content (settled s s').world)) (settled s s')) ≡ said answer t → t.acl ≡ s.acl
    by true e = same_acl s t (same_state _ _ s t e)
    by false e = same_acl (settled s s') t (same_state _ _ (settled s s') t e) ∙ h

pub access_lists_stay : law.AccessListsStay
unfolding after
access_lists_stay step s t answer other e = by (is_allowed step s.acl) e
  where
    by : (b : Bool) → cond b (concluded step s (act step s)) (said (Err Refusal.Denied) s) ≡ said answer t → t.acl ≡ s.acl
    by true e = concluded_keeps step s t answer (act step s) (keeps_acl step s other) e
    by false e = same_acl s t (same_state _ _ s t e)

-- a denied step changes nothing
denied_keeps : (step : Step) (s t : State) (answer : Answer) → after step s ≡ said (Err Refusal.Denied) s → after step s ≡ said answer t → t.acl ≡ s.acl
denied_keeps step s t answer denied e = same_acl s t (same_state _ _ s t (sym denied ∙ e))

-- a list is no write, and all else is denied
clients_keep : (s t : State) (secret : Option Name) (policies : List Name) (command : AdminCommand) (answer : Answer) → law.HasPolicies s.acl secret policies →
    after (Step.Admin secret command) s ≡ said answer t → t.acl ≡ s.acl
clients_keep s t secret policies command answer has e = by (law.is_for_all command) refl
  where
    no_write : (command : AdminCommand) → law.is_for_all command ≡ true → law.writes_access (Step.Admin secret command) ≡ false
    no_write AdminCommand.ListNamespaces e = refl
    no_write (AdminCommand.PutNamespace name namespace) e = refl
    no_write (AdminCommand.DeleteNamespace name) e = refl
    no_write AdminCommand.ListQuotas e = refl
    no_write (AdminCommand.ReadQuota name) e = refl
    no_write (AdminCommand.PutQuota name quota) e = refl
    no_write (AdminCommand.DeleteQuota name) e = refl
    no_write AdminCommand.ListPools e = refl
    no_write (AdminCommand.PutPool name pool) e = refl
    no_write (AdminCommand.DeletePool name) e = refl
    no_write (AdminCommand.ReadPolicy name) e = refl
    no_write (AdminCommand.PutPolicy name policy) e = not_both e refl
    no_write (AdminCommand.DeletePolicy name) e = not_both e refl
    no_write (AdminCommand.CreateToken new) e = not_both e refl
    no_write (AdminCommand.DeleteToken accessor) e = not_both e refl

    by : (b : Bool) → law.is_for_all command ≡ b → t.acl ≡ s.acl
    by true is = access_lists_stay (Step.Admin secret command) s t answer (no_write command is) e
    by false is = denied_keeps (Step.Admin secret command) s t answer (only_managers_administer s secret policies command has is) e

pub only_managers_change_access : law.OnlyManagersChangeAccess
only_managers_change_access (Step.Ask ns secret command) s t answer e = inl (access_lists_stay (Step.Ask ns secret command) s t answer refl e)
only_managers_change_access (Step.Admin None command) s t answer e = inl (clients_keep s t None _ command answer law.anonymous e)
only_managers_change_access (Step.Admin (Some secret) command) s t answer e = by (get s.acl.tokens secret) refl
  where
    with_kind : (token : Token) (kind : TokenKind) → get s.acl.tokens secret ≡ Some token → token.kind ≡ kind →
        (t.acl ≡ s.acl) ⊎ law.IsManagers s.acl (Step.Admin (Some secret) command)
    with_kind token TokenKind.Client is kind = inl (clients_keep s t (Some secret) token.policies command answer (law.of_token secret token is kind) e)
    with_kind token TokenKind.Management is kind = inr (token, is, kind)

    by : (o : Option Token) → get s.acl.tokens secret ≡ o → (t.acl ≡ s.acl) ⊎ law.IsManagers s.acl (Step.Admin (Some secret) command)
    by None is = inl (denied_keeps (Step.Admin (Some secret) command) s t answer (unknown_is_denied s secret (Step.Admin (Some secret) command) is refl) e)
    by (Some token) is = with_kind token token.kind is refl
only_managers_change_access (Step.Node pool secret command) s t answer e = inl (access_lists_stay (Step.Node pool secret command) s t answer refl e)
only_managers_change_access (Step.Dequeue worker ns n) s t answer e = inl (access_lists_stay (Step.Dequeue worker ns n) s t answer refl e)
only_managers_change_access (Step.Snap worker ns) s t answer e = inl (access_lists_stay (Step.Snap worker ns) s t answer refl e)
only_managers_change_access (Step.Submit worker ns) s t answer e = inl (access_lists_stay (Step.Submit worker ns) s t answer refl e)
only_managers_change_access (Step.Apply worker ns) s t answer e = inl (access_lists_stay (Step.Apply worker ns) s t answer refl e)
only_managers_change_access (Step.Finish worker ns) s t answer e = inl (access_lists_stay (Step.Finish worker ns) s t answer refl e)
only_managers_change_access (Step.Nack worker ns) s t answer e = inl (access_lists_stay (Step.Nack worker ns) s t answer refl e)

-- ---- what the lists show

-- a row that is listed with its name is found by that name
named_among : {Y : Type 0} (name : Y → Name) (ys : List Y) (k : Name) → (y : Y) × Contains ys y × (name y ≡ k) → list_any (λ y. same_name (name y) k) ys ≡ true
named_among name ys k h = list_any_at (λ y. same_name (name y) k) ys h.1.0 h.0 h.1.1
    (ap (λ y. same_name (name y) k) h.1.2 ∙ ap (λ n. same_name n k) h.2 ∙ same_name_refl k)

pub list_shows_readable : law.ListShowsReadable
list_shows_readable s t secret reply e = let shows = namespaces_are_listed secret s t reply e in record {
  rows = shows.shown;
  answered = shows.answered;
  no_other = each_map (λ y r. record { tenant = r.row; there = r.is_row; row = r.shows; allowed = r.passes }) shows.shown shows.no_other;
  all = λ ns x at may. named_among (λ (y : NamespaceShown). y.name) shows.shown ns (shows.all ns x at may);
}

pub list_shows_readable_pools : law.ListShowsReadablePools
list_shows_readable_pools s t secret reply e = let shows = pools_are_listed secret s t reply e in record {
  rows = shows.shown;
  answered = shows.answered;
  no_other = each_map (λ y r. record { rows = r.row; there = r.is_row; row = r.shows; allowed = r.passes }) shows.shown shows.no_other;
  all = λ pool x at may. named_among (λ (y : PoolShown). y.name) shows.shown pool (shows.all pool x at may);
}
