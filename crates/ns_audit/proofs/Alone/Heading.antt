-- The own step and any other step of a namespace that has its pools and its quotas to itself.
use Rattle.std.specs.Prelude.{◌≡◌, ℕ, Bool, true, false, cond, not, List, Option, Some, None, ◌&&◌, Ok, Err, option_map}
use Rattle.std.proofs.Common.{◌⊎◌, inl, inr, refl, sym, ap, subst, ◌∙◌}
use Rattle.std.specs.FinMap.{get, get-insert}
use Rattle.ns_types.specs.declared.evaluation.Evaluation.{Evaluation}
use Rattle.ns_types.specs.declared.records.Namespace.{Namespace}
use Rattle.ns_types.specs.declared.refusal.Refusal.{Refusal}
use Rattle.ns_types.specs.declared.reply.Content.{Content}
use Rattle.ns_types.specs.declared.step.AdminCommand.{AdminCommand}
use Rattle.ns_types.specs.declared.step.Step.{Step}
use Rattle.ns_types.specs.Access.Sharing.{namespace_at, names_within, is_apart}
use Rattle.ns_types.specs.Asking.Admins.{is_full, names_pool, with_namespace, put_namespace}
use Rattle.ns_types.specs.Asking.Policies.{administer, with_world, with_acl}
use Rattle.ns_types.specs.Isolation.{Part, part_of, alone, alone_in, Agree, is_own_admin, is_own, lacks_room, is_full_answer, is_crowded_out}
use Rattle.ns_types.specs.Settling.Outcome.{Outcome, NotEnabled, Refused, Done, lift}
use Rattle.ns_types.specs.Settling.Settle.{settle}
use Rattle.ns_types.specs.State.Names.{Name}
use Rattle.ns_types.specs.State.Rows.{State, World, Acl, Tenant, is_open}
use Rattle.ns_types.specs.Steps.{Answer, said, act, after, is_allowed, concluded, reply_of, is_past_bound}
use Rattle.ns_types.proofs.Leads.{Leads, leads_unless}
use Rattle.ns_types.proofs.Lists.{not_both}
use Rattle.ns_types.proofs.Named.{names, same_name_refl, first_of_both, second_of_both}
use Rattle.ns_types.proofs.Settling.{settle_same}
use Rattle.ns_types.proofs.Tests.{not_Some, same_Some}
use Rattle.ns_audit.specs.Apart.{rest, Leaves}
use Rattle.ns_audit.specs.Headline.{OwnStep, OtherStep}
use Rattle.ns_audit.specs.Laws.{is_admin, IsFit}
use Rattle.ns_audit.specs.Orderly.{IsSteady}
use Rattle.ns_audit.proofs.Alone.Administering.{IsSpared, other_put_namespace, other_delete_namespace, other_put_quota, other_delete_quota, other_read_quota}
use Rattle.ns_audit.proofs.Alone.Administering.{other_put_pool, other_delete_pool, own_put_namespace, own_delete_namespace, own_read_quota, own_put_quota}
use Rattle.ns_audit.proofs.Alone.Administering.{own_delete_quota, own_put_pool, own_delete_pool}
use Rattle.ns_audit.proofs.Alone.Bordering.{fit_apart, named_side, open_side, record_within}
use Rattle.ns_audit.proofs.Alone.Recording.{namespace_settled}
use Rattle.ns_audit.proofs.Alone.Sides.{over_part}
use Rattle.ns_audit.proofs.Alone.Stepping.{Alike, refused_alike, world_alike, world_leaves, own_step_apart, other_step_apart}

abbrev pub Answered : Part → Step → State → State → Answer → Type 0
Answered part step t s' answer = (t' : State) × (after step t ≡ said answer t') × Agree part s' t'

-- ---- an administrator's step

module _ (part : Part) (s s' : State) (secret : Option Name) (command : AdminCommand) (answer : Answer) (fit : IsFit part s) where
  abbrev pub step : Step
  step = Step.Admin secret command

  -- of what changes access lists
  acl_alike : (o : Outcome Acl) → concluded step s (lift (with_acl s.world) o) ≡ said answer s' →
      Alike part step s answer s' (lift (with_acl (alone_in part s.world)) o)
  unfolding alone
  acl_alike NotEnabled e = absurd (not_Some _ e)
  acl_alike (Refused refusal) e = refused_alike part s s' step answer fit refusal e
  acl_alike (Done content acl) e = whole (alone_in part s.world) (over_part part s.world fit.within) (alone part s) ∙
      ap (λ (x : Answer × State). said x.0 (alone part x.1)) (same_Some _ _ (sym (whole s.world fit.within s) ∙ e))
    where
      -- nothing is released or stamped
      whole : (w : World) → is_past_bound w ≡ false → (x : State) →
          cond (is_past_bound (settle w w)) (said (Err Refusal.Full) x)
          (said (Ok (reply_of step content (settle w w))) (record { acl = acl; world = settle w w })) ≡
          said (Ok (reply_of step content w)) (record { acl = acl; world = w })
      whole w within x = (λ i. cond (is_past_bound (settle_same w i)) (said (Err Refusal.Full) x)
          (said (Ok (reply_of step content (settle_same w i))) (record { acl = acl; world = settle_same w i }))) ∙
          ap (λ b. cond b (said (Err Refusal.Full) x) (said (Ok (reply_of step content w)) (record { acl = acl; world = w }))) within

  -- of what only reads
  list_leaves : (content : Content) → concluded step s (Done content s) ≡ said answer s' → alone part s' ≡ alone part s
  unfolding Leaves
  list_leaves content e = world_leaves part s s' step answer fit (Done content s.world) same e
    where
      same : Leaves part s.world (Done content s.world)
      same = refl

-- ---- its own

module _ (part : Part) (s s' : State) (secret : Option Name) (answer : Answer) (fit : IsFit part s)
    (named : (ns : Name) (t : Tenant) (p : Name) → get s.world.tenants ns ≡ Some t → names_pool p t.namespace ≡ true → part.pools p ≡ part.spaces ns)
    (opened : (ns : Name) (t : Tenant) (n : ℕ) (e : Evaluation) → get s.world.tenants ns ≡ Some t → get t.evaluations n ≡ Some e → is_open e.status ≡ true →
    part.pools e.pool ≡ part.spaces ns) where
  -- what is not crowded out
  spared : (command : AdminCommand) (own full : Bool) (o : Outcome World) → (own && full && is_full_answer answer) ≡ false → own ≡ true →
      concluded (Step.Admin secret command) s (lift (with_world s.acl) o) ≡ said answer s' → IsSpared full o
  spared command own full o uncrowded mine e is refuses = not_both (λ i. mine i && is i && full_answer i) uncrowded
    where
      full_answer : is_full_answer answer ≡ true
      full_answer = ap (λ (x : Answer × State). is_full_answer x.0)
          (sym (same_Some _ _ (sym (ap (λ o. concluded (Step.Admin secret command) s (lift (with_world s.acl) o)) refuses) ∙ e)))

  own_allowed : (command : AdminCommand) → is_own_admin part command ≡ true →
      (is_own_admin part command && lacks_room (Step.Admin secret command) s.world && is_full_answer answer) ≡ false →
      concluded (Step.Admin secret command) s (administer secret command s) ≡ said answer s' →
      Alike part (Step.Admin secret command) s answer s' (administer secret command (alone part s))
  unfolding administer alone is_own is_own_admin
  own_allowed AdminCommand.ListNamespaces own uncrowded e = not_both own refl
  own_allowed (AdminCommand.PutNamespace name namespace) own uncrowded e =
      let mine = first_of_both _ _ own in
      world_alike part s s' (Step.Admin secret (AdminCommand.PutNamespace name namespace)) answer fit own _ _
      (own_put_namespace part s.world name namespace mine (second_of_both (part.spaces name) _ own)
      (spared (AdminCommand.PutNamespace name namespace) (part.spaces name && names_within part.pools part.quotas namespace)
      (is_full s.world.tenants name) _ uncrowded own e))
      (other_put_namespace (rest part) s.world name namespace (ap not mine)) e
  own_allowed (AdminCommand.DeleteNamespace name) own uncrowded e =
      world_alike part s s' (Step.Admin secret (AdminCommand.DeleteNamespace name)) answer fit own _ _ (own_delete_namespace part s.world name own)
      (other_delete_namespace (rest part) s.world name (ap not own)) e
  own_allowed AdminCommand.ListQuotas own uncrowded e = not_both own refl
  own_allowed (AdminCommand.ReadQuota name) own uncrowded e =
      world_alike part s s' (Step.Admin secret (AdminCommand.ReadQuota name)) answer fit own _ _ (own_read_quota part s.world name own)
      (other_read_quota (rest part) s.world name) e
  own_allowed (AdminCommand.PutQuota name quota) own uncrowded e =
      world_alike part s s' (Step.Admin secret (AdminCommand.PutQuota name quota)) answer fit own _ _ (own_put_quota part s.world name quota own
      (spared (AdminCommand.PutQuota name quota) (part.quotas name) (is_full s.world.quotas name) _ uncrowded own e))
      (other_put_quota (rest part) s.world name quota (ap not own)) e
  own_allowed (AdminCommand.DeleteQuota name) own uncrowded e =
      world_alike part s s' (Step.Admin secret (AdminCommand.DeleteQuota name)) answer fit own _ _ (own_delete_quota part s.world fit.apart name own)
      (other_delete_quota (rest part) s.world name (ap not own)) e
  own_allowed AdminCommand.ListPools own uncrowded e = not_both own refl
  own_allowed (AdminCommand.PutPool name pool) own uncrowded e =
      world_alike part s s' (Step.Admin secret (AdminCommand.PutPool name pool)) answer fit own _ _ (own_put_pool part s.world name pool own
      (spared (AdminCommand.PutPool name pool) (part.pools name) (is_full s.world.pools name) _ uncrowded own e))
      (other_put_pool (rest part) s.world name pool (ap not own)) e
  own_allowed (AdminCommand.DeletePool name) own uncrowded e =
      world_alike part s s' (Step.Admin secret (AdminCommand.DeletePool name)) answer fit own _ _ (own_delete_pool part s.world fit.apart named opened name own)
      (other_delete_pool (rest part) s.world name (ap not own)) e
  own_allowed (AdminCommand.ReadPolicy name) own uncrowded e = acl_alike part s s' secret (AdminCommand.ReadPolicy name) answer fit _ e
  own_allowed (AdminCommand.PutPolicy name policy) own uncrowded e = acl_alike part s s' secret (AdminCommand.PutPolicy name policy) answer fit _ e
  own_allowed (AdminCommand.DeletePolicy name) own uncrowded e = acl_alike part s s' secret (AdminCommand.DeletePolicy name) answer fit _ e
  own_allowed (AdminCommand.CreateToken new) own uncrowded e = acl_alike part s s' secret (AdminCommand.CreateToken new) answer fit _ e
  own_allowed (AdminCommand.DeleteToken accessor) own uncrowded e = acl_alike part s s' secret (AdminCommand.DeleteToken accessor) answer fit _ e

  pub own_admin : (command : AdminCommand) → is_own_admin part command ≡ true →
      (is_own_admin part command && lacks_room (Step.Admin secret command) s.world && is_full_answer answer) ≡ false →
      after (Step.Admin secret command) s ≡ said answer s' → after (Step.Admin secret command) (alone part s) ≡ said answer (alone part s')
  unfolding after act alone
  own_admin command own uncrowded e = by (is_allowed (Step.Admin secret command) s.acl) e
    where
      by : (b : Bool) → cond b (concluded (Step.Admin secret command) s (administer secret command s)) (said (Err Refusal.Denied) s) ≡ said answer s' →
          cond b (concluded (Step.Admin secret command) (alone part s) (administer secret command (alone part s))) (said (Err Refusal.Denied) (alone part s)) ≡
          said answer (alone part s')
      by true e = own_allowed command own uncrowded e
      by false e = refused_alike part s s' (Step.Admin secret command) answer fit Refusal.Denied e

-- ---- any other

module _ (part : Part) (s s' : State) (secret : Option Name) (answer : Answer) (fit : IsFit part s)
    (within : (name : Name) (namespace : Namespace) → part.spaces name ≡ true → namespace_at s'.world name ≡ Some namespace →
    names_within part.pools part.quotas namespace ≡ true) where
  -- a put of the namespace's record that names another pool or quota is refused, since it is apart afterwards
  foreign_put : (command : AdminCommand) (name : Name) (namespace : Namespace) → part.spaces name ≡ true →
      names_within part.pools part.quotas namespace ≡ false → (o : Outcome World)
      → Leads (λ x. namespace_at x name ≡ Some namespace) o → concluded (Step.Admin secret command) s (lift (with_world s.acl) o) ≡ said answer s' →
      alone part s' ≡ alone part s
  foreign_put command name namespace mine without NotEnabled put e = absurd (not_Some _ e)
  foreign_put command name namespace mine without (Refused refusal) put e = ap (λ (x : Answer × State). alone part x.1) (sym (same_Some _ _ e))
  foreign_put command name namespace mine without (Done content w) put e = by (is_past_bound (settle s.world w)) e
    where
      y : State
      y = record { acl = s.acl; world = settle s.world w }

      by : (b : Bool) → cond b (said (Err Refusal.Full) s) (said (Ok (reply_of (Step.Admin secret command) content y.world)) y) ≡ said answer s' →
          alone part s' ≡ alone part s
      by true e = ap (λ (x : Answer × State). alone part x.1) (sym (same_Some _ _ e))
      by false e = not_both (within name namespace mine
          (ap (λ (x : Answer × State). namespace_at x.1.world name) (sym (same_Some _ _ e)) ∙ namespace_settled s.world w name ∙ put)) without

  record_put : (name : Name) (namespace : Namespace) → Leads (λ x. namespace_at x name ≡ Some namespace) (put_namespace name namespace s.world)
  unfolding put_namespace
  record_put name namespace =
      leads_unless Q _ _ _ (λ _. leads_unless Q _ _ _ (λ _. leads_unless Q _ _ _ (λ _. leads_unless Q _ _ _ (λ _. leads_unless Q _ _ _ (λ _.
      ap (option_map (λ (t : Tenant). t.namespace)) (get-insert names s.world.tenants name (with_namespace namespace (get s.world.tenants name)) name ∙
      ap (λ b. cond b (Some (with_namespace namespace (get s.world.tenants name))) (get s.world.tenants name)) (same_name_refl name)) ∙
      ap Some (new (get s.world.tenants name)))))))
    where
      Q : World → Type 0
      Q x = namespace_at x name ≡ Some namespace

      new : (o : Option Tenant) → (with_namespace namespace o).namespace ≡ namespace
      new None = refl
      new (Some t) = refl

  other_allowed : (command : AdminCommand) → is_own_admin part command ≡ false →
      concluded (Step.Admin secret command) s (administer secret command s) ≡ said answer s' → alone part s' ≡ alone part s
  unfolding administer is_own_admin
  other_allowed AdminCommand.ListNamespaces other e = list_leaves part s s' secret AdminCommand.ListNamespaces answer fit _ e
  other_allowed (AdminCommand.PutNamespace name namespace) other e = by (part.spaces name) refl other
    where
      by : (b : Bool) → part.spaces name ≡ b → (b && names_within part.pools part.quotas namespace) ≡ false → alone part s' ≡ alone part s
      by true mine without = foreign_put (AdminCommand.PutNamespace name namespace) name namespace mine without _ (record_put name namespace) e
      by false foreign _ = world_leaves part s s' (Step.Admin secret (AdminCommand.PutNamespace name namespace)) answer fit _
          (other_put_namespace part s.world name namespace foreign) e
  other_allowed (AdminCommand.DeleteNamespace name) other e =
      world_leaves part s s' (Step.Admin secret (AdminCommand.DeleteNamespace name)) answer fit _ (other_delete_namespace part s.world name other) e
  other_allowed AdminCommand.ListQuotas other e = list_leaves part s s' secret AdminCommand.ListQuotas answer fit _ e
  other_allowed (AdminCommand.ReadQuota name) other e =
      world_leaves part s s' (Step.Admin secret (AdminCommand.ReadQuota name)) answer fit _ (other_read_quota part s.world name) e
  other_allowed (AdminCommand.PutQuota name quota) other e =
      world_leaves part s s' (Step.Admin secret (AdminCommand.PutQuota name quota)) answer fit _ (other_put_quota part s.world name quota other) e
  other_allowed (AdminCommand.DeleteQuota name) other e =
      world_leaves part s s' (Step.Admin secret (AdminCommand.DeleteQuota name)) answer fit _ (other_delete_quota part s.world name other) e
  other_allowed AdminCommand.ListPools other e = list_leaves part s s' secret AdminCommand.ListPools answer fit _ e
  other_allowed (AdminCommand.PutPool name pool) other e =
      world_leaves part s s' (Step.Admin secret (AdminCommand.PutPool name pool)) answer fit _ (other_put_pool part s.world name pool other) e
  other_allowed (AdminCommand.DeletePool name) other e =
      world_leaves part s s' (Step.Admin secret (AdminCommand.DeletePool name)) answer fit _ (other_delete_pool part s.world name other) e
  other_allowed (AdminCommand.ReadPolicy name) other e = not_both refl other
  other_allowed (AdminCommand.PutPolicy name policy) other e = not_both refl other
  other_allowed (AdminCommand.DeletePolicy name) other e = not_both refl other
  other_allowed (AdminCommand.CreateToken new) other e = not_both refl other
  other_allowed (AdminCommand.DeleteToken accessor) other e = not_both refl other

  pub other_admin : (command : AdminCommand) → is_own_admin part command ≡ false → after (Step.Admin secret command) s ≡ said answer s' →
      alone part s' ≡ alone part s
  unfolding after act
  other_admin command other e = by (is_allowed (Step.Admin secret command) s.acl) e
    where
      by : (b : Bool) → cond b (concluded (Step.Admin secret command) s (administer secret command s)) (said (Err Refusal.Denied) s) ≡ said answer s' →
          alone part s' ≡ alone part s
      by true e = other_allowed command other e
      by false e = ap (λ (x : Answer × State). alone part x.1) (sym (same_Some _ _ e))

-- ---- all steps

record IsAdmin (step : Step) : Type 0 where
  secret : Option Name
  command : AdminCommand
  is_step : step ≡ Step.Admin secret command

kind : (step : Step) → (is_admin step ≡ false) ⊎ IsAdmin step
kind (Step.Ask ns secret command) = inl refl
kind (Step.Admin secret command) = inr (record { secret = secret; command = command; is_step = refl })
kind (Step.Node pool secret command) = inl refl
kind (Step.Dequeue worker ns n) = inl refl
kind (Step.Snap worker ns) = inl refl
kind (Step.Submit worker ns) = inl refl
kind (Step.Apply worker ns) = inl refl
kind (Step.Finish worker ns) = inl refl
kind (Step.Nack worker ns) = inl refl

module _ (ns : Name) (pools quotas : List Name) (s t s' : State) (answer : Answer) (steady : IsSteady s) (apart : is_apart s.world ns pools quotas ≡ true)
    (agree : Agree (part_of ns pools quotas) s t) where
  abbrev pub part : Part
  part = part_of ns pools quotas

  own_administered : (secret : Option Name) (command : AdminCommand) → is_own part (Step.Admin secret command) ≡ true →
      is_crowded_out part (Step.Admin secret command) s answer ≡ false → after (Step.Admin secret command) s ≡ said answer s' →
      Answered part (Step.Admin secret command) t s' answer
  unfolding is_own
  own_administered secret command own uncrowded e = (
    alone part s',
    ap (after (Step.Admin secret command)) agree ∙ own_admin part s s' secret answer (fit_apart ns pools quotas s steady apart)
        (named_side s.world ns pools quotas apart) (open_side s.world ns pools quotas apart steady.orderly) command own uncrowded e,
    refl,
  )

  own_of : (step : Step) → is_own part step ≡ true → is_crowded_out part step s answer ≡ false → after step s ≡ said answer s' → Answered part step t s' answer
  own_of step own uncrowded e = by (kind step)
    where
      by : (is_admin step ≡ false) ⊎ IsAdmin step → Answered part step t s' answer
      by (inl plain) = (
        alone part s',
        ap (after step) agree ∙ own_step_apart part s s' step answer (fit_apart ns pools quotas s steady apart) plain own e,
        refl,
      )
      by (inr admin) = subst (λ x. is_own part x ≡ true → is_crowded_out part x s answer ≡ false → after x s ≡ said answer s' → Answered part x t s' answer)
          (sym admin.is_step) (own_administered admin.secret admin.command) own uncrowded e

  module _ (still : is_apart s'.world ns pools quotas ≡ true) where
    other_administered : (secret : Option Name) (command : AdminCommand) → is_own part (Step.Admin secret command) ≡ false →
        after (Step.Admin secret command) s ≡ said answer s' → Agree part s' t
    unfolding is_own
    other_administered secret command other e = agree ∙ sym (other_admin part s s' secret answer (fit_apart ns pools quotas s steady apart)
        (record_within s'.world ns pools quotas still) command other e)

    other_of : (step : Step) → is_own part step ≡ false → after step s ≡ said answer s' → Agree part s' t
    other_of step other e = by (kind step)
      where
        by : (is_admin step ≡ false) ⊎ IsAdmin step → Agree part s' t
        by (inl plain) = agree ∙ sym (other_step_apart part s s' step answer (fit_apart ns pools quotas s steady apart) plain other e)
        by (inr admin) = subst (λ x. is_own part x ≡ false → after x s ≡ said answer s' → Agree part s' t)
            (sym admin.is_step) (other_administered admin.secret admin.command) other e

pub own_step : OwnStep
own_step ns pools quotas s t s' step answer steady apart agree own uncrowded e = own_of ns pools quotas s t s' answer steady apart agree step own uncrowded e

pub other_step : OtherStep
other_step ns pools quotas s t s' step answer steady apart still agree other e = other_of ns pools quotas s t s' answer steady apart agree still step other e
