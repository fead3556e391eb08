-- No step but an administrator's changes the record of a namespace or the access lists.
use Rattle.std.specs.Prelude.{◌≡◌, Bool, true, false, cond, Ok, Err}
use Rattle.std.proofs.Common.{refl, sym, ap, ◌∙◌}
use Rattle.ns_types.specs.declared.refusal.Refusal.TheVariants as Refusal
use Rattle.ns_types.specs.declared.step.Step.{Step}
use Rattle.ns_types.specs.Access.Sharing.{namespace_at}
use Rattle.ns_types.specs.Asking.Policies.{with_world}
use Rattle.ns_types.specs.State.Names.{Name}
use Rattle.ns_types.specs.Settling.Outcome.{Outcome, NotEnabled, Refused, Done, lift}
use Rattle.ns_types.specs.State.Rows.{State, World}
use Rattle.ns_types.specs.Settling.Settle.{settle}
use Rattle.ns_types.specs.Steps.{Answer, said, act, after, is_allowed, concluded, reply_of, is_past_bound}
use Rattle.ns_types.proofs.Tests.{not_Some, same_Some}
use Rattle.ns_audit.specs.Laws.{is_admin}
use Rattle.ns_audit.proofs.Alone.Naming.{Named, change_named}
use Rattle.ns_audit.proofs.Alone.Recording.{namespace_settled}
use Rattle.ns_audit.proofs.Alone.Sides.{change, act_is}

module _ (s s' : State) (step : Step) (answer : Answer) (plain : is_admin step ≡ false) where
  same_there : (x : State) → x ≡ s' → (ns : Name) → namespace_at x.world ns ≡ namespace_at s.world ns → x.acl ≡ s.acl →
      (namespace_at s'.world ns ≡ namespace_at s.world ns) × (s'.acl ≡ s.acl)
  same_there x e ns named acl = (ap (λ y. namespace_at y.world ns) (sym e) ∙ named, ap (λ y. y.acl) (sym e) ∙ acl)

  concluded_keeps : (ns : Name) (o : Outcome World) → Named s.world o → concluded step s (lift (with_world s.acl) o) ≡ said answer s' →
      (namespace_at s'.world ns ≡ namespace_at s.world ns) × (s'.acl ≡ s.acl)
  concluded_keeps ns NotEnabled named e = absurd (not_Some _ e)
  concluded_keeps ns (Refused refusal) named e = same_there s (ap (λ x. x.1) (same_Some _ _ e)) ns refl refl
  concluded_keeps ns (Done content w) named e = by (is_past_bound (settle s.world w)) e
    where
      by : (b : Bool) → cond b (said (Err Refusal.Full) s)
          (said (Ok (reply_of step content (settle s.world w))) (record { acl = s.acl; world = settle s.world w })) ≡ said answer s' →
          (namespace_at s'.world ns ≡ namespace_at s.world ns) × (s'.acl ≡ s.acl)
      by true e = same_there s (ap (λ x. x.1) (same_Some _ _ e)) ns refl refl
      by false e = same_there (record { acl = s.acl; world = settle s.world w }) (ap (λ x. x.1) (same_Some _ _ e)) ns
          (namespace_settled s.world w ns ∙ named ns) refl

  pub plain_keeps : (ns : Name) → after step s ≡ said answer s' → (namespace_at s'.world ns ≡ namespace_at s.world ns) × (s'.acl ≡ s.acl)
  unfolding after
  plain_keeps ns e = by (is_allowed step s.acl) e
    where
      by : (b : Bool) → cond b (concluded step s (act step s)) (said (Err Refusal.Denied) s) ≡ said answer s' →
          (namespace_at s'.world ns ≡ namespace_at s.world ns) × (s'.acl ≡ s.acl)
      by true e = concluded_keeps ns (change step s.world) (change_named step s.world) (ap (concluded step s) (sym (act_is step s plain)) ∙ e)
      by false e = same_there s (ap (λ x. x.1) (same_Some _ _ e)) ns refl refl
