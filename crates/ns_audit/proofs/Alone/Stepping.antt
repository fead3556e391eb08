-- One step: what is its own goes alike in the server that holds the chosen owners alone, and any other leaves them.
use Rattle.std.specs.Prelude.{◌≡◌, Bool, true, false, cond, Ok, Err}
use Rattle.std.proofs.Common.{refl, sym, ap, subst, ◌∙◌}
use Rattle.ns_types.specs.declared.refusal.Refusal.{Refusal}
use Rattle.ns_types.specs.declared.step.Step.{Step}
use Rattle.ns_types.specs.Asking.Policies.{with_world}
use Rattle.ns_types.specs.Isolation.{Part, alone, alone_in, is_own}
use Rattle.ns_types.specs.Settling.Outcome.{Outcome, NotEnabled, Refused, Done, lift}
use Rattle.ns_types.specs.State.Rows.{State, World}
use Rattle.ns_types.specs.Settling.Settle.{settle}
use Rattle.ns_types.specs.Steps.{Answer, said, after, act, is_allowed, concluded, reply_of, is_past_bound}
use Rattle.ns_audit.specs.Apart.{rest, IsApart, Leaves, Follows}
use Rattle.ns_audit.specs.Laws.{IsFit, OwnStepApart, OtherStepApart}
use Rattle.ns_audit.proofs.Alone.Going.{Goes}
use Rattle.ns_audit.proofs.Alone.Settling.{settle_alone}
use Rattle.ns_audit.proofs.Alone.Applying.{apply_goes}
use Rattle.ns_audit.proofs.Alone.Asking.{ask_goes}
use Rattle.ns_audit.proofs.Alone.Sides.{apart_rest, IsOn, change, is_of_own, is_of_other, not_of_rest, act_is, reply_alike}
use Rattle.ns_audit.proofs.Alone.Sides.{over_alone, over_part, settled_leaves}
use Rattle.ns_audit.proofs.Alone.Pools.{ask_pool_goes}
use Rattle.ns_audit.proofs.Alone.Working.{dequeue_goes, snap_goes, submit_goes, finish_goes, nack_goes}
use Rattle.ns_types.proofs.Tests.{not_Some, same_Some}

-- ---- what changes rows

-- the answer and the state afterwards, in the state that holds the chosen owners alone
abbrev pub Alike : Part → Step → State → Answer → State → Outcome State → Type 0
Alike part step s answer s' o = concluded step (alone part s) o ≡ said answer (alone part s')

module _ (part : Part) (s s' : State) (step : Step) (answer : Answer) (fit : IsFit part s) where
  pub refused_alike : (refusal : Refusal) → said (Err refusal) s ≡ said answer s' → said (Err refusal) (alone part s) ≡ said answer (alone part s')
  refused_alike refusal e = ap (λ (x : Answer × State). said x.0 (alone part x.1)) (same_Some _ _ e)

  -- of what changes its rows
  pub world_alike : is_own part step ≡ true → (o o' : Outcome World) → Follows part o o' → Leaves (rest part) s.world o →
      concluded step s (lift (with_world s.acl) o) ≡ said answer s' → Alike part step s answer s' (lift (with_world s.acl) o')
  unfolding Follows Leaves alone
  world_alike own NotEnabled o' follows leaves e = absurd (not_Some _ e)
  world_alike own (Refused refusal) o' follows leaves e = subst (λ x. Alike part step s answer s' (lift (with_world s.acl) x)) (sym follows)
      (refused_alike refusal e)
  world_alike own (Done content w) o' follows leaves e =
      subst (λ x. Alike part step s answer s' (lift (with_world s.acl) x)) (sym follows) (by (is_past_bound (settle s.world w)) refl e)
    where
      settled_alike : settle (alone_in part s.world) (alone_in part w) ≡ alone_in part (settle s.world w)
      settled_alike = sym (settle_alone part s.world w fit.apart)

      over : is_past_bound (settle s.world w) ≡ is_past_bound (settle (alone_in part s.world) (alone_in part w))
      over = over_alone part (settle s.world w) (ap is_past_bound (settled_leaves (rest part) s.world w (apart_rest part s.world fit.apart) leaves) ∙
          over_part (rest part) s.world fit.within) ∙ ap is_past_bound (sym settled_alike)

      t' : State
      t' = record { acl = s.acl; world = settle (alone_in part s.world) (alone_in part w) }

      y : State
      y = record { acl = s.acl; world = settle s.world w }

      replied : reply_of step content t'.world ≡ reply_of step content y.world
      replied = ap (reply_of step content) settled_alike ∙ reply_alike part step content y.world own

      by : (b : Bool) → is_past_bound (settle s.world w) ≡ b →
          cond b (said (Err Refusal.Full) s) (said (Ok (reply_of step content y.world)) y) ≡ said answer s' →
          Alike part step s answer s' (Done content (with_world s.acl (alone_in part w)))
      by true is e = subst (λ b. cond b (said (Err Refusal.Full) (alone part s)) (said (Ok (reply_of step content t'.world)) t') ≡ said answer (alone part s'))
          (sym is ∙ over) (refused_alike Refusal.Full e)
      by false is e = subst (λ b. cond b (said (Err Refusal.Full) (alone part s)) (said (Ok (reply_of step content t'.world)) t') ≡ said answer (alone part s'))
          (sym is ∙ over)
          ((λ i. said (Ok (replied i)) (record { acl = s.acl; world = settled_alike i })) ∙
          ap (λ (x : Answer × State). said x.0 (alone part x.1)) (same_Some _ _ e))

  -- of what leaves its rows
  pub world_leaves : (o : Outcome World) → Leaves part s.world o → concluded step s (lift (with_world s.acl) o) ≡ said answer s' → alone part s' ≡ alone part s
  unfolding Leaves alone
  world_leaves NotEnabled leaves e = absurd (not_Some _ e)
  world_leaves (Refused refusal) leaves e = ap (λ (x : Answer × State). alone part x.1) (sym (same_Some _ _ e))
  world_leaves (Done content w) leaves e = by (is_past_bound (settle s.world w)) e
    where
      y : State
      y = record { acl = s.acl; world = settle s.world w }

      by : (b : Bool) → cond b (said (Err Refusal.Full) s) (said (Ok (reply_of step content y.world)) y) ≡ said answer s' → alone part s' ≡ alone part s
      by true e = ap (λ (x : Answer × State). alone part x.1) (sym (same_Some _ _ e))
      by false e = ap (λ (x : Answer × State). alone part x.1) (sym (same_Some _ _ e)) ∙
          (λ i. record { acl = s.acl; world = settled_leaves part s.world w fit.apart leaves i })

-- ---- all steps but an administrator's

change_goes : (part : Part) (w : World) → IsApart part w → (step : Step) (b : Bool) → IsOn part w b step →
    Goes part w b (change step w) (change step (alone_in part w))
change_goes part w apart (Step.Ask ns secret command) b on = ask_goes part b ns on w apart command
change_goes part w apart (Step.Admin secret command) b on = absurd on
change_goes part w apart (Step.Node pool secret command) b on = ask_pool_goes part w apart b pool command on
change_goes part w apart (Step.Dequeue worker ns n) b on = dequeue_goes part b ns on w worker n
change_goes part w apart (Step.Snap worker ns) b on = snap_goes part b ns on w apart worker
change_goes part w apart (Step.Submit worker ns) b on = submit_goes part b ns on w apart worker
change_goes part w apart (Step.Apply worker ns) b on = apply_goes part b ns on w apart worker
change_goes part w apart (Step.Finish worker ns) b on = finish_goes part b ns on w apart worker
change_goes part w apart (Step.Nack worker ns) b on = nack_goes part b ns on w worker

pub own_step_apart : OwnStepApart
unfolding after alone
own_step_apart part s s' step answer fit plain own e = by (is_allowed step s.acl) e
  where
    on : IsOn part s.world true step
    on = is_of_own part s.world step own plain

    by : (b : Bool) → cond b (concluded step s (act step s)) (said (Err Refusal.Denied) s) ≡ said answer s' →
        cond b (concluded step (alone part s) (act step (alone part s))) (said (Err Refusal.Denied) (alone part s)) ≡ said answer (alone part s')
    by true e = subst (Alike part step s answer s') (sym (act_is step (alone part s) plain))
        (world_alike part s s' step answer fit own (change step s.world) (change step (alone_in part s.world))
        (change_goes part s.world fit.apart step true on)
        (change_goes (rest part) s.world (apart_rest part s.world fit.apart) step false (not_of_rest part s.world step on))
        (ap (concluded step s) (sym (act_is step s plain)) ∙ e))
    by false e = refused_alike part s s' step answer fit Refusal.Denied e

pub other_step_apart : OtherStepApart
unfolding after
other_step_apart part s s' step answer fit plain other e = by (is_allowed step s.acl) e
  where
    by : (b : Bool) → cond b (concluded step s (act step s)) (said (Err Refusal.Denied) s) ≡ said answer s' → alone part s' ≡ alone part s
    by true e = world_leaves part s s' step answer fit (change step s.world)
        (change_goes part s.world fit.apart step false (is_of_other part s.world step fit.at_home other plain))
        (ap (concluded step s) (sym (act_is step s plain)) ∙ e)
    by false e = ap (λ (x : Answer × State). alone part x.1) (sym (same_Some _ _ e))
