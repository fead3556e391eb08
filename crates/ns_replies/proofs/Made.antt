-- The room of a step that may change something is enough for the body of its reply.
use Rattle.std.proofs.Common.{◌≡◌, ℕ, ◌≤◌, Bool, true, false, cond, ◌&&◌, Option, Some, None, Ok, Err, is_ok, is_some, refl, sym, ap, subst, ◌∙◌, arith}
use Rattle.std.specs.Prelude.{IsSome, IsSomeAnd, nat_lt}
use Rattle.std.specs.Option.{option_and_then, option_map_or}
use Rattle.std.specs.FinMap.{get}
use Rattle.ns_types.specs.declared.evaluation.Evaluation.{Evaluation}
use Rattle.ns_types.specs.declared.evaluation.Status.{Status}
use Rattle.ns_types.specs.declared.refusal.Refusal.{Refusal}
use Rattle.ns_types.specs.declared.reply.Content.{Content}
use Rattle.ns_types.specs.declared.reply.Reply.{Reply}
use Rattle.ns_types.specs.declared.snapshot.Snapshot.{Snapshot}
use Rattle.ns_types.specs.declared.step.AdminCommand.{AdminCommand}
use Rattle.ns_types.specs.declared.step.AskCommand.{AskCommand}
use Rattle.ns_types.specs.declared.step.NodeCommand.{NodeCommand}
use Rattle.ns_types.specs.declared.step.NewToken.{NewToken}
use Rattle.ns_types.specs.declared.step.Step.{Step}
use Rattle.ns_types.specs.declared.worker.Phase.{Phase}
use Rattle.ns_types.specs.Asking.Policies.{made_token, with_world}
use Rattle.ns_types.specs.Placing.Plan.{plan}
use Rattle.ns_types.specs.Settling.Outcome.{Outcome, NotEnabled, Refused, Done, lift}
use Rattle.ns_types.specs.Settling.Settle.{settle}
use Rattle.ns_types.specs.State.Names.{Name}
use Rattle.ns_types.specs.State.Rows.{State, Tenant, World}
use Rattle.ns_types.specs.Steps.{act, after, concluded, is_allowed, is_past_bound, reply_of, said}
use Rattle.ns_types.specs.Working.Commit.{applied, apply, apply_for, commit}
use Rattle.ns_types.specs.Working.Looks.{worker_at}
use Rattle.ns_types.specs.Working.Queue.{is_served}
use Rattle.ns_types.specs.Working.Work.{at_work, dequeue, dequeue_in, finish, finish_for, finished, is_idle, is_submitted, may_finish, may_snap}
use Rattle.ns_types.specs.Working.Work.{may_submit, nack, nack_for, needs_follower, planned_of, snap, snap_for, submit, submit_for}
use Rattle.ns_types.specs.Working.Work.{submitted, taken, workers_end}
use Rattle.ns_types.specs.Working.Worker.{Worker}
use Rattle.ns_types.proofs.Lists.{not_both}
use Rattle.ns_types.proofs.Tests.{same_Some}
use Rattle.ns_json.specs.Replies.{body_of}
use Rattle.ns_steps.specs.Served.{served_admin, served_ask, served_node}
use Rattle.ns_steps.specs.Told.{Holds, Shape, is_of_write}
use Rattle.ns_steps.proofs.Telling.{is_served_ask, is_served_node, served_tells, told}
use Rattle.ns_replies.specs.Bodies.{nothing_bytes, registered_bytes, stopped_bytes}
use Rattle.ns_replies.specs.Laws.{may_change, row_of}
use Rattle.ns_replies.specs.Rooms.{AnswerRoom, HasRoom, plan_bytes, room_of}
use Rattle.ns_replies.proofs.Applying.{commit_fits}
use Rattle.ns_types.proofs.Named.{first_of_both}

-- ---- what is asked for

fits_registered : (room : AnswerRoom) (content : Content) → registered_bytes ≤ room.bytes → Holds Shape.Registered content → HasRoom room content
fits_registered room (Content.Registered evaluation index job_index) fits h = fits
fits_registered room _ fits h = absurd h

fits_stopped : (room : AnswerRoom) (content : Content) → stopped_bytes ≤ room.bytes → Holds Shape.Stopped content → HasRoom room content
fits_stopped room (Content.Stopped evaluation index) fits h = fits
fits_stopped room _ fits h = absurd h

fits_written : (room : AnswerRoom) (content : Content) → nothing_bytes ≤ room.bytes → Holds Shape.Written content → HasRoom room content
fits_written room Content.Written fits h = fits
fits_written room _ fits h = absurd h

fits_token : (room : AnswerRoom) (content : Content) (new : NewToken) → room.token ≡ Some (body_of (Content.Token (made_token new))) →
    Holds (Shape.TokenOf new) content → HasRoom room content
fits_token room content new is h = subst (HasRoom room) (sym h) is

abbrev IsTold : Option Shape → Content → Type 0
IsTold shape content = IsSomeAnd shape (λ s. Holds s content)

abbrev IsWrite : Option Shape → Type 0
IsWrite shape = option_map_or is_of_write shape true ≡ true

asked_fits : (ns : Name) (secret : Option Name) (command : AskCommand) (content : Content) → IsWrite (served_ask command) →
    IsTold (served_ask command) content →
    HasRoom (room_of (Step.Ask ns secret command) None) content
asked_fits ns secret (AskCommand.Register r) content write h = fits_registered _ content (omega arith) h
asked_fits ns secret (AskCommand.Deregister id purge) content write h = fits_registered _ content (omega arith) h
asked_fits ns secret (AskCommand.StopAllocation n) content write h = fits_stopped _ content (omega arith) h
asked_fits ns secret _ content write h = not_both write refl

is_served_admin : (command : AdminCommand) → IsSome (served_admin command)
is_served_admin AdminCommand.ListNamespaces = refl
is_served_admin (AdminCommand.PutNamespace name namespace) = refl
is_served_admin (AdminCommand.DeleteNamespace name) = refl
is_served_admin AdminCommand.ListQuotas = refl
is_served_admin (AdminCommand.ReadQuota name) = refl
is_served_admin (AdminCommand.PutQuota name quota) = refl
is_served_admin (AdminCommand.DeleteQuota name) = refl
is_served_admin AdminCommand.ListPools = refl
is_served_admin (AdminCommand.PutPool name pool) = refl
is_served_admin (AdminCommand.DeletePool name) = refl
is_served_admin (AdminCommand.ReadPolicy name) = refl
is_served_admin (AdminCommand.PutPolicy name policy) = refl
is_served_admin (AdminCommand.DeletePolicy name) = refl
is_served_admin (AdminCommand.CreateToken new) = refl
is_served_admin (AdminCommand.DeleteToken accessor) = refl

administered_fits : (secret : Option Name) (command : AdminCommand) (content : Content) → IsWrite (served_admin command) →
    IsTold (served_admin command) content →
    HasRoom (room_of (Step.Admin secret command) None) content
administered_fits secret (AdminCommand.PutNamespace name namespace) content write h = fits_written _ content (omega arith) h
administered_fits secret (AdminCommand.DeleteNamespace name) content write h = fits_written _ content (omega arith) h
administered_fits secret (AdminCommand.PutQuota name quota) content write h = fits_written _ content (omega arith) h
administered_fits secret (AdminCommand.DeleteQuota name) content write h = fits_written _ content (omega arith) h
administered_fits secret (AdminCommand.PutPool name pool) content write h = fits_written _ content (omega arith) h
administered_fits secret (AdminCommand.DeletePool name) content write h = fits_written _ content (omega arith) h
administered_fits secret (AdminCommand.PutPolicy name policy) content write h = fits_written _ content (omega arith) h
administered_fits secret (AdminCommand.DeletePolicy name) content write h = fits_written _ content (omega arith) h
administered_fits secret (AdminCommand.CreateToken new) content write h = fits_token _ content new refl h
administered_fits secret (AdminCommand.DeleteToken accessor) content write h = fits_written _ content (omega arith) h
administered_fits secret _ content write h = not_both write refl

told_fits : (pool : Name) (secret : Option Name) (command : NodeCommand) (content : Content) → IsWrite (served_node command) →
    IsTold (served_node command) content →
    HasRoom (room_of (Step.Node pool secret command) None) content
told_fits pool secret NodeCommand.ReadPool content write h = not_both write refl
told_fits pool secret NodeCommand.ListNodes content write h = not_both write refl
told_fits pool secret (NodeCommand.PutNode name offer) content write h = fits_written _ content (omega arith) h
told_fits pool secret (NodeCommand.DeleteNode name) content write h = fits_written _ content (omega arith) h
told_fits pool secret (NodeCommand.SetStatus name status) content write h = fits_written _ content (omega arith) h
told_fits pool secret (NodeCommand.SetEligible name eligible) content write h = fits_written _ content (omega arith) h
told_fits pool secret (NodeCommand.Report name report) content write h = fits_written _ content (omega arith) h

-- ---- what a worker's step says, if it is made

abbrev Says : {S : Type 0} → (Content → Type 0) → Outcome S → Type 0
Says P NotEnabled = Unit {0}
Says P (Refused refusal) = Unit {0}
Says P (Done content s) = P content

module _ (P : Content → Type 0) where
  says_lift : {A B : Type 0} (whole : A → B) (o : Outcome A) → Says P o → Says P (lift whole o)
  says_lift whole NotEnabled h = h
  says_lift whole (Refused refusal) h = h
  says_lift whole (Done content s) h = h

  says_or : {A S : Type 0} (o : Option A) (f : A → Outcome S) → ((a : A) → o ≡ Some a → Says P (f a)) → Says P (option_map_or f o NotEnabled)
  says_or None f h = tt
  says_or (Some a) f h = h a refl

  says_if : {S : Type 0} (b : Bool) (o : Outcome S) → (b ≡ true → Says P o) → Says P (cond b o NotEnabled)
  says_if true o h = h refl
  says_if false o h = tt

  says_if_done : {S : Type 0} (b : Bool) (content : Content) (s : S) → P content → Says P (cond b (Done content s) NotEnabled)
  says_if_done true content s h = h
  says_if_done false content s h = tt

  says_at_work : (number : ℕ) (ns : Name) (w : World) (f : Tenant → Worker → Evaluation → Outcome World) →
      ((t : Tenant) (worker : Worker) (e : Evaluation) → worker_at w number ns ≡ Some worker → Says P (f t worker e)) → Says P (at_work number ns w f)
  says_at_work number ns w f h = says_or (get w.tenants ns) _ (λ t is. says_or (get t.workers number) _ (λ worker has. says_or
      (get t.evaluations worker.evaluation) _ (λ e _. h t worker e (ap (option_and_then (λ x. get x.workers number)) is ∙ has))))

  says_concluded : (step : Step) (s : State) (o : Outcome State) (reply : Reply) (s' : State) → Says P o → concluded step s o ≡ said (Ok reply) s' →
      P reply.content
  says_concluded step s NotEnabled reply s' h e = not_both refl (sym (ap is_some e))
  says_concluded step s (Refused refusal) reply s' h e = not_both refl (ap (λ x. is_ok x.0) (sym (same_Some _ _ e)))
  says_concluded step s (Done content x) reply s' h e = by (is_past_bound (settle s.world x.world)) e
    where
      by : (b : Bool) → cond b (said (Err Refusal.Full) s)
          (said (Ok (reply_of step content (settle s.world x.world))) (record x { world = settle s.world x.world })) ≡ said (Ok reply) s' → P reply.content
      by true e = not_both refl (ap (λ x. is_ok x.0) (sym (same_Some _ _ e)))
      by false e = subst P (ap (λ x. (told reply x.0).content) (same_Some _ _ e)) h

  says_made : (step : Step) (s s' : State) (reply : Reply) → Says P (act step s) → after step s ≡ said (Ok reply) s' → P reply.content
  unfolding after
  says_made step s s' reply h e = by (is_allowed step s.acl) e
    where
      by : (b : Bool) → cond b (concluded step s (act step s)) (said (Err Refusal.Denied) s) ≡ said (Ok reply) s' → P reply.content
      by true e = says_concluded step s (act step s) reply s' h e
      by false e = not_both refl (ap (λ x. is_ok x.0) (sym (same_Some _ _ e)))

-- ---- workers' steps

abbrev Fits : Step → World → Content → Type 0
Fits step w content = HasRoom (room_of step (row_of step w)) content

dequeue_fits : (number : ℕ) (ns : Name) (n : ℕ) (w : World) → Says (Fits (Step.Dequeue number ns n) w) (dequeue number (ns, n) w)
unfolding dequeue
dequeue_fits number ns n w =
    let P : Content → Type 0 = Fits (Step.Dequeue number ns n) w in
    let fits : 54 ≤ 54 = omega arith in
    says_if P (nat_lt number workers_end && is_idle w number && is_served w w.ready (ns, n))
    (option_map_or (dequeue_in number (ns, n) w) (get w.tenants ns) NotEnabled) (λ _. says_or P (get w.tenants ns) (dequeue_in number (ns, n) w) (λ t _.
    says_or P (get t.evaluations n) (λ (e : Evaluation). Done (Content.Took n) (taken number (ns, n) w t e)) (λ e _. fits)))

snap_fits : (number : ℕ) (ns : Name) (w : World) → Says (Fits (Step.Snap number ns) w) (snap number ns w)
unfolding snap
snap_fits number ns w =
    let P : Content → Type 0 = Fits (Step.Snap number ns) w in
    let fits : 54 ≤ 54 = omega arith in
    says_at_work P number ns w (snap_for number ns w) (λ t worker e _.
    says_if_done P (may_snap worker.tries worker.phase) (Content.Snapped worker.evaluation) _ fits)

submit_fits : (number : ℕ) (ns : Name) (w : World) → Says (Fits (Step.Submit number ns) w) (submit number ns w)
unfolding submit
submit_fits number ns w =
    let P : Content → Type 0 = Fits (Step.Submit number ns) w in
    let fits : 54 ≤ 54 = omega arith in
    says_at_work P number ns w (λ t worker e. option_map_or (submit_for number ns w t worker) worker.kept NotEnabled) (λ t worker e _.
    says_or P worker.kept (submit_for number ns w t worker) (λ kept _.
    says_if_done P (may_submit worker kept) (Content.Queued worker.evaluation) (submitted number ns w t worker) fits))

finish_fits : (number : ℕ) (ns : Name) (w : World) → Says (Fits (Step.Finish number ns) w) (finish number ns w)
unfolding finish
finish_fits number ns w =
    let P : Content → Type 0 = Fits (Step.Finish number ns) w in
    says_at_work P number ns w (λ t worker e. option_map_or (finish_for number ns w t worker e) worker.kept NotEnabled) (λ t worker e _.
    says_or P worker.kept (finish_for number ns w t worker e) (λ kept _.
    says_if P (may_finish worker kept) (finished number ns w t worker e kept) (λ _. by (needs_follower worker kept) _ _ _ _)))
  where
    by : (b : Bool) (x y : World) (status : Status) (n : ℕ) → Says (Fits (Step.Finish number ns) w)
        (cond b (Done (Content.Finished status (Some n)) x) (Done (Content.Finished status None) y))
    by true x y status n = omega arith
    by false x y status n = omega arith

nack_fits : (number : ℕ) (ns : Name) (w : World) → Says (Fits (Step.Nack number ns) w) (nack number ns w)
unfolding nack
nack_fits number ns w = says_at_work _ number ns w (nack_for number ns w) (λ t worker e _. by (is_submitted worker.phase) _ _ _)
  where
    by : (a b : Bool) (x y : World) → Says (Fits (Step.Nack number ns) w)
        (cond a NotEnabled (cond b (Done (Content.Nacked Status.Failed) x) (Done (Content.Nacked Status.Pending) y)))
    by true b x y = tt
    by false true x y = omega arith
    by false false x y = omega arith

-- from Submit on the plan is that of the snapshot that is kept
plan_at : (worker : Worker) (kept : Snapshot) → is_submitted worker.phase ≡ true → worker.kept ≡ Some kept → planned_of worker ≡ Some kept
plan_at worker kept submitted is = by worker.phase submitted
  where
    by : (phase : Phase) → is_submitted phase ≡ true → planned_of (record worker { phase = phase }) ≡ Some kept
    by Phase.Submitted h = is
    by _ h = not_both h refl

apply_fits : (number : ℕ) (ns : Name) (w : World) → Says (Fits (Step.Apply number ns) w) (apply number ns w)
unfolding apply
apply_fits number ns w =
    let P : Content → Type 0 = Fits (Step.Apply number ns) w in
    says_at_work P number ns w (λ t worker e. option_map_or (apply_for number ns w t worker e) worker.kept NotEnabled) (λ t worker e row.
    says_or P worker.kept (apply_for number ns w t worker e) (λ kept has.
    says_if P (is_submitted worker.phase && is_served w w.plans (ns, worker.evaluation)) (applied number ns worker e (commit kept (plan kept) w t)) (λ enabled.
    let handed_in : is_submitted worker.phase ≡ true = first_of_both (is_submitted worker.phase) (is_served w w.plans (ns, worker.evaluation)) enabled in
    said_fits t worker kept row (plan_at worker kept handed_in has))))
  where
    said_fits : (t : Tenant) (worker : Worker) (kept : Snapshot) → worker_at w number ns ≡ Some worker → planned_of worker ≡ Some kept →
        Fits (Step.Apply number ns) w (Content.Applied (commit kept (plan kept) w t).made (commit kept (plan kept) w t).dropped)
    said_fits t worker kept row planned =
        let is : option_and_then planned_of (worker_at w number ns) ≡ Some kept = ap (option_and_then planned_of) row ∙ planned in
        let bytes : plan_bytes (option_and_then planned_of (worker_at w number ns)) ≡ plan_bytes (Some kept) = ap plan_bytes is in
        omega (arith, bytes, commit_fits kept (plan kept) w t)

-- ---- the law

worker_made : (step : Step) (change : Outcome World) (s s' : State) (reply : Reply) → act step s ≡ lift (with_world s.acl) change →
    Says (Fits step s.world) change → after step s ≡ said (Ok reply) s' → Fits step s.world reply.content
worker_made step change s s' reply is h e = says_made (Fits step s.world) step s s' reply
    (subst (Says (Fits step s.world)) (sym is) (says_lift (Fits step s.world) (with_world s.acl) change h)) e

pub made_has_room : (step : Step) (s s' : State) (reply : Reply) → may_change step ≡ true → after step s ≡ said (Ok reply) s' →
    HasRoom (room_of step (row_of step s.world)) reply.content
unfolding act
made_has_room (Step.Ask ns secret command) s s' reply may e =
    asked_fits ns secret command reply.content may (served_tells (Step.Ask ns secret command) s s' reply (is_served_ask command) e)
made_has_room (Step.Admin secret command) s s' reply may e =
    administered_fits secret command reply.content may (served_tells (Step.Admin secret command) s s' reply (is_served_admin command) e)
made_has_room (Step.Node pool secret command) s s' reply may e =
    told_fits pool secret command reply.content may (served_tells (Step.Node pool secret command) s s' reply (is_served_node command) e)
made_has_room (Step.Dequeue number ns n) s s' reply may e =
    worker_made (Step.Dequeue number ns n) (dequeue number (ns, n) s.world) s s' reply refl (dequeue_fits number ns n s.world) e
made_has_room (Step.Snap number ns) s s' reply may e =
    worker_made (Step.Snap number ns) (snap number ns s.world) s s' reply refl (snap_fits number ns s.world) e
made_has_room (Step.Submit number ns) s s' reply may e =
    worker_made (Step.Submit number ns) (submit number ns s.world) s s' reply refl (submit_fits number ns s.world) e
made_has_room (Step.Apply number ns) s s' reply may e =
    worker_made (Step.Apply number ns) (apply number ns s.world) s s' reply refl (apply_fits number ns s.world) e
made_has_room (Step.Finish number ns) s s' reply may e =
    worker_made (Step.Finish number ns) (finish number ns s.world) s s' reply refl (finish_fits number ns s.world) e
made_has_room (Step.Nack number ns) s s' reply may e =
    worker_made (Step.Nack number ns) (nack number ns s.world) s s' reply refl (nack_fits number ns s.world) e
