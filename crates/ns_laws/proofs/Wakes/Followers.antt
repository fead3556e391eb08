-- A follower that is blocked at Finish has missed no release.
use Rattle.std.specs.Prelude.{◌≡◌, ℕ, suc, ◌+◌, ◌≤◌, Bool, true, false, cond, ◌&&◌, List, Option, Some, None, nat_lt, option_map}
use Rattle.std.proofs.Common.{refl, sym, ap, subst, ◌∙◌, inl, inr, arith}
use Rattle.std.proofs.lemmas.Bool.Decides.{leb_tells}
use Rattle.std.specs.FinMap.{get, insert}
use Rattle.std.specs.Option.{option_map_or, option_and_then}
use Rattle.ns_types.specs.declared.evaluation.Evaluation.{Evaluation}
use Rattle.ns_types.specs.declared.evaluation.Status.{Status}
use Rattle.ns_types.specs.declared.reply.Content.{Content}
use Rattle.ns_types.specs.declared.reply.Reply.{Reply}
use Rattle.ns_types.specs.declared.snapshot.QuotaSeen.{QuotaSeen}
use Rattle.ns_types.specs.declared.snapshot.Snapshot.{Snapshot}
use Rattle.ns_types.specs.declared.step.Step.{Step}
use Rattle.ns_types.specs.Asking.Policies.{with_world}
use Rattle.ns_types.specs.Settling.Making.{put_tenant, with_status}
use Rattle.ns_types.specs.Settling.Outcome.{Outcome, NotEnabled, Refused, Done, lift}
use Rattle.ns_types.specs.Settling.Releases.{can_use, missed, woken, wakes_by, released_since}
use Rattle.ns_types.specs.Settling.Settle.{pending, settle, stamp_tenant, unblocked_in}
use Rattle.ns_types.specs.Settling.Settle.{woken_row}
use Rattle.ns_types.specs.State.Names.{Key, Name, has_key}
use Rattle.ns_types.specs.State.Rows.{Acl, State, World, Tenant, QuotaRows, evaluation_at, is_blocked}
use Rattle.ns_types.specs.State.Tables.{any_row}
use Rattle.ns_types.specs.Steps.{act}
use Rattle.ns_types.specs.Working.Looks.{worker_at}
use Rattle.ns_types.specs.Working.Queue.{promote}
use Rattle.ns_types.specs.Working.Work.{blocked_of, cancel_blocked, end_of, ended, finish, finish_for, finished, followed, follower_of, may_finish}
use Rattle.ns_types.specs.Working.Work.{needs_follower, tied_to, with_follower, without_blocked, without_worker}
use Rattle.ns_types.specs.Working.Worker.{Worker}
use Rattle.ns_types.proofs.Classes.{one_class}
use Rattle.ns_types.proofs.Lists.{not_both}
use Rattle.ns_types.proofs.Named.{names, numbers, one_name, one_number}
use Rattle.ns_types.proofs.TableRows.{get_put}
use Rattle.ns_types.proofs.Tables.{get-map_rows, none_of_any}
use Rattle.ns_types.proofs.Tests.{and_yes, not_Some, same_Some}
use Rattle.ns_laws.specs.Waking.{MissedNothing, FollowerMissedNothing}
use Rattle.ns_audit.proofs.StepLemmas.{made}
use Rattle.ns_laws.proofs.Effect.Rows.{redated_evaluation}
use Rattle.ns_laws.proofs.QueueLemmas.{promote_tenants}
use Rattle.ns_laws.proofs.Wakes.Waking.{can_use_of, closed_tenant, settled_tenants}

-- ---- what no release after the snapshot says

at_most : (a b : ℕ) → nat_lt a b ≡ false → b ≤ a
at_most a b e = elim (leb_tells (suc a) b) [ inl less ↦ not_both less.0 e | inr more ↦ let over = more.1 in omega (arith, over) ]

missed_nothing : (w : World) (kept : Snapshot) (e : Evaluation) → missed w kept e ≡ false → MissedNothing w kept e
unfolding missed
missed_nothing w kept e none = record {
  classes = λ unlimited pool class number is at usable. at_most kept.release number (and_yes _ (ap (λ b. nat_lt kept.release number && b)
      (sym (can_use_of e class usable)) ∙ none_of_any one_class (λ class number. nat_lt kept.release number && can_use e class) pool.classes class number
      (sym (ap (wakes_by (released_since w kept) e) unlimited ∙ ap (λ o. option_map_or
      (λ pool. any_row (λ class number. nat_lt kept.release number && can_use e class) pool.classes) o false) is) ∙ none) at));
  quota = λ quota seen rows limited is at. at_most seen.release rows.release (sym (ap (wakes_by (released_since w kept) e) limited ∙ (λ i. nat_lt
      (option_map_or (λ (q : QuotaSeen). q.release) (is i) 0) (option_map_or (λ (q : QuotaRows). q.release) (at i) 0))) ∙ none);
}

-- ---- an evaluation's row through the end of a step

-- nothing but its status and its indexes is another, and what is pending stays so
record IsShown (f e : Evaluation) : Type 0 where
  status : Status
  created : ℕ
  modified : ℕ
  same : e ≡ record f { status = status; create_index = created; modify_index = modified }
  pends : f.status ≡ Status.Pending → e.status ≡ Status.Pending

shown_woken : (b : Bool) (f : Evaluation) → IsShown f (cond b (pending f) f)
shown_woken true f = record { status = Status.Pending; created = f.create_index; modified = f.modify_index; same = refl; pends = λ is. refl }
shown_woken false f = record { status = f.status; created = f.create_index; modified = f.modify_index; same = refl; pends = λ is. is }

shown_then : (f g e : Evaluation) → IsShown f g → IsShown g e → IsShown f e
shown_then f g e a b = record {
  status = b.status;
  created = b.created;
  modified = b.modified;
  same = b.same ∙ ap (λ (x : Evaluation). record x { status = b.status; create_index = b.created; modify_index = b.modified }) a.same;
  pends = λ is. b.pends (a.pends is);
}

stamped_row : (old : Option Tenant) (t : Tenant) (n : ℕ) (f : Evaluation) → get t.evaluations n ≡ Some f →
    (e : Evaluation) × (get (stamp_tenant old t).evaluations n ≡ Some e) × IsShown f e
stamped_row old t n f at = let r = redated_evaluation old t n f at in (
  record f { create_index = r.0; modify_index = r.1 },
  r.2,
  record { status = f.status; created = r.0; modified = r.1; same = refl; pends = λ is. is },
)

shown_settled : (w x : World) (ns : Name) (n : ℕ) (f e : Evaluation) → evaluation_at x (ns, n) ≡ Some f →
    evaluation_at (settle w x) (ns, n) ≡ Some e → IsShown f e
shown_settled w x ns n f e at later = by (get x.tenants ns) refl at
  where
    keys : List Key
    keys = woken w x

    by : (o : Option Tenant) → get x.tenants ns ≡ o → option_and_then (λ t. get t.evaluations n) o ≡ Some f → IsShown f e
    by None is at = absurd (not_Some f at)
    by (Some t) is at =
        let g = woken_row keys ns n f in
        let row = stamped_row (get w.tenants ns) (unblocked_in keys ns t) n g
        (get-map_rows numbers one_number (woken_row keys ns) t.evaluations n ∙ ap (option_map (woken_row keys ns n)) at) in
        let found = ap (option_and_then (λ (u : Tenant). get u.evaluations n)) (settled_tenants w x ns ∙ ap (option_map (closed_tenant w x ns)) is) ∙ row.1 in
        shown_then f g e (shown_woken (has_key keys (ns, n)) f) (subst (IsShown g) (same_Some row.0 e (sym found ∙ later)) row.2)

-- ---- what Finish makes

follower_in : Content → Option ℕ
follower_in (Content.Finished status follower) = follower
follower_in _ = None

record IsLifted (acl : Acl) (o : Outcome World) (content : Content) (own : State) : Type 0 where
  world : World
  done : o ≡ Done content world
  leads : world ≡ own.world

content_of : {S : Type 0} → Outcome S → Option Content
content_of (Done content s) = Some content
content_of _ = None

made_of : {S : Type 0} → Outcome S → Option S
made_of (Done content s) = Some s
made_of _ = None

not_done : {S A : Type 0} (content : Content) (s : S) → NotEnabled ≡ Done content s → A
unfolding content_of
not_done content s e = absurd (not_Some content (ap content_of e))

lifted : (acl : Acl) (o : Outcome World) (content : Content) (own : State) → lift (with_world acl) o ≡ Done content own → IsLifted acl o content own
unfolding content_of made_of
lifted acl NotEnabled content own e = not_done content own e
lifted acl (Refused refusal) content own e = absurd (not_Some content (ap content_of e))
lifted acl (Done c x) content own e = record {
  world = x;
  done = ap (λ c. Done c x) (same_Some c content (ap content_of e));
  leads = ap (λ (s : State). s.world) (same_Some (with_world acl x) own (ap made_of e));
}

status_number : (n : ℕ) (status : Status) (t : Tenant) → (with_status n status t).evaluation_number ≡ t.evaluation_number
status_number n status t = elim (get t.evaluations n) as
    (λ (o : Option Evaluation). (option_map_or (λ e. record t { evaluations = insert t.evaluations n (record e { status = status }) }) o t).evaluation_number
    ≡ t.evaluation_number) [ Some e ↦ refl | None ↦ refl ]

cancel_number : (job : Name) (t : Tenant) → (cancel_blocked job t).evaluation_number ≡ t.evaluation_number
cancel_number job t = by (blocked_of t job)
  where
    by : (o : Option ℕ) → (option_map_or (λ n. with_status n Status.Canceled t) o t).evaluation_number ≡ t.evaluation_number
    by None = refl
    by (Some n) = status_number n Status.Canceled t

ended_number : (number : ℕ) (worker : Worker) (e : Evaluation) (status : Status) (t : Tenant) →
    (ended number worker e status t).evaluation_number ≡ t.evaluation_number
ended_number number worker e status t =
    cancel_number e.job (with_status worker.evaluation status (without_worker number t)) ∙ status_number worker.evaluation status (without_worker number t)

-- the follower's row, pending where it missed a release
follower_row : (b : Bool) → Evaluation → Evaluation
follower_row true f = record f { status = Status.Pending }
follower_row false f = f

follower_there : (b : Bool) (ns job : Name) (worker : Worker) (f : Evaluation) (t : Tenant) (w : World) →
    evaluation_at (promote ns job (followed ns worker f t b w)) (ns, t.evaluation_number + 1) ≡ Some (follower_row b f)
unfolding follower_row
follower_there b ns job worker f t w =
    ap (λ m. option_and_then (λ (t' : Tenant). get t'.evaluations (t.evaluation_number + 1)) (get m ns)) (promote_tenants ns job (followed ns worker f t b w))
    ∙ by b
  where
    put : (g : Evaluation) → option_and_then (λ (t' : Tenant). get t'.evaluations (t.evaluation_number + 1))
        (get (insert w.tenants ns (with_follower worker.evaluation g t)) ns) ≡ Some g
    put g = ap (option_and_then (λ (t' : Tenant). get t'.evaluations (t.evaluation_number + 1)))
        (get_put names one_name w.tenants ns (with_follower worker.evaluation g t))
        ∙ get_put numbers one_number (tied_to worker.evaluation (t.evaluation_number + 1) t).evaluations (t.evaluation_number + 1) g

    by : (b : Bool) → evaluation_at (followed ns worker f t b w) (ns, t.evaluation_number + 1) ≡ Some (follower_row b f)
    by true = put (record f { status = Status.Pending })
    by false = put f

-- the follower stands in the state that Finish makes
made_follower : (number : ℕ) (ns : Name) (w x : World) (t : Tenant) (worker : Worker) (e : Evaluation) (kept : Snapshot) (content : Content) (n : ℕ) →
    finish_for number ns w t worker e kept ≡ Done content x → follower_in content ≡ Some n →
    evaluation_at x (ns, n) ≡ Some (follower_row (missed w kept (follower_of e worker kept)) (follower_of e worker kept))
unfolding content_of made_of follower_in
made_follower number ns w x t worker e kept content n is some = may (may_finish worker kept) is
  where
    t' : Tenant
    t' = ended number worker e (end_of worker) t

    w' : World
    w' = without_blocked ns e.job t w

    f : Evaluation
    f = follower_of e worker kept

    b : Bool
    b = missed w kept f

    needs : (c : Bool) → cond c
        (Done (Content.Finished (end_of worker) (Some (t.evaluation_number + 1))) (promote ns e.job (followed ns worker f t' b w')))
        (Done (Content.Finished (end_of worker) None) (promote ns e.job (put_tenant ns t' w'))) ≡ Done content x → evaluation_at x (ns, n) ≡
        Some (follower_row b f)
    needs false is = absurd (not_Some n (ap follower_in (same_Some (Content.Finished (end_of worker) None) content (ap content_of is)) ∙ some))
    needs true is =
        let number_is = ended_number number worker e (end_of worker) t in
        let n_is = same_Some (t.evaluation_number + 1) n
        (ap follower_in (same_Some (Content.Finished (end_of worker) (Some (t.evaluation_number + 1))) content (ap content_of is)) ∙ some) in
        let x_is = same_Some (promote ns e.job (followed ns worker f t' b w')) x (ap made_of is) in
        (λ i. evaluation_at (sym x_is i) (ns, (sym n_is ∙ ap (λ m. m + 1) (sym number_is)) i)) ∙ follower_there b ns e.job worker f t' w'

    may : (c : Bool) → cond c (finished number ns w t worker e kept) NotEnabled ≡ Done content x → evaluation_at x (ns, n) ≡ Some (follower_row b f)
    may false is = not_done content x is
    may true is = needs (needs_follower worker kept) is

not_pending : {A : Type 0} (status : Status) → status ≡ Status.Pending → status ≡ Status.Blocked → A
not_pending status is was = not_both (ap is_blocked was) (ap is_blocked is)

-- so a row that is blocked after it is that of a follower that missed nothing
blocked_row : (w : World) (kept : Snapshot) (f e : Evaluation) (b : Bool) → missed w kept f ≡ b → IsShown (follower_row b f) e → e.status ≡ Status.Blocked →
    missed w kept e ≡ false
unfolding missed follower_row
blocked_row w kept f e true is shown blocked = not_pending e.status (shown.pends refl) blocked
blocked_row w kept f e false is shown blocked = ap (missed w kept) shown.same ∙ is

-- of a worker's own evaluation and snapshot
follower_kept : (number : ℕ) (ns : Name) (w x : World) (t : Tenant) (worker : Worker) (row : Evaluation) (kept : Snapshot) (content : Content) (n : ℕ)
    (e : Evaluation) →
    finish_for number ns w t worker row kept ≡ Done content x → follower_in content ≡ Some n → evaluation_at (settle w x) (ns, n) ≡ Some e →
    e.status ≡ Status.Blocked → MissedNothing w kept e
follower_kept number ns w x t worker row kept content n e is some later blocked = missed_nothing w kept e
    (blocked_row w kept f e (missed w kept f) refl
    (shown_settled w x ns n (follower_row (missed w kept f) f) e (made_follower number ns w x t worker row kept content n is some) later) blocked)
  where
    f : Evaluation
    f = follower_of row worker kept

finish_row : (number : ℕ) (ns : Name) (w x : World) (worker : Worker) (kept : Snapshot) (content : Content) (n : ℕ) (e : Evaluation) →
    worker_at w number ns ≡ Some worker → worker.kept ≡ Some kept → finish number ns w ≡ Done content x → follower_in content ≡ Some n →
    evaluation_at (settle w x) (ns, n) ≡ Some e → e.status ≡ Status.Blocked → MissedNothing w kept e
unfolding finish
finish_row number ns w x worker kept content n e has keeps is some later blocked = by (get w.tenants ns) has is
  where
    snapshot : (t : Tenant) (row : Evaluation) (o : Option Snapshot) → o ≡ Some kept →
        option_map_or (finish_for number ns w t worker row) o NotEnabled ≡ Done content x → MissedNothing w kept e
    snapshot t row None keeps is = not_done content x is
    snapshot t row (Some seen) keeps is =
        follower_kept number ns w x t worker row kept content n e (ap (finish_for number ns w t worker row) (sym (same_Some seen kept keeps)) ∙ is) some later
        blocked

    row : (t : Tenant) (o : Option Evaluation) →
        option_map_or (λ e. option_map_or (finish_for number ns w t worker e) worker.kept NotEnabled) o NotEnabled ≡ Done content x → MissedNothing w kept e
    row t None is = not_done content x is
    row t (Some e) is = snapshot t e worker.kept keeps is

    by : (o : Option Tenant) → option_and_then (λ t. get t.workers number) o ≡ Some worker → option_map_or (λ t. option_map_or (λ worker. option_map_or
        (λ e. option_map_or (finish_for number ns w t worker e) worker.kept NotEnabled) (get t.evaluations worker.evaluation) NotEnabled)
        (get t.workers number) NotEnabled) o NotEnabled ≡ Done content x → MissedNothing w kept e
    by None has is = absurd (not_Some worker has)
    by (Some t) has is = row t (get t.evaluations worker.evaluation) (ap (λ o. option_map_or (λ worker. option_map_or
        (λ e. option_map_or (finish_for number ns w t worker e) worker.kept NotEnabled) (get t.evaluations worker.evaluation) NotEnabled)
        o NotEnabled) (sym has) ∙ is)

pub follower_missed_nothing : FollowerMissedNothing
unfolding act follower_in
follower_missed_nothing s t number ns worker kept reply status n e has keeps is replied later blocked =
    let m = made (Step.Finish number ns) s t reply is in
    let own = lifted s.acl (finish number ns s.world) m.content m.own m.acts in
    let some = ap follower_in (ap (λ (r : Reply). r.content) m.replied ∙ replied) in
    let there = (λ i. evaluation_at (settle s.world (own.leads i)) (ns, n)) ∙ ap (λ (t : State). evaluation_at t.world (ns, n)) m.leads ∙ later in
    finish_row number ns s.world own.world worker kept m.content n e has keeps own.done some there blocked
