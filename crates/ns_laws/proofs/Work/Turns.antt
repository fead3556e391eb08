-- When a worker may take an evaluation, and when a plan may be applied.
use Rattle.std.specs.Prelude.{◌≡◌, ◌≢◌, ◌<◌, ℕ, suc, Bool, true, false, cond, not, ◌&&◌, ◌||◌}
use Rattle.std.specs.Prelude.{List, [], ◌∷◌, ◌++◌, Option, Some, None, is_some, nat_lt, option_map, find, Ok, Err}
use Rattle.std.proofs.Common.{refl, sym, ap, ◌∙◌, inl, inr, arith}
use Rattle.std.proofs.lemmas.Bool.{or_right}
use Rattle.std.proofs.lemmas.Bool.Decides.{leb_tells}
use Rattle.std.specs.FinMap.{get, contains_key, entries}
use Rattle.std.specs.List.{list_any}
use Rattle.std.specs.Option.{option_map_or, option_and_then}
use Rattle.ns_types.specs.declared.evaluation.Evaluation.{Evaluation}
use Rattle.ns_types.specs.declared.refusal.Refusal.{Refusal}
use Rattle.ns_types.specs.declared.reply.Content.TheVariants as Content
use Rattle.ns_types.specs.declared.snapshot.Snapshot.{Snapshot}
use Rattle.ns_types.specs.declared.step.Step.{Step}
use Rattle.ns_types.specs.declared.worker.Phase.{Phase}
use Rattle.ns_types.specs.Asking.Policies.{with_world}
use Rattle.ns_types.specs.Placing.Plan.{plan}
use Rattle.ns_types.specs.Settling.Outcome.{Outcome, NotEnabled, Refused, Done, lift}
use Rattle.ns_types.specs.State.Names.{Key, Name, has_key, same_key}
use Rattle.ns_types.specs.State.Rows.{State, World, Tenant}
use Rattle.ns_types.specs.Steps.{after, act, said, concluded, is_past_bound, settled, reply_of}
use Rattle.ns_types.specs.State.Tables.{any_row}
use Rattle.ns_types.specs.Validity.{IsSound, IsSoundWorker, keeps}
use Rattle.ns_types.specs.Working.Commit.{apply, apply_for, applied, commit}
use Rattle.ns_types.specs.Working.Looks.{row_of, worker_at}
use Rattle.ns_types.specs.Working.Queue.{served, is_served}
use Rattle.ns_types.specs.Working.Work.{dequeue, dequeue_in, is_idle, is_submitted, taken, workers_end}
use Rattle.ns_types.specs.Working.Worker.{Worker}
use Rattle.ns_types.proofs.Lists.{each, not_both}
use Rattle.ns_types.proofs.Named.{first_of_both, second_of_both, names, one_name, same_key_refl}
use Rattle.ns_types.proofs.Once.{key_is}
use Rattle.ns_types.proofs.Tables.{any_row-none, each_row, none_of_any}
use Rattle.ns_types.proofs.Tests.{is_no, is_yes, not_Some, same_Some, some_mapped}
use Rattle.ns_laws.specs.Queue.{IsFirstOfGreatest}
use Rattle.ns_laws.specs.Turns.{BusyIsShown, IdleIsShown, IsIdle, MayTake, NextIsShown, NextIsTaken}
use Rattle.ns_laws.specs.Turns.{HasFirstPlan, NextPlanIsApplied, NextPlanIsShown}
use Rattle.ns_laws.proofs.OrderedLemmas.{found_holds, found_if_any}
use Rattle.ns_laws.proofs.Wakes.Queue.{served_is_first, first_is_served}

-- ---- what is in turn

abbrev pub in_turn : {S : Type 0} → Outcome S → Bool
in_turn NotEnabled = false
in_turn (Refused refusal) = true
in_turn (Done content s) = true

said_if : {A : Type 0} (o : Option A) → o ≢ None → is_some o ≡ true
said_if None not = absurd (not refl)
said_if (Some x) not = refl

pub not_None : {A : Type 0} (o : Option A) → is_some o ≡ true → o ≢ None
not_None o is none = not_both is (ap is_some none)

pub concludes : (step : Step) (s : State) (o : Outcome State) → is_some (concluded step s o) ≡ in_turn o
concludes step s NotEnabled = refl
concludes step s (Refused refusal) = refl
concludes step s (Done content own) = by (is_past_bound (settled s own).world)
  where
    by : (b : Bool) → is_some (cond b (said (Err Refusal.Full) s) (said (Ok (reply_of step content (settled s own).world)) (settled s own))) ≡ true
    by true = refl
    by false = refl

pub lifts : {A B : Type 0} (whole : A → B) (o : Outcome A) → in_turn (lift whole o) ≡ in_turn o
lifts whole NotEnabled = refl
lifts whole (Refused refusal) = refl
lifts whole (Done content a) = refl

taking : (number : ℕ) (ns : Name) (n : ℕ) (s : State) → is_some (after (Step.Dequeue number ns n) s) ≡ in_turn (dequeue number (ns, n) s.world)
unfolding after act
taking number ns n s = concludes (Step.Dequeue number ns n) s _ ∙ lifts (with_world s.acl) (dequeue number (ns, n) s.world)

applying : (number : ℕ) (ns : Name) (s : State) → is_some (after (Step.Apply number ns) s) ≡ in_turn (apply number ns s.world)
unfolding after act
applying number ns s = concludes (Step.Apply number ns) s _ ∙ lifts (with_world s.acl) (apply number ns s.world)

-- what was looked for is there, and what is done with it is in turn
found_in_turn : {S A : Type 0} (go : A → Outcome S) (o : Option A) → in_turn (option_map_or go o NotEnabled) ≡ true →
    (a : A) × (o ≡ Some a) × (in_turn (go a) ≡ true)
found_in_turn go None e = not_both e refl
found_in_turn go (Some a) e = (a, refl, e)

if_in_turn : {S : Type 0} (b : Bool) (o : Outcome S) → in_turn (cond b o NotEnabled) ≡ true → b ≡ true
if_in_turn true o e = refl
if_in_turn false o e = e

-- ---- the next one

next_of : (w : World) (keys : List Key) (key : Key) → is_served w keys key ≡ true → IsFirstOfGreatest w keys key
next_of w keys key e = by (served w keys) refl e
  where
    by : (o : Option Key) → served w keys ≡ o → option_map_or (same_key key) o false ≡ true → IsFirstOfGreatest w keys key
    by None is e = not_both e refl
    by (Some k) is e = served_is_first w keys key (is ∙ ap Some (sym (key_is key k e)))

next_served : (w : World) (keys : List Key) (key : Key) → IsFirstOfGreatest w keys key → is_served w keys key ≡ true
next_served w keys key first = ap (λ o. option_map_or (same_key key) o false) (first_is_served w keys key first) ∙ same_key_refl key

pub next_is_shown : NextIsShown
next_is_shown w key = (served_is_first w w.ready key, first_is_served w w.ready key)

pub next_plan_is_shown : NextPlanIsShown
next_plan_is_shown w key = (served_is_first w w.plans key, first_is_served w w.plans key)

in_list : (before later : List Key) (key : Key) → has_key (before ++ key ∷ later) key ≡ true
in_list [] later key = ap (λ b. b || has_key later key) (same_key_refl key)
in_list (x ∷ before) later key = or_right (same_key key x) _ (in_list before later key)

listed : (w : World) (keys : List Key) (key : Key) → IsFirstOfGreatest w keys key → has_key keys key ≡ true
listed w keys key first = ap (λ l. has_key l key) first.listed ∙ in_list first.before first.later key

-- ---- idle workers

no_row : {A : Type 0} (o : Option A) → is_some o ≡ false → o ≡ None
no_row None e = refl
no_row (Some x) e = not_both refl e

idle_of : (w : World) (number : ℕ) → is_idle w number ≡ true → IsIdle w number
idle_of w number idle ns = by (get w.tenants ns) refl
  where
    by : (o : Option Tenant) → get w.tenants ns ≡ o → option_and_then (λ t. get t.workers number) o ≡ None
    by None is = refl
    by (Some t) is = no_row (get t.workers number) (none_of_any one_name (λ _ t. contains_key t.workers number) w.tenants ns t (is_no _ idle) is)

is_idle_of : (w : World) (number : ℕ) → IsIdle w number → is_idle w number ≡ true
is_idle_of w number idle = ap not (any_row-none names one_name (λ _ t. contains_key t.workers number) w.tenants
    (λ ns t is. ap is_some (sym (ap (option_and_then (λ (t : Tenant). get t.workers number)) is) ∙ idle ns)))

-- ---- what is shown of a worker

with_name : ℕ → Name × Tenant → Option (Name × Worker)
with_name number e = option_map (λ worker. (e.0, worker)) (get e.1.workers number)

holds : ℕ → Name × Tenant → Bool
holds number e = contains_key e.1.workers number

shown_if_busy : (w : World) (number : ℕ) → is_some (row_of w number) ≡ not (is_idle w number)
unfolding any_row with_name holds
shown_if_busy w number = by (find (holds number) (entries w.tenants)) refl ∙ found_if_any (holds number) (entries w.tenants)
    ∙ twice (list_any (holds number) (entries w.tenants))
  where
    twice : (b : Bool) → b ≡ not (not b)
    twice true = refl
    twice false = refl

    by : (o : Option (Name × Tenant)) → find (holds number) (entries w.tenants) ≡ o →
        is_some (option_and_then (with_name number) (find (holds number) (entries w.tenants))) ≡ is_some (find (holds number) (entries w.tenants))
    by None is = ap (λ o. is_some (option_and_then (with_name number) o)) is ∙ ap is_some (sym is)
    by (Some e) is = ap (λ o. is_some (option_and_then (with_name number) o)) is ∙ some_mapped (λ worker. (e.0, worker)) (get e.1.workers number)
        ∙ (found_holds (λ _. Unit {0}) (holds number) (entries w.tenants) e (each (λ _. Unit {0}) (λ _. tt) (entries w.tenants)) is).0 ∙ ap is_some (sym is)

pub idle_is_shown : IdleIsShown
idle_is_shown w number = (
  λ e. idle_of w number (is_yes (is_idle w number) (sym (shown_if_busy w number) ∙ ap is_some e)),
  λ idle. no_row (row_of w number) (shown_if_busy w number ∙ ap not (is_idle_of w number idle)),
)

pub busy_is_shown : BusyIsShown
unfolding with_name holds
busy_is_shown w number ns worker is = by (find (holds number) (entries w.tenants)) refl
  where
    found : (e : Name × Tenant) → get w.tenants e.0 ≡ Some e.1 → (o : Option Worker) → get e.1.workers number ≡ o →
        option_map {U = Name × Worker} (λ worker. (e.0, worker)) o ≡ Some (ns, worker) → worker_at w number ns ≡ Some worker
    found e at None has shown = absurd (not_Some _ shown)
    found e at (Some x) has shown = let same = same_Some _ _ shown in
        ap (λ name. option_and_then (λ (t : Tenant). get t.workers number) (get w.tenants name)) (sym (ap (λ (p : Name × Worker). p.0) same))
        ∙ ap (option_and_then (λ (t : Tenant). get t.workers number)) at ∙ has ∙ ap (λ (p : Name × Worker). Some p.1) same

    by : (o : Option (Name × Tenant)) → find (holds number) (entries w.tenants) ≡ o → worker_at w number ns ≡ Some worker
    by None none = absurd (not_Some _ (sym (ap (option_and_then (with_name number)) none) ∙ is))
    by (Some e) one = found e (found_holds (λ e. get w.tenants e.0 ≡ Some e.1) (holds number) (entries w.tenants) e
        (each_row names one_name (λ k x. get w.tenants k ≡ Some x) w.tenants (λ k x at. at)) one).1
        (get e.1.workers number) refl (sym (ap (option_and_then (with_name number)) one) ∙ is)

below : (number : ℕ) → nat_lt number workers_end ≡ true → number < 64
below number e = elim (leb_tells (suc number) 64) [ inl less ↦ less.1 | inr more ↦ not_both e more.0 ]

is_below : (number : ℕ) → number < 64 → nat_lt number workers_end ≡ true
is_below number less = elim (leb_tells (suc number) 64) [ inl is ↦ is.0 | inr over ↦ let more = over.1 in absurd (omega (arith, less, more)) ]

-- ---- Dequeue

pub may_take : (w : World) (number : ℕ) (key : Key) → in_turn (dequeue number key w) ≡ true → MayTake w number key
unfolding dequeue
may_take w number key e =
    let all = if_in_turn (nat_lt number workers_end && is_idle w number && is_served w w.ready key) _ e in
    let both = first_of_both (nat_lt number workers_end && is_idle w number) (is_served w w.ready key) all in (
      below number (first_of_both (nat_lt number workers_end) (is_idle w number) both),
      idle_of w number (second_of_both (nat_lt number workers_end) (is_idle w number) both),
      next_of w w.ready key (second_of_both (nat_lt number workers_end && is_idle w number) (is_served w w.ready key) all),
    )

takes : (w : World) (number : ℕ) (key : Key) → IsSound w → MayTake w number key → in_turn (dequeue number key w) ≡ true
unfolding dequeue
takes w number key sound may =
    (λ i. in_turn (cond (is_below number may.0 i && is_idle_of w number may.1 i && next_served w w.ready key may.2 i)
    (option_map_or (dequeue_in number key w) (get w.tenants key.0) NotEnabled) NotEnabled)) ∙
    by (get w.tenants key.0) (sound.ready key (listed w w.ready key may.2)).is_row
  where
    row : (t : Tenant) (e : Evaluation) (o : Option Evaluation) → o ≡ Some e →
        in_turn (option_map_or (λ e. Done (Content.Took key.1) (taken number key w t e)) o NotEnabled) ≡ true
    row t e None is = absurd (not_Some e is)
    row t e (Some x) is = refl

    by : {e : Evaluation} (o : Option Tenant) → option_and_then (λ t. get t.evaluations key.1) o ≡ Some e →
        in_turn (option_map_or (dequeue_in number key w) o NotEnabled) ≡ true
    by {e = e} None is = absurd (not_Some e is)
    by {e = e} (Some t) is = row t e (get t.evaluations key.1) is

pub next_is_taken : NextIsTaken
next_is_taken s number ns n valid = (
  (λ said. may_take s.world number (ns, n) (sym (taking number ns n s) ∙ said_if _ said)),
  (λ may. not_None _ (taking number ns n s ∙ takes s.world number (ns, n) valid.world may)),
)

-- ---- Apply

applies_served : (w : World) (number : ℕ) (ns : Name) (t : Tenant) (worker : Worker) (e : Evaluation) (kept : Snapshot) →
    in_turn (apply_for number ns w t worker e kept) ≡ true → is_served w w.plans (ns, worker.evaluation) ≡ true
applies_served w number ns t worker e kept is = second_of_both (is_submitted worker.phase) (is_served w w.plans (ns, worker.evaluation))
    (if_in_turn (is_submitted worker.phase && is_served w w.plans (ns, worker.evaluation)) (applied number ns worker e (commit kept (plan kept) w t)) is)

plan_of_first : (w : World) (number : ℕ) (ns : Name) → in_turn (apply number ns w) ≡ true → HasFirstPlan w number ns
unfolding apply
plan_of_first w number ns e =
    let t = found_in_turn _ (get w.tenants ns) e in
    let worker = found_in_turn _ (get t.0.workers number) t.2 in
    let row = found_in_turn _ (get t.0.evaluations worker.0.evaluation) worker.2 in
    let kept = found_in_turn (apply_for number ns w t.0 worker.0 row.0) worker.0.kept row.2 in (
      worker.0,
      ap (option_and_then (λ (t : Tenant). get t.workers number)) t.1 ∙ worker.1,
      next_of w w.plans (ns, worker.0.evaluation) (applies_served w number ns t.0 worker.0 row.0 kept.0 kept.2),
    )

keeps_then : (phase : Phase) → is_submitted phase ≡ true → keeps phase ≡ true
keeps_then Phase.Took e = not_both e refl
keeps_then Phase.Snapped e = refl
keeps_then Phase.Submitted e = refl
keeps_then Phase.Applied e = refl
keeps_then Phase.Dropped e = refl

first_applies : (w : World) (number : ℕ) (ns : Name) → IsSound w → HasFirstPlan w number ns → in_turn (apply number ns w) ≡ true
unfolding apply
first_applies w number ns sound has = by (get w.tenants ns) refl has.1
  where
    worker : Worker
    worker = has.0

    served_first : is_served w w.plans (ns, worker.evaluation) ≡ true
    served_first = next_served w w.plans (ns, worker.evaluation) has.2

    snapshot : (t : Tenant) (e : Evaluation) (o : Option Snapshot) → is_some o ≡ true → is_submitted worker.phase ≡ true →
        in_turn (option_map_or (apply_for number ns w t worker e) o NotEnabled) ≡ true
    snapshot t e None there submitted = not_both there refl
    snapshot t e (Some kept) there submitted = λ i. in_turn (cond (submitted i && served_first i)
        (applied number ns worker e (commit kept (plan kept) w t)) NotEnabled)

    row : (t : Tenant) → IsSoundWorker w ns t number worker → in_turn (option_map_or
        (λ e. option_map_or (apply_for number ns w t worker e) worker.kept NotEnabled) (get t.evaluations worker.evaluation) NotEnabled) ≡ true
    row t is =
        let submitted = sym is.plan_listed ∙ listed w w.plans (ns, worker.evaluation) has.2 in
        ap (λ o. in_turn (option_map_or (λ e. option_map_or (apply_for number ns w t worker e) worker.kept NotEnabled) o NotEnabled)) is.is_row
        ∙ snapshot t is.row worker.kept (is.keeps_one ∙ keeps_then worker.phase submitted) submitted

    by : (o : Option Tenant) → get w.tenants ns ≡ o → option_and_then (λ t. get t.workers number) o ≡ Some worker →
        in_turn (option_map_or (λ t. option_map_or (λ worker. option_map_or
        (λ e. option_map_or (apply_for number ns w t worker e) worker.kept NotEnabled) (get t.evaluations worker.evaluation) NotEnabled)
        (get t.workers number) NotEnabled) o NotEnabled) ≡ true
    by None is at = absurd (not_Some worker at)
    by (Some t) is at = ap (λ o. in_turn (option_map_or (λ worker. option_map_or
        (λ e. option_map_or (apply_for number ns w t worker e) worker.kept NotEnabled) (get t.evaluations worker.evaluation) NotEnabled)
        o NotEnabled)) at ∙ row t ((sound.tenant ns t is).worker number worker at)

pub next_plan_is_applied : NextPlanIsApplied
next_plan_is_applied s number ns valid = (
  (λ said. plan_of_first s.world number ns (sym (applying number ns s) ∙ said_if _ said)),
  (λ has. not_None _ (applying number ns s ∙ first_applies s.world number ns valid.world has)),
)
