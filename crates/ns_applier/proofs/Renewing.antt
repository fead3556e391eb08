-- Evaluations of those that lost an allocation, one after another.
use Rattle.std.specs.Prelude.{◌≤◌, ◌<◌, ◌||◌, length, ◌≡◌, ◌+◌, Bool, true, false, cond, List, [], ◌∷◌, ◌++◌, Option, Some, None, filter, fold, map, option_map}
use Rattle.std.proofs.Common.{append_assoc, refl, sym, ap, subst, ◌∙◌, arith}
use Rattle.std.proofs.lemmas.List.Folds.{list_any-append}
use Rattle.std.proofs.lemmas.List.{append-nil}
use Rattle.std.specs.FinMap.{get, insert}
use Rattle.std.specs.Option.{option_map_or}
use Rattle.ns_types.specs.declared.allocation.Allocation.{Allocation}
use Rattle.ns_types.specs.declared.evaluation.Evaluation.{Evaluation}
use Rattle.ns_types.specs.declared.evaluation.Status.TheVariants as Status
use Rattle.ns_types.specs.declared.evaluation.Trigger.{Trigger}
use Rattle.ns_types.specs.declared.evaluation.Trigger.TheVariants as triggers
use Rattle.ns_types.specs.declared.job.Job.{Job}
use Rattle.ns_types.specs.declared.job.JobKind.TheVariants as JobKind
use Rattle.ns_types.specs.Settling.Making.{change_tenant, evaluation_for, evaluation_of, make, make_in, new_evaluation, put_tenant, with_evaluation}
use Rattle.ns_types.specs.State.Lists.{first_each}
use Rattle.ns_types.specs.State.Names.{ByName, Key, Name, has_key, same_key, same_name}
use Rattle.ns_types.specs.State.Rows.{Tenant, World, evaluation_at}
use Rattle.ns_types.specs.Working.Commit.{Victim, least_of_job, make_up, same_victim_job}
use Rattle.ns_types.specs.Working.Queue.{is_busy, queue}
use Rattle.ns_types.proofs.Lists.{not_both}
use Rattle.ns_types.proofs.Named.{same_name_refl}
use Rattle.ns_types.proofs.Once.{key_is}
use Rattle.ns_types.proofs.Queue.{queue_keeps}
use Rattle.ns_types.proofs.Tests.{not_Some, or_none, same_Some}
use Rattle.ns_applier.specs.Parts.{IsNew}
use Rattle.ns_applier.proofs.Placing.{get_changed}

-- ---- one

abbrev new : (Tenant → Evaluation) → Tenant → Tenant
new evaluation t = with_evaluation (evaluation t) t

module _ {A : Type 0} (part : World → A) (ready : (w : World) (keys : List Key) → part (record w { ready = keys }) ≡ part w) where
  made_is : (ns : Name) (evaluation : Tenant → Evaluation) (w : World) → part (make ns evaluation w) ≡ part (change_tenant ns (new evaluation) w)
  made_is ns evaluation w = by (get w.tenants ns)
    where
      by : (o : Option Tenant) →
          part (option_map_or (λ t. make_in ns (evaluation t) w t) o w) ≡ part (option_map_or (λ t. put_tenant ns (new evaluation t) w) o w)
      by None = refl
      by (Some t) = queue_keeps part ready (put_tenant ns (new evaluation t) w) (ns, t.evaluation_number + 1)

-- what is put into the list of ready ones, at its end
abbrev Puts : (Key → Type 0) → World → World → Type 0
Puts P w x = (more : List Key) × (x.ready ≡ w.ready ++ more) × ((key : Key) → has_key more key ≡ true → P key)

puts_none : (P : Key → Type 0) (w x : World) → x.ready ≡ w.ready → Puts P w x
puts_none P w x e = ([], e ∙ sym (append-nil w.ready), λ key e. not_both e refl)

queue_puts : (P : Key → Type 0) (w : World) (key : Key) → P key → Puts P w (queue w key)
unfolding queue
queue_puts P w key h = by (evaluation_at w key)
  where
    here : (k : Key) → has_key (key ∷ []) k ≡ true → P k
    here k e = subst P (sym (key_is k key (sym (or_none (same_key k key)) ∙ e))) h

    or : (b : Bool) → Puts P w (cond b w (record w { ready = w.ready ++ key ∷ [] }))
    or true = puts_none P w w refl
    or false = (key ∷ [], refl, here)

    by : (o : Option Evaluation) → Puts P w (option_map_or (λ e. cond (is_busy w key.0 e.job) w (record w { ready = w.ready ++ key ∷ [] })) o w)
    by None = puts_none P w w refl
    by (Some e) = or (is_busy w key.0 e.job)

-- it has the namespace's next number
made_puts : (P : Key → Type 0) (ns : Name) (evaluation : Tenant → Evaluation) (w : World) →
    ((t : Tenant) → get w.tenants ns ≡ Some t → P (ns, t.evaluation_number + 1)) → Puts P w (make ns evaluation w)
made_puts P ns evaluation w h = by (get w.tenants ns) refl
  where
    by : (o : Option Tenant) → get w.tenants ns ≡ o → Puts P w (option_map_or (λ t. make_in ns (evaluation t) w t) o w)
    by None at = puts_none P w w refl
    by (Some t) at = queue_puts P (put_tenant ns (new evaluation t) w) (ns, t.evaluation_number + 1) (h t at)

-- ---- all

module _ (victims : List Victim) where
  abbrev pub made_for : Victim → Tenant → Evaluation
  made_for v t = evaluation_for t (least_of_job victims v) triggers.Preemption

  abbrev one_more : World → Victim → World
  one_more w v = make v.0 (made_for v) w

  abbrev pub own : Name → List Victim → List Victim
  own q vs = filter (λ v. same_name q v.0) vs

  abbrev pub evaluations_of : Name → List Victim → Tenant → List Evaluation
  evaluations_of q vs t = map (λ v. made_for v t) (own q vs)

  abbrev pub with_own : Name → List Victim → Tenant → Tenant
  with_own q vs t = fold (λ t e. with_evaluation e t) t (evaluations_of q vs t)

  one_tenants : (v : Victim) (w : World) (q : Name) →
      get (one_more w v).tenants q ≡ option_map (λ t. cond (same_name q v.0) (new (made_for v) t) t) (get w.tenants q)
  one_tenants v w q = ap (λ m. get m q) (made_is (λ x. x.tenants) (λ x keys. refl) v.0 (made_for v) w) ∙ get_changed v.0 (new (made_for v)) w q

  each_tenants : (vs : List Victim) (w : World) (q : Name) → get (fold one_more w vs).tenants q ≡ option_map (with_own q vs) (get w.tenants q)
  each_tenants [] w q = by (get w.tenants q)
    where
      by : (o : Option Tenant) → o ≡ option_map (with_own q []) o
      by None = refl
      by (Some t) = refl
  each_tenants (v ∷ vs) w q = each_tenants vs (one_more w v) q ∙ ap (option_map (with_own q vs)) (one_tenants v w q) ∙ by (get w.tenants q)
    where
      then : (t : Tenant) (b : Bool) → with_own q vs (cond b (new (made_for v) t) t)
          ≡ fold (λ t e. with_evaluation e t) t (map (λ v. made_for v t) (cond b (v ∷ own q vs) (own q vs)))
      then t true = refl
      then t false = refl

      by : (o : Option Tenant) → option_map (with_own q vs) (option_map (λ t. cond (same_name q v.0) (new (made_for v) t) t) o)
          ≡ option_map (with_own q (v ∷ vs)) o
      by None = refl
      by (Some t) = ap Some (then t (same_name q v.0))

  -- the key of one of as many new evaluations of its namespace
  abbrev IsNewOf : List Victim → World → Key → Type 0
  IsNewOf vs w key = IsNew (length (own key.0 vs)) (get w.tenants key.0) key.1

  new_of_first : (v : Victim) (vs : List Victim) (w : World) (t : Tenant) → get w.tenants v.0 ≡ Some t → IsNewOf (v ∷ vs) w (v.0, t.evaluation_number + 1)
  new_of_first v vs w t at = (t, at, omega arith, omega (arith, counted))
    where
      counted : length (own v.0 (v ∷ vs)) ≡ length (own v.0 vs) + 1
      counted = ap (λ b. length (cond b (v ∷ own v.0 vs) (own v.0 vs))) (same_name_refl v.0) ∙ omega arith

  new_of_rest : (v : Victim) (vs : List Victim) (w : World) (key : Key) → IsNewOf vs (one_more w v) key → IsNewOf (v ∷ vs) w key
  new_of_rest v vs w key (u, at, low, high) = by (get w.tenants key.0) refl (sym (one_tenants v w key.0) ∙ at)
    where
      number : (b : Bool) (t : Tenant) → cond b (new (made_for v) t) t ≡ u →
          (t.evaluation_number < key.1) × (key.1 ≤ t.evaluation_number + length (cond b (v ∷ own key.0 vs) (own key.0 vs)))
      number true t is = let more = ap (λ (u : Tenant). u.evaluation_number) is in (omega (arith, more, low), omega (arith, more, high))
      number false t is = let same = ap (λ (u : Tenant). u.evaluation_number) is in (omega (arith, same, low), omega (arith, same, high))

      by : (o : Option Tenant) → get w.tenants key.0 ≡ o → option_map (λ t. cond (same_name key.0 v.0) (new (made_for v) t) t) o ≡ Some u →
          IsNewOf (v ∷ vs) w key
      by None was is = absurd (not_Some u is)
      by (Some t) was is = let numbers = number (same_name key.0 v.0) t (same_Some _ u is) in (t, was, numbers.0, numbers.1)

  each_puts : (vs : List Victim) (w : World) → Puts (IsNewOf vs w) w (fold one_more w vs)
  each_puts [] w = puts_none (IsNewOf [] w) w w refl
  each_puts (v ∷ vs) w = both (made_puts (IsNewOf (v ∷ vs) w) v.0 (made_for v) w (new_of_first v vs w)) (each_puts vs (one_more w v))
    where
      both : Puts (IsNewOf (v ∷ vs) w) w (one_more w v) → Puts (IsNewOf vs (one_more w v)) (one_more w v) (fold one_more (one_more w v) vs) →
          Puts (IsNewOf (v ∷ vs) w) w (fold one_more (one_more w v) vs)
      both (a, a_is, a_new) (b, b_is, b_new) = (
        a ++ b,
        b_is ∙ ap (λ l. l ++ b) a_is ∙ append_assoc w.ready a b,
        λ key e. either key (has_key a key) refl (sym (list_any-append (same_key key) a b) ∙ e),
      )
        where
          either : (key : Key) (c : Bool) → has_key a key ≡ c → (c || has_key b key) ≡ true → IsNewOf (v ∷ vs) w key
          either key true first e = a_new key first
          either key false first e = new_of_rest v vs w key (b_new key e)

  module _ {A : Type 0} (part : World → A) (ready : (w : World) (keys : List Key) → part (record w { ready = keys }) ≡ part w)
      (tenants : (w : World) (m : ByName Tenant) → part (record w { tenants = m }) ≡ part w) where
    one_keeps : (v : Victim) (w : World) → part (one_more w v) ≡ part w
    one_keeps v w = made_is part ready v.0 (made_for v) w ∙ by (get w.tenants v.0)
      where
        by : (o : Option Tenant) → part (option_map_or (λ t. put_tenant v.0 (new (made_for v) t) w) o w) ≡ part w
        by None = refl
        by (Some t) = tenants w (insert w.tenants v.0 (new (made_for v) t))

    each_keeps : (vs : List Victim) (w : World) → part (fold one_more w vs) ≡ part w
    each_keeps [] w = refl
    each_keeps (v ∷ vs) w = each_keeps vs (one_more w v) ∙ one_keeps v w

    pub made_up_keeps : (w : World) → part (make_up victims w) ≡ part w
    unfolding make_up
    made_up_keeps w = each_keeps (first_each same_victim_job victims) w

  pub made_up_tenants : (w : World) (q : Name) →
      get (make_up victims w).tenants q ≡ option_map (with_own q (first_each same_victim_job victims)) (get w.tenants q)
  unfolding make_up
  made_up_tenants w q = each_tenants (first_each same_victim_job victims) w q

  pub made_up_ready : (w : World) → (more : List Key) × ((make_up victims w).ready ≡ w.ready ++ more)
      × ((key : Key) → has_key more key ≡ true → IsNew (length (own key.0 (first_each same_victim_job victims))) (get w.tenants key.0) key.1)
  unfolding make_up
  made_up_ready w = each_puts (first_each same_victim_job victims) w

pub made_is_pending : (t : Tenant) (a : Allocation) (trigger : Trigger) → let e = evaluation_for t a trigger in
    (e.status ≡ Status.Pending) × (e.create_index ≡ 0) × (e.modify_index ≡ 0)
made_is_pending t a trigger = by (get t.jobs a.job)
  where
    by : (o : Option Job) → let e = option_map_or (λ job. evaluation_of a.job job.document trigger) o
        (new_evaluation a.job JobKind.Service a.priority a.pool trigger) in
        (e.status ≡ Status.Pending) × (e.create_index ≡ 0) × (e.modify_index ≡ 0)
    by None = (refl, refl, refl)
    by (Some job) = (refl, refl, refl)
