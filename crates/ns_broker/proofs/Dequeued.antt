-- When a worker may take an evaluation, and what it changes.
use Rattle.std.specs.Prelude.{◌≡◌, ℕ, Bool, true, false, cond, not, List, Option, Some, None, is_some, option_map}
use Rattle.std.proofs.Common.{refl, ap, sym, ◌∙◌}
use Rattle.std.specs.Option.{option_and_then, option_map_or}
use Rattle.std.specs.FinMap.{get}
use Rattle.ns_types.specs.declared.evaluation.Evaluation.{Evaluation}
use Rattle.ns_types.specs.declared.reply.Content.TheVariants as Content
use Rattle.ns_types.proofs.Named.{same_key_is}
use Rattle.ns_types.proofs.Tests.{not_Some, same_Some}
use Rattle.ns_types.specs.Settling.Making.{change_tenant, put_tenant}
use Rattle.ns_types.specs.Settling.Outcome.{NotEnabled, Done}
use Rattle.ns_types.specs.State.Names.{Key, Name, same_key}
use Rattle.ns_types.specs.State.Rows.{World, Tenant, evaluation_at}
use Rattle.ns_types.specs.Working.Looks.{row_of}
use Rattle.ns_types.specs.Working.Queue.{served}
use Rattle.ns_types.specs.Working.Work.{dequeue, dequeue_in, is_idle, new_worker, taken, with_worker}
use Rattle.ns_types.specs.Working.Worker.{Worker}
use Rattle.ns_broker.specs.Looking.{busy_for}
use Rattle.ns_broker.specs.Serving.{may_dequeue, served_as}
use Rattle.ns_change.specs.Changed.{without_ready}
use Rattle.ns_queues.proofs.Holding.{idle_is}

-- a worker is idle where it is busy for no namespace
pub idle_by : (w : World) (number : ℕ) → not (is_some (busy_for w number)) ≡ is_idle w number
idle_by w number = by (row_of w number) refl
  where
    by : (r : Option (Name × Worker)) → row_of w number ≡ r → not (is_some (option_map (λ row. row.0) r)) ≡ is_idle w number
    by None is = ap (λ r. not (is_some r)) (sym is) ∙ sym (idle_is w number)
    by (Some row) is = ap (λ r. not (is_some r)) (sym is) ∙ sym (idle_is w number)

-- ---- the key that a test lets through

pub let_through : (b : Bool) (key found : Key) → Some found ≡ cond b (Some key) None → (b ≡ true) × (found ≡ key)
let_through true key found e = (refl, same_Some found key e)
let_through false key found e = absurd (not_Some found (sym e))

pub kept_out : (b : Bool) (key : Key) → None ≡ cond b (Some key) None → b ≡ false
kept_out true key e = absurd (not_Some key e)
kept_out false key e = refl

module _ (w : World) (keys : List Key) (key : Key) where
  pub served_none : served w keys ≡ None → None ≡ served_as w keys key
  served_none is = sym (ap (λ o. cond (option_map_or (same_key key) o false) (Some key) None) is)

  module _ (next : Key) (is : served w keys ≡ Some next) where
    served_by : (b : Bool) → same_key key next ≡ b → served_as w keys key ≡ cond b (Some key) None
    served_by b same = ap (λ o. cond (option_map_or (same_key key) o false) (Some key) None) is ∙ ap (λ b. cond b (Some key) None) same

    pub served_it : same_key key next ≡ true → Some next ≡ served_as w keys key
    served_it same = ap Some (λ i. (sym (same_key_is key next same).0 i, sym (same_key_is key next same).1 i)) ∙ sym (served_by true same)

    pub served_other : same_key key next ≡ false → None ≡ served_as w keys key
    served_other other = sym (served_by false other)

-- ---- the step

module _ (number : ℕ) (key : Key) (w : World) where
  pub stays_out : may_dequeue number key w ≡ false → dequeue number key w ≡ NotEnabled
  unfolding dequeue
  stays_out off = ap (λ b. cond b (option_map_or (dequeue_in number key w) (get w.tenants key.0) NotEnabled) NotEnabled) off

  dequeues : may_dequeue number key w ≡ true → dequeue number key w ≡ option_map_or (dequeue_in number key w) (get w.tenants key.0) NotEnabled
  unfolding dequeue
  dequeues on = ap (λ b. cond b (option_map_or (dequeue_in number key w) (get w.tenants key.0) NotEnabled) NotEnabled) on

  pub nothing_there : evaluation_at w key ≡ None → may_dequeue number key w ≡ true → dequeue number key w ≡ NotEnabled
  nothing_there none on = dequeues on ∙ by (get w.tenants key.0) none
    where
      by : (r : Option Tenant) → option_and_then (λ t. get t.evaluations key.1) r ≡ None → option_map_or (dequeue_in number key w) r NotEnabled ≡ NotEnabled
      by None is = refl
      by (Some t) is = ap (λ e. option_map_or (λ e. Done (Content.Took key.1) (taken number key w t e)) e NotEnabled) is

  -- the worker has the evaluation, which is no longer ready
  pub taken_out : (e : Evaluation) → evaluation_at w key ≡ Some e → may_dequeue number key w ≡ true → dequeue number key w
      ≡ Done (Content.Took key.1) (without_ready key (change_tenant key.0 (with_worker number (new_worker key.1 e)) w))
  taken_out e there on = dequeues on ∙ by (get w.tenants key.0) refl there
    where
      by : (r : Option Tenant) → get w.tenants key.0 ≡ r → option_and_then (λ t. get t.evaluations key.1) r ≡ Some e →
          option_map_or (dequeue_in number key w) r NotEnabled
          ≡ Done (Content.Took key.1) (without_ready key (option_map_or (λ t. put_tenant key.0 (with_worker number (new_worker key.1 e) t) w) r w))
      by None at is = absurd (not_Some e is)
      by (Some t) at is = ap (λ e. option_map_or (λ e. Done (Content.Took key.1) (taken number key w t e)) e NotEnabled) is
