-- What an Apply says and leaves is what its commit makes.
use Rattle.std.specs.Prelude.{◌≡◌, ℕ, ◌&&◌, Option, Some, None, Ok}
use Rattle.std.proofs.Common.{refl}
use Rattle.std.specs.FinMap.{get}
use Rattle.std.specs.Option.{option_map_or}
use Rattle.ns_types.specs.declared.evaluation.Evaluation.{Evaluation}
use Rattle.ns_types.specs.declared.reply.Content.{Content}
use Rattle.ns_types.specs.declared.reply.Reply.{Reply}
use Rattle.ns_types.specs.declared.snapshot.Snapshot.{Snapshot}
use Rattle.ns_types.specs.declared.step.Step.{Step}
use Rattle.ns_types.specs.Asking.Policies.{with_world}
use Rattle.ns_types.specs.Placing.Plan.{plan}
use Rattle.ns_types.specs.Settling.Making.{change_tenant}
use Rattle.ns_types.specs.Settling.Outcome.{Outcome, NotEnabled}
use Rattle.ns_types.specs.Settling.Settle.{settle}
use Rattle.ns_types.specs.State.Names.{Name}
use Rattle.ns_types.specs.State.Rows.{State, World, Tenant}
use Rattle.ns_types.specs.Steps.{act, after, reply_of, said, settled}
use Rattle.ns_types.specs.Working.Commit.{Applied, applied, applied_worker, apply, apply_for, commit}
use Rattle.ns_types.specs.Working.Queue.{is_served}
use Rattle.ns_types.specs.Working.Work.{is_submitted, with_worker, without_key}
use Rattle.ns_types.specs.Working.Worker.{Worker}
use Rattle.ns_laws.proofs.Effect.Rows.{Does, after_does, does_if, does_lift}

pub does_or : {S A : Type 0} (Q : Content → S → Type 0) (o : Option A) (f : A → Outcome S) → ((a : A) → o ≡ Some a → Does Q (f a)) → Does Q
    (option_map_or f o NotEnabled)
does_or {A = A} Q o f h = by o refl
  where
    by : (x : Option A) → o ≡ x → Does Q (option_map_or f x NotEnabled)
    by None is = tt
    by (Some a) is = h a is

-- the worker's row is written, and its plan is out of the list
abbrev pub marked : ℕ → Name → Worker → Evaluation → Applied → World
marked number ns worker e a =
    record (change_tenant ns (with_worker number (applied_worker a worker e)) a.world) { plans = without_key (ns, worker.evaluation) a.world.plans }

module _ (number : ℕ) (ns : Name) (w : World) (Q : Content → World → Type 0)
    (h : (t : Tenant) (worker : Worker) (e : Evaluation) (kept : Snapshot) → get w.tenants ns ≡ Some t → get t.workers number ≡ Some worker
    → worker.kept ≡ Some kept
    → Q (Content.Applied (commit kept (plan kept) w t).made (commit kept (plan kept) w t).dropped)
    (marked number ns worker e (commit kept (plan kept) w t))) where
  apply_does : Does Q (apply number ns w)
  unfolding apply
  apply_does = does_or Q (get w.tenants ns) _ (λ t is. does_or Q (get t.workers number) _
      (λ worker has. does_or Q (get t.evaluations worker.evaluation) _ (λ e at.
      does_or Q worker.kept (apply_for number ns w t worker e) (λ kept keeps.
      does_if Q (is_submitted worker.phase && is_served w w.plans (ns, worker.evaluation)) (applied number ns worker e (commit kept (plan kept) w t)) NotEnabled
      (λ _. h t worker e kept is has keeps) (λ _. tt)))))

-- a law of what an Apply says and leaves, by what its commit makes
pub after_apply : (number : ℕ) (ns : Name) (s t : State) (reply : Reply) (Q : Reply → State → Type 0)
    → after (Step.Apply number ns) s ≡ said (Ok reply) t
    → ((u : Tenant) (worker : Worker) (e : Evaluation) (kept : Snapshot) → get s.world.tenants ns ≡ Some u → get u.workers number ≡ Some worker
    → worker.kept ≡ Some kept → let a = commit kept (plan kept) s.world u in let x = marked number ns worker e a in
    Q (reply_of (Step.Apply number ns) (Content.Applied a.made a.dropped) (settle s.world x)) (settled s (with_world s.acl x)))
    → Q reply t
unfolding act
after_apply number ns s t reply Q is h = after_does (Step.Apply number ns) s t reply Q is
    (does_lift (λ content x. Q (reply_of (Step.Apply number ns) content (settle s.world x.world)) (settled s x)) (with_world s.acl) (apply number ns s.world)
    (apply_does number ns s.world (λ content x. Q (reply_of (Step.Apply number ns) content (settle s.world x)) (settled s (with_world s.acl x))) h))
