use Rattle.std.proofs.Common.{◌≡◌, ◌+◌, ◌<◌, ◌^◌, ◌∙◌, ap, sym, subst, Err, Some, None}
use Rattle.std.proofs.lemmas.Result.{err_from_is_err_and}
use Rattle.std.specs.FinMap.{get}
use Rattle.std.specs.Option.{option_and_then, option_copied}
use Rattle.std.specs.Prelude.{option_map}
use Rattle.ns_types.specs.declared.reply.Content.TheVariants as Content
use Rattle.ns_types.specs.Settling.Outcome.{Done}
use Rattle.ns_types.specs.State.Rows.{Tenant, evaluation_at}
use Rattle.ns_types.proofs.Tests.{not_Some}
use Rattle.ns_change.proofs.Prepares.{prepares_as}
use Rattle.ns_followers.proofs.Answered.{alone_made, followed_made, is_full, left_here, no_memory}
use Rattle.ns_followers.specs.Ending.{ended_alone, ended_followed}
use Rattle.ns_followers.specs.Finishing.{passes_bound}
use Rattle.ns_tables.proofs.World.{tenant_at}
use Rattle.ns_tables.specs.World.{tenant_of, world_of}
use Rattle.ns_followers.proofs.finishing.finish.Goals as goal
use Rattle.ns_followers.proofs.finishing.finish.Goals.{After-passes_bound}

module _ (c : After-passes_bound) where
  tenant_is : get (world_of c.args.tables.now).tenants c.args.namespace.now ≡ Some (tenant_of c.in-Some.tenant.now)
  tenant_is = tenant_at c.args.tables.now c.args.namespace.now ∙ ap (option_map tenant_of) (sym c.get.ensures ∙ ap option_copied c.in-Some.is)

  row_is : evaluation_at (world_of c.args.tables.now) (c.args.namespace.now, c.in_ok-worker.worker.now.evaluation) ≡ Some c.in-Some-evaluation.row.now
  row_is = ap (λ n. evaluation_at (world_of c.args.tables.now) (c.args.namespace.now, n)) (sym c.evaluation.ensures)
      ∙ sym c.evaluation-2.ensures ∙ ap option_copied c.in-Some-evaluation.is

pub returns-in_default : goal.returns-in_default
returns-in_default c =
    let w = world_of c.args.tables.now in
    let none = tenant_at c.args.tables.now c.args.namespace.now ∙ ap (option_map tenant_of) (sym c.get.ensures ∙ ap option_copied c.in_default.is) in
    absurd (not_Some c.in_ok-worker.worker.now
    (sym (ap (option_and_then (λ (t : Tenant). get t.workers c.args.number)) none) ∙ c.in_ok-worker.ensures.at_end.0))

pub returns-then-passes_bound : goal.returns-then-passes_bound
returns-then-passes_bound c =
    let past = (goal.at.returns-then-passes_bound c).After-passes_bound in
    is_full c.args.number c.args.namespace.now c.args.tables.now c.args.planned.now c.in_ok-worker.worker.now c.in_ok-worker.ensures
    (tenant_of c.in-Some.tenant.now) (tenant_is past) c.in-Some-evaluation.row.now (row_is past) c.requires.within c.requires.pending
    c.needs_follower-follows.result (sym c.needs_follower-follows.ensures) (sym c.passes_bound.ensures ∙ c.if-passes_bound.true)

pub returns-in_err-clone : goal.returns-in_err-clone
returns-in_err-clone c =
    let past = (goal.at.returns-in_err-clone c).After-passes_bound in
    let p = err_from_is_err_and c.from_residual-in_err-clone.result c.from_residual-in_err-clone.ensures.1 in
    no_memory c.args.number c.args.namespace.now c.args.tables.now c.args.planned.now c.in_ok-worker.worker.now c.in_ok-worker.ensures
    (tenant_of c.in-Some.tenant.now) (tenant_is past) c.in-Some-evaluation.row.now (row_is past) c.requires.within c.requires.pending
    c.needs_follower-follows.result (sym c.needs_follower-follows.ensures) (sym c.passes_bound.ensures ∙ c.if-passes_bound.false)
    c.from_residual-in_err-clone.result (p.1 ∙ ap Err p.2)

pub returns-then-not-follows : goal.returns-then-not-follows
returns-then-not-follows c =
    let past = (goal.at.returns-then-not-follows c).After-passes_bound in
    let w = world_of c.args.tables.now in
    let worker = c.in_ok-worker.worker.now in
    let t = tenant_of c.in-Some.tenant.now in
    let row = c.in-Some-evaluation.row.now in
    let key = c.new-key.ensures ∙ (λ j. (c.in_ok-clone.ensures.cases j, c.evaluation-3.ensures j)) in
    alone_made c.args.number c.args.namespace.now c.args.tables.now c.args.planned.now worker c.in_ok-worker.ensures
    t (tenant_is past) row (row_is past) c.requires.within c.requires.pending
    (sym c.needs_follower-follows.ensures ∙ c.if-not-follows.true)
    (ap (λ b. passes_bound b t) (sym c.if-not-follows.true) ∙ sym c.passes_bound.ensures ∙ c.if-passes_bound.false) c.alone.result
    (prepares_as _ _ c.args.tables.now c.alone.result
    (λ i. Done (Content.Finished (sym c.end_of.ensures i) None)
    (ended_alone (record { worker = c.args.number; key = sym key i; job = row.job; status = sym c.end_of.ensures i }) w))
    c.alone.ensures)

pub returns-in_err-follower : goal.returns-in_err-follower
returns-in_err-follower c =
    let past = (goal.at.returns-in_err-follower c).After-passes_bound in
    let p = err_from_is_err_and c.from_residual-in_err-follower.result c.from_residual-in_err-follower.ensures.1 in
    no_memory c.args.number c.args.namespace.now c.args.tables.now c.args.planned.now c.in_ok-worker.worker.now c.in_ok-worker.ensures
    (tenant_of c.in-Some.tenant.now) (tenant_is past) c.in-Some-evaluation.row.now (row_is past) c.requires.within c.requires.pending
    c.needs_follower-follows.result (sym c.needs_follower-follows.ensures) (sym c.passes_bound.ensures ∙ c.if-passes_bound.false)
    c.from_residual-in_err-follower.result (p.1 ∙ ap Err p.2)

pub followed-requires : goal.followed-requires
followed-requires c =
    let past = (goal.at.followed-requires c).After-passes_bound in
    let w = world_of c.args.tables.now in
    let t = tenant_of c.in-Some.tenant.now in
    let key = c.new-key.ensures ∙ (λ j. (c.in_ok-clone.ensures.cases j, c.evaluation-3.ensures j)) in
    subst (λ ns. (t : Tenant) → get w.tenants ns ≡ Some t → t.evaluation_number + 1 < 2 ^ 64) (ap (λ k. k.0) (sym key))
    (left_here w c.args.namespace.now t (tenant_is past)
    (ap (λ b. passes_bound b t) (sym c.if-not-follows.false) ∙ sym c.passes_bound.ensures ∙ c.if-passes_bound.false))

pub returns : goal.returns
returns c =
    let past = (goal.at.returns c).After-passes_bound in
    let w = world_of c.args.tables.now in
    let worker = c.in_ok-worker.worker.now in
    let t = tenant_of c.in-Some.tenant.now in
    let row = c.in-Some-evaluation.row.now in
    let key = c.new-key.ensures ∙ (λ j. (c.in_ok-clone.ensures.cases j, c.evaluation-3.ensures j)) in
    followed_made c.args.number c.args.namespace.now c.args.tables.now c.args.planned.now worker c.in_ok-worker.ensures
    t (tenant_is past) row (row_is past) c.requires.within c.requires.pending
    (sym c.needs_follower-follows.ensures ∙ c.if-not-follows.false)
    (ap (λ b. passes_bound b t) (sym c.if-not-follows.false) ∙ sym c.passes_bound.ensures ∙ c.if-passes_bound.false) c.followed.result
    (prepares_as _ _ c.args.tables.now c.followed.result
    (λ i. Done (Content.Finished (sym c.end_of.ensures i) (Some (t.evaluation_number + 1)))
    (ended_followed (record { worker = c.args.number; key = sym key i; job = row.job; status = sym c.end_of.ensures i })
    (t.evaluation_number + 1) (sym c.in_ok-follower.ensures i) w))
    c.followed.ensures)
