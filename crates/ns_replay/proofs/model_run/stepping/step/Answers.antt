use Rattle.std.specs.Prelude.{Option}
use Rattle.std.proofs.Common.{ap, sym, subst, ◌∙◌}
use Rattle.std.specs.Option.{option_copied}
use Rattle.ns_types.specs.declared.step.Step.{Step}
use Rattle.ns_types.specs.State.Names.{Name}
use Rattle.ns_replay.proofs.Answered.{any_so}
use Rattle.ns_replay.proofs.model_run.stepping.step.Goals as goal
use Rattle.ns_replay.specs.Making.{MakesAny}

pub returns-in-Ask : goal.returns-in-Ask
returns-in-Ask c =
    any_so c.args.step.now (Step.Ask c.in-Ask.namespace (option_copied c.as_ref.result) c.in-Ask.command) c.args.core.now c.ask.result c.ask.new.self
    (c.in-Ask.is ∙ ap (λ (secret : Option Name). Step.Ask c.in-Ask.namespace secret c.in-Ask.command) (sym c.as_ref.ensures.value)) c.ask.ensures

pub returns-in-Admin : goal.returns-in-Admin
returns-in-Admin c =
    any_so c.args.step.now (Step.Admin (option_copied c.as_ref-in-Admin.result) c.in-Admin.command) c.args.core.now c.admin.result c.admin.new.self
    (c.in-Admin.is ∙ ap (λ (secret : Option Name). Step.Admin secret c.in-Admin.command) (sym c.as_ref-in-Admin.ensures.value)) c.admin.ensures

pub returns-in-Node : goal.returns-in-Node
returns-in-Node c =
    any_so c.args.step.now (Step.Node c.in-Node.pool (option_copied c.as_ref-in-Node.result) c.in-Node.command) c.args.core.now c.node.result c.node.new.self
    (c.in-Node.is ∙ ap (λ (secret : Option Name). Step.Node c.in-Node.pool secret c.in-Node.command) (sym c.as_ref-in-Node.ensures.value)) c.node.ensures

pub returns-in-Dequeue : goal.returns-in-Dequeue
returns-in-Dequeue c = any_so c.args.step.now (Step.Dequeue c.in-Dequeue.worker c.in-Dequeue.namespace c.in-Dequeue.evaluation)
    c.args.core.now c.dequeue.result c.dequeue.new.self c.in-Dequeue.is c.dequeue.ensures

pub returns-in-Snap : goal.returns-in-Snap
returns-in-Snap c = any_so c.args.step.now (Step.Snap c.in-Snap.worker c.in-Snap.namespace) c.args.core.now c.snap.result c.snap.new.core
    c.in-Snap.is c.snap.ensures

pub returns-in-Submit : goal.returns-in-Submit
returns-in-Submit c = subst (λ step. MakesAny step c.args.core.now c.submit.result c.submit.new.core) (sym c.in-Submit.is) c.submit.ensures

pub returns-in-Apply : goal.returns-in-Apply
returns-in-Apply c = any_so c.args.step.now (Step.Apply c.in-Apply.worker c.in-Apply.namespace) c.args.core.now c.apply.result c.apply.new.self
    c.in-Apply.is c.apply.ensures

pub returns-in-Finish : goal.returns-in-Finish
returns-in-Finish c = subst (λ step. MakesAny step c.args.core.now c.finish.result c.finish.new.core) (sym c.in-Finish.is) c.finish.ensures

pub returns-in-Nack : goal.returns-in-Nack
returns-in-Nack c = any_so c.args.step.now (Step.Nack c.in-Nack.worker c.in-Nack.namespace) c.args.core.now c.nack.result c.nack.new.self
    c.in-Nack.is c.nack.ensures
