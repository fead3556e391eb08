use Rattle.std.proofs.Common.{Global, subst}
use Rattle.ns_work_log.specs.Logs.{History, IsNoted}
use Rattle.ns_work_log.specs.Rendered.{LogsRendered}
use Rattle.ns_api.specs.Lacking.{LacksRoom}
use Rattle.ns_api.proofs.Answered.{wants_memory}
use Rattle.ns_api.proofs.Taken.{held_answers, held_wants}
use Rattle.ns_api.proofs.cores.HeldTakes.respond.Goals as goal

pub returns-in-Ok-take_rendered : goal.returns-in-Ok-take_rendered
returns-in-Ok-take_rendered c = held_answers c.args.step c.args.self.now c.take_rendered.new.self c.in-Ok-take_rendered.receipt
    c.in-Ok-take_rendered.response
    (subst (λ r. LogsRendered c.args.step c.args.self.now r c.take_rendered.new.self) c.in-Ok-take_rendered.is
    (subst (λ step. LogsRendered step c.args.self.now c.take_rendered.result c.take_rendered.new.self) c.in-Ok.ensures c.take_rendered.ensures))

pub returns-in-Err : goal.returns-in-Err
returns-in-Err c = held_wants c.args.step c.args.self.now c.take_rendered.new.self Global c.in-Err.refusal
    (subst (λ r. LogsRendered c.args.step c.args.self.now r c.take_rendered.new.self) c.in-Err.is
    (subst (λ step. LogsRendered step c.args.self.now c.take_rendered.result c.take_rendered.new.self) c.in-Ok.ensures c.take_rendered.ensures))

pub returns-in_default : goal.returns-in_default
returns-in_default c = wants_memory (λ (h : History). h.state) IsNoted LacksRoom c.args.step c.args.self.now
