use Rattle.std.proofs.Common.{subst}
use Rattle.std.specs.Prelude.{IfOk}
use Rattle.std.proofs.lemmas.Result.{IfOk-weaker}
use Rattle.ns_command_line.proofs.Commands.{IsApp, subcommand_added}
use Rattle.ns_command_line.proofs.command.added.Goals as goal

pub returns-in-Ok : goal.returns-in-Ok
returns-in-Ok c = IfOk-weaker c.subcommand.result _ _ (λ more adds. λ app given.
    subcommand_added _ app _ more adds (subst (λ r. IfOk r (λ s. IsApp s app)) c.in-Ok.is given)) c.subcommand.ensures
