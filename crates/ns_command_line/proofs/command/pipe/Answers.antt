use Rattle.std.proofs.Common.{◌∙◌, List, [], ◌∷◌, ap, fold, subst}
use Rattle.std.proofs.lemmas.Result.{IfOk-weaker}
use Rattle.clap.specs.Built.{AddsArg, AddsInTurn}
use Rattle.clap.specs.Words.{with_rule}
use Rattle.clap.specs.declared.builder.arg.Arg.{Arg}
use Rattle.ns_command_line.specs.Words.{pipe_rules}
use Rattle.ns_command_line.proofs.Commands.{GoTogether, HasRule, args_added, stays_local}
use Rattle.ns_command_line.proofs.command.pipe.Goals as goal

abbrev given : goal.After-args-2 → List Arg
given c = c.required.result ∷ c.drive.result ∷ c.option.result ∷ []

have : (c : goal.After-args-2) → GoTogether HasRule (given c) pipe_rules
have c = (
  (c.required.ensures.rule, c.required.ensures.local),
  (
    (c.drive.ensures.rule, c.drive.ensures.local),
    ((c.option.ensures.rule, c.option.ensures.local), tt),
  ),
)

pub returns-clause-shape : goal.returns-clause-shape
returns-clause-shape c = IfOk-weaker c.args-2.result _ _ (λ command adds. args_added (given c) pipe_rules c.bare.result command
    (subst (λ items. AddsInTurn AddsArg c.bare.result items command) c.in_ok-args.ensures.items adds) (have c)
    ∙ ap (λ app. fold with_rule app pipe_rules) c.bare.ensures.shape) c.args-2.ensures

pub returns-clause-local : goal.returns-clause-local
returns-clause-local c = IfOk-weaker c.args-2.result _ _ (λ command adds. stays_local (given c) pipe_rules c.bare.result command
    (subst (λ items. AddsInTurn AddsArg c.bare.result items command) c.in_ok-args.ensures.items adds) (have c)
    c.bare.ensures.local) c.args-2.ensures
