use Rattle.std.proofs.Common.{◌∙◌, List, [], ◌∷◌, ap, fold, subst}
use Rattle.std.proofs.lemmas.Result.{IfOk-weaker}
use Rattle.clap.specs.Built.{AddsArg, AddsInTurn}
use Rattle.clap.specs.Words.{with_rule}
use Rattle.clap.specs.declared.builder.arg.Arg.{Arg}
use Rattle.ns_command_line.specs.Words.{alone_rules}
use Rattle.ns_command_line.proofs.Commands.{GoTogether, HasRule, args_added, stays_local}
use Rattle.ns_command_line.proofs.command.alone.Goals as goal

abbrev given : goal.After-args-2 → List Arg
given c = c.namespace.result ∷ c.option.result ∷ c.repeated.result ∷ c.repeated-2.result ∷ []

have : (c : goal.After-args-2) → GoTogether HasRule (given c) alone_rules
have c = (
  (c.namespace.ensures.rule, c.namespace.ensures.local),
  (
    (c.option.ensures.rule, c.option.ensures.local),
    ((c.repeated.ensures.rule, c.repeated.ensures.local), ((c.repeated-2.ensures.rule, c.repeated-2.ensures.local), tt)),
  ),
)

pub returns-clause-shape : goal.returns-clause-shape
returns-clause-shape c = IfOk-weaker c.args-2.result _ _ (λ command adds. args_added (given c) alone_rules c.bare.result command
    (subst (λ items. AddsInTurn AddsArg c.bare.result items command) c.in_ok-args.ensures.items adds) (have c)
    ∙ ap (λ app. fold with_rule app alone_rules) c.bare.ensures.shape) c.args-2.ensures

pub returns-clause-local : goal.returns-clause-local
returns-clause-local c = IfOk-weaker c.args-2.result _ _ (λ command adds. stays_local (given c) alone_rules c.bare.result command
    (subst (λ items. AddsInTurn AddsArg c.bare.result items command) c.in_ok-args.ensures.items adds) (have c)
    c.bare.ensures.local) c.args-2.ensures
