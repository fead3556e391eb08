use Rattle.std.proofs.Common.{◌∙◌, List, [], ◌∷◌, ap, codes, fold}
use Rattle.std.proofs.lemmas.Result.{IfOk-weaker}
use Rattle.clap.specs.Words.{Rule, with_rule}
use Rattle.ns_command_line.specs.Serve.{option_rule}
use Rattle.ns_command_line.proofs.command.serve.serve.Goals as goal

-- all but the address
abbrev options : List Rule
options =
    option_rule (codes "bootstrap") ∷ option_rule (codes "workers") ∷ option_rule (codes "connections") ∷ option_rule (codes "accept")
    ∷ option_rule (codes "idle") ∷ option_rule (codes "log-limit") ∷ option_rule (codes "rotate") ∷ option_rule (codes "rotate-bytes") ∷ []

pub returns-clause-shape : goal.returns-clause-shape
returns-clause-shape c = IfOk-weaker c.with_options.result _ _ (λ more adds.
    adds ∙ ap (λ app. fold with_rule app options) c.in_ok-command.ensures.shape) c.with_options.ensures.shape

pub returns-clause-local : goal.returns-clause-local
returns-clause-local c = IfOk-weaker c.with_options.result _ _ (λ more same.
    same ∙ c.in_ok-command.ensures.local) c.with_options.ensures.local
