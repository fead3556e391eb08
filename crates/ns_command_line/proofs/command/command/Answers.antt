use Rattle.std.proofs.Common.{◌∙◌, ap}
use Rattle.std.proofs.lemmas.Result.{IfOk-weaker}
use Rattle.ns_command_line.specs.Serve.{serve_words}
use Rattle.ns_command_line.specs.Words.{alone_words, pipe_words, with_app}
use Rattle.ns_command_line.proofs.Commands.{both}
use Rattle.ns_command_line.proofs.command.command.Goals as goal

pub returns : goal.returns
returns c =
    let pipe = c.in_ok-program.ensures pipe_words (both pipe_words c.pipe.result c.pipe.ensures.shape c.pipe.ensures.local) in
    let serve = c.in_ok-program-2.ensures serve_words (both serve_words c.serve.result c.serve.ensures.shape c.serve.ensures.local) in
    IfOk-weaker c.added-3.result _ _ (λ more is.
    is alone_words (both alone_words c.alone.result c.alone.ensures.shape c.alone.ensures.local)
    ∙ ap (λ program. with_app program alone_words) (serve
    ∙ ap (λ program. with_app program serve_words) (pipe ∙ ap (λ program. with_app program pipe_words) c.bare.ensures))) c.added-3.ensures
