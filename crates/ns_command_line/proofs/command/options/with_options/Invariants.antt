use Rattle.std.proofs.Common.{◌≡◌, fold, map, take}
use Rattle.clap.specs.Words.{app_of, with_rule}
use Rattle.clap.specs.declared.builder.command.Command.TheViews.{out-Command}
use Rattle.ns_command_line.specs.Serve.{option_rule}
use Rattle.ns_command_line.proofs.command.options.with_options.Given as goal

-- the options so far have been added
abbrev pub invariant-loop-words : goal.invariant-loop-words
invariant-loop-words l =
    (app_of l.more ≡ fold with_rule (app_of l.fn.command) (take l.words-index (map (λ words. option_rule words.0.now) l.fn.options)))
    × ((out-Command l.more).has_globals ≡ (out-Command l.fn.command).has_globals)
