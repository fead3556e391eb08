use Rattle.clap.specs.Words.{app_of}
use Rattle.ns_command_line.proofs.Commands.{option_added, stays_as_local}
use Rattle.ns_command_line.proofs.command.options.with_options.Goals as goal

pub loop-words-preserved : goal.loop-words-preserved
loop-words-preserved c = (
  option_added (app_of c.args.command) c.args.options.now c.loop-words.words-index _ _ _ c.option.result c.loop-words-test.true
      c.loop-words.invariant.0 c.in_ok-more.ensures c.option.ensures.rule c.option.ensures.local,
  stays_as_local c.args.command _ _ c.option.result c.loop-words.invariant.1 c.in_ok-more.ensures c.option.ensures.local,
)
