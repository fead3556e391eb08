use Rattle.std.proofs.Common.{◌≡◌, inr, sym, refl, subst, List}
use Rattle.std.specs.Prelude.{IfOk}
use Rattle.clap.specs.Walk.{texts}
use Rattle.clap.specs.Words.{App, HasKind, HasMatchesOf, Text, fault_of, kind_of, subcommand_of, subcommand_rows_of}
use Rattle.clap.specs.declared.error.kind.ErrorKind.{ErrorKind}
use Rattle.clap.specs.declared.parser.matches.ArgMatches.{ArgMatches}
use Rattle.ns_command_line.specs.Words.{IsRefusal, IsWanted, program_words}
use Rattle.ns_command_line.proofs.Errors.{any_ok, err_is, no_fault, none_is_ok, of_fault, only_memory}
use Rattle.ns_command_line.proofs.words.asked_of.Goals as goal

-- the matches name a subcommand as the words do
same_named : (app : App) (words : List Text) (matches : ArgMatches) → app ≡ program_words → HasMatchesOf app words matches →
    subcommand_rows_of matches ≡ subcommand_of program_words words
same_named app words matches is fits = (subst (λ a. HasMatchesOf a words matches) is fits refl).1

pub returns-in_err-matches-clause-good : goal.returns-in_err-matches-clause-good
returns-in_err-matches-clause-good c = λ wanted taken is.
    let words = texts c.args.words.now in
    let same = c.from_residual.ensures.1 in (
      none_is_ok _ c.from_residual.result _ same,
      err_is (λ error. kind_of error ≡ ErrorKind.OutOfMemory) c.from_residual.result _ same
          (only_memory words _ taken (of_fault _ words _ c.requires.program c.in_err-matches.ensures.kinds)),
    )

pub returns-in_err-matches-clause-bad : goal.returns-in_err-matches-clause-bad
returns-in_err-matches-clause-bad c = λ taken.
    let words = texts c.args.words.now in
    err_is IsRefusal c.from_residual.result _ c.from_residual.ensures.1
    (inr (only_memory words _ taken (of_fault _ words _ c.requires.program c.in_err-matches.ensures.kinds)))

pub returns-in_err-matches-clause-faulty : goal.returns-in_err-matches-clause-faulty
returns-in_err-matches-clause-faulty c = λ refused.
    let words = texts c.args.words.now in
    err_is (HasKind (fault_of program_words words)) c.from_residual.result _ c.from_residual.ensures.1
    (of_fault _ words _ c.requires.program c.in_err-matches.ensures.kinds)

pub returns-clause-taken : goal.returns-clause-taken
returns-clause-taken c =
    any_ok _ c.wanted-wanted.result (no_fault _ (texts c.args.words.now) c.requires.program c.in_ok-matches.ensures.kinds)

pub returns-clause-gives : goal.returns-clause-gives
returns-clause-gives c =
    let named = same_named _ (texts c.args.words.now) c.in_ok-matches.matches c.requires.program c.in_ok-matches.ensures.ok.2 in
    subst (λ n. IfOk c.wanted-wanted.result (IsWanted n)) named c.wanted-wanted.ensures.gives

pub returns-clause-good : goal.returns-clause-good
returns-clause-good c = λ wanted taken is.
    let named = same_named _ (texts c.args.words.now) c.in_ok-matches.matches c.requires.program c.in_ok-matches.ensures.ok.2 in
    c.wanted-wanted.ensures.good wanted (subst (λ n. IsWanted n wanted) (sym named) is)

pub returns-clause-faulty : goal.returns-clause-faulty
returns-clause-faulty c = λ refused.
    absurd (refused (no_fault _ (texts c.args.words.now) c.requires.program c.in_ok-matches.ensures.kinds))
