use Rattle.std.proofs.Common.{subst}
use Rattle.std.specs.Prelude.{IsUtf8}
use Rattle.std.proofs.lemmas.Str.{IsUtf8-string_bytes}
use Rattle.ns_pipe.proofs.Texts.{one_back}
use Rattle.ns_pipe.proofs.written.text.readable_text.Goals as goal

pub returns-clause-read_back : goal.returns-clause-read_back
returns-clause-read_back c =
    one_back c.args.bootstrap.now c.args.entries.now c.get.ensures.good c.each_is_typed.ensures.few c.each_is_typed.ensures.typed
    (subst IsUtf8 c.in_ok-text.ensures (IsUtf8-string_bytes c.in_ok-text.text))
