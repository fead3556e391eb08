use Rattle.std.proofs.Common.{List, ℕ, drop, sym, ap, subst, ◌∙◌}
use Rattle.std.specs.Prelude.{IsUtf8}
use Rattle.ns_log_reader.proofs.Calls.{secret_utf8}
use Rattle.ns_log_reader.proofs.head.secret_of.Goals as goal

pub returns-in_default-from_utf8-clause-bad : goal.returns-in_default-from_utf8-clause-bad
returns-in_default-from_utf8-clause-bad c = λ e secret named is.
    c.in_default-from_utf8.ensures.cases.0
    (subst IsUtf8 (sym (c.in-Some.ensures.cases.1 ∙ ap (λ (l : List ℕ). drop 12 l) is)) (secret_utf8 secret named))
