use Rattle.std.proofs.Common.{◌≡◌, ◌∙◌, take, sym, subst, None, Some, Ok, Err}
use Rattle.std.proofs.lemmas.Result.{err_from_is_err_and, IfOk-at_ok}
use Rattle.ns_log.specs.Lines.{IsLineLen, entry_text}
use Rattle.ns_log_reader.specs.declared.fault.LineFault.TheVariants.{Bad}
use Rattle.ns_log_reader.specs.Reading.{ReadsBack}
use Rattle.ns_log_reader.proofs.Lines.{no_entry, bad_candidate, other_spelling, is_line}
use Rattle.ns_log_reader.proofs.line.next_entry.Goals as goal

pub returns-in_default-clause-bad : goal.returns-in_default-clause-bad
returns-in_default-clause-bad c = λ e. no_entry c.args.text.now (cc)

pub returns-in_err-entry-clause-bad : goal.returns-in_err-entry-clause-bad
returns-in_err-entry-clause-bad c =
    let p = err_from_is_err_and c.from_residual.result c.from_residual.ensures.1 in
    λ e.
    let bad : c.candidate.result ≡ Err Bad = cc (p.1, p.2, e) in
    bad_candidate c.args.text.now c.in-Some.end (cc) (subst (ReadsBack (take c.in-Some.end c.args.text.now)) bad c.candidate.ensures.back)

pub returns-in-Ok-Some-clause-ok : goal.returns-in-Ok-Some-clause-ok
returns-in-Ok-Some-clause-ok c =
    let is : c.line_len.result ≡ Ok (Some c.in-Ok-Some.len) = cc in
    is_line c.args.text.now c.in-Some.end c.in-Ok-Some.len c.in_ok-entry.entry (cc) c.in_ok-entry.ensures.within c.in_ok-entry.ensures.text
    (IfOk-at_ok (IsLineLen c.args.text.now (entry_text c.in_ok-entry.entry)) is c.line_len.ensures)

pub returns-in-Ok-None-clause-bad : goal.returns-in-Ok-None-clause-bad
returns-in-Ok-None-clause-bad c = λ e.
    let is : c.line_len.result ≡ Ok None = cc in
    other_spelling c.args.text.now c.in-Some.end c.in_ok-entry.entry (sym c.in-Some.is ∙ c.line_end.ensures.value) c.in_ok-entry.ensures.back
    (IfOk-at_ok (IsLineLen c.args.text.now (entry_text c.in_ok-entry.entry)) is c.line_len.ensures)
