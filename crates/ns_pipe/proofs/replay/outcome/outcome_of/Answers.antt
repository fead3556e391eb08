use Rattle.std.proofs.Common.{ap, sym, subst, ◌∙◌, Err, drop, length, min, string_bytes, take}
use Rattle.std.proofs.lemmas.Result.{IfOk-weaker}
use Rattle.ns_types.specs.Steps.{opening}
use Rattle.ns_pipe.specs.declared.replay.ending.ReplayEnd.TheVariants as ReplayEnd
use Rattle.ns_pipe.specs.Claimed.{pools_for, quotas_for}
use Rattle.ns_pipe.specs.Outcome.{ComesTo, IsBaseFault, ReplaysTo}
use Rattle.ns_pipe.proofs.Outcomes.{bad_line, no_base, replayed}
use Rattle.ns_pipe.proofs.replay.outcome.outcome_of.Goals as goal

pub returns-in-Err-Line : goal.returns-in-Err-Line
returns-in-Err-Line c =
    let line = c.in-Err-Line.line in
    let text = string_bytes c.new-lines.result in
    subst (λ n. ComesTo c.args.bytes.now c.args.replay.now text (ReplayEnd.BadLine n)) (sym c.in-Err-Line.line-is)
    (bad_line c.args.bytes.now c.args.replay.now text line c.new-lines.ensures.bytes
    (c.log_read.ensures.bad line (c.in-Err-Line.is ∙ ap Err c.in-Err-Line.field-0-is)))

pub returns-in-Err-NotARun : goal.returns-in-Err-NotARun
returns-in-Err-NotARun c =
    let place = c.in-Err-NotARun.place in
    let first = c.min-first.result in
    let text = string_bytes c.new-lines.result in
    let entries = c.as_slice-entries.ensures in
    let fault = subst (IsBaseFault (opening c.in-Ok.log.secret) c.split_at.result.0.now) c.in-Err-NotARun.field-0-is c.in-Err-NotARun.ensures.fault in
    subst (λ n. ComesTo c.args.bytes.now c.args.replay.now text (ReplayEnd.NotARun n)) (sym c.in-Err-NotARun.place-is)
    (no_base c.args.bytes.now c.args.replay.now text c.in-Ok.log.secret c.in-Ok.log.entries c.in-Ok.ensures.ok
    first (c.min-first.ensures ∙ ap (λ l. min c.args.replay.now.from (length l)) entries) c.split_at.result.0.now c.split_at.result.1.now
    (c.split_at.ensures.front ∙ ap (λ l. take first l) entries) (c.split_at.ensures.back ∙ ap (λ l. drop first l) entries)
    place c.new-lines.ensures.bytes fault)

pub returns-in-Ok-base_of : goal.returns-in-Ok-base_of
returns-in-Ok-base_of c =
    let first = c.min-first.result in
    let entries = c.as_slice-entries.ensures in
    IfOk-weaker c.replay_behind.result
    (λ o. ReplaysTo c.args.replay.now.namespace (pools_for c.args.replay.now c.in-Ok-base_of.base)
    (quotas_for c.args.replay.now c.in-Ok-base_of.base) c.in-Ok-base_of.base first c.split_at.result.1.now (string_bytes o.lines) o.ending)
    (λ o. ComesTo c.args.bytes.now c.args.replay.now (string_bytes o.lines) o.ending)
    (λ o is. replayed c.args.bytes.now c.args.replay.now (string_bytes o.lines) c.in-Ok.log.secret c.in-Ok.log.entries
    c.in-Ok.ensures.ok
    first (c.min-first.ensures ∙ ap (λ l. min c.args.replay.now.from (length l)) entries) c.split_at.result.0.now c.split_at.result.1.now
    (c.split_at.ensures.front ∙ ap (λ l. take first l) entries) (c.split_at.ensures.back ∙ ap (λ l. drop first l) entries)
    c.in-Ok-base_of.base o.ending c.in-Ok-base_of.ensures.base is)
    c.replay_behind.ensures
