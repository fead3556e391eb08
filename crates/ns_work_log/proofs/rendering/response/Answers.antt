use Rattle.std.specs.String.{string_bytes}
use Rattle.ns_work_log.proofs.Given.{shown_done, shown_refused}
use Rattle.ns_work_log.proofs.rendering.response.Goals as goal

pub returns-in-Ok : goal.returns-in-Ok
returns-in-Ok c = shown_done c.args.answer.now c.in-Ok.field-0 c.args.shown (string_bytes c.into_string.result) c.in-Ok.is c.requires c.into_string.ensures

pub returns-in-Err : goal.returns-in-Err
returns-in-Err c = shown_refused c.args.answer.now c.in-Err.refusal c.in-Err.is
