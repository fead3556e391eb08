use Rattle.std.proofs.Common.{ap, arith, length}
use Rattle.std.proofs.lemmas.Result.{err_from_is_err_and}
use Rattle.ns_replies.proofs.Brief.{body_fits, no_room, text_of_body}
use Rattle.ns_replies.proofs.answers.body.body_text.Goals as goal

pub returns-clause-text : goal.returns-clause-text
returns-clause-text c = text_of_body c.args.content.now tt c.new-out.result _ _ c.requires.brief c.in_ok-write_body.ensures c.new-out.ensures.tokens
    c.written_text.ensures

pub returns-in_err-write_body-clause-room : goal.returns-in_err-write_body-clause-room
returns-in_err-write_body-clause-room c =
    let p = err_from_is_err_and c.from_residual.result c.from_residual.ensures.1 in
    rw p.1 (no_room c.args.content.now _ c.new-out.result _ _ (omega (arith, c.new-out.ensures.spare, c.args.bytes.ok.0, ap length c.requires.empty))
    c.in_err-write_body.ensures)

pub returns-clause-fits : goal.returns-clause-fits
returns-clause-fits c = body_fits c.args.content.now tt c.new-out.result _ _ c.in_ok-write_body.ensures c.new-out.ensures.tokens c.written_text.ensures
