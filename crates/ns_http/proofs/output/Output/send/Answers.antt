use Rattle.std.proofs.Common.{◌++◌, ap, subst, sym, ◌∙◌}
use Rattle.std.proofs.lemmas.List.{append-nil}
use Rattle.ns_types.specs.Wire.Responses.{wire}
use Rattle.ns_http.specs.Output.{rendered_by, WritesSome}
use Rattle.ns_http.proofs.StreamLemmas.{Appends-then, WritesSome-then, WritesSome-front, OnErr_map, waited_text}
use Rattle.ns_http.proofs.output.Output.send.Goals as goal
use Rattle.ns_types.proofs.Results.{on_error, on_ok}

pub returns-in_err-make_room-clause-err : goal.returns-in_err-make_room-clause-err
returns-in_err-make_room-clause-err g c =
    on_error _ (WritesSome-front _ _ _ (wire (rendered_by c.args.reply.now) c.args.close) c.in_err-make_room.ensures.err)

pub returns-in_err-flush-clause-err : goal.returns-in_err-flush-clause-err
returns-in_err-flush-clause-err g c =
    let room = c.in_ok-make_room.ensures.ok in
    let text = waited_text _ _ _ _ c.args.reply.now.body.now room.0 room.2 c.put_head.ensures.value in
    let cut = WritesSome-then _ _ _ _ _ room.1 c.in_err-flush.ensures.err in
    on_error _ (subst (WritesSome (g.W.Write.contents c.args.writer.now.inner) (g.W.Write.contents c.flush.new.writer.inner)) text
    (WritesSome-front _ _ _ c.args.reply.now.body.now cut))

pub returns-clause-ok : goal.returns-clause-ok
returns-clause-ok g c =
    let room = c.in_ok-make_room.ensures.ok in
    let text = waited_text _ _ _ _ c.args.reply.now.body.now room.0 room.2 c.put_head.ensures.value in
    let head = Appends-then _ _ _ _ _ room.1 c.in_ok-flush.ensures.ok in
    on_ok c.write_all.result (λ body. let all = (room.0 ++ c.put_head.new.self.bytes.items) ++ c.args.reply.now.body.now in
    (all, Appends-then _ _ _ _ _ head body, sym text ∙ sym (append-nil all) ∙ ap (λ l. all ++ l) (sym c.in_ok-flush.ensures.empty))) c.write_all.ensures.ok

pub returns-clause-err : goal.returns-clause-err
returns-clause-err g c =
    let room = c.in_ok-make_room.ensures.ok in
    let text = waited_text _ _ _ _ c.args.reply.now.body.now room.0 room.2 c.put_head.ensures.value in
    let head = Appends-then _ _ _ _ _ room.1 c.in_ok-flush.ensures.ok in
    OnErr_map c.write_all.result (λ err. subst (WritesSome (g.W.Write.contents c.args.writer.now.inner) (g.W.Write.contents c.write_all.new.writer.inner)) text
    (WritesSome-then _ _ _ _ _ head err)) c.write_all.ensures.err
