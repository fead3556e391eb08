use Rattle.std.proofs.Common.{ap, subst, sym, IfOk, ◌∙◌}
use Rattle.ns_json.specs.Replies.{rendered}
use Rattle.ns_types.specs.Steps.{Answer}
use Rattle.ns_replies.specs.Rooms.{HasRoom}
use Rattle.ns_work_lock.proofs.Entries.{copy_fits, refused_shown}
use Rattle.ns_work_lock.proofs.copying.repeat.Goals as goal

pub repeat-requires : goal.repeat-requires
repeat-requires c = copy_fits c.args.room c.in-Ok.reply c.args.shown.now (sym c.is_work.ensures ∙ c.if-is_work.true)
    (subst (λ (a : Answer). IfOk a (λ reply. HasRoom c.args.room reply.content)) c.in-Ok.is c.requires.room)
    (c.requires.shown ∙ ap rendered c.in-Ok.is)

pub returns-in-Err : goal.returns-in-Err
returns-in-Err c = c.refuse.ensures.shown ∙ refused_shown c.in-Err.refusal c.args.shown.now (c.requires.shown ∙ ap rendered c.in-Err.is)
