use Rattle.std.proofs.Common.{◌≡◌, ℕ, List, Err, ap, ◌∙◌, sym, subst}
use Rattle.ns_http.specs.Conversation.{Conversation, CutShort, Streams}
use Rattle.ns_http.specs.declared.engine.ConnFault.{ConnFault}
use Rattle.ns_types.specs.Wire.Http.{End}
use Rattle.ns_types.specs.State.Rows.{State}
use Rattle.ns_api.specs.declared.following.Driver.{Driver}
use Rattle.ns_api.specs.Answering.{Holding}
use Rattle.ns_api.specs.Cores.{AnswersByCore, NotesNothing, ServedByCore, ServedByCoreInPart, itself}
use Rattle.ns_api.specs.Following.{FollowsBy}
use Rattle.ns_api.specs.Lacking.{LacksNothing}
use Rattle.ns_api.specs.Serving.{holding}
use Rattle.ns_api.proofs.Runs.{served, served_in_part}
use Rattle.ns_core.specs.Lacking.{CoreLacks}
use Rattle.ns_faults.proofs.Faults.{same_fault}
use Rattle.ns_pipe.proofs.Holdings.{same_parts}
use Rattle.ns_pipe.proofs.connection.pipe.Goals as goal

module _ {D : Type 0} (draws : D → List ℕ → D → Type 0) where
  -- from what was opened
  from : {streams : Streams} {end : End} (old new last : Holding State D Driver) → old.taker ≡ new.taker → old.draws ≡ new.draws →
      old.follower ≡ new.follower →
      Conversation (AnswersByCore draws) old last streams end → ServedByCore draws new last streams end
  from {streams} {end} old new last p q v c =
      subst (λ x. ServedByCore draws x last streams end) (same_parts p q v)
      (served itself NotesNothing LacksNothing draws (FollowsBy itself NotesNothing CoreLacks) old last streams end c)

  from_in_part : {streams : Streams} (old new last : Holding State D Driver) → old.taker ≡ new.taker → old.draws ≡ new.draws →
      old.follower ≡ new.follower →
      CutShort (AnswersByCore draws) old last streams → ServedByCoreInPart draws new last streams
  from_in_part {streams} old new last p q v c =
      subst (λ x. ServedByCoreInPart draws x last streams) (same_parts p q v)
      (served_in_part itself NotesNothing LacksNothing draws (FollowsBy itself NotesNothing CoreLacks) old last streams c)

pub returns-in-Ok-ended-clause-served : goal.returns-in-Ok-ended-clause-served
returns-in-Ok-ended-clause-served g c = λ _. let h = c.in-Ok-ended.ensures.ok in (
  h.0,
  holding c.serve-ended.new.api,
  from g.D.Draws.draws _ _ _ c.in-Ok.ensures.taker c.in-Ok.ensures.drawer c.in-Ok.ensures.follower h.1,
  h.2,
)

pub returns-in-Err-clause-read_fault : goal.returns-in-Err-clause-read_fault
returns-in-Err-clause-read_fault g c = λ e.
    let is = same_fault c.in-Err.fault ConnFault.Read (sym c.print_fault-in-Err.ensures.status ∙ e) in
    let h = c.in-Err.ensures.read (ap Err is) in (
      h.0,
      holding c.serve-ended.new.api,
      from g.D.Draws.draws _ _ _ c.in-Ok.ensures.taker c.in-Ok.ensures.drawer c.in-Ok.ensures.follower h.1,
      h.2,
    )

pub returns-in-Err-clause-write_fault : goal.returns-in-Err-clause-write_fault
returns-in-Err-clause-write_fault g c = λ e.
    let is = same_fault c.in-Err.fault ConnFault.Write (sym c.print_fault-in-Err.ensures.status ∙ e) in
    let h = c.in-Err.ensures.write (ap Err is) in (
      holding c.serve-ended.new.api,
      from_in_part g.D.Draws.draws _ _ _ c.in-Ok.ensures.taker c.in-Ok.ensures.drawer c.in-Ok.ensures.follower h.0,
      h.1,
    )
