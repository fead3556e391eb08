use Rattle.std.specs.Prelude.{None}
use Rattle.std.proofs.Common.{ap, refl, sym, ◌∙◌}
use Rattle.ns_types.specs.declared.step.Step.TheVariants as Step
use Rattle.ns_driver.specs.Calls.{snapped}
use Rattle.ns_replies.specs.Rooms.{room_of}
use Rattle.ns_work_log.specs.Noting.{noted}
use Rattle.ns_work_log.proofs.Logged.{call_keeps, call_logs, history}
use Rattle.ns_work_log.proofs.Rooms.{enough_made}
use Rattle.ns_work_log.proofs.held.Held.snap_as.Goals as goal

pub note_snapped-requires-clause-room : goal.note_snapped-requires-clause-room
note_snapped-requires-clause-room c = enough_made (Step.Snap c.args.worker c.args.namespace.now) c.self.inside.core (snapped c.snap-seen.result)
    c.snap-seen.new.self c.in_ok-made.room refl
    (ap (λ m. m.1) c.in_ok-made.ensures.made ∙ ap (λ step. room_of step None) c.requires) c.snap-seen.ensures.made

pub invariant_of-self-2 : goal.invariant_of-self-2
invariant_of-self-2 c = (
  call_keeps c.self.inside.base.value c.self.inside.limit c.self.inside.log.items c.note_snapped.new.log.items
      c.self.inside.core (Step.Snap c.args.worker c.args.namespace.now) c.in_ok-made.made (snapped c.snap-seen.result)
      c.snap-seen.new.self c.self.invariant.0.0 c.in_ok-made.ensures.begins c.snap-seen.ensures.made
      (ap (λ m. m.0) c.in_ok-made.ensures.made ∙ c.requires)
      (c.note_snapped.ensures ∙ ap (noted c.in_ok-made.made (snapped c.snap-seen.result)) c.in_ok-made.ensures.same),
  c.self.invariant.1,
)

pub returns-clause-logged : goal.returns-clause-logged
returns-clause-logged c = call_logs (history c.self.inside.base.value c.self.inside.start c.self.inside.log.items c.self.inside.core
    c.self.inside.limit) c.args.self.now
    c.note_snapped.new.log.items (Step.Snap c.args.worker c.args.namespace.now) c.in_ok-made.made
    (snapped c.snap-seen.result) c.snap-seen.new.self (sym c.self.view_is) c.in_ok-made.ensures.begins c.snap-seen.ensures.made
    (ap (λ m. m.0) c.in_ok-made.ensures.made ∙ c.requires)
    (c.note_snapped.ensures ∙ ap (noted c.in_ok-made.made (snapped c.snap-seen.result)) c.in_ok-made.ensures.same)
