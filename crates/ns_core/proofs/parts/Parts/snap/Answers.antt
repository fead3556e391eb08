use Rattle.std.specs.Prelude.{None, Ok}
use Rattle.std.proofs.Common.{refl, ap, ◌∙◌}
use Rattle.std.proofs.lemmas.Result.{err_from_is_err_and}
use Rattle.ns_types.specs.declared.reply.Content.{Content}
use Rattle.ns_types.specs.declared.step.Step.TheVariants as Step
use Rattle.ns_types.specs.Steps.{said}
use Rattle.ns_core.specs.Viewed.{state_of}
use Rattle.ns_core.proofs.Working.{says_its_number, snap_prepares, snap_refused, still_kept, use_fits}
use Rattle.ns_core.proofs.parts.Parts.snap.Goals as goal

pub snap-requires-clause-fits : goal.snap-requires-clause-fits
snap-requires-clause-fits c = use_fits c.args.self.now c.requires.valid c.args.worker c.args.namespace.now

pub returns-in_err-prepared-clause-made : goal.returns-in_err-prepared-clause-made
returns-in_err-prepared-clause-made c =
    let p = err_from_is_err_and c.from_residual.result c.from_residual.ensures.1 in
    rw (p.1, p.2) (snap_refused c.args.self.now c.requires.valid c.args.worker c.args.namespace.now c.in_err-prepared.field-0.0 c.in_err-prepared.ensures.snaps)

pub returns-in_err-content-clause-made : goal.returns-in_err-content-clause-made
returns-in_err-content-clause-made c =
    let p = err_from_is_err_and c.from_residual-in_err-content.result c.from_residual-in_err-content.ensures.1 in
    rw (p.1, p.2) (c.in_err-content.ensures.made (Step.Snap c.args.worker c.args.namespace.now) refl
    (snap_prepares c.args.self.now c.requires.valid c.args.worker c.args.namespace.now c.in_ok-prepared.field-0.prepared c.in_ok-prepared.ensures.snaps.0))

pub returns-clause-made : goal.returns-clause-made
returns-clause-made c =
    let x = c.in_ok-prepared.field-0.prepared in
    let prepares = c.in_ok-prepared.ensures.snaps.0 in
    let made = c.in_ok-content.ensures.made (Step.Snap c.args.worker c.args.namespace.now) refl
    (snap_prepares c.args.self.now c.requires.valid c.args.worker c.args.namespace.now x prepares) in
    made ∙ ap (λ (content : Content). said (Ok (record { index = None; content = content })) (state_of c.make_prepared.new.self))
    (says_its_number c.args.self.now c.requires.valid c.args.worker c.args.namespace.now x prepares c.in_ok-prepared.field-0.snapshot
    c.in_ok-prepared.ensures.snaps.1 (record { index = None; content = c.in_ok-content.content }) (state_of c.make_prepared.new.self) made)

pub returns-clause-kept : goal.returns-clause-kept
returns-clause-kept c =
    let x = c.in_ok-prepared.field-0.prepared in
    let prepares = c.in_ok-prepared.ensures.snaps.0 in
    still_kept c.args.self.now c.requires.valid c.args.worker c.args.namespace.now x prepares c.in_ok-prepared.field-0.snapshot
    c.in_ok-prepared.ensures.snaps.1 (record { index = None; content = c.in_ok-content.content }) (state_of c.make_prepared.new.self)
    (c.in_ok-content.ensures.made (Step.Snap c.args.worker c.args.namespace.now) refl
    (snap_prepares c.args.self.now c.requires.valid c.args.worker c.args.namespace.now x prepares))
