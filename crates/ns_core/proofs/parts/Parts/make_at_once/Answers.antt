use Rattle.std.specs.Prelude.{Ok, Err}
use Rattle.std.proofs.Common.{sym, ap, ◌∙◌}
use Rattle.std.proofs.lemmas.Result.{err_from_is_err_and}
use Rattle.std.specs.Option.{option_copied}
use Rattle.ns_types.specs.Steps.{said}
use Rattle.ns_admin.proofs.Concluding.{administration_makes}
use Rattle.ns_core.specs.Viewed.{state_of}
use Rattle.ns_core.proofs.Administering.{index_stays}
use Rattle.ns_core.proofs.Keeping.{within}
use Rattle.ns_core.proofs.parts.Parts.make_at_once.Goals as goal

pub administer-requires : goal.administer-requires
administer-requires c = c.requires.index

pub returns-in_err-content-clause-made : goal.returns-in_err-content-clause-made
returns-in_err-content-clause-made c =
    let s = state_of c.args.self.now in
    let p = err_from_is_err_and c.from_residual.result c.from_residual.ensures.1 in
    rw (p.1, p.2) (administration_makes s (state_of c.administer.new.self) (option_copied c.args.secret) c.args.command.now
    (Err c.in_err-content.field-0.0) c.requires.allowed (within s c.requires.valid) c.requires.same c.in_err-content.ensures.made)

pub returns-in_err-content-clause-index : goal.returns-in_err-content-clause-index
returns-in_err-content-clause-index c = index_stays (option_copied c.args.secret) c.args.command.now c.args.self.now c.administer.new.self
    (Err c.in_err-content.field-0.0) c.requires.valid c.in_err-content.ensures.made c.in_err-content.ensures.nodes c.in_err-content.ensures.named
    c.in_err-content.ensures.turns c.requires.index

pub returns-clause-made : goal.returns-clause-made
returns-clause-made c =
    let s = state_of c.args.self.now in
    administration_makes s (state_of c.administer.new.self) (option_copied c.args.secret) c.args.command.now
    (Ok c.in_ok-content.content) c.requires.allowed (within s c.requires.valid) c.requires.same c.in_ok-content.ensures.made
    ∙ ap (λ reply. said (Ok reply) (state_of c.administer.new.self)) (sym c.plain.ensures)

pub returns-clause-index : goal.returns-clause-index
returns-clause-index c = index_stays (option_copied c.args.secret) c.args.command.now c.args.self.now c.administer.new.self
    (Ok c.in_ok-content.content) c.requires.valid c.in_ok-content.ensures.made c.in_ok-content.ensures.nodes c.in_ok-content.ensures.named
    c.in_ok-content.ensures.turns c.requires.index
