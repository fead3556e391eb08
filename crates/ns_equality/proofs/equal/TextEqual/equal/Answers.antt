use Rattle.std.proofs.Common.{sym, ap, ◌∙◌}
use Rattle.ns_types.specs.State.Names.{same_name}
use Rattle.ns_types.proofs.Named.{same_name_is, same_name_refl}
use Rattle.ns_equality.proofs.equal.TextEqual.equal.Goals as goal

pub returns : goal.returns
returns c =
    let a = c.args.self.now in
    let b = c.args.other.now in (
      λ equal_is. same_name_is a b (sym c.same_text.ensures ∙ equal_is),
      λ same. c.same_text.ensures ∙ ap (same_name a) (sym same) ∙ same_name_refl a,
    )
