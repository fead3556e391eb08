use Rattle.std.specs.Prelude.{IsTrue}
use Rattle.std.proofs.Common.{sym, subst}
use Rattle.ns_types.specs.declared.name.NameKind.TheVariants as NameKind
use Rattle.ns_types.specs.State.Name.{is_name}
use Rattle.ns_types.specs.Validity.{IsValid}
use Rattle.ns_audit.proofs.Valid.{opening_is_valid}
use Rattle.ns_core.proofs.server.Core.new.Goals as goal

pub invariant_of-result : goal.invariant_of-result
invariant_of-result c = record {
  valid = subst IsValid (sym c.in_ok-parts.ensures.state) (opening_is_valid c.get.result.now
      (subst (λ text. IsTrue (is_name NameKind.Secret text)) (sym c.get.ensures.same) c.get.ensures.good));
  index = c.in_ok-parts.ensures.index;
}
