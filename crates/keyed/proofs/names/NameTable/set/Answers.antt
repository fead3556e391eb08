use Rattle.ns_types.specs.State.Names.{name_cmp}
use Rattle.std.proofs.Common.{◌∙◌, T, Some, sym, ap, subst}
use Rattle.std.specs.Prelude.{IsTrue, is_some}
use Rattle.std.specs.FinMap.{from_sorted, get, get-from_sorted, insert}
use Rattle.std.specs.FinMap.Entries.{is_sorted, is_sorted-put}
use Rattle.ns_types.proofs.Named.{names}
use Rattle.keyed.proofs.Tables.{from_sorted-put}
use Rattle.keyed.proofs.names.NameTable.set.Goals as goal

pub set-requires : goal.set-requires
set-requires g c =
    subst (λ x. IsTrue (is_some x)) (sym (ap (λ m. get m c.args.key.now) c.self.view_is) ∙
    get-from_sorted name_cmp _ c.args.key.now c.self.invariant) c.requires

pub invariant_of-self : goal.invariant_of-self
invariant_of-self g c =
    subst (λ es. T (is_sorted name_cmp es)) (sym c.set.ensures) (is_sorted-put name_cmp names c.args.key.now _ _ c.self.invariant)

pub returns : goal.returns
returns g c =
    ap from_sorted c.set.ensures ∙ from_sorted-put names _ _ _ c.self.invariant ∙ ap (λ m. insert m c.args.key.now (Some c.args.row)) c.self.view_is
