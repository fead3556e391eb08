use Rattle.std.proofs.Common.{◌∙◌, T, None, cond, sym, ap, subst}
use Rattle.std.specs.Prelude.{is_some}
use Rattle.std.specs.FinMap.{from_sorted, get-from_sorted, insert}
use Rattle.std.specs.FinMap.Entries.{is_sorted}
use Rattle.ns_types.specs.State.Names.{name_cmp}
use Rattle.ns_types.proofs.Named.{names}
use Rattle.keyed.specs.Table.{with_slot, has_slot}
use Rattle.keyed.proofs.Tables.{sorted-with_slot, from_sorted-with_slot}
use Rattle.keyed.proofs.names.NameTable.reserve.Goals as goal

pub invariant_of-self-2 : goal.invariant_of-self-2
invariant_of-self-2 g c = subst (λ es. T (is_sorted name_cmp es)) (sym c.in_ok-reserve.ensures.ok) (sorted-with_slot names c.in_ok-copy.copy _ c.self.invariant)

pub returns-clause-ok : goal.returns-clause-ok
returns-clause-ok g c =
    ap from_sorted c.in_ok-reserve.ensures.ok ∙ from_sorted-with_slot names c.in_ok-copy.copy _ c.self.invariant ∙
    ap (λ m. with_slot m c.in_ok-copy.copy) c.self.view_is
    ∙ ap (with_slot c.args.self.now) c.in_ok-copy.ensures.cases

pub returns-then-has_slot-clause-ok : goal.returns-then-has_slot-clause-ok
returns-then-has_slot-clause-ok g c =
    let there = c.if-has_slot.ensures ∙ ap is_some (sym (get-from_sorted name_cmp _ c.args.key.now c.self.invariant)) ∙
    ap (λ m. has_slot m c.args.key.now) c.self.view_is in
    ap (λ b. cond b c.args.self.now (insert c.args.self.now c.args.key.now None)) there
