use Rattle.std.proofs.Common.{◌∙◌, T, length, sym, ap, subst, rules}
use Rattle.keyed.specs.Table.{row_list}
use Rattle.keyed.proofs.Tables.{filled_rows}
use Rattle.std.specs.FinMap.Entries.{is_sorted}
use Rattle.std.proofs.lemmas.Fn.{filter_same}
use Rattle.keyed.specs.Slots.{is_row, filled}
use Rattle.keyed.proofs.Ordered.{is_sorted-filter}
use Rattle.keyed.proofs.slots.Slots.clear_room.Goals as goal

pub returns : goal.returns
returns g c = filter_same _ is_row _ (λ x b f h. search rules) _ _ c.retain.ensures.filtered ∙ ap filled c.self.view_is

pub invariant_of-self : goal.invariant_of-self
invariant_of-self g c =
    let is = filter_same _ is_row _ (λ x b f h. search rules) _ _ c.retain.ensures.filtered in (
      (
        subst (λ es. T (is_sorted g.K.Ord.cmp es)) (sym is) (is_sorted-filter g.K.Ord.cmp is_row _ c.self.invariant.0.0),
        c.self.invariant.0.1 ∙ sym (ap length (ap row_list is ∙ filled_rows g.K.Ord.cmp c.self.inside.slots.items)),
      ),
      c.index_of.ensures,
    )
