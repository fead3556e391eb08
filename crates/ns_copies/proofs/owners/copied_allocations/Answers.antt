use Rattle.std.proofs.Common.{ap, sym, ◌∙◌}
use Rattle.keyed.proofs.Tables.{rows-empty}
use Rattle.keyed.specs.Over.{over}
use Rattle.keyed.specs.Table.{rows}
use Rattle.ns_types.proofs.Named.{numbers, one_number}
use Rattle.ns_copies.proofs.Whole.{over_none, seen_as_they_are}
use Rattle.ns_copies.proofs.owners.copied_allocations.Goals as goal

pub returns : goal.returns
returns c = c.apply.ensures
    ∙ ap (λ m. over m c.in_ok-all.all) (c.in_ok-reserve_all.ensures.rows ∙ ap rows c.new-copy.ensures ∙ rows-empty)
    ∙ over_none numbers one_number c.in_ok-all.all ∙ sym (seen_as_they_are numbers one_number c.in_ok-all.all) ∙ c.in_ok-all.ensures
    ∙ seen_as_they_are numbers one_number c.rows.result.now ∙ ap rows c.rows.ensures
