-- What a table holds, as its slots tell it.
use Rattle.std.specs.Prelude.{◌≡◌, Bool, List, Option}
use Rattle.std.proofs.Common.{sym, ap, ◌∙◌}
use Rattle.std.specs.List.{list_any}
use Rattle.std.specs.declared.cmp.Ordering.{Ordering}
use Rattle.std.specs.FinMap.{FinMap, entries}
use Rattle.keyed.specs.Table.{at_slot, rows}
use Rattle.keyed.proofs.Viewing.{any_row-rows}
use Rattle.ns_types.specs.State.Tables.{any_row}

-- the answer of a test of its slots
pub by_slots : {K X : Type 0} {R : K → K → Ordering} (p : K → X → Bool) (m : FinMap R (Option X)) (slots : List (K × Option X)) (b : Bool) →
    slots ≡ entries m → b ≡ list_any (at_slot (λ e. p e.0 e.1)) slots → b ≡ any_row p (rows m)
by_slots p m slots b all answer = answer ∙ ap (list_any (at_slot (λ e. p e.0 e.1))) all ∙ sym (any_row-rows p m)
