-- What a command's outcome leaves to say of its answer.
use Rattle.std.specs.Prelude.{◌≡◌, true, Result, Err, OnOk}
use Rattle.std.proofs.Common.{subst, sym}
use Rattle.ns_types.specs.declared.refusal.Refusal.{Refusal}
use Rattle.ns_types.specs.Settling.Outcome.{Outcome, is_done}
use Rattle.ns_types.specs.State.Rows.{World}
use Rattle.ns_change.specs.declared.change.Change.{Change}
use Rattle.ns_change.specs.declared.change.Prepared.{Prepared}
use Rattle.ns_change.specs.Changed.{view}
use Rattle.ns_change.specs.Prepared.{Prepares}
use Rattle.ns_tables.specs.declared.tables.Tables.{Tables}

-- want of memory, where the command would have been made
pub out_of_memory : (outcome : Outcome World) (t : Tables) (r : Result Prepared Refusal) → r ≡ Err Refusal.Memory → is_done outcome ≡ true →
    Prepares outcome t r
out_of_memory outcome t r e d = subst (Prepares outcome t) (sym e) d

-- the outcome is another one, as it was found
pub prepares_as : (outcome same : Outcome World) (t : Tables) (r : Result Prepared Refusal) → same ≡ outcome → Prepares outcome t r → Prepares same t r
prepares_as outcome same t r e p = subst (λ o. Prepares o t r) (sym e) p

-- where it is done, the same world in another form
pub done_as : {A E : Type 0} (r : Result A E) (t : Tables) (after : Change) (x y : World) → x ≡ y → OnOk r (view t after ≡ x) → OnOk r (view t after ≡ y)
done_as r t after x y same = let P : World → Type 0 = λ w. OnOk r (view t after ≡ w) in subst P same
