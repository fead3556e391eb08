-- Entries of `blocked`, as its places have them.
use Rattle.std.specs.Prelude.{◌≡◌, ◌&&◌, ◌||◌, ℕ, Bool, false, List, [], ◌∷◌, Option}
use Rattle.std.proofs.Common.{refl, ap, sym, ◌∙◌}
use Rattle.std.specs.List.{list_any}
use Rattle.std.specs.Ordering.{nat_cmp}
use Rattle.keyed.specs.Queue.{keys_in}
use Rattle.keyed.specs.Table.{at_slot, row_list}
use Rattle.keyed.proofs.Tables.{any-at_slot}
use Rattle.ns_types.specs.State.Names.{Key}
use Rattle.ns_types.proofs.Elements.{any_map}
use Rattle.ns_types.proofs.Lists.{left_none, right_none}
use Rattle.ns_tables.specs.declared.tables.Tables.{Tables}
use Rattle.ns_tables.specs.World.{world_of}
use Rattle.ns_tables.proofs.World.{blocked_seen}

-- a test of the places is one of the entries
pub any_entry : (t : Tables) (p : Key → Bool) (slots : List (ℕ × Option Key)) → keys_in slots ≡ t.blocked.items →
    list_any (at_slot (λ (e : ℕ × Key). p e.1)) slots ≡ list_any p (world_of t).blocked
any_entry t p slots are = any-at_slot nat_cmp (λ (e : ℕ × Key). p e.1) slots ∙ sym (any_map p (λ (e : ℕ × Key). e.1) (row_list slots))
    ∙ ap (list_any p) (are ∙ sym (blocked_seen t))

-- where no entry passes the first test, none passes both
pub none_both : (p q : Key → Bool) (keys : List Key) → list_any p keys ≡ false → list_any (λ key. p key && q key) keys ≡ false
none_both p q [] none = refl
none_both p q (key ∷ keys) none = (λ i. left_none (p key) (list_any p keys) none i && q key || none_both p q keys (right_none (p key) (list_any p keys) none) i)
