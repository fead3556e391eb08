-- The entries of a log with which receipts settle are those that the receipts tell of.
use Rattle.std.proofs.Common.{◌≡◌, ◌∙◌, ℕ, zero, suc, List, [], ◌∷◌, Some, refl, sym, subst}
use Rattle.std.specs.Prelude.{slice_get}
use Rattle.std.proofs.lemmas.Option.{same_Some, slice_get_within}
use Rattle.ns_types.specs.State.Lists.{Each}
use Rattle.ns_json.specs.Replies.{Entry}
use Rattle.ns_log_reader.specs.Lines.{IsAsRead}
use Rattle.ns_log.specs.declared.receipts.receipt.Receipt.{Receipt}
use Rattle.ns_log.specs.Settling.{IsAt, entry_of}
use Rattle.ns_pipe.specs.Laws.{SettledIsAsRead}

-- each, where it is so at each place
each_place : {X : Type 0} (P : X → Type 0) (xs : List X) → ((p : ℕ) (x : X) → slice_get xs p ≡ Some x → P x) → Each P xs
each_place P [] h = tt
each_place P (x ∷ xs) h = (h zero x refl, each_place P xs (λ p y is. h (suc p) y is))

pub settled_read : SettledIsAsRead
settled_read log seats settles h =
    each_place (λ (e : Entry). IsAsRead e.0) log (λ p e is. by p e is (settles.all p (slice_get_within log p e is)))
  where
    by : (p : ℕ) (e : Entry) → slice_get log p ≡ Some e → (i : ℕ) × (j : ℕ) × (r : Receipt) × IsAt seats i j r × (r.place ≡ p) → IsAsRead e.0
    by p e is named =
        let told = subst (λ n. slice_get log n ≡ Some (entry_of named.2)) named.4 (settles.tells named.0 named.1 named.2 named.3) in
        let same : entry_of named.2 ≡ e = same_Some (entry_of named.2) e (sym told ∙ is) in
        subst (λ (x : Entry). IsAsRead x.0) same (h named.0 named.1 named.2 named.3)
