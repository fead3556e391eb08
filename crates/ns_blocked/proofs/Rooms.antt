-- Room for entries in the groups, and the loops over entries.
use Rattle.std.specs.Prelude.{◌≡◌, ℕ, ◌+◌, ◌<◌, Bool, true, false, not, ◌&&◌, IsTrue, List, [], ◌∷◌, ◌++◌, map, length}
use Rattle.std.proofs.Common.{sym, ap, subst, ◌∙◌, arith, add-one, append_assoc, get_or, take}
use Rattle.std.proofs.Math.Bool.{and-false}
use Rattle.std.proofs.Math.Seq.{take-suc}
use Rattle.std.proofs.lemmas.List.{length-take, map-append}
use Rattle.keyed.specs.Levels.{Drops, Keeps}
use Rattle.ns_types.specs.State.Names.{has_key}
use Rattle.ns_types.proofs.TableRows.{apart}
use Rattle.ns_blocked.specs.declared.entry.BlockedEvaluation.{BlockedEvaluation}
use Rattle.ns_blocked.specs.declared.entry.Waits.{Waits}
use Rattle.ns_blocked.specs.declared.groups.Groups.{Groups}
use Rattle.ns_blocked.specs.Blocked.{BlockedList, CanAdd, are_new, entries_of, keys_of}
use Rattle.ns_blocked.specs.Groups.{HasGroupRoom, has_waiting_room, holds_waiting, same_waiting, same_waits}

-- ---- room in the groups

pub group_room : (old new : Groups) → ((q : Waits × ℕ) → IsTrue (has_waiting_room old q) → IsTrue (has_waiting_room new q)) → (n : ℕ)
    (es : List BlockedEvaluation) → HasGroupRoom n es old → HasGroupRoom n es new
group_room old new room n [] h = tt
group_room old new room n (e ∷ es) h = (room (e.waits, n) h.0, group_room old new room (n + 1) es h.1)

-- room at the places behind the one that is given up
pub room_behind : (old new : Groups) (waits : Waits) (place : ℕ) → Drops holds_waiting has_waiting_room same_waiting (waits, place) old new → (n : ℕ)
    (es : List BlockedEvaluation) → place < n → HasGroupRoom n es old → HasGroupRoom n es new
room_behind old new waits place drops n [] lt h = tt
room_behind old new waits place drops n (e ∷ es) lt h =
    let later : place < n + 1 = omega arith in (
      drops.room (e.waits, n) (ap (λ b. same_waits e.waits waits && b) (apart n place (λ is. omega arith))
          ∙ and-false (same_waits e.waits waits)) h.0,
      room_behind old new waits place drops (n + 1) es later h.1,
    )

room_next : (groups : Groups) (n m : ℕ) (xs : List BlockedEvaluation) (x : BlockedEvaluation) → m ≡ n + length xs → HasGroupRoom n xs groups →
    IsTrue (has_waiting_room groups (x.waits, m)) → HasGroupRoom n (xs ++ x ∷ []) groups
room_next groups n m [] x is h r =
    let same : m ≡ n = omega arith in (subst (λ (k : ℕ). IsTrue (has_waiting_room groups (x.waits, k))) same r, tt)
room_next groups n m (e ∷ xs) x is h r =
    let next : m ≡ (n + 1) + length xs = omega arith in (h.0, room_next groups (n + 1) m xs x next h.1 r)

pub reserved_next : (old new : Groups) (n i m : ℕ) (es : List BlockedEvaluation) (x : BlockedEvaluation) → i < length es → x ≡ get_or es i x → m ≡ n + i →
    Keeps holds_waiting has_waiting_room old new → IsTrue (has_waiting_room new (x.waits, m)) → HasGroupRoom n (take i es) old →
    HasGroupRoom n (take (i + 1) es) new
reserved_next old new n i m es x lt is at keeps r h =
    let here : m ≡ n + length (take i es) = omega (arith, length-take i es) in
    subst (λ xs. HasGroupRoom n xs new) (ap (λ x. take i es ++ x ∷ []) is ∙ sym (take-suc es i x lt) ∙ ap (λ n. take n es) (sym (add-one i)))
    (room_next new n m (take i es) x here (group_room old new keeps.room n (take i es) h) r)

-- ---- entries that are appended, one after another

-- room for several is room for the first
pub only_first : (b : BlockedList) (e : BlockedEvaluation) (es : List BlockedEvaluation) → CanAdd (e ∷ es) b → CanAdd (e ∷ []) b
only_first b e es h = ((h.0.0, h.0.1, tt), (h.1.0, tt))

-- the list with the rest behind it comes out as `all`, and there is room for the rest
abbrev pub IsFilling : BlockedList → List BlockedEvaluation → List BlockedEvaluation → Type 0
IsFilling b rest all = (entries_of b ++ rest ≡ all) × CanAdd rest b

-- and the rest is as new to the list as all of them were to the one that there was first
abbrev pub IsChecking : BlockedList → BlockedList → List BlockedEvaluation → List BlockedEvaluation → Type 0
IsChecking first b rest entries =
    IsFilling b rest (entries_of first ++ entries) × (are_new (keys_of first) entries ≡ are_new (keys_of b) rest)

-- an entry that is put at the end leaves room for the others
abbrev pub LeavesRoom : BlockedEvaluation → BlockedList → BlockedList → Type 0
LeavesRoom e old new = (es : List BlockedEvaluation) → CanAdd (e ∷ es) old → CanAdd es new

module _ (old new : BlockedList) (e : BlockedEvaluation) (rest left all : List BlockedEvaluation) (steps : rest ≡ e ∷ left) (h : IsFilling old rest all) where
  can_next : CanAdd (e ∷ left) old
  can_next = subst (λ es. CanAdd es old) steps h.1

  pub room_there : CanAdd (e ∷ []) old
  room_there = only_first old e left can_next

  pub filled : entries_of new ≡ entries_of old ++ e ∷ [] → LeavesRoom e old new → IsFilling new left all
  filled entries room = (
    ap (λ l. l ++ left) entries ∙ append_assoc (entries_of old) (e ∷ []) left ∙ ap (λ l. entries_of old ++ l) (sym steps) ∙ h.0,
    room left can_next,
  )

module _ (first old new : BlockedList) (e : BlockedEvaluation) (rest left entries : List BlockedEvaluation) (steps : rest ≡ e ∷ left)
    (h : IsChecking first old rest entries) where
  left_with : Bool → Bool
  left_with there = not there && are_new (keys_of old ++ e.key ∷ []) left

  now_new : are_new (keys_of first) entries ≡ left_with (has_key (keys_of old) e.key)
  unfolding left_with
  now_new = h.1 ∙ ap (are_new (keys_of old)) steps

  -- an entry that is in the list already is not new
  pub not_new : has_key (keys_of old) e.key ≡ true → are_new (keys_of first) entries ≡ false
  unfolding left_with
  not_new there = now_new ∙ ap left_with there

  pub checked : has_key (keys_of old) e.key ≡ false → entries_of new ≡ entries_of old ++ e ∷ [] → LeavesRoom e old new →
      IsChecking first new left entries
  unfolding left_with
  checked fresh put room = (
    filled old new e rest left (entries_of first ++ entries) steps h.0 put room,
    now_new ∙ ap left_with fresh ∙ ap (λ keys. are_new keys left) (sym (keys_with put)),
  )
    where
      keys_with : entries_of new ≡ entries_of old ++ e ∷ [] → keys_of new ≡ keys_of old ++ e.key ∷ []
      keys_with put = ap (map (λ (e : BlockedEvaluation). e.key)) put ∙ map-append (λ (e : BlockedEvaluation). e.key) (entries_of old) (e ∷ [])

-- when none is left, all were new
pub all_new : (first b : BlockedList) (rest entries : List BlockedEvaluation) → IsChecking first b rest entries → rest ≡ [] →
    are_new (keys_of first) entries ≡ true
all_new first b rest entries h none = h.1 ∙ ap (are_new (keys_of b)) none
