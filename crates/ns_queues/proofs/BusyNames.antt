-- What a change of one worker's names leaves of all.
use Rattle.std.specs.Prelude.{◌≡◌, ℕ, Bool, true, false, cond, ◌&&◌, IsTrue, Option, Some, None, is_some}
use Rattle.std.proofs.Common.{Bor, refl, sym, ap, subst, ◌∙◌}
use Rattle.std.specs.Option.{option_copied, option_map_or}
use Rattle.std.specs.Ordering.{nat_cmp}
use Rattle.std.specs.FinMap.{empty, get, get-empty, get-insert, get-remove, insert, remove}
use Rattle.keyed.specs.Table.{flat, has_slot, row_at, with_slot}
use Rattle.keyed.proofs.Levels.{not_true}
use Rattle.keyed.proofs.Tables.{get-rows, has_slot-insert, has_slot-with_slot, rows-with_slot}
use Rattle.ns_queues.specs.Busy.{Keeps, Puts, at_number, has_room, holds, holds_name}
use Rattle.ns_queues.specs.declared.busy.BusyWorkers.{BusyWorkers}
use Rattle.ns_types.specs.State.Names.{ByName, ByNumber, Name, same_name, same_number}
use Rattle.ns_types.proofs.Named.{names, numbers, one_name, one_number, same_number_refl}
use Rattle.ns_types.proofs.Tables.{tied}

abbrev Names : Type 0
Names = ByName (Option Unit)

pub there_behind : {X : Type 0} (r : Option (Bor X)) → is_some r ≡ true → IsTrue (is_some (option_copied r))
there_behind None e = e
there_behind (Some x) e = refl

-- ---- names

held_inserted : (m : Names) (k q : Name) → holds_name (insert m k (Some tt)) q ≡ cond (same_name q k) true (holds_name m q)
held_inserted m k q = ap (λ r. is_some (flat r)) (get-insert names m k (Some tt) q) ∙ by (same_name q k)
  where
    by : (b : Bool) → is_some (flat (cond b (Some (Some tt)) (get m q))) ≡ cond b true (holds_name m q)
    by true = refl
    by false = refl

held_removed : (m : Names) (k q : Name) → holds_name (remove m k) q ≡ cond (same_name q k) false (holds_name m q)
held_removed m k q = ap (λ r. is_some (flat r)) (get-remove names m k q) ∙ by (same_name q k)
  where
    by : (b : Bool) → is_some (flat (cond b None (get m q))) ≡ cond b false (holds_name m q)
    by true = refl
    by false = refl

room_removed : (m : Names) (k q : Name) → same_name q k ≡ false → has_slot (remove m k) q ≡ has_slot m q
room_removed m k q apart = ap is_some (get-remove names m k q ∙ ap (λ b. cond b None (get m q)) apart)

-- ---- what the table says, where one of its rows is another

module _ (says : Names → Name → Bool) where
  abbrev at : ByNumber (Option Names) → ℕ → Name → Bool
  at m = at_number says m

  at_row : (m : ByNumber (Option Names)) (n : ℕ) (q : Name) (r : Option Names) → row_at m n ≡ r → at m n q ≡ option_map_or (λ names. says names q) r false
  at_row m n q r is = ap (λ r. option_map_or (λ names. says names q) r false) is

  pub there : (m : ByNumber (Option Names)) (k : ℕ) (set : Names) → row_at m k ≡ Some set → (n : ℕ) (q : Name) → same_number n k ≡ true → at m n q ≡ says set q
  there m k set is n q t = at_row m n q (Some set) (ap (row_at m) (tied one_number n k t) ∙ is)

  pub put_in : (old new : ByNumber (Option Names)) (k : ℕ) (set : Names) → new ≡ insert old k (Some set) → (n : ℕ) (q : Name) →
      at new n q ≡ cond (same_number n k) (says set q) (at old n q)
  put_in old new k set e n q = ap (λ m. at m n q) e
      ∙ ap (λ r. option_map_or (λ names. says names q) (flat r) false) (get-insert numbers old k (Some set) n) ∙ by (same_number n k)
    where
      by : (b : Bool) → option_map_or (λ names. says names q) (flat (cond b (Some (Some set)) (get old n))) false ≡ cond b (says set q) (at old n q)
      by true = refl
      by false = refl

  pub gone : (old new : ByNumber (Option Names)) (k : ℕ) → new ≡ remove old k → (n : ℕ) (q : Name) → at new n q ≡ cond (same_number n k) false (at old n q)
  gone old new k e n q = ap (λ m. at m n q) e
      ∙ ap (λ r. option_map_or (λ names. says names q) (flat r) false) (get-remove numbers old k n) ∙ by (same_number n k)
    where
      by : (b : Bool) → option_map_or (λ names. says names q) (flat (cond b None (get old n))) false ≡ cond b false (at old n q)
      by true = refl
      by false = refl

  -- a vacant slot says nothing
  pub slot_made : (old made : ByNumber (Option Names)) (k : ℕ) → made ≡ with_slot old k → (n : ℕ) (q : Name) → at made n q ≡ at old n q
  slot_made old made k e n q = at_row made n q (row_at old n)
      (ap (λ m. row_at m n) e ∙ sym (get-rows numbers (with_slot old k) n) ∙ ap (λ m. get m n) (rows-with_slot numbers one_number old k)
      ∙ get-rows numbers old n)

  pub nowhere : (m : ByNumber (Option Names)) (k : ℕ) → row_at m k ≡ None → (n : ℕ) (q : Name) → same_number n k ≡ true → at m n q ≡ false
  nowhere m k none n q t = at_row m n q None (ap (row_at m) (tied one_number n k t) ∙ none)

  pub nothing : (m : ByNumber (Option Names)) → m ≡ empty → (n : ℕ) (q : Name) → at m n q ≡ false
  nothing m e n q = at_row m n q None (ap (λ m. row_at m n) e ∙ ap flat (get-empty nat_cmp n))

-- no name is said of no names
pub no_name : (m : Names) → m ≡ empty → (q : Name) → holds_name m q ≡ false
no_name m e q = ap (λ m. is_some (row_at m q)) e ∙ ap (λ r. is_some (flat r)) (get-empty _ q)

pub no_name_room : (m : Names) → m ≡ empty → (q : Name) → has_slot m q ≡ false
no_name_room m e q = ap (λ m. has_slot m q) e ∙ ap is_some (get-empty _ q)

-- ---- one change after another

pub keeps_then : (x y z : BusyWorkers) → Keeps x y → Keeps y z → Keeps x z
keeps_then x y z first later = record {
  held = λ n q. later.held n q ∙ first.held n q;
  room = λ n q h. later.room n q (first.room n q h);
}

pub keeps_same : (x : BusyWorkers) → Keeps x x
keeps_same x = record { held = λ n q. refl; room = λ n q h. h }

-- ---- what a change leaves of what is held, and of the room

module _ (old new : BusyWorkers) (k : ℕ) where
  -- no names, where none were
  pub opened : (made : BusyWorkers) (set : Names) → made.workers ≡ with_slot old.workers k → row_at made.workers k ≡ None → set ≡ empty →
      new.workers ≡ insert made.workers k (Some set) → Keeps old new
  opened made set e none no_names f = record {
    held = λ n q. put_in holds_name made.workers new.workers k set f n q ∙ held n q (same_number n k) refl
        ∙ slot_made holds_name old.workers made.workers k e n q;
    room = λ n q h. subst IsTrue (sym (put_in has_slot made.workers new.workers k set f n q))
        (room n q (same_number n k) refl (subst IsTrue (sym (slot_made has_slot old.workers made.workers k e n q)) h));
  }
    where
      held : (n : ℕ) (q : Name) (b : Bool) → same_number n k ≡ b → cond b (holds_name set q) (holds made n q) ≡ holds made n q
      held n q true t = no_name set no_names q ∙ sym (nowhere holds_name made.workers k none n q t)
      held n q false t = refl

      room : (n : ℕ) (q : Name) (b : Bool) → same_number n k ≡ b → IsTrue (has_room made n q) → IsTrue (cond b (has_slot set q) (has_room made n q))
      room n q true t h = not_true (subst IsTrue (nowhere has_slot made.workers k none n q t) h)
      room n q false t h = h

  pub slot_only : new.workers ≡ with_slot old.workers k → Keeps old new
  slot_only e = record {
    held = slot_made holds_name old.workers new.workers k e;
    room = λ n q h. subst IsTrue (sym (slot_made has_slot old.workers new.workers k e n q)) h;
  }

  module _ (before after : Names) (is : row_at old.workers k ≡ Some before) (e : new.workers ≡ insert old.workers k (Some after)) where
    pub name_reserved : (ns : Name) → after ≡ with_slot before ns → Keeps old new
    name_reserved ns made = record {
      held = λ n q. put_in holds_name old.workers new.workers k after e n q ∙ held n q (same_number n k) refl;
      room = λ n q h. subst IsTrue (sym (put_in has_slot old.workers new.workers k after e n q)) (room n q (same_number n k) refl h);
    }
      where
        same : (q : Name) → holds_name after q ≡ holds_name before q
        same q = ap is_some (ap (λ m. row_at m q) made ∙ sym (get-rows names (with_slot before ns) q)
            ∙ ap (λ m. get m q) (rows-with_slot names one_name before ns) ∙ get-rows names before q)

        held : (n : ℕ) (q : Name) (b : Bool) → same_number n k ≡ b → cond b (holds_name after q) (holds old n q) ≡ holds old n q
        held n q true t = same q ∙ sym (there holds_name old.workers k before is n q t)
        held n q false t = refl

        room : (n : ℕ) (q : Name) (b : Bool) → same_number n k ≡ b → IsTrue (has_room old n q) → IsTrue (cond b (has_slot after q) (has_room old n q))
        room n q true t h = subst (λ m. IsTrue (has_slot m q)) (sym made)
            (has_slot-with_slot names before ns q (subst IsTrue (there has_slot old.workers k before is n q t) h))
        room n q false t h = h

    pub names_same : after ≡ before → Keeps old new
    names_same same = record {
      held = λ n q. put_in holds_name old.workers new.workers k after e n q ∙ stays holds_name n q (same_number n k) refl;
      room = λ n q h. subst IsTrue (sym (put_in has_slot old.workers new.workers k after e n q ∙ stays has_slot n q (same_number n k) refl)) h;
    }
      where
        stays : (says : Names → Name → Bool) (n : ℕ) (q : Name) (b : Bool) → same_number n k ≡ b →
            cond b (says after q) (at_number says old.workers n q) ≡ at_number says old.workers n q
        stays says n q true t = ap (λ m. says m q) same ∙ sym (there says old.workers k before is n q t)
        stays says n q false t = refl

    pub room_here : (ns : Name) → IsTrue (has_slot after ns) → IsTrue (has_room new k ns)
    room_here ns h = subst IsTrue (sym (put_in has_slot old.workers new.workers k after e k ns
        ∙ ap (λ b. cond b (has_slot after ns) (has_room old k ns)) (same_number_refl k))) h

    module _ (ns : Name) where
      put_with : (busy : Bool) → ((q : Name) → holds_name after q ≡ cond (same_name q ns) busy (holds_name before q)) →
          ((q : Name) → same_name q ns ≡ false → IsTrue (has_slot before q) → IsTrue (has_slot after q)) → Puts k ns busy old new
      put_with busy names_held names_room = record {
        held = λ n q. put_in holds_name old.workers new.workers k after e n q ∙ held n q (same_number n k) refl;
        room = λ n q apart h. subst IsTrue (sym (put_in has_slot old.workers new.workers k after e n q)) (room n q (same_number n k) refl apart h);
      }
        where
          held : (n : ℕ) (q : Name) (b : Bool) → same_number n k ≡ b →
              cond b (holds_name after q) (holds old n q) ≡ cond (b && same_name q ns) busy (holds old n q)
          held n q true t = names_held q ∙ ap (cond (same_name q ns) busy) (sym (there holds_name old.workers k before is n q t))
          held n q false t = refl

          room : (n : ℕ) (q : Name) (b : Bool) → same_number n k ≡ b → (same_number n k && same_name q ns) ≡ false → IsTrue (has_room old n q) →
              IsTrue (cond b (has_slot after q) (has_room old n q))
          room n q true t apart h = names_room q (sym (ap (λ b. b && same_name q ns) t) ∙ apart)
              (subst IsTrue (there has_slot old.workers k before is n q t) h)
          room n q false t apart h = h

      pub name_put : after ≡ insert before ns (Some tt) → Puts k ns true old new
      name_put put = put_with true (λ q. ap (λ m. holds_name m q) put ∙ held_inserted before ns q)
          (λ q _ h. subst (λ m. IsTrue (has_slot m q)) (sym put) (has_slot-insert names before ns (Some tt) q h))

      pub name_removed : after ≡ remove before ns → Puts k ns false old new
      name_removed gone = put_with false (λ q. ap (λ m. holds_name m q) gone ∙ held_removed before ns q)
          (λ q apart h. subst (λ m. IsTrue (has_slot m q)) (sym gone) (subst IsTrue (sym (room_removed before ns q apart)) h))

-- names that are none go with their number
pub all_removed : (old left new : BusyWorkers) (k : ℕ) (ns : Name) (after : Names) → Puts k ns false old left → row_at left.workers k ≡ Some after →
    after ≡ empty → new.workers ≡ remove left.workers k → Puts k ns false old new
all_removed old left new k ns after put is none e = record {
  held = λ n q. gone holds_name left.workers new.workers k e n q ∙ held n q (same_number n k) refl ∙ put.held n q;
  room = λ n q apart h. subst IsTrue (sym (gone has_slot left.workers new.workers k e n q)) (room n q (same_number n k) refl (put.room n q apart h));
}
  where
    held : (n : ℕ) (q : Name) (b : Bool) → same_number n k ≡ b → cond b false (holds left n q) ≡ holds left n q
    held n q true t = sym (there holds_name left.workers k after is n q t ∙ no_name after none q)
    held n q false t = refl

    room : (n : ℕ) (q : Name) (b : Bool) → same_number n k ≡ b → IsTrue (has_room left n q) → IsTrue (cond b false (has_room left n q))
    room n q true t h = not_true (subst IsTrue (there has_slot left.workers k after is n q t ∙ no_name_room after none q) h)
    room n q false t h = h

-- where there are no names, none goes
pub none_removed : (b : BusyWorkers) (k : ℕ) (ns : Name) → row_at b.workers k ≡ None → Puts k ns false b b
none_removed s k ns none = record {
  held = λ n q. held n q (same_number n k) refl;
  room = λ n q apart h. h;
}
  where
    held : (n : ℕ) (q : Name) (b : Bool) → same_number n k ≡ b → holds s n q ≡ cond (same_number n k && same_name q ns) false (holds s n q)
    held n q true t = nowhere holds_name s.workers k none n q t ∙ sym (by (same_number n k && same_name q ns))
      where
        by : (c : Bool) → cond c false (holds s n q) ≡ false
        by true = refl
        by false = nowhere holds_name s.workers k none n q t
    held n q false t = ap (λ b. cond (b && same_name q ns) false (holds s n q)) (sym t)
