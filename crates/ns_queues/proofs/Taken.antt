-- Keys that are put into their groups, and keys that are taken out of their levels, one after another.
use Rattle.std.specs.Prelude.{◌≡◌, ℕ, ◌+◌, ◌<◌, Bool, true, false, cond, not, ◌||◌, List, [], ◌∷◌, ◌++◌, Option, Some, None, length, nat_eq, unwrap_or}
use Rattle.std.proofs.Common.{refl, sym, ap, subst, ◌∙◌, get_or, take}
use Rattle.std.proofs.lemmas.List.{take_more}
use Rattle.std.proofs.lemmas.Bool.{eq-eqb}
use Rattle.std.proofs.lemmas.List.{append-nil}
use Rattle.std.specs.FinMap.{empty, get-empty, insert}
use Rattle.std.specs.Ordering.{nat_cmp}
use Rattle.std.specs.Option.{option_map_or}
use Rattle.keyed.specs.Table.{emptied, flat, row_at, with_slot}
use Rattle.keyed.proofs.Levels.{row_here}
use Rattle.keyed.proofs.Queues.{filter_alike, has_filter}
use Rattle.ns_change.proofs.Opening.{row_emptied}
use Rattle.ns_change.specs.Changed.{without_keys}
use Rattle.ns_types.proofs.Lists.{each, filter-append, filter_all, not_both}
use Rattle.ns_types.proofs.Named.{first_of_both, second_of_both, number_ties, numbers, one_number, same_number_refl}
use Rattle.ns_types.proofs.Once.{key_is}
use Rattle.ns_types.proofs.TableRows.{turned}
use Rattle.ns_types.proofs.Tests.{is_no}
use Rattle.ns_types.specs.State.Names.{Key, has_key, same_key, same_number}
use Rattle.ns_types.specs.State.Rows.{World}
use Rattle.ns_types.specs.Working.Queue.{priority_at}
use Rattle.ns_queues.specs.Ready.{Groups, HoldsOnly, KeepsOthers, KeepsRoom, Levels, group_at, items_of, keys_of, left_of, level_at, of_priority}
use Rattle.ns_queues.proofs.Leveled.{at_each, row_other, row_slot}

-- ---- a key that is put at the end of its group

abbrev keys_in : Option (List Key) → List Key
keys_in group = option_map_or (λ keys. keys) group []

there_or_none : (group : Option (List Key)) → unwrap_or group [] ≡ keys_in group
there_or_none None = refl
there_or_none (Some keys) = refl

module _ (old taken slotted new : Groups) (k : ℕ) (keys : List Key) (key : Key) (took : taken ≡ emptied old k) (slot : slotted ≡ with_slot taken k)
    (set : new ≡ insert slotted k (Some (keys ++ key ∷ []))) (was : keys ≡ unwrap_or (row_at old k) []) where
  pub one_put : (q : ℕ) → group_at new q ≡ group_at old q ++ keys_of q k key
  one_put = at_each (λ q. group_at new q ≡ group_at old q ++ keys_of q k key) k
      (ap keys_in (row_here numbers slotted new k (keys ++ key ∷ []) set) ∙ ap (λ l. l ++ key ∷ []) (was ∙ there_or_none (row_at old k))
      ∙ ap (λ b. group_at old k ++ cond b (key ∷ []) []) (sym (eq-eqb k k refl)))
      (λ q e. ap keys_in (ap (λ m. row_at m q) set ∙ row_other slotted k (Some (keys ++ key ∷ [])) q e ∙ ap (λ m. row_at m q) slot ∙ row_slot taken k q
      ∙ ap (λ m. row_at m q) took ∙ row_emptied numbers one_number old k q ∙ ap (λ b. cond b None (row_at old q)) e)
      ∙ sym (append-nil (group_at old q))
      ∙ ap (λ b. group_at old q ++ cond b (key ∷ []) []) (sym (number_ties k q ∙ turned numbers q k e)))

pub none_put : (groups : Groups) → groups ≡ empty → (q : ℕ) → group_at groups q ≡ []
none_put groups is q = ap (λ m. group_at m q) is ∙ ap (λ r. keys_in (flat r)) (get-empty nat_cmp q)

module _ (w : World) (all : List Key) (i : ℕ) (key : Key) (lt : i < length all) (is : key ≡ get_or all i key) (old new : Groups) where
  pub one_more : ((q : ℕ) → group_at old q ≡ of_priority w q (take i all)) →
      ((q : ℕ) → group_at new q ≡ group_at old q ++ keys_of q (priority_at w key) key) → (q : ℕ) → group_at new q ≡ of_priority w q (take (i + 1) all)
  one_more so_far put q = put q ∙ ap (λ l. l ++ keys_of q (priority_at w key) key) (so_far q)
      ∙ sym (filter-append (λ key. nat_eq (priority_at w key) q) (take i all) (key ∷ []))
      ∙ ap (of_priority w q) (ap (λ x. take i all ++ x ∷ []) is ∙ sym (take_more all i key lt))

-- ---- keys that are taken out of their levels

-- the keys of `rest` are still to be taken
pub record Taking (w : World) (taken : List Key) (before now : Levels) (rest : List Key) : Type 0 where
  pub same : (q : ℕ) → without_keys taken (level_at now q) ≡ without_keys taken (level_at before q)
  pub within : (q : ℕ) (key : Key) → has_key (level_at now q) key ≡ true → has_key (level_at before q) key ≡ true
  pub left : (q : ℕ) (key : Key) → has_key (level_at now q) key ≡ true → has_key taken key ≡ true → priority_at w key ≡ q → has_key rest key ≡ true
  pub room : KeepsRoom before now

pub none_taken : (w : World) (taken : List Key) (levels : Levels) → Taking w taken levels levels taken
none_taken w taken levels = record { same = λ q. refl; within = λ q key has. has; left = λ q key has out own. out; room = λ q keys can. can }

out_again : (taken keys : List Key) → without_keys taken (without_keys taken keys) ≡ without_keys taken keys
out_again taken keys = filter_alike (λ key. not (has_key taken key)) (λ key. true) (without_keys taken keys)
    (λ x has. first_of_both _ _ (sym (has_filter (λ key. not (has_key taken key)) x keys) ∙ has))
    ∙ filter_all (λ key. true) (without_keys taken keys) (each (λ _. true ≡ true) (λ _. refl) (without_keys taken keys))

pub all_taken : (w : World) (taken : List Key) (before now : Levels) (rest : List Key) → rest ≡ [] → Taking w taken before now rest →
    (q : ℕ) → HoldsOnly w q (level_at before q) → level_at now q ≡ without_keys taken (level_at before q)
all_taken w taken before now rest none h q only =
    sym (filter_alike (λ key. not (has_key taken key)) (λ key. true) (level_at now q) (λ x has. stays x has (has_key taken x) refl)
    ∙ filter_all (λ key. true) (level_at now q) (each (λ _. true ≡ true) (λ _. refl) (level_at now q)))
    ∙ h.same q
  where
    stays : (x : Key) → has_key (level_at now q) x ≡ true → (b : Bool) → has_key taken x ≡ b → not b ≡ true
    stays x has true out = not_both (h.left q x has out (only x (h.within q x has))) (ap (λ keys. has_key keys x) none)
    stays x has false out = refl

module _ (w : World) (taken : List Key) (before now next : Levels) (x : Key) (rest : List Key) (h : Taking w taken before now (x ∷ rest))
    (k : ℕ) (own : k ≡ priority_at w x) (others : KeepsOthers k now next) (here : level_at next k ≡ left_of x taken (level_at now k))
    (kept : KeepsRoom now next) where
  abbrev level : List Key
  level = level_at now k

  here_is : (t : Bool) → has_key level x ≡ t → level_at next k ≡ cond t (without_keys taken level) level
  here_is t e = here ∙ ap (λ b. cond b (without_keys taken level) level) e

  other_is : (q : ℕ) → same_number q k ≡ false → level_at next q ≡ level_at now q
  other_is q e = ap items_of (others q e)

  -- it is another key, so it is among the rest
  among_rest : (key : Key) → has_key (x ∷ rest) key ≡ true → (b : Bool) → same_key key x ≡ b → (same_key key x ≡ true → b ≡ false) → has_key rest key ≡ true
  among_rest key has true e differs = not_both refl (differs e)
  among_rest key has false e differs = sym (ap (λ b. b || has_key rest key) e) ∙ has

  abbrev LeftAt : List Key → ℕ → Type 0
  LeftAt keys q = (key : Key) → has_key keys key ≡ true → has_key taken key ≡ true → priority_at w key ≡ q → has_key rest key ≡ true

  left_here : (t : Bool) → has_key level x ≡ t → LeftAt (cond t (without_keys taken level) level) k
  left_here true e key has out its =
      not_both out (is_no (has_key taken key) (first_of_both _ _ (sym (has_filter (λ key. not (has_key taken key)) key level) ∙ has)))
  left_here false e key has out its = among_rest key (h.left k key has out its) (same_key key x) refl
      (λ same. not_both (ap (has_key level) (sym (key_is key x same)) ∙ has) e)

  left_other : (q : ℕ) → same_number q k ≡ false → LeftAt (level_at now q) q
  left_other q e key has out its = among_rest key (h.left q key has out its) (same_key key x) refl
      (λ same. not_both (ap (same_number q) (own ∙ ap (priority_at w) (sym (key_is key x same)) ∙ its) ∙ same_number_refl q) e)

  within_here : (t : Bool) (key : Key) → has_key (cond t (without_keys taken level) level) key ≡ true → has_key level key ≡ true
  within_here true key has = second_of_both _ _ (sym (has_filter (λ key. not (has_key taken key)) key level) ∙ has)
  within_here false key has = has

  same_here : (t : Bool) → without_keys taken (cond t (without_keys taken level) level) ≡ without_keys taken level
  same_here true = out_again taken level
  same_here false = refl

  pub one_taken : Taking w taken before next rest
  one_taken = by (has_key level x) refl
    where
      by : (t : Bool) → has_key level x ≡ t → Taking w taken before next rest
      by t e = record {
        same = at_each (λ q. without_keys taken (level_at next q) ≡ without_keys taken (level_at before q)) k
            (ap (without_keys taken) (here_is t e) ∙ same_here t ∙ h.same k) (λ q e. ap (without_keys taken) (other_is q e) ∙ h.same q);
        within = at_each (λ q. (key : Key) → has_key (level_at next q) key ≡ true → has_key (level_at before q) key ≡ true) k
            (λ key has. h.within k key (within_here t key (ap (λ l. has_key l key) (sym (here_is t e)) ∙ has)))
            (λ q e key has. h.within q key (ap (λ l. has_key l key) (sym (other_is q e)) ∙ has));
        left = at_each (λ q. LeftAt (level_at next q) q) k (subst (λ l. LeftAt l k) (sym (here_is t e)) (left_here t e))
            (λ q e. subst (λ l. LeftAt l q) (sym (other_is q e)) (left_other q e));
        room = λ q keys can. kept q keys (h.room q keys can);
      }
