-- Whom a step wakes, by what blocked evaluations wait for.
use Rattle.std.specs.Prelude.{◌≡◌, ℕ, ◌+◌, ◌<◌, Bool, true, false, cond, not, ◌&&◌, ◌||◌, List, [], ◌∷◌, ◌++◌, length, map, filter}
use Rattle.std.specs.Prelude.{Option, Some, None, option_map}
use Rattle.std.proofs.Common.{refl, sym, ap, ◌∙◌, add-one, get_or, take}
use Rattle.std.proofs.Math.Bool.{and-false, or-true}
use Rattle.std.proofs.Math.Seq.{take-suc}
use Rattle.std.specs.FinMap.{contains_key}
use Rattle.std.specs.List.{cons_option, list_any}
use Rattle.std.specs.Option.{option_map_or}
use Rattle.ns_blocked.specs.declared.entry.BlockedEvaluation.{BlockedEvaluation}
use Rattle.ns_blocked.specs.declared.entry.Waits.TheVariants.{Pool, Quota}
use Rattle.ns_blocked.specs.declared.releases.ReleasedPool.{ReleasedPool}
use Rattle.ns_blocked.specs.declared.releases.Releases.{Releases}
use Rattle.ns_blocked.specs.Waking.{entries_in, entry_of, is_woken, keys_of_passing, woken_by}
use Rattle.ns_blocked.proofs.OneKey.{same_turned}
use Rattle.ns_blocked.proofs.Places.{any_last}
use Rattle.ns_change.specs.declared.change.Change.{Change}
use Rattle.ns_change.specs.declared.change.ListChange.{ListChange}
use Rattle.ns_release.specs.Released.{releases_wake, stays, woken_from}
use Rattle.ns_release.specs.Released as release
use Rattle.ns_release.proofs.Woken.{woken_tests}
use Rattle.ns_settlement.specs.Reached.{AreOfNames, AreOfRooms, any_class, has_room, is_room}
use Rattle.ns_queues.specs.Waiting.{entries_for}
use Rattle.ns_types.proofs.Classes.{one_class}
use Rattle.ns_types.proofs.Elements.{any_same, any_under}
use Rattle.ns_types.proofs.Named.{first_of_both, names, same_name_is, second_of_both}
use Rattle.ns_types.proofs.Tables.{tied}
use Rattle.ns_types.proofs.Tests.{is_yes, or_none}
use Rattle.ns_types.specs.Settling.Releases.{can_use, wakes_by}
use Rattle.ns_types.specs.State.Names.{Key, Name, has_class, has_name, same_class, same_name}
use Rattle.ns_types.specs.State.Rows.{World, evaluation_at}
use Rattle.ns_types.specs.declared.evaluation.Evaluation.{Evaluation}
use Rattle.ns_types.specs.declared.node.Class.{Class}

-- ---- tests of lists

any_next : {A : Type 0} (p : A → Bool) (xs : List A) (i : ℕ) (x : A) → i < length xs → x ≡ get_or xs i x →
    (list_any p (take i xs) || p x) ≡ list_any p (take (i + 1) xs)
any_next p xs i x lt is = sym (any_last p (take i xs) x)
    ∙ ap (list_any p) (ap (λ x. take i xs ++ x ∷ []) is ∙ sym (take-suc xs i x lt) ∙ ap (λ n. take n xs) (sym (add-one i)))

any_given : {A : Type 0} (p q : A → Bool) → ((x : A) → p x ≡ true → q x ≡ true) → (xs : List A) → list_any p xs ≡ true → list_any q xs ≡ true
any_given p q h [] has = has
any_given p q h (x ∷ xs) has = by (p x) refl has (any_given p q h xs)
  where
    by : (b : Bool) → p x ≡ b → (b || list_any p xs) ≡ true → (list_any p xs ≡ true → list_any q xs ≡ true) → (q x || list_any q xs) ≡ true
    by true t has later = ap (λ b. b || list_any q xs) (h x t)
    by false t has later = ap (λ b. q x || b) (later has) ∙ or-true (q x)

-- ---- the rooms, one after another

room_found : (passes : Name → Class → Bool) (room : Name × Class) (pools : List ReleasedPool) → has_room pools room ≡ true →
    passes room.0 room.1 ≡ true → any_class passes pools ≡ true
room_found passes room pools has t = any_given (is_room room) (λ p. list_any (passes p.pool) p.classes) in_pool pools has
  where
    in_pool : (p : ReleasedPool) → is_room room p ≡ true → list_any (passes p.pool) p.classes ≡ true
    in_pool p is =
        let pool = same_name_is room.0 p.pool (first_of_both (same_name room.0 p.pool) (has_class p.classes room.1) is) in
        any_given (same_class room.1) (passes p.pool) (λ class same. sym (λ i. passes (pool i) (tied one_class room.1 class same i)) ∙ t)
        p.classes (second_of_both (same_name room.0 p.pool) (has_class p.classes room.1) is)

module _ (rooms : List (Name × Class)) (i : ℕ) (room : Name × Class) (lt : i < length rooms) (is : room ≡ get_or rooms i room)
    (pools : List ReleasedPool) (h : AreOfRooms (take i rooms) pools) where
  pub room_added : (p : ReleasedPool) (new : List ReleasedPool) → p ≡ record { pool = room.0; classes = room.1 ∷ [] } → new ≡ pools ++ p ∷ [] →
      AreOfRooms (take (i + 1) rooms) new
  room_added p new made put passes = ap (any_class passes) (put ∙ ap (λ p. pools ++ p ∷ []) made)
      ∙ any_last (λ (p : ReleasedPool). list_any (passes p.pool) p.classes) pools (record { pool = room.0; classes = room.1 ∷ [] })
      ∙ (λ j. h passes j || or_none (passes room.0 room.1) j) ∙ any_next (λ (r : Name × Class). passes r.0 r.1) rooms i room lt is

  pub room_passed : has_room pools room ≡ true → AreOfRooms (take (i + 1) rooms) pools
  room_passed has passes = by (passes room.0 room.1) refl ∙ any_next (λ (r : Name × Class). passes r.0 r.1) rooms i room lt is
    where
      had : Bool
      had = list_any (λ (r : Name × Class). passes r.0 r.1) (take i rooms)

      by : (b : Bool) → passes room.0 room.1 ≡ b → any_class passes pools ≡ (had || passes room.0 room.1)
      by true t = room_found passes room pools has t ∙ sym (ap (λ b. had || b) t ∙ or-true had)
      by false t = h passes ∙ sym (ap (λ b. had || b) t ∙ or_none had)

-- ---- the quotas, one after another

module _ (w : World) (released : List Name) (i : ℕ) (name : Name) (lt : i < length released) (is : name ≡ get_or released i name)
    (quotas : List Name) (h : AreOfNames w (take i released) quotas) where
  abbrev there : Name → Bool
  there quota = contains_key w.quotas quota

  abbrev had : Name → Bool
  had quota = has_name (take i released) quota

  -- another name than this one
  other : (quota : Name) → same_name quota name ≡ false → (there quota && had quota) ≡ (there quota && (had quota || same_name quota name))
  other quota t = ap (λ b. there quota && b) (sym (ap (λ b. had quota || b) t ∙ or_none (had quota)))

  next : (quota : Name) → (there quota && (had quota || same_name quota name)) ≡ (there quota && has_name (take (i + 1) released) quota)
  next quota = ap (λ b. there quota && b) (any_next (same_name quota) released i name lt is)

  pub quota_added : (there name && not (has_name quotas name)) ≡ true → (copy : Name) (new : List Name) → copy ≡ name → new ≡ quotas ++ copy ∷ [] →
      AreOfNames w (take (i + 1) released) new
  quota_added fresh copy new copied put quota = ap (λ l. has_name l quota) (put ∙ ap (λ n. quotas ++ n ∷ []) copied)
      ∙ any_last (same_name quota) quotas name ∙ ap (λ b. b || same_name quota name) (h quota) ∙ by (same_name quota name) refl ∙ next quota
    where
      by : (b : Bool) → same_name quota name ≡ b →
          ((there quota && had quota) || same_name quota name) ≡ (there quota && (had quota || same_name quota name))
      by true t =
          let exists : there quota ≡ true = ap (contains_key w.quotas) (same_name_is quota name t) ∙ first_of_both _ _ fresh in
          (λ j. (exists j && had quota) || t j) ∙ sym (λ j. exists j && (had quota || t j))
      by false t = ap (λ b. (there quota && had quota) || b) t ∙ or_none (there quota && had quota) ∙ other quota t

  pub quota_passed : (there name && not (has_name quotas name)) ≡ false → AreOfNames w (take (i + 1) released) quotas
  quota_passed old quota = h quota ∙ by (same_name quota name) refl (there quota) refl ∙ next quota
    where
      stands : same_name quota name ≡ true → there quota ≡ true → had quota ≡ true
      stands t exists = second_of_both (there quota) (had quota) (sym (h quota) ∙ ap (has_name quotas) (same_name_is quota name t)
          ∙ is_yes _ (sym (ap (λ b. b && not (has_name quotas name)) (ap (contains_key w.quotas) (sym (same_name_is quota name t)) ∙ exists)) ∙ old))

      by : (b : Bool) → same_name quota name ≡ b → (e : Bool) → there quota ≡ e →
          (there quota && had quota) ≡ (there quota && (had quota || same_name quota name))
      by false t e exists = other quota t
      by true t false exists = ap (λ b. b && had quota) exists ∙ sym (ap (λ b. b && (had quota || same_name quota name)) exists)
      by true t true exists = ap (λ b. there quota && b) (stands t exists)
          ∙ sym (ap (λ b. there quota && (b || same_name quota name)) (stands t exists))

-- ---- whom they wake

module _ (w : World) (rooms : List (Name × Class)) (released : List Name) (r : Releases) (of_rooms : AreOfRooms rooms r.pools)
    (of_names : AreOfNames w released r.quotas) where
  wakes_same : (key : Key) (e : Evaluation) → is_woken r (entry_of key e) ≡ releases_wake w rooms released e
  wakes_same key e = by e.quota
    where
      as_entry : Option Name → BlockedEvaluation
      as_entry quota = record { key = key; waits = option_map_or Quota quota (Pool e.pool); escapes = e.escapes; infeasible = e.infeasible }

      by : (quota : Option Name) → is_woken r (as_entry quota) ≡ wakes_by (release.released_of w rooms released) e quota
      by (Some quota) = any_same (λ name. same_name name quota) (same_name quota) (λ name. same_turned names name quota) r.quotas ∙ of_names quota
      by None = any_same (λ (p : ReleasedPool). same_name p.pool e.pool && list_any (can_use e) p.classes)
          (λ p. list_any (λ class. same_name e.pool p.pool && can_use e class) p.classes)
          (λ p. ap (λ b. b && list_any (can_use e) p.classes) (same_turned names p.pool e.pool)
          ∙ sym (any_under (same_name e.pool p.pool) (can_use e) p.classes)) r.pools
          ∙ of_rooms (λ name class. same_name e.pool name && can_use e class)

  woken_of : (x : ListChange) (keys : List Key) →
      filter (stays x) (keys_of_passing (is_woken r) (entries_for w keys)) ≡ filter (release.is_woken w x rooms released) keys
  woken_of x [] = refl
  woken_of x (key ∷ keys) = by (evaluation_at w key) (woken_of x keys)
    where
      passing : List BlockedEvaluation
      passing = filter (is_woken r) (entries_for w keys)

      left : List Key
      left = filter (stays x) (map (λ e. e.key) passing)

      rest : List Key
      rest = filter (release.is_woken w x rooms released) keys

      woken : (e : Evaluation) (b : Bool) → left ≡ rest →
          filter (stays x) (map (λ e. e.key) (cond b (entry_of key e ∷ passing) passing)) ≡ cond (stays x key && b) (key ∷ rest) rest
      woken e true later = (λ i. cond (stays x key) (key ∷ later i) (later i)) ∙ yes (stays x key)
        where
          yes : (b : Bool) → cond b (key ∷ rest) rest ≡ cond (b && true) (key ∷ rest) rest
          yes true = refl
          yes false = refl
      woken e false later = later ∙ ap (λ b. cond b (key ∷ rest) rest) (sym (and-false (stays x key)))

      by : (o : Option Evaluation) → left ≡ rest →
          filter (stays x) (keys_of_passing (is_woken r) (cons_option (option_map (entry_of key) o) (entries_for w keys)))
          ≡ cond (stays x key && option_map_or (releases_wake w rooms released) o false) (key ∷ rest) rest
      by None later = later ∙ ap (λ b. cond b (key ∷ rest) rest) (sym (and-false (stays x key)))
      by (Some e) later = ap (λ b. filter (stays x) (map (λ e. e.key) (cond b (entry_of key e ∷ passing) passing))) (wakes_same key e)
          ∙ woken e (releases_wake w rooms released e) later

  -- the entries of the world that these releases wake and that are still there, are those of the step
  pub reached : (c : Change) → filter (stays c.blocked) (woken_by r (entries_in w)) ≡ woken_from w c rooms released
  reached c = woken_of c.blocked w.blocked ∙ woken_tests w c rooms released
