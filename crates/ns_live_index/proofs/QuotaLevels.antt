-- Names at quotas, level by level.
use Rattle.std.specs.Prelude.{◌≡◌, Bool, true, false, not, cond, ◌&&◌, ◌||◌, IsTrue, Option, Some, None, is_some}
use Rattle.std.proofs.Common.{refl, sym, ap, subst, ◌∙◌}
use Rattle.std.specs.Cmp.{eq_by_cmp_equiv}
use Rattle.std.specs.FinMap.{empty, get, get-empty, get-insert, get-remove, insert, remove}
use Rattle.keyed.specs.Levels.{Adds, Drops, Keeps, same_at}
use Rattle.keyed.specs.Table.{flat, has_slot, row_at, with_slot}
use Rattle.keyed.proofs.Levels.{not_true}
use Rattle.keyed.proofs.Tables.{get-rows, has_slot-insert, has_slot-with_slot, rows-with_slot}
use Rattle.ns_types.specs.State.Names.{Name, name_cmp, same_name}
use Rattle.ns_types.proofs.Named.{names, one_name, same_name_is, same_name_refl}
use Rattle.ns_live_index.specs.declared.naming.QuotaNames.{QuotaNames}
use Rattle.ns_live_index.specs.declared.naming.QuotaUse.{QuotaUse}
use Rattle.ns_live_index.specs.Naming.{AreNames, HasNameRoom, has_name_room, has_room_at, holds_at, holds_name, is_quota, with_quota}

-- ---- one quota's names

pub no_name : (m : QuotaUse) → m.names ≡ empty → (q : Name) → holds_name m q ≡ false
no_name m e q = ap (λ m. is_some (row_at m q)) e ∙ ap (λ r. is_some (flat r)) (get-empty name_cmp q)

pub no_name_room : (m : QuotaUse) → m.names ≡ empty → (q : Name) → has_name_room m q ≡ false
no_name_room m e q = ap (λ m. has_slot m q) e ∙ ap is_some (get-empty name_cmp q)

module _ (m new : QuotaUse) (n : Name) where
  pub name_room : new.names ≡ with_slot m.names n → Keeps holds_name has_name_room m new
  name_room e = record {
    held = λ k. ap (λ t. is_some (row_at t k)) e ∙ ap is_some (sym (get-rows names (with_slot m.names n) k)
        ∙ ap (λ t. get t k) (rows-with_slot names one_name m.names n) ∙ get-rows names m.names k);
    room = λ k h. subst (λ t. IsTrue (has_slot t k)) (sym e) (has_slot-with_slot names m.names n k h);
  }

  pub name_added : new.names ≡ insert m.names n (Some tt) → Adds holds_name has_name_room same_name n m new
  name_added e = record {
    held = λ k. ap (λ t. is_some (row_at t k)) e ∙ ap (λ r. is_some (flat r)) (get-insert names m.names n (Some tt) k) ∙ by k (same_name k n);
    room = λ k h. subst (λ t. IsTrue (has_slot t k)) (sym e) (has_slot-insert names m.names n (Some tt) k h);
  }
    where
      by : (k : Name) (b : Bool) → is_some (flat (cond b (Some (Some tt)) (get m.names k))) ≡ (b || holds_name m k)
      by k true = refl
      by k false = refl

  pub name_dropped : new.names ≡ remove m.names n → Drops holds_name has_name_room same_name n m new
  name_dropped e = record {
    held = λ k. ap (λ t. is_some (row_at t k)) e ∙ ap (λ r. is_some (flat r)) (get-remove names m.names n k) ∙ by k (same_name k n);
    room = λ k apart h. subst IsTrue (sym (ap (λ t. has_slot t k) e ∙ ap is_some (get-remove names m.names n k
        ∙ ap (λ b. cond b None (get m.names k)) apart))) h;
    gone = λ k t. ap (λ t. has_slot t k) e ∙ ap is_some (get-remove names m.names n k ∙ ap (λ b. cond b None (get m.names k)) t);
  }
    where
      by : (k : Name) (b : Bool) → is_some (flat (cond b None (get m.names k))) ≡ (not b && holds_name m k)
      by k true = refl
      by k false = refl

-- ---- another quota for a namespace

module _ (ns : Name) (quota_of : Name → Option Name) where
  pub with_twice : (a b : Option Name) → with_quota ns a (with_quota ns b quota_of) ≡ with_quota ns a quota_of
  with_twice a b = λ i n. by (same_name n ns) (quota_of n) i
    where
      by : (c : Bool) (r : Option Name) → cond c a (cond c b r) ≡ cond c a r
      by true r = refl
      by false r = refl

  pub with_same : (r : Option Name) → quota_of ns ≡ r → with_quota ns r quota_of ≡ quota_of
  with_same r was = λ i n. by n (same_name n ns) refl i
    where
      by : (n : Name) (b : Bool) → same_name n ns ≡ b → with_quota ns r quota_of n ≡ quota_of n
      by n true t = ap (λ b. cond b r (quota_of n)) t ∙ sym was ∙ ap quota_of (sym (same_name_is n ns t))
      by n false t = ap (λ b. cond b r (quota_of n)) t

  pub with_here : (r : Option Name) → with_quota ns r quota_of ns ≡ r
  with_here r = ap (λ b. cond b r (quota_of ns)) (same_name_refl ns)

module _ (ns quota : Name) (old new : QuotaNames) (quota_of : Name → Option Name) (right : AreNames quota_of old) where
  then_at : (r : Option Name) (q n : Name) (b : Bool) → same_name n ns ≡ b → is_quota (with_quota ns r quota_of n) q ≡ is_quota (cond b r (quota_of n)) q
  then_at r q n b t = ap (λ b. is_quota (cond b r (quota_of n)) q) t

  was_at : (r : Option Name) → quota_of ns ≡ r → (q n : Name) → same_name n ns ≡ true → holds_at old (q, n) ≡ is_quota r q
  was_at r was q n t = right q n ∙ ap (λ n. is_quota (quota_of n) q) (same_name_is n ns t) ∙ ap (λ r. is_quota r q) was

  pub named_now : Adds holds_at has_room_at (same_at same_name) (quota, ns) old new → quota_of ns ≡ None → AreNames (with_quota ns (Some quota) quota_of) new
  named_now adds free q n = adds.held (q, n) ∙ by (same_name n ns) refl
    where
      here : (b : Bool) → ((b && true) || false) ≡ b
      here true = refl
      here false = refl

      apart : (b c : Bool) → ((b && false) || c) ≡ c
      apart true c = refl
      apart false c = refl

      by : (b : Bool) → same_name n ns ≡ b →
          ((same_name q quota && same_name n ns) || holds_at old (q, n)) ≡ is_quota (with_quota ns (Some quota) quota_of n) q
      by true t = (λ i. (same_name q quota && t i) || was_at None free q n t i) ∙ here (same_name q quota) ∙ sym (then_at (Some quota) q n true t)
      by false t = (λ i. (same_name q quota && t i) || right q n i) ∙ apart (same_name q quota) (is_quota (quota_of n) q)
          ∙ sym (then_at (Some quota) q n false t)

  pub named_no_more : Drops holds_at has_room_at (same_at same_name) (quota, ns) old new → quota_of ns ≡ Some quota →
      AreNames (with_quota ns None quota_of) new
  named_no_more drops was q n = drops.held (q, n) ∙ by (same_name n ns) refl
    where
      here : (b : Bool) → (not (b && true) && b) ≡ false
      here true = refl
      here false = refl

      apart : (b c : Bool) → (not (b && false) && c) ≡ c
      apart true c = refl
      apart false c = refl

      by : (b : Bool) → same_name n ns ≡ b →
          (not (same_name q quota && same_name n ns) && holds_at old (q, n)) ≡ is_quota (with_quota ns None quota_of n) q
      by true t = (λ i. not (same_name q quota && t i) && was_at (Some quota) was q n t i) ∙ here (same_name q quota) ∙ sym (then_at None q n true t)
      by false t = (λ i. not (same_name q quota && t i) && right q n i) ∙ apart (same_name q quota) (is_quota (quota_of n) q)
          ∙ sym (then_at None q n false t)

pub quota_is : (r : Option Name) (quota : Name) → is_quota r quota ≡ true → r ≡ Some quota
quota_is None quota e = not_true e
quota_is (Some q) quota e = ap Some (sym (same_name_is quota q e))

-- room at another quota is left
pub room_left : (ns quota : Name) (old new : QuotaNames) (after : Option Name) → Drops holds_at has_room_at (same_at same_name) (quota, ns) old new →
    is_quota after quota ≡ false → HasNameRoom old ns after → HasNameRoom new ns after
room_left ns quota old new None drops apart room = tt
room_left ns quota old new (Some q) drops apart room = drops.room (q, ns)
    (ap (λ b. b && same_name ns ns) ((eq_by_cmp_equiv names).symm q quota ∙ apart)) room
