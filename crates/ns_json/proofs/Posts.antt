-- What holds of a value that is read, where there is one.
use Rattle.std.proofs.Common.{◌≡◌, ℕ, ◌+◌, ◌==◌, List, [], ◌∷◌, ◌++◌, length, Bool, true, false, ◌&&◌, nat_le, Option, Some, None, Ok, Err}
use Rattle.std.proofs.Common.{IfOk, if◌then◌else◌, refl, subst, arith, length-append, option_and_then}
use Rattle.std.specs.Bool.{IsTrue}
use Rattle.std.specs.Option.{option_map_or}
use Rattle.serde_json.specs.Data.{Data, Items, no_items, item}
use Rattle.serde_json.specs.Events.{items_len}
use Rattle.serde_json.specs.Find.{as_str, as_array, as_u64, as_number}
use Rattle.ns_types.specs.declared.name.NameKind.{NameKind}
use Rattle.ns_types.specs.declared.refusal.Member.{Member}
use Rattle.ns_types.specs.declared.refusal.Refusal.{Refusal}
use Rattle.ns_types.specs.State.Limits.{is_between, is_text}
use Rattle.ns_types.specs.State.Name.{is_name}
use Rattle.ns_json.specs.Reading.{◌>>=◌, Read, Gives, same, or_else, or_refuse, some, a_text, a_name, a_number, a_list, each, unless}
use Rattle.ns_json.specs.Registration.{name_if_any}

abbrev pub Post : {A : Type 0} → Read A → (A → Type 0) → Type 0
Post (Ok x) P = P x
Post (Err e) P = Unit {0}

pub post_then : {A B : Type 0} {P : A → Type 0} (r : Read A) (f : A → Read B) (Q : B → Type 0) → Post r P → ((x : A) → P x → Post (f x) Q) → Post (r >>= f) Q
post_then (Ok x) f Q p h = h x p
post_then (Err e) f Q p h = tt

pub post_any : {A B : Type 0} (r : Read A) (f : A → Read B) (Q : B → Type 0) → ((x : A) → Post (f x) Q) → Post (r >>= f) Q
post_any (Ok x) f Q h = h x
post_any (Err e) f Q h = tt

pub post_map : {A : Type 0} (r : Read A) (P Q : A → Type 0) → ((x : A) → P x → Q x) → Post r P → Post r Q
post_map (Ok x) P Q f h = f x h
post_map (Err e) P Q f h = tt

pub post_both : {A : Type 0} (r : Read A) (P Q : A → Type 0) → Post r P → Post r Q → Post r (λ x. P x × Q x)
post_both (Ok x) P Q h k = (h, k)
post_both (Err e) P Q h k = tt

pub post_if : {A : Type 0} (c : Bool) (x : A) (e : Refusal) (P : A → Type 0) → (c ≡ true → P x) → Post (if c then Ok x else Err e) P
post_if true x e P h = h refl
post_if false x e P h = tt

pub post_unless : {A : Type 0} (bad : Bool) (m : Member) (x : A) (P : A → Type 0) → (bad ≡ false → P x) → Post (unless bad m x) P
post_unless true m x P h = tt
post_unless false m x P h = h refl

pub post_else : {A : Type 0} (default : A) (read : Data → Read A) (P : A → Type 0) (d : Option Data) → P default → ((v : Data) → Post (read v) P) →
    Post (or_else default read d) P
post_else default read P None h k = h
post_else default read P (Some v) h k = k v

pub post_some : {A : Type 0} (r : Read A) (P : A → Type 0) (Q : Option A → Type 0) → ((x : A) → P x → Q (Some x)) → Post r P → Post (some r) Q
post_some (Ok x) P Q f h = f x h
post_some (Err e) P Q f h = tt

pub read_so : {A : Type 0} (r read : Read A) (P : A → Type 0) → Gives same r read → Post read P → IfOk r P
read_so (Ok x) read P h post = subst (λ q. Post q P) h post
read_so (Err e) read P h post = tt

pub read_if : {A : Type 0} (H : Type 0) (r read : Read A) (P : A → Type 0) → Gives same r read → (H → Post read P) → IfOk r (λ x. H → P x)
read_if H (Ok x) read P h post = λ k. subst (λ q. Post q P) h (post k)
read_if H (Err e) read P h post = tt

-- ---- texts, names and numbers

pub text_good : (m : Member) (d : Data) → Post (a_text m d) (λ s. IsTrue (is_text s))
unfolding a_text
text_good m d = post_any (or_refuse m (as_str d)) _ _ (λ s. post_if (nat_le (length s) 256) s _ _ (λ h. h))

pub name_good : (m : Member) (kind : NameKind) (d : Data) → Post (a_name m kind d) (λ s. IsTrue (is_name kind s))
unfolding a_name
name_good m kind d = post_any (or_refuse m (as_str d)) _ _ (λ s. post_if (is_name kind s) s _ _ (λ h. h))

name_at : (c : Bool) (m : Member) (kind : NameKind) (d : Data) →
    Post (if c then Ok None else some (a_name m kind d)) (λ o. IsTrue (option_map_or (is_name kind) o true))
name_at true m kind d = refl
name_at false m kind d = post_some (a_name m kind d) (λ s. IsTrue (is_name kind s)) _ (λ s h. h) (name_good m kind d)

pub name_if_any_good : (m : Member) (kind : NameKind) (d : Data) → Post (name_if_any m kind d) (λ o. IsTrue (option_map_or (is_name kind) o true))
unfolding name_if_any
name_if_any_good m kind d = post_any (a_text m d) _ _ (λ s. name_at (length s == 0) m kind d)

pub number_good : (m : Member) (low high : ℕ) (d : Data) → Post (a_number m low high d) (λ n. IsTrue (is_between low high n))
unfolding a_number
number_good m low high d = post_any (or_refuse m (option_and_then as_u64 (as_number d))) _ _
    (λ n. post_if (nat_le low n && nat_le n high) n _ _ (λ h. h))

-- ---- lists

pub each_good : {A : Type 0} (read : List A → Data → Read A) (P : List A → Type 0) (done : List A) (ds : Items) →
    ((before : List A) (d : Data) → P before → Post (read before d) (λ x. P (before ++ x ∷ []))) → P done → Post (each read done ds) P
unfolding each
each_good read P done no_items step h = h
each_good read P done (item d ds) step h = post_then (read done d) _ P (step done d h) (λ x k. each_good read P (done ++ x ∷ []) ds step k)

pub each_length : {A : Type 0} (read : List A → Data → Read A) (done : List A) (ds : Items) →
    Post (each read done ds) (λ xs. length xs ≡ length done + items_len ds)
unfolding each
each_length read done no_items = omega arith
each_length read done (item d ds) =
    post_any (read done d) _ _ (λ x. post_map (each read (done ++ x ∷ []) ds) (λ xs. length xs ≡ length (done ++ x ∷ []) + items_len ds) _
    (λ xs e. omega (arith, e, length-append done (x ∷ []))) (each_length read (done ++ x ∷ []) ds))

pub list_good : (m : Member) (low high : ℕ) (d : Data) → Post (a_list m low high d) (λ ds. IsTrue (is_between low high (items_len ds)))
unfolding a_list
list_good m low high d = post_any (or_refuse m (as_array d)) _ _
    (λ ds. post_if (nat_le low (items_len ds) && nat_le (items_len ds) high) ds _ _ (λ h. h))

-- of a list of so many items, each of which keeps what holds of those before it
pub list_of_good : {A : Type 0} (m : Member) (low high : ℕ) (read : List A → Data → Read A) (P : List A → Type 0) (d : Data) →
    ((before : List A) (v : Data) → P before → Post (read before v) (λ x. P (before ++ x ∷ []))) → P [] →
    Post (a_list m low high d >>= λ ds. each read [] ds) (λ xs. P xs × IsTrue (is_between low high (length xs)))
list_of_good {A = A} m low high read P d step none =
    post_then (a_list m low high d) _ _ (list_good m low high d) (λ ds fits.
    post_map (each read [] ds) (λ xs. P xs × (length xs ≡ 0 + items_len ds)) _ (λ xs k. (k.0, subst (λ n. IsTrue (is_between low high n)) (so xs ds k.1) fits))
    (post_both (each read [] ds) P (λ xs. length xs ≡ 0 + items_len ds) (each_good read P [] ds step none) (each_length read [] ds)))
  where
    so : (xs : List A) (ds : Items) → length xs ≡ 0 + items_len ds → items_len ds ≡ length xs
    so xs ds e = omega (arith, e)
