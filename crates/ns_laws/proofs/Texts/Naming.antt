-- Which texts are names, by their characters.
use Rattle.std.specs.Prelude.{◌≡◌, ◌↔◌, ℕ, ◌≤◌, Bool, true, false, ◌&&◌, ◌||◌, ◌==◌, List, [], ◌∷◌, All, Contains, Decides}
use Rattle.std.specs.Prelude.{IsTrue, None, Some, bytes_eq, codes, if◌then◌else◌, length, nat_le, nat_lt, not}
use Rattle.std.specs.Cmp.Lexicographic.{bytes_decides}
use Rattle.std.specs.List.{list_all, list_any}
use Rattle.std.proofs.Common.{inl, inr, refl, sym, ap, subst, ◌∙◌, arith}
use Rattle.std.proofs.lemmas.Bool.{agree_below, agree_below_at, and_from, and_parts, cases_lt, false_from_ne_true, le-leb, leb-true, lt-ltb, ltb-true}
use Rattle.std.proofs.lemmas.Bool.{ne_eqb, not-true, not_from_false}
use Rattle.std.proofs.lemmas.Bool.Decides.{Decides-at, Decides-by_and, Decides-by_or, Decides-eqb, nat_tests}
use Rattle.std.proofs.lemmas.List.Elements.{Decides-contains}
use Rattle.ns_types.specs.declared.name.NameKind.{NameKind}
use Rattle.ns_types.specs.State.Name.{is_name, is_name_byte, longest}
use Rattle.ns_types.specs.State.Names.{Name, same_name}
use Rattle.ns_types.proofs.Lists.{not_both}
use Rattle.ns_types.proofs.Named.{same_name_is, same_name_refl}
use Rattle.ns_types.proofs.Tests.{not_Some, same_Some}
use Rattle.ns_laws.specs.Names as law
use Rattle.ns_laws.specs.Names.{IsMadeOf, IsOfPool, plain, plain_or_underscore, printable}

-- ---- a test of characters, as a list of those that pass

abbrev among : List ℕ → ℕ → Bool
among characters c = list_any (λ d. d == c) characters

abbrev are_ascii : List ℕ → Bool
are_ascii characters = list_all (λ d. nat_lt d 128) characters

beyond : (characters : List ℕ) (c : ℕ) → are_ascii characters ≡ true → 128 ≤ c → among characters c ≡ false
beyond [] c small over = refl
beyond (d ∷ rest) c small over =
    let parts = and_parts (nat_lt d 128) (are_ascii rest) small in
    let below = ltb-true d 128 parts.0 in
    ap (λ b. b || among rest c) (ne_eqb d c (λ e. omega (arith, e, below, over))) ∙ beyond rest c parts.1 over

-- a test passes exactly the characters of the list, if it does so below 128, and passes none from there on
passes_as : (test : ℕ → Bool) (characters : List ℕ) → agree_below test (among characters) 128 ≡ true → are_ascii characters ≡ true
    → ((c : ℕ) → 128 ≤ c → test c ≡ false) → (c : ℕ) → test c ≡ among characters c
passes_as test characters below small above c = elim (cases_lt c 128) [
  | inl lt ↦ agree_below_at test (among characters) 128 c below lt
  | inr over ↦ above c over ∙ sym (beyond characters c small over)
]

decides_among : (characters : List ℕ) (c : ℕ) → Decides (among characters c) (Contains characters c)
decides_among characters c = Decides-contains characters c (among characters c)
    (Decides-by_or (λ d. d == c) (λ d. d ≡ c) (list_any (λ d. d == c)) (λ d. Decides-eqb d c) refl (λ _ _. refl) characters)

-- ---- the characters of each kind of name

plain_beyond : (c : ℕ) → 128 ≤ c → is_name_byte NameKind.Namespace c ≡ false
plain_beyond c over = grind (arith, nat_tests)

plain_is : (c : ℕ) → is_name_byte NameKind.Namespace c ≡ among plain c
plain_is c = passes_as (is_name_byte NameKind.Namespace) plain refl refl plain_beyond c

pool_beyond : (c : ℕ) → 128 ≤ c → is_name_byte NameKind.Pool c ≡ false
pool_beyond c over = grind (arith, nat_tests)

pool_is : (c : ℕ) → is_name_byte NameKind.Pool c ≡ among plain_or_underscore c
pool_is c = passes_as (is_name_byte NameKind.Pool) plain_or_underscore refl refl pool_beyond c

printable_beyond : (c : ℕ) → 128 ≤ c → is_name_byte NameKind.Job c ≡ false
printable_beyond c over = grind (arith, nat_tests)

printable_is : (c : ℕ) → is_name_byte NameKind.Job c ≡ among printable c
printable_is c = passes_as (is_name_byte NameKind.Job) printable refl refl printable_beyond c

-- ---- texts of such characters

module _ (kind : NameKind) (characters : List ℕ) (same : (c : ℕ) → is_name_byte kind c ≡ among characters c) where
  each_is : (text : Name) → Decides (list_all (is_name_byte kind) text) (All (Contains characters) text)
  each_is text = Decides-by_and (is_name_byte kind) (Contains characters) (list_all (is_name_byte kind))
      (λ c. Decides-at (is_name_byte kind c) (among characters c) (same c) (decides_among characters c)) refl (λ _ _. refl) text

  is_made_of : (text : Name) → is_name kind text ≡ true → IsMadeOf characters (longest kind) text
  is_made_of text e =
      let parts = and_parts (nat_lt 0 (length text) && nat_le (length text) (longest kind)) (list_all (is_name_byte kind) text) e in
      let long = and_parts (nat_lt 0 (length text)) (nat_le (length text) (longest kind)) parts.0 in
      let some = ltb-true 0 (length text) long.0 in
      record { some = omega (arith, some); few = leb-true (length text) (longest kind) long.1; each = (each_is text).0 parts.1 }

  name_of : (text : Name) → IsMadeOf characters (longest kind) text → is_name kind text ≡ true
  name_of text made =
      let some = made.some in
      and_from (nat_lt 0 (length text) && nat_le (length text) (longest kind)) (list_all (is_name_byte kind) text)
      (and_from (nat_lt 0 (length text)) (nat_le (length text) (longest kind)) (lt-ltb 0 (length text) (omega (arith, some)))
      (le-leb (length text) (longest kind) made.few))
      ((each_is text).1 made.each)

  named : (text : Name) → IsTrue (is_name kind text) ↔ IsMadeOf characters (longest kind) text
  named text = (is_made_of text, name_of text)

pub policy_name : (text : Name) → IsTrue (is_name NameKind.Policy text) ↔ IsMadeOf plain 128 text
policy_name text = named NameKind.Policy plain plain_is text

pub namespace_name : (text : Name) → IsTrue (is_name NameKind.Namespace text) ↔ IsMadeOf plain 128 text
namespace_name text = named NameKind.Namespace plain plain_is text

pub quota_name : (text : Name) → IsTrue (is_name NameKind.Quota text) ↔ IsMadeOf plain_or_underscore 128 text
quota_name text = named NameKind.Quota plain_or_underscore pool_is text

pub node_name : (text : Name) → IsTrue (is_name NameKind.Node text) ↔ IsMadeOf plain_or_underscore 128 text
node_name text = named NameKind.Node plain_or_underscore pool_is text

pub job_name : (text : Name) → IsTrue (is_name NameKind.Job text) ↔ IsMadeOf printable 128 text
job_name text = named NameKind.Job printable printable_is text

pub group_name : (text : Name) → IsTrue (is_name NameKind.Group text) ↔ IsMadeOf printable 128 text
group_name text = named NameKind.Group printable printable_is text

pub task_name : (text : Name) → IsTrue (is_name NameKind.Task text) ↔ IsMadeOf printable 128 text
task_name text = named NameKind.Task printable printable_is text

-- ---- the laws

pub names_of_namespaces : law.NamesOfNamespaces
names_of_namespaces text = (namespace_name text, policy_name text)

pub names_of_nodes : law.NamesOfNodes
names_of_nodes text = (quota_name text, node_name text)

pub names_of_pools : law.NamesOfPools
names_of_pools text = (to, from)
  where
    to : (is_name NameKind.Pool text && not (bytes_eq text (codes "all"))) ≡ true → IsOfPool text
    to e =
        let parts = and_parts (is_name NameKind.Pool text) (not (bytes_eq text (codes "all"))) e in
        record {
          other = λ same. not_both ((bytes_decides text (codes "all")).1 same) (not-true (bytes_eq text (codes "all")) parts.1);
          made_of = is_made_of NameKind.Pool plain_or_underscore pool_is text parts.0;
        }

    from : IsOfPool text → (is_name NameKind.Pool text && not (bytes_eq text (codes "all"))) ≡ true
    from of_pool = and_from (is_name NameKind.Pool text) (not (bytes_eq text (codes "all")))
        (name_of NameKind.Pool plain_or_underscore pool_is text of_pool.made_of)
        (not_from_false (bytes_eq text (codes "all"))
        (false_from_ne_true (bytes_eq text (codes "all")) (λ e. of_pool.other ((bytes_decides text (codes "all")).0 e))))

pub names_of_jobs : law.NamesOfJobs
names_of_jobs text = (job_name text, group_name text, task_name text)

pub texts_of_secrets : law.TextsOfSecrets
texts_of_secrets text = named NameKind.Secret printable printable_is text

read : (b : Bool) (text name : Name) → ((if b then Some text else None) ≡ Some name) ↔ ((b ≡ true) × (name ≡ text))
read true text name = ((λ e. (refl, same_Some name text (sym e))), (λ is. ap Some (sym is.1)))
read false text name = ((λ e. absurd (not_Some name e)), (λ is. not_both is.0 refl))

pub names_are_read : law.NamesAreRead
names_are_read kind text name = read (is_name kind text) text name

pub same_names : law.SameNames
same_names a b = (same_name_is a b, λ e. subst (λ c. same_name a c ≡ true) e (same_name_refl a))
