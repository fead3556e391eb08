-- Rules, and what a word adds to them.
use Rattle.std.specs.Prelude.{◌≡◌, ℕ, ◌==◌, ◌-◌, ◌&&◌, nat_lt, nat_le, List, length, take, slice_index, Bool, true}
use Rattle.std.specs.Prelude.{Result, Ok, Err, codes, if◌then◌else◌}
use Rattle.std.specs.List.{list_all}
use Rattle.std.specs.Str.{bytes_eq}
use Rattle.ns_types.specs.declared.name.NameKind.{NameKind}
use Rattle.ns_types.specs.State.Name.{is_name_byte}
use Rattle.ns_policy.specs.declared.fault.RuleFault.{RuleFault}
use Rattle.ns_policy.specs.declared.fault.RuleFault.TheVariants.{Syntax, Value, Memory}
use Rattle.ns_types.specs.declared.acl.RuleKind.{RuleKind}
use Rattle.ns_types.specs.declared.acl.RuleKind.TheVariants.{Namespace, Pool}
use Rattle.ns_types.specs.declared.acl.Grants.{Grants}
use Rattle.ns_types.specs.declared.acl.Pattern.{Pattern}

abbrev pub Read : Type 0 → Type 0
Read A = Result A RuleFault

infixl 10 ◌>>=◌
abbrev pub ◌>>=◌ : {A B : Type 0} → Read A → (A → Read B) → Read B
(Ok x) >>= f = f x
(Err e) >>= f = Err e

abbrev pub Fails : {Y : Type 0} → RuleFault → Read Y → Type 0
Fails Memory read = Unit {0}
Fails Syntax read = read ≡ Err Syntax
Fails Value read = read ≡ Err Value

abbrev pub Gives : {X Y : Type 0} → (X → Y) → Read X → Read Y → Type 0
Gives view (Ok x) read = read ≡ Ok (view x)
Gives view (Err e) read = Fails e read

abbrev pub same : {A : Type 0} → A → A
same x = x

abbrev pub name_kind : RuleKind → NameKind
name_kind Namespace = NameKind.Namespace
name_kind Pool = NameKind.Pool

-- what the word of a namespace's `policy` adds
abbrev pub namespace_policy : List ℕ → Grants → Read Grants
namespace_policy w g =
    if bytes_eq w (codes "deny") then Ok (record g { deny = true })
    else if bytes_eq w (codes "read") then Ok (record g { list_jobs = true; read_job = true })
    else if bytes_eq w (codes "write")
    then Ok (record g { list_jobs = true; read_job = true; submit_job = true; alloc_lifecycle = true })
    else if bytes_eq w (codes "scale") then Ok g
    else Err Value

-- what the word of a pool's `policy` adds
abbrev pub pool_policy : List ℕ → Grants → Read Grants
pool_policy w g =
    if bytes_eq w (codes "deny") then Ok (record g { deny = true })
    else if bytes_eq w (codes "read") then Ok (record g { read_pool = true })
    else if bytes_eq w (codes "write") then Ok (record g { read_pool = true; write_pool = true })
    else Err Value

unfoldable pub with_policy : RuleKind → List ℕ → Grants → Read Grants
with_policy kind w g = elim kind [ Namespace ↦ namespace_policy w g | Pool ↦ pool_policy w g ]

-- what a capability of a namespace adds; an unknown word adds nothing
abbrev pub namespace_capability : List ℕ → Grants → Grants
namespace_capability w g =
    if bytes_eq w (codes "deny") then record g { deny = true }
    else if bytes_eq w (codes "list-jobs") then record g { list_jobs = true }
    else if bytes_eq w (codes "read-job") then record g { read_job = true }
    else if bytes_eq w (codes "submit-job") then record g { submit_job = true }
    else if bytes_eq w (codes "alloc-lifecycle") then record g { alloc_lifecycle = true }
    else g

-- what a capability of a pool adds: as the same word of its `policy` does, and `delete` adds nothing
abbrev pub pool_capability : List ℕ → Grants → Read Grants
pool_capability w g = if bytes_eq w (codes "delete") then Ok g else pool_policy w g

unfoldable pub with_capability : RuleKind → List ℕ → Grants → Read Grants
with_capability kind w g = elim kind [ Namespace ↦ Ok (namespace_capability w g) | Pool ↦ pool_capability w g ]

abbrev pub star : ℕ
star = 42

abbrev pub ends_in_star : List ℕ → Bool
ends_in_star s = slice_index s (length s - 1) == star

-- the text before the star, or the whole text
abbrev pub pattern_text : List ℕ → List ℕ
pattern_text s = if ends_in_star s then take (length s - 1) s else s

-- a name, or the beginning of names and then a star
unfoldable pub pattern_of : RuleKind → List ℕ → Read Pattern
pattern_of kind s =
    if nat_lt 0 (length s) && nat_le (length s) 128 && list_all (is_name_byte (name_kind kind)) (pattern_text s)
    then Ok (record { text = pattern_text s; is_prefix = ends_in_star s }) else Err Value
