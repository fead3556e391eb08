-- Names, texts and numbers that are written and read back.
use Rattle.std.proofs.Common.{◌≡◌, ℕ, ◌<◌, ◌≤◌, ◌==◌, length, true, false, ◌&&◌, nat_lt, nat_le, Option, Some, None, Ok, refl}
use Rattle.std.proofs.Common.{arith}
use Rattle.std.proofs.lemmas.Bool.{ltb-true, leb-true, le-leb, ne_eqb}
use Rattle.std.specs.Option.{option_map_or}
use Rattle.serde_json.specs.Data.{string}
use Rattle.ns_types.specs.declared.name.NameKind.{NameKind}
use Rattle.ns_types.specs.declared.refusal.Member.{Member}
use Rattle.ns_types.specs.State.Limits.{is_between, is_text}
use Rattle.ns_types.specs.State.Name.{is_name, is_name_byte, longest}
use Rattle.ns_types.specs.State.Names.{Name}
use Rattle.ns_types.proofs.Named.{first_of_both, second_of_both}
use Rattle.std.specs.List.{list_all}
use Rattle.ns_json.specs.Reading.{a_text, a_name, a_number}
use Rattle.ns_json.specs.Registration.{name_if_any}
use Rattle.ns_json.specs.Rendering.{number_of, text_or_empty}

pub text_back : (m : Member) (s : Name) → is_text s ≡ true → a_text m (string s) ≡ Ok s
unfolding a_text
text_back m s h = rw h refl

pub name_back : (m : Member) (kind : NameKind) (s : Name) → is_name kind s ≡ true → a_name m kind (string s) ≡ Ok s
unfolding a_name
name_back m kind s h = rw h refl

pub number_back : (m : Member) (low high n : ℕ) → is_between low high n ≡ true → a_number m low high (number_of n) ≡ Ok n
unfolding a_number
number_back m low high n h = rw h refl

short : (kind : NameKind) → longest kind ≤ 256
short NameKind.Namespace = omega arith
short NameKind.Policy = omega arith
short NameKind.Pool = omega arith
short NameKind.Quota = omega arith
short NameKind.Node = omega arith
short NameKind.Job = omega arith
short NameKind.Group = omega arith
short NameKind.Task = omega arith
short NameKind.Secret = omega arith

-- a name has between 1 and 256 bytes
name_length : (kind : NameKind) (s : Name) → is_name kind s ≡ true → (0 < length s) × (length s ≤ 256)
name_length kind s h =
    let lengths : (nat_lt 0 (length s) && nat_le (length s) (longest kind)) ≡ true =
    first_of_both (nat_lt 0 (length s) && nat_le (length s) (longest kind)) (list_all (is_name_byte kind) s) h in
    let low : 0 < length s = ltb-true 0 (length s) (first_of_both (nat_lt 0 (length s)) (nat_le (length s) (longest kind)) lengths) in
    let high : length s ≤ longest kind = leb-true (length s) (longest kind) (second_of_both (nat_lt 0 (length s)) (nat_le (length s) (longest kind)) lengths) in
    (low, omega (arith, short kind))

pub name_is_text : (kind : NameKind) (s : Name) → is_name kind s ≡ true → is_text s ≡ true
name_is_text kind s h = le-leb (length s) 256 (name_length kind s h).1

-- a name that may be absent
pub if_any_back : (m : Member) (kind : NameKind) (o : Option Name) → option_map_or (is_name kind) o true ≡ true →
    name_if_any m kind (text_or_empty o) ≡ Ok o
unfolding name_if_any a_text
if_any_back m kind None h = refl
if_any_back m kind (Some s) h =
    let fits : nat_le (length s) 256 ≡ true = name_is_text kind s h in
    let some : (length s == 0) ≡ false = ne_eqb (length s) 0 (λ e. omega (arith, (name_length kind s h).0)) in
    let back = name_back m kind s h in
    rw (fits, some, back) refl
