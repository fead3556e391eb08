-- What calls return, by what they call.
use Rattle.std.proofs.Common.{◌≡◌, ℕ, ◌<◌, ◌≤◌, [], ◌∷◌, length, true, ◌&&◌, nat_lt, nat_le, nat_cmp, Option, Some, None, Result, Ok, Err, IfOk}
use Rattle.std.proofs.Common.{Ordering, Less, Equal, Greater, sym, subst, arith}
use Rattle.std.proofs.lemmas.Bool.{ltb-true}
use Rattle.std.proofs.lemmas.Option.{none-some, same_Some}
use Rattle.std.proofs.lemmas.Str.{IsUtf8-from_ascii}
use Rattle.std.proofs.lemmas.Str.Ascii.{IsAscii-nil, IsAscii-cons}
use Rattle.std.specs.Cmp.Lexicographic.{slice_cmp}
use Rattle.std.specs.List.{list_all}
use Rattle.std.specs.Ordering.{match_ordering}
use Rattle.std.specs.Str.{IsAscii}
use Rattle.std.specs.Prelude.{IsUtf8}
use Rattle.serde_json.specs.Data.{Data, null, boolean, number, string, array, object, Members, no_members, member, depth, members_depth}
use Rattle.serde_json.specs.Find.{get, get_member}
use Rattle.serde_json.specs.Read.{read}
use Rattle.serde_json.specs.declared.value.Value.{Value}
use Rattle.ns_types.specs.declared.name.NameKind.TheVariants as NameKind
use Rattle.ns_types.specs.State.Name.{is_name, is_name_byte, is_printable, longest}
use Rattle.ns_types.specs.State.Names.{Name}
use Rattle.ns_types.proofs.Named.{first_of_both, second_of_both}
use Rattle.ns_log_reader.specs.declared.fault.LineFault.{LineFault}
use Rattle.ns_log_reader.specs.declared.fault.LineFault.TheVariants.{Bad, Memory}
use Rattle.ns_log_reader.specs.Reading.{ReadsBack}
use Rattle.ns_log_reader.proofs.Lines.{none_back}

pub always : {A E : Type 0} (r : Result A E) (P : Type 0) → P → IfOk r (λ _. P)
always (Ok x) P p = p
always (Err e) P p = tt

-- a line whose value was not read
pub err_back : (line : Name) (e : LineFault) (r : Result Value LineFault) → r ≡ Err e → (r ≡ Err Bad → IsUtf8 line → read line ≡ None) → ReadsBack line (Err e)
err_back line Bad r is none = none_back line (none is)
err_back line Memory r is none = λ e w text. tt

-- ---- members

depth-by_order : (o : Ordering) (a b c : Option Data) (e : Data) (n : ℕ) → (Some e ≡ a → depth e ≤ n) → (Some e ≡ b → depth e ≤ n)
    → (Some e ≡ c → depth e ≤ n) →
    Some e ≡ match_ordering o a b c → depth e ≤ n
depth-by_order Less a b c e n f g h is = f is
depth-by_order Equal a b c e n f g h is = g is
depth-by_order Greater a b c e n f g h is = h is

here : (d e : Data) → ◌≡◌ {A = Option Data} (Some e) (Some d) → depth e ≤ depth d
here d e is = let same : e ≡ d = same_Some e d is in subst (λ x. depth x ≤ depth d) (sym same) (omega arith)

member_depth : (name : Name) (ms : Members) (e : Data) → Some e ≡ get_member name ms → depth e ≤ members_depth ms
member_depth name no_members e is = absurd (none-some e (sym is))
member_depth name (member k d ms) e is =
    depth-by_order (slice_cmp nat_cmp name k) (get_member name ms) (Some d) (get_member name ms) e (members_depth (member k d ms))
    (λ later. let le = member_depth name ms e later in omega arith) (λ first. let le = here d e first in omega arith)
    (λ later. let le = member_depth name ms e later in omega arith) is

-- a member nests less deep
pub member_within : (name : Name) (d e : Data) → Some e ≡ get name d → depth e < depth d
member_within name null e is = absurd (none-some e (sym is))
member_within name (boolean b) e is = absurd (none-some e (sym is))
member_within name (number n) e is = absurd (none-some e (sym is))
member_within name (string s) e is = absurd (none-some e (sym is))
member_within name (array ds) e is = absurd (none-some e (sym is))
member_within name (object ms) e is = let le = member_depth name ms e is in omega arith

-- ---- secrets

printable_ascii : (s : Name) → list_all is_printable s ≡ true → IsAscii s
printable_ascii [] h = IsAscii-nil
printable_ascii (b ∷ s) h =
    let here : is_printable b ≡ true = first_of_both (is_printable b) (list_all is_printable s) h in
    let low : b < 127 = ltb-true b 127 (second_of_both (nat_lt 32 b) (nat_lt b 127) here) in
    IsAscii-cons b s (omega arith) (printable_ascii s (second_of_both (is_printable b) (list_all is_printable s) h))

pub secret_utf8 : (s : Name) → is_name NameKind.Secret s ≡ true → IsUtf8 s
secret_utf8 s h =
    IsUtf8-from_ascii s (printable_ascii s (second_of_both (nat_lt 0 (length s) && nat_le (length s) (longest NameKind.Secret))
    (list_all (is_name_byte NameKind.Secret) s) h))
