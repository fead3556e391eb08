-- The bytes of names are text.
use Rattle.std.proofs.Common.{◌≡◌, ℕ, ◌<◌, List, true, IsUtf8, arith}
use Rattle.std.specs.List.{list_all}
use Rattle.std.proofs.lemmas.Bool.Decides.{nat_tests}
use Rattle.std.proofs.lemmas.List.Sums.{AllPass-from_list_all}
use Rattle.std.proofs.lemmas.Str.{IsUtf8-from_ascii}
use Rattle.std.proofs.lemmas.Str.Ascii.{IsAscii-from_all}
use Rattle.ns_types.specs.declared.name.NameKind.{NameKind}
use Rattle.ns_types.specs.State.Name.{is_name_byte}

name_byte_is_ascii : (kind : NameKind) (b : ℕ) → is_name_byte kind b ≡ true → b < 128
name_byte_is_ascii NameKind.Namespace b h = grind (arith, nat_tests)
name_byte_is_ascii NameKind.Policy b h = grind (arith, nat_tests)
name_byte_is_ascii NameKind.Pool b h = grind (arith, nat_tests)
name_byte_is_ascii NameKind.Quota b h = grind (arith, nat_tests)
name_byte_is_ascii NameKind.Node b h = grind (arith, nat_tests)
name_byte_is_ascii NameKind.Job b h = grind (arith, nat_tests)
name_byte_is_ascii NameKind.Group b h = grind (arith, nat_tests)
name_byte_is_ascii NameKind.Task b h = grind (arith, nat_tests)
name_byte_is_ascii NameKind.Secret b h = grind (arith, nat_tests)

pub names_are_utf8 : (kind : NameKind) (s : List ℕ) → list_all (is_name_byte kind) s ≡ true → IsUtf8 s
names_are_utf8 kind s h =
    let passes = AllPass-from_list_all (is_name_byte kind) s h in
    IsUtf8-from_ascii s (IsAscii-from_all s (λ k d lt. name_byte_is_ascii kind _ (passes k d lt)))
