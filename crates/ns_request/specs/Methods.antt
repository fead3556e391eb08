-- Methods.
use Rattle.std.specs.Prelude.{ℕ, Bool, ◌||◌, List, Option, Some, None, if◌then◌else◌, codes, bytes_eq}
use Rattle.ns_request.specs.declared.method.Method.{Method}
use Rattle.ns_request.specs.declared.method.Method.TheVariants.{Get, Write, Delete}
use Rattle.ns_request.specs.declared.method.Methods.{Methods}

-- `POST` and `PUT` are the same method; no path has another method than these four
abbrev pub method_of : List ℕ → Option Method
method_of name =
    if bytes_eq name (codes "GET") then Some Get
    else if bytes_eq name (codes "POST") || bytes_eq name (codes "PUT") then Some Write
    else if bytes_eq name (codes "DELETE") then Some Delete else None

abbrev pub has_method : Methods → Method → Bool
has_method methods Get = methods.get
has_method methods Write = methods.write
has_method methods Delete = methods.delete
