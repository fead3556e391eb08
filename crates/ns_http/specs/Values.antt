-- The values of one name, as the engine keeps them.
use Rattle.std.specs.Prelude.{◌≡◌, ℕ, List, [], ◌∷◌, Result, Ok, Err}
use Rattle.ns_types.specs.declared.reply.HeadFault.{HeadFault}
use Rattle.ns_types.specs.declared.reply.HeadFault.TheVariants.{BadHead, NeedLength}
use Rattle.ns_types.specs.Wire.Http.{length_of}
use Rattle.ns_http.specs.declared.header.HeaderValues.{HeaderValues}
use Rattle.ns_http.specs.declared.header.HeaderValues.TheVariants.{Absent, One, Several}

abbrev pub IsSummaryOf : HeaderValues → List (List ℕ) → Type 0
IsSummaryOf Absent values = values ≡ []
IsSummaryOf (One v) values = values ≡ v.now ∷ []
IsSummaryOf (Several v) values = (w : List ℕ) × (others : List (List ℕ)) × (values ≡ v.now ∷ w ∷ others)

-- the length of the body by `body_len_of`, from what is kept of the values
abbrev pub framing_of : HeaderValues → HeaderValues → Result ℕ HeadFault
framing_of Absent Absent = Ok 0
framing_of (One v) Absent = length_of v.now
framing_of (Several v) Absent = Err BadHead
framing_of Absent (One w) = Err NeedLength
framing_of (One v) (One w) = Err BadHead
framing_of (Several v) (One w) = Err BadHead
framing_of Absent (Several w) = Err NeedLength
framing_of (One v) (Several w) = Err BadHead
framing_of (Several v) (Several w) = Err BadHead
