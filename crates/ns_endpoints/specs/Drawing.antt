-- What is drawn for a new token.
use Rattle.std.specs.Prelude.{◌≡◌, ℕ, List, length, Result, IfOk}
use Rattle.uuid.specs.declared.Variant.TheVariants as Variant
use Rattle.uuid.specs.declared.Version.TheVariants as Version
use Rattle.uuid.specs.Parts.{with_variant, with_version}
use Rattle.uuid.specs.Text.{hyphenated_text, lower}
use Rattle.ns_types.specs.declared.step.AdminCommand.TheVariants as AdminCommand
use Rattle.ns_types.specs.declared.step.NewToken.{NewToken}
use Rattle.ns_types.specs.declared.step.Step.{Step}
use Rattle.ns_types.specs.State.Names.{Name}

-- the text of the UUID of version 4 whose 122 other bits are as drawn, in lower case with hyphens
-- RFC 9562, section 5.4.
abbrev pub random_id : List ℕ → Name
random_id bytes = hyphenated_text lower (with_version (with_variant bytes Variant.RFC4122) Version.Random)

-- two draws of 128 bits, one after the other
pub record DrawsTwo {D : Type 0} (draws : D → List ℕ → D → Type 0) (old : D) (first second : List ℕ) (new : D)
    : Type 0 where
  pub between : D
  pub first_length : length first ≡ 16
  pub second_length : length second ≡ 16
  pub draws_first : draws old first between
  pub draws_second : draws between second new

abbrev pub with_texts : Name → Name → NewToken → NewToken
with_texts accessor secret token = record token { accessor = accessor; secret = secret }

-- the step that is made for the requested one: a new token gets its accessor from the first draw and its secret from the
-- second, and any other step stays as it is, with nothing drawn
abbrev pub DrawsFor : {D : Type 0} → (D → List ℕ → D → Type 0) → Step → D → Step → D → Type 0
DrawsFor draws (Step.Admin bearer (AdminCommand.CreateToken token)) old made new =
    (first : List ℕ) × (second : List ℕ) × DrawsTwo draws old first second new ×
    (made ≡ Step.Admin bearer (AdminCommand.CreateToken (with_texts (random_id first) (random_id second) token)))
DrawsFor draws step old made new = (made ≡ step) × (new ≡ old)

-- the result is the step that is made, or there was no memory for it; the draws are used up either way
abbrev pub GivesDrawn : {D E : Type 0} → (D → List ℕ → D → Type 0) → Step → D → Result Step E → D → Type 0
GivesDrawn draws wanted old drawn new =
    (made : Step) × DrawsFor draws wanted old made new × IfOk drawn (λ step. step ≡ made)
