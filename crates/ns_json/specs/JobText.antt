-- The parts of a job's text.
use Rattle.std.specs.Prelude.{◌≡◌, ℕ, List, [], ◌∷◌, ◌++◌, Bool, true, false, codes, decimal}
use Rattle.std.specs.List.{flat_map}
use Rattle.json.specs.Print.{escape, quoted}
use Rattle.ns_types.specs.declared.reply.JobShown.{JobShown}
use Rattle.ns_types.specs.Wire.Words.{job_status_text}

-- the text was added behind what was there before
pub record Continues (old new text : List ℕ) : Type 0 where
  pub is : new ≡ old ++ text

-- the text of each, with commas between them
abbrev pub joined : {A : Type 0} → (A → List ℕ) → List A → List ℕ
joined text [] = []
joined text (x ∷ xs) = text x ++ flat_map (λ y. 44 ∷ text y) xs

abbrev pub numbered : List ℕ → ℕ → List ℕ
numbered before n = before ++ decimal n

abbrev pub texted : List ℕ → List ℕ → List ℕ
texted before text = before ++ quoted text

-- a text that ends with a quote, and another as it stands behind that quote, in a JSON string
abbrev pub spelled : List ℕ → List ℕ → List ℕ
spelled before text = before ++ escape text

abbrev pub stop_text : Bool → List ℕ
stop_text true = codes ",\"Stop\":true,\"TaskGroups\":["
stop_text false = codes ",\"Stop\":false,\"TaskGroups\":["

-- the members of a job between its constraints and its groups
unfoldable pub member_text : JobShown → List ℕ
member_text j =
    ((((((numbered (codes "],\"CreateIndex\":") j.row.create_index ++
    spelled (codes ",\"ID\":\"") j.id) ++
    numbered (codes "\",\"JobModifyIndex\":") j.row.modify_index) ++
    spelled (codes ",\"Namespace\":\"") j.namespace) ++
    spelled (codes "\",\"NodePool\":\"") j.row.document.pool) ++
    numbered (codes "\",\"Priority\":") j.row.document.priority) ++
    texted (codes ",\"Status\":") (job_status_text j.status)) ++
    stop_text j.row.stop
