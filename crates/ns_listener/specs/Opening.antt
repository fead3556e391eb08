-- How a server begins: by which secret it is opened, and what it prints before it serves.
use Rattle.std.specs.Prelude.{◌≡◌, ℕ, List, [], ◌++◌, Option, Some, None, codes, decimal, length}
use Rattle.std.specs.Net.Text.{socket_text}
use Rattle.std.specs.declared.net.socket_addr.SocketAddr.{SocketAddr}
use Rattle.ns_types.specs.State.Names.{Name}
use Rattle.ns_types.specs.Steps.{opening}
use Rattle.ns_work_log.specs.Logs.{History}
use Rattle.ns_endpoints.specs.Drawing.{random_id}
use Rattle.ns_listener.specs.declared.service.Service.{Service}

-- ---- the secret of the first management token

-- the secret is made of 128 bits that were drawn
abbrev pub IsDrawn : {D : Type 0} → (D → List ℕ → D → Type 0) → D → D → Name → Type 0
IsDrawn draws old new secret =
    (bits : List ℕ) × (length bits ≡ 16) × draws old bits new × (secret ≡ random_id bits)

-- the secret is the one that was given; where none was given, it was drawn
abbrev pub IsSecret : {D : Type 0} → (D → List ℕ → D → Type 0) → Option Name → D → Name → Type 0
IsSecret draws (Some given) drawer secret = secret ≡ given
IsSecret {D} draws None drawer secret = (new : D) × IsDrawn draws drawer new secret

-- ---- the server

-- a new server that this secret opens, with an empty log of at most `limit` entries
abbrev pub begun_by : Name → ℕ → History
begun_by secret limit =
    record { base = opening secret; start = 0; log = []; state = opening secret; limit = limit }

-- ---- the first lines on standard error

abbrev pub listening_line : SocketAddr → List ℕ
listening_line address = codes "listening " ++ socket_text address ++ codes "\n"

abbrev pub bootstrap_line : Name → List ℕ
bootstrap_line secret = codes "bootstrap " ++ secret ++ codes "\n"

-- the line that says that the log takes at most `limit` entries
abbrev pub limit_line : ℕ → List ℕ
limit_line limit = codes "log limit " ++ decimal limit
    ++ codes ": after so many entries each request is answered 503, unless --rotate is given\n"

-- the line of the secret, if the secret was drawn
abbrev pub secret_lines : Option Name → Name → List ℕ
secret_lines (Some given) secret = []
secret_lines None secret = bootstrap_line secret

-- the line of the log's limit, if the server neither ends after some connections nor rotates its log
abbrev pub limit_lines : Option ℕ → Option ℕ → ℕ → List ℕ
limit_lines None None limit = limit_line limit
limit_lines _ _ limit = []

-- the opening lines: where the server listens; the secret, if it was drawn; and the log's limit, if the server neither ends
-- after some connections nor rotates its log
abbrev pub opening_lines : Service → SocketAddr → Name → List ℕ
opening_lines service address secret = listening_line address ++ secret_lines service.bootstrap secret
    ++ limit_lines service.accept service.rotate service.log_limit
