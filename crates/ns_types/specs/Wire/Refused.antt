-- Refusals as they are sent: their statuses and texts (RFC 9110, section 15).
use Rattle.std.specs.Prelude.{ℕ, [], ◌++◌, None, codes}
use Rattle.ns_types.specs.declared.refusal.Member.{Member}
use Rattle.ns_types.specs.declared.refusal.Refusal.{Refusal}
use Rattle.ns_types.specs.declared.reply.Rendered.{Rendered}
use Rattle.ns_types.specs.Wire.Member.{member_name}
use Rattle.ns_types.specs.State.Names.{Name}

abbrev pub field_text : Member → Name
field_text m = codes "bad field: " ++ member_name m

abbrev pub refusal_status : Refusal → ℕ
refusal_status Refusal.BadHead = 400
refusal_status Refusal.BadJson = 400
refusal_status Refusal.Denied = 403
refusal_status Refusal.NotFound = 404
refusal_status Refusal.BadMethod = 405
refusal_status Refusal.Conflict = 409
refusal_status (Refusal.BadField m) = 400
refusal_status Refusal.PoolNotPermitted = 400
refusal_status Refusal.InUse = 400
refusal_status Refusal.Full = 400
refusal_status Refusal.NeedLength = 411
refusal_status Refusal.TooLarge = 413
refusal_status Refusal.NotServed = 501
refusal_status Refusal.Memory = 503
refusal_status Refusal.LogFull = 503
-- these two are never sent
refusal_status Refusal.NotEnabled = 0
refusal_status Refusal.Foreign = 0

abbrev pub refusal_text : Refusal → Name
refusal_text Refusal.BadHead = codes "bad request"
refusal_text Refusal.BadJson = codes "bad json"
refusal_text Refusal.Denied = codes "Permission denied"
refusal_text Refusal.NotFound = codes "not found"
refusal_text Refusal.BadMethod = codes "method not allowed"
refusal_text Refusal.Conflict = codes "conflict"
refusal_text (Refusal.BadField m) = field_text m
refusal_text Refusal.PoolNotPermitted = codes "node pool not permitted"
refusal_text Refusal.InUse = codes "in use"
refusal_text Refusal.Full = codes "full"
refusal_text Refusal.NeedLength = codes "length required"
refusal_text Refusal.TooLarge = codes "too large"
refusal_text Refusal.NotServed = codes "not served"
refusal_text Refusal.Memory = codes "out of memory"
refusal_text Refusal.LogFull = codes "log full"
refusal_text Refusal.NotEnabled = []
refusal_text Refusal.Foreign = []

-- a refusal shows no index
abbrev pub refused : Refusal → Rendered
refused refusal = record { status = refusal_status refusal; index = None; body = refusal_text refusal }
