-- What serving a connection did.
use Rattle.std.specs.Prelude.{List}
use Rattle.ns_types.specs.declared.reply.Rendered.{Rendered}
use Rattle.ns_types.specs.Wire.Http.{Asked, End}
use Rattle.ns_types.specs.Wire.Responses.{Exchange}
use Rattle.ns_http.specs.Conversation.{Conversation, CutShort, Streams}
use Rattle.ns_api.specs.declared.answering.Api.{Api}
use Rattle.ns_api.specs.Answering.{Holding}

-- what takes the steps, and the source of random bits
abbrev pub held : {S D F : Type 0} → Api S D F → S × D
held api = (api.taker, api.router.draws)

-- what takes the steps, the source of random bits, and the follower
abbrev pub holding : {S D F : Type 0} → Api S D F → Holding S D F
holding api = record { taker = api.taker; draws = api.router.draws; follower = api.follower }

-- `answers` is how one request is answered, and `makes` is what all requests made
module _ {S : Type 0} (answers : S → Asked → Rendered → S → Type 0) (makes : S → List Exchange → S → Type 0) where
  -- the bytes of the connection, and what its requests made
  pub record Served (old new : S) (streams : Streams) (end : End) : Type 0 where
    pub conversation : Conversation answers old new streams end
    pub made : makes old conversation.exchanges new

  -- the bytes of a connection whose writer failed, and what its requests made
  pub record ServedInPart (old new : S) (streams : Streams) : Type 0 where
    pub conversation : CutShort answers old new streams
    pub made : makes old conversation.exchanges new
