-- What always holds of an end.
use Rattle.std.specs.Prelude.{◌≡◌, ◌≤◌, ◌+◌, List, length}
use Rattle.enumerables.specs.declared.sequence.Sequence.{Sequence}
use Rattle.message_body.specs.Written.{encoder}
use Rattle.message_framing.specs.Unread.{Unread}
use Rattle.sequence_limits.specs.Fitting.{PagesFit}
use Rattle.rpc_end.specs.declared.terms.Terms.{Terms}
use Rattle.rpc_end.specs.Replies.{most_fed}

-- its reader reads by its framing, and was fed all that the end was; each page that is to come can be written
pub record IsSound (terms : Terms) (producer : List Sequence) (reader : Unread) : Type 0 where
  pub framing : reader.framing ≡ terms.framing
  pub fed_all : reader.fed ≡ reader.at + length reader.rest
  pub fed_within : reader.fed ≤ most_fed
  pub pages : PagesFit (encoder terms.encoding) producer
