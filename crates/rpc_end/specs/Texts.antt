-- Messages as the bytes that are sent.
use Rattle.std.specs.Prelude.{ℕ, List, [], ◌∷◌, ◌++◌}
use Rattle.message_body.specs.Written.{body_text}
use Rattle.message_framing.specs.Wrapped.{wrapped}
use Rattle.rpc_items.specs.declared.messages.Message.{Message}
use Rattle.rpc_end.specs.declared.terms.Terms.{Terms}

-- a message with its head
abbrev pub message_text : Terms → Message → List ℕ
message_text terms message = wrapped terms.framing (body_text terms.encoding message)

-- messages, one behind the other
abbrev pub message_texts : Terms → List Message → List ℕ
message_texts terms [] = []
message_texts terms (message ∷ messages) = message_text terms message ++ message_texts terms messages
