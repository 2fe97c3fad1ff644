-- How long the texts of messages are that an end says.
use Rattle.std.specs.Prelude.{nat_lt, false, codes}
use Rattle.std.proofs.Common.{◌≡◌, ℕ, ◌-◌, ◌≤◌, List, [], ◌∷◌, ◌++◌, length, decimal, arith, length-append, append-nil}
use Rattle.std.proofs.lemmas.Bool.{ltb-false}
use Rattle.std.proofs.lemmas.Fmt.{length-decimal-le}
use Rattle.message_framing.specs.declared.framing.Framing.{Framing}
use Rattle.message_framing.specs.declared.framing.Framing.TheVariants as framing
use Rattle.message_framing.specs.Lines.{line_end}
use Rattle.message_framing.specs.Wrapped.{head_text}
use Rattle.message_body.specs.Written.{body_text, encoder}
use Rattle.rpc_items.specs.declared.messages.Message.{Message}
use Rattle.rpc_items.specs.Bodies.{Encoder, most_body}
use Rattle.rpc_items.specs.Writing.{message_value}
use Rattle.rpc_end.specs.declared.terms.Terms.{Terms}
use Rattle.rpc_end.specs.Texts.{message_text, message_texts}
use Rattle.endpoint_items.specs.Calls.{most_text}

-- a head is no longer than what a text may have beside its body
head_short : (f : Framing) (n : ℕ) → n ≤ most_body → length (head_text f n) ≤ most_text - most_body
unfolding head_text
head_short framing.Header n most =
    omega (arith, length-append (codes "Content-Length: ") (decimal n ++ (line_end ++ line_end)), length-append (decimal n) (line_end ++ line_end), length-decimal-le 8 n (omega arith) (omega arith) (omega arith))
head_short framing.Length n most = omega arith

-- each of these messages has a body that isn't too long
abbrev pub AreShort : Encoder → List Message → Type 0
AreShort k [] = Unit {0}
AreShort k (m ∷ ms) = (nat_lt most_body (k.size (message_value m)) ≡ false) × AreShort k ms

text_short : (terms : Terms) (m : Message) → length (body_text terms.encoding m) ≤ most_body → length (message_text terms m) ≤ most_text
text_short terms m h =
    let body = body_text terms.encoding m in
    omega (arith, length-append (head_text terms.framing (length body)) body, head_short terms.framing (length body) h)

-- one of them at most has room
pub texts_short : (terms : Terms) (ms : List Message) → length ms ≤ 1 → AreShort (encoder terms.encoding) ms → length (message_texts terms ms) ≤ most_text
texts_short terms [] one h = omega arith
texts_short terms (m ∷ []) one h = rw (append-nil (message_text terms m)) (text_short terms m (ltb-false most_body (length (body_text terms.encoding m)) h.0))
texts_short terms (m ∷ n ∷ ms) one h = absurd (omega (arith, one))
