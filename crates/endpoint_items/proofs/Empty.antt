-- Where there is no byte no message begins, and none is refused.
use Rattle.std.specs.Prelude.{true}
use Rattle.std.proofs.Common.{◌≡◌, ℕ, ◌<◌, List, [], ◌∷◌, length, refl, ap, arith}
use Rattle.wire_base.specs.declared.reason.Reason.{Reason}
use Rattle.message_framing.specs.declared.framing.Framing.{Framing}
use Rattle.message_framing.specs.declared.framing.Framing.TheVariants as framing
use Rattle.message_framing.specs.declared.front.Front.TheVariants as fronts
use Rattle.message_framing.specs.Front.{front}
use Rattle.message_framing.specs.Lines.{lines_of}
use Rattle.rpc_items.specs.Items.{RpcItem}
use Rattle.rpc_end.specs.Arrivals.{Refuses, front_arrival, arrival, is_whole_message, begins_message}
use Rattle.rpc_end.specs.declared.terms.Terms.{Terms}

empty_short : (f : Framing) → front f [] ≡ fronts.Short
unfolding front lines_of
empty_short framing.Header = refl
empty_short framing.Length = refl

pub refused_some : (terms : Terms) (items : List RpcItem) (at : ℕ) (rest : List ℕ) (place : ℕ) (reason : Reason) → arrival terms items at rest ≡ Refuses place reason → 0 < length rest
refused_some terms items at [] place reason e = cc (ap (front_arrival terms items at []) (empty_short terms.framing), e)
refused_some terms items at (b ∷ rest) place reason e = omega arith

pub begun_some : (terms : Terms) (rest : List ℕ) → begins_message terms rest ≡ true → 0 < length rest
begun_some terms [] e = cc (ap (is_whole_message terms.encoding []) (empty_short terms.framing), e)
begun_some terms (b ∷ rest) e = omega arith
