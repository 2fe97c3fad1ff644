-- What is answered of the peer's handshake.
use Rattle.std.specs.Prelude.{◌≡◌, ◌≤◌, ℕ, List, length}
use Rattle.wire_base.specs.declared.place.Place.{Place}
use Rattle.wire_base.specs.declared.reason.Reason.{Reason}
use Rattle.mux_handshake.specs.Handshake.{Handshake, Whole, Short, Broken}
use Rattle.mux_handshake.specs.declared.shaken.Shaken.{Shaken}
use Rattle.mux_handshake.specs.declared.shaken.Shaken.TheVariants as shaken

-- the front breaks a rule at this place, where the first byte stands at 0
abbrev pub BreaksAt : Handshake → Place → Reason → Type 0
BreaksAt front place reason = front ≡ Broken place.0 reason

-- the answer is what stands at the front of these bytes
abbrev pub Shakes : Shaken → List ℕ → Handshake → Type 0
Shakes (shaken.Done party size) bytes front = (front ≡ Whole party size) × (size ≤ length bytes)
Shakes shaken.Short bytes front = front ≡ Short
Shakes (shaken.Refused place reason) bytes front = BreaksAt front place reason × (place.0 ≤ length bytes)
