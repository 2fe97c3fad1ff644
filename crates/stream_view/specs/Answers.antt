-- What is answered of a view.
use Rattle.std.specs.Prelude.{◌≡◌, ◌≤◌, ℕ, List, ◌++◌, length, Option, Some, None}
use Rattle.wire_base.specs.Appends.{AppendsFront}
use Rattle.wire_base.specs.declared.frame.Version.{Version}
use Rattle.wire_base.specs.declared.place.Place.{Place}
use Rattle.wire_base.specs.declared.reason.Reason.{Reason}
use Rattle.mux_items.specs.declared.party.Party.{Party}
use Rattle.mux_handshake.specs.Handshake.{Handshake, Whole, Short, Broken}
use Rattle.mux_handshake.specs.declared.shaken.Shaken.{Shaken}
use Rattle.mux_handshake.specs.declared.shaken.Shaken.TheVariants as shaken
use Rattle.stream_view.specs.View.{view_text, view_refusal}
use Rattle.stream_view.specs.declared.view.ViewEnd.{ViewEnd}
use Rattle.stream_view.specs.declared.view.ViewEnd.TheVariants as ends

-- a refusal by its place and reason
abbrev pub refusal_of : Option (Place × Reason) → Option (ℕ × Reason)
refusal_of None = None
refusal_of (Some x) = Some (x.0.0, x.1)

-- the answer is what stands at the front of these bytes, whichever party it would make an end
abbrev pub Greets : Shaken → List ℕ → Handshake → Type 0
Greets (shaken.Done party size) bytes front = ((p : Party) × (front ≡ Whole p size)) × (size ≤ length bytes)
Greets shaken.Short bytes front = front ≡ Short
Greets (shaken.Refused place reason) bytes front = front ≡ Broken place.0 reason

-- the view was appended, and the answer says where the bytes are refused; or memory ran out, and a front of the view was appended
abbrev pub Views : ViewEnd → Version → (bytes old new : List ℕ) → Type 0
Views ends.Whole v bytes old new = (view_refusal v bytes ≡ None) × (new ≡ old ++ view_text v bytes)
Views (ends.Refused place reason) v bytes old new = (view_refusal v bytes ≡ Some (place.0, reason)) × (new ≡ old ++ view_text v bytes)
Views ends.OutOfMemory v bytes old new = AppendsFront old new (view_text v bytes)
