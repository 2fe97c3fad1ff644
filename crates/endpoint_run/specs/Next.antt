-- What an end with connections applies next, of the bytes that it was given.
use Rattle.std.specs.Prelude.{ℕ, ◌+◌, ◌-◌, zero, suc, List, [], ◌∷◌, length, map, nat_le, if◌then◌else◌, Option, Some, None}
use Rattle.wire_base.specs.declared.frame.Version.{Version}
use Rattle.wire_base.specs.declared.reason.Reason.{Reason}
use Rattle.wire_base.specs.declared.state.Cause.TheVariants as cause
use Rattle.mux_items.specs.declared.channel.ChannelKey.{ChannelKey}
use Rattle.mux_items.specs.Bodies.{FrameBody, ChannelFrame, flip, frame_texts}
use Rattle.mux_items.specs.Items.{Item, is_running}
use Rattle.mux_items.specs.Items as mux
use Rattle.mux_items.specs.Due.{got}
use Rattle.mux_items.specs.Refusals.{is_ready, frame_refusal}
use Rattle.mux_items.specs.Applying.{item_of_frame, place_at}
use Rattle.mux_run.specs.Run.{RunSide, SideTerms, greeting_size, greet, next_frames, place_after}
use Rattle.endpoint_items.specs.Items.{EndItem, Mux, attached_keys}
use Rattle.endpoint_items.specs.Connections.{is_attached}
use Rattle.endpoint_items.specs.Layers.{mux_of, rpc_of}
use Rattle.endpoint_items.specs.Bytes.{rest_of}
use Rattle.endpoint_items.specs.Arriving.{either, next_message}

-- the item of a frame, by its refusal
abbrev pub item_by_refusal : Version → (place : ℕ) → ChannelKey → FrameBody → List Item → Option Reason → Item
item_by_refusal v place c body m None = item_of_frame v place c body m
item_by_refusal v place c body m (Some reason) = mux.End (cause.Refused (place_at place) reason)

-- the item of the peer's frame at this place
abbrev pub frame_item : Version → (place : ℕ) → ChannelFrame → List Item → Item
frame_item v place f m = item_by_refusal v place (flip f).key f.body m (frame_refusal v (flip f).key f.body m)

-- the item of the first of these frames
abbrev pub first_frame : Version → (place : ℕ) → List Item → List ChannelFrame → Option EndItem
first_frame v place m [] = None
first_frame v place m (f ∷ fs) = Some (Mux (frame_item v place f m))

-- the handshake or the next whole frame of the first so many bytes of y
abbrev pub next_of_peer : SideTerms → (given : ℕ) → List Item → RunSide → Option EndItem
next_of_peer w given m y =
    if is_ready w.version m then first_frame w.version (place_after w (length (got m)) y) m (next_frames w given (length (got m)) y)
    else if nat_le (greeting_size w) given then Some (Mux (greet w))
    else None

-- what a running end applies next: a message of a connection, or else the handshake or a frame
abbrev pub next_item : SideTerms → (given : ℕ) → RunSide → List EndItem → Option EndItem
next_item w given y items =
    if is_running (mux_of w.version items)
    then either (next_message w.version items) (next_of_peer w given (mux_of w.version items) y)
    else None

-- the items with what is next, where there is something
abbrev pub with_next : Option EndItem → List EndItem → (EndItem → List EndItem) → List EndItem
with_next (Some item) items more = more item
with_next None items more = items

-- an end's items after so many turns, each of which applies what is next
abbrev pub settled_in : SideTerms → (given : ℕ) → RunSide → (turns : ℕ) → List EndItem → List EndItem
settled_in w given y zero items = items
settled_in w given y (suc turns) items = with_next (next_item w given y items) items (λ item. settled_in w given y turns (item ∷ items))

-- how many of the peer's bytes the handshake and the applied frames are
abbrev pub applied_bytes : SideTerms → List Item → ℕ
applied_bytes w m = if is_ready w.version m then greeting_size w + length (frame_texts w.version (map flip (got m))) else 0

-- how many bytes of c weren't applied, while its connection goes on
abbrev pub pending : Version → ChannelKey → List EndItem → ℕ
pending v c items = if is_attached (rpc_of v c items) then length (rest_of v c items) else 0

-- and of these channels together
abbrev pub pending_on : Version → List EndItem → List ChannelKey → ℕ
pending_on v items [] = 0
pending_on v items (c ∷ cs) = pending v c items + pending_on v items cs

-- how many bytes a running end may still apply: those that it was given, and those that its connections read. Each turn
-- takes one at least, so that these are turns enough
abbrev pub bytes_left : SideTerms → (given : ℕ) → List EndItem → ℕ
bytes_left w given items =
    if is_running (mux_of w.version items)
    then (given - applied_bytes w (mux_of w.version items)) + pending_on w.version items (attached_keys items)
    else 0
