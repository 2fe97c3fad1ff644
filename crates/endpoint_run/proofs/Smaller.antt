-- Each item that an end applies takes a byte at least.
use Rattle.std.specs.Prelude.{if◌then◌else◌, not, Bool, true, false}
use Rattle.std.specs.Str.{bytes_eq}
use Rattle.std.proofs.Common.{◌≡◌, ℕ, ◌+◌, ◌-◌, ◌<◌, ◌≤◌, List, [], ◌∷◌, length, refl, sym, ◌∙◌, ap, subst, arith, Some, None}
use Rattle.std.proofs.lemmas.Bool.{and_parts}
use Rattle.wire_base.specs.declared.frame.Version.{Version}
use Rattle.wire_base.specs.declared.reason.Reason.{Reason}
use Rattle.wire_base.specs.declared.reason.Reason.TheVariants as reason
use Rattle.wire_base.specs.declared.state.Cause.{Cause}
use Rattle.wire_base.specs.declared.state.Cause.TheVariants as cause
use Rattle.mux_items.specs.declared.call.Call.{Call}
use Rattle.mux_items.specs.declared.call.Call.TheVariants as call
use Rattle.mux_items.specs.declared.channel.ChannelKey.{ChannelKey}
use Rattle.mux_items.specs.Applying.{place_at}
use Rattle.mux_items.specs.Bodies.{ChannelFrame, frame_text}
use Rattle.mux_items.specs.Due.{got}
use Rattle.mux_items.specs.Items.{Item, Hello, End, is_running}
use Rattle.mux_items.specs.Parties.{party_by}
use Rattle.mux_items.specs.Refusals.{is_ready}
use Rattle.mux_items.specs.Views.{in_order}
use Rattle.mux_run.specs.Between.{ahead}
use Rattle.mux_run.specs.Run.{RunSide, SideTerms, greeting_size, next_frames, greet, place_after}
use Rattle.mux_run.specs.Linked.{Joined}
use Rattle.rpc_items.specs.declared.messages.Message.{Message}
use Rattle.rpc_items.specs.Items as rpc
use Rattle.rpc_items.specs.Saying.{said}
use Rattle.rpc_end.specs.Arrivals.{Arrival, Applies, Waits, Refuses}
use Rattle.endpoint_items.specs.Items.{EndItem, Mux, GotMessage, RefusedMessage, terms_of, attached_keys}
use Rattle.endpoint_items.specs.Connections.{is_attached, items_of}
use Rattle.endpoint_items.specs.Following.{follow_ups, write_said}
use Rattle.endpoint_items.specs.Layers.{mux_of, rpc_of}
use Rattle.endpoint_items.specs.Bytes.{consumed, rest_of}
use Rattle.endpoint_items.specs.Calls.{is_spent_on}
use Rattle.endpoint_items.specs.Arriving.{has_message, lacks_room, arrival_on, item_of_arrival, message_on, first_message}
use Rattle.endpoint_items.specs.Allowed.{AreAllowed}
use Rattle.endpoint_items.proofs.AttachedKeys.{going_has}
use Rattle.endpoint_items.proofs.Empty.{refused_some, begun_some}
use Rattle.endpoint_items.proofs.Lying.{message_lies}
use Rattle.endpoint_run.specs.Next.{frame_item, next_of_peer, next_item, applied_bytes, pending_on, bytes_left}
use Rattle.endpoint_run.proofs.Boundary.{run_side, AtBoundary, at_ready, at_start, greeting_bytes}
use Rattle.endpoint_run.proofs.Delivering.{frame_boundary, greet_boundary}
use Rattle.endpoint_run.proofs.Heard.{frame_item_is, next_is}
use Rattle.endpoint_run.proofs.Turns.{IfItem, either_if, peer_if, next_if}
use Rattle.endpoint_run.proofs.Applied.{followed_applied, followed_running}
use Rattle.endpoint_run.proofs.Shorter.{content_size, frame_shorter}
use Rattle.endpoint_run.proofs.Pending.{pending_is, some_pending, left_message, left_refused, left_mux}

-- less is left with an item
abbrev pub IsSmaller : SideTerms → (given : ℕ) → List EndItem → EndItem → Type 0
IsSmaller w given items item = bytes_left w given (item ∷ items) < bytes_left w given items

-- what was given and not applied, and what connections read and didn't apply
abbrev both_left : SideTerms → (given : ℕ) → List EndItem → ℕ
both_left w given items = (given - applied_bytes w (mux_of w.version items)) + pending_on w.version items (attached_keys items)

left_running : (w : SideTerms) (given : ℕ) (items : List EndItem) → is_running (mux_of w.version items) ≡ true → bytes_left w given items ≡ both_left w given items
left_running w given items e = ap (λ b. if b then both_left w given items else 0) e

left_stopped : (w : SideTerms) (given : ℕ) (items : List EndItem) → is_running (mux_of w.version items) ≡ false → bytes_left w given items ≡ 0
left_stopped w given items e = ap (λ b. if b then both_left w given items else 0) e

left_most : (w : SideTerms) (given : ℕ) (items : List EndItem) → bytes_left w given items ≤ both_left w given items
left_most w given items = elim (is_running (mux_of w.version items)) as (λ b. (if b then both_left w given items else 0) ≤ both_left w given items) [ true ↦ omega arith | false ↦ omega arith ]

-- messages, and the end in place of one

smaller_end : (w : SideTerms) (given : ℕ) (items : List EndItem) (why : Cause) → 0 < bytes_left w given items → IsSmaller w given items (Mux (End why))
smaller_end w given items why some = omega (arith, some, left_stopped w given (Mux (End why) ∷ items) refl)

-- as much was applied, and less is left on the channels of the same connections
smaller_on : (w : SideTerms) (given : ℕ) (items : List EndItem) (item : EndItem) → is_running (mux_of w.version items) ≡ true → attached_keys (item ∷ items) ≡ attached_keys items
    → applied_bytes w (mux_of w.version (item ∷ items)) ≡ applied_bytes w (mux_of w.version items) → pending_on w.version (item ∷ items) (attached_keys items) < pending_on w.version items (attached_keys items)
    → IsSmaller w given items item
smaller_on w given items item runs keys same less =
    let on : pending_on w.version (item ∷ items) (attached_keys (item ∷ items)) ≡ pending_on w.version (item ∷ items) (attached_keys items) = ap (pending_on w.version (item ∷ items)) keys in
    omega (arith, left_most w given (item ∷ items), left_running w given items runs, same, less, on)

smaller_message : (w : SideTerms) (given : ℕ) (items : List EndItem) (c : ChannelKey) (place size : ℕ) (message : Message) → is_running (mux_of w.version items) ≡ true → is_attached (rpc_of w.version c items) ≡ true
    → 0 < size → size ≤ length (rest_of w.version c items) → IsSmaller w given items (GotMessage c place size message)
smaller_message w given items c place size message runs e some fits =
    let v = w.version in
    let said_calls = write_said c (terms_of c items) (said (rpc.Got place message) (items_of (rpc_of v c items))) (mux_of v items) in
    smaller_on w given items (GotMessage c place size message) runs refl (followed_applied w said_calls (mux_of v items)) (left_message v c place size message items e (going_has v c items e) some fits)

smaller_refused : (w : SideTerms) (given : ℕ) (items : List EndItem) (c : ChannelKey) (place : ℕ) (reason : Reason) → is_running (mux_of w.version items) ≡ true → is_attached (rpc_of w.version c items) ≡ true
    → 0 < length (rest_of w.version c items) → IsSmaller w given items (RefusedMessage c place reason)
smaller_refused w given items c place reason runs e some =
    let v = w.version in
    smaller_on w given items (RefusedMessage c place reason) runs refl (followed_applied w (call.Terminate c ∷ []) (mux_of v items)) (left_refused v c place reason items e (going_has v c items e) some)

smaller_arrival : (w : SideTerms) (given : ℕ) (items : List EndItem) (c : ChannelKey) → is_running (mux_of w.version items) ≡ true → is_attached (rpc_of w.version c items) ≡ true → lacks_room w.version c items ≡ false
    → (found : Arrival) → arrival_on w.version c items ≡ found → IfItem (IsSmaller w given items) (item_of_arrival c found)
smaller_arrival w given items c runs e room (Applies place message size) stands =
    let lies = message_lies w.version c place size message items (record { attached = e; room = room; stands = stands }) in
    smaller_message w given items c place size message runs e lies.0 lies.1
smaller_arrival w given items c runs e room Waits stands = tt
smaller_arrival w given items c runs e room (Refuses place reason) stands =
    smaller_refused w given items c place reason runs e (refused_some (terms_of c items) (items_of (rpc_of w.version c items)) (consumed c items) (rest_of w.version c items) place reason stands)

-- a message stands whole where there is no room for its answer
smaller_spent : (w : SideTerms) (given : ℕ) (items : List EndItem) (c : ChannelKey) → is_running (mux_of w.version items) ≡ true → is_attached (rpc_of w.version c items) ≡ true → lacks_room w.version c items ≡ true
    → IsSmaller w given items (Mux (End cause.Spent))
smaller_spent w given items c runs e full =
    let v = w.version in
    let some = begun_some (terms_of c items) (rest_of v c items) (and_parts (is_spent_on c (mux_of v items)) (has_message v c items) full).1 in
    smaller_end w given items cause.Spent (omega (arith, left_running w given items runs, some_pending v items c (attached_keys items) (going_has v c items e) (omega (arith, pending_is v c items e, some))))

smaller_on_channel : (w : SideTerms) (given : ℕ) (items : List EndItem) (c : ChannelKey) → is_running (mux_of w.version items) ≡ true → IfItem (IsSmaller w given items) (message_on w.version c items)
smaller_on_channel w given items c runs = by (is_attached (rpc_of v c items)) refl (lacks_room v c items) refl
  where
    v : Version
    v = w.version

    by : (attached : Bool) → is_attached (rpc_of v c items) ≡ attached → (lacks : Bool) → lacks_room v c items ≡ lacks
        → IfItem (IsSmaller w given items) (if not attached then None else if lacks then Some (Mux (End cause.Spent)) else item_of_arrival c (arrival_on v c items))
    by false e lacks room = tt
    by true e true room = smaller_spent w given items c runs e room
    by true e false room = smaller_arrival w given items c runs e room (arrival_on v c items) refl

smaller_first : (w : SideTerms) (given : ℕ) (items : List EndItem) (cs : List ChannelKey) → is_running (mux_of w.version items) ≡ true → IfItem (IsSmaller w given items) (first_message w.version items cs)
smaller_first w given items [] runs = tt
smaller_first w given items (c ∷ cs) runs =
    either_if (IsSmaller w given items) (message_on w.version c items) (first_message w.version items cs) (smaller_on_channel w given items c runs) (smaller_first w given items cs runs)

-- frames and the handshake

-- more was applied than the item brings as content
smaller_mux : (w : SideTerms) (given : ℕ) (items : List EndItem) (item : Item) (more : ℕ) → AreAllowed w.version items → is_running (mux_of w.version items) ≡ true → content_size item < more
    → applied_bytes w (mux_of w.version items) + more ≤ given → (is_running (item ∷ mux_of w.version items) ≡ true → applied_bytes w (item ∷ mux_of w.version items) ≡ applied_bytes w (mux_of w.version items) + more)
    → IsSmaller w given items (Mux item)
smaller_mux w given items item more a runs content fits at = by (is_running (item ∷ m)) refl
  where
    m : List Item
    m = mux_of w.version items

    calls : List Call
    calls = follow_ups w.version (λ c. is_attached (rpc_of w.version c items)) item (item ∷ m)

    by : (b : Bool) → is_running (item ∷ m) ≡ b → IsSmaller w given items (Mux item)
    by true e =
        let now : applied_bytes w (mux_of w.version (Mux item ∷ items)) ≡ applied_bytes w m + more = followed_applied w calls (item ∷ m) ∙ at e in
        omega (arith, left_most w given (Mux item ∷ items), left_running w given items runs, now, left_mux w.version item items a, content, fits)
    by false e =
        let none : bytes_left w given (Mux item ∷ items) ≡ 0 = left_stopped w given (Mux item ∷ items) (followed_running w calls (item ∷ m) ∙ e) in
        omega (arith, none, left_running w given items runs, content, fits)

greet_content : (w : SideTerms) → content_size (greet w) ≡ 0
greet_content w = elim (bytes_eq w.own w.peer) as (λ b. content_size (if b then End (cause.Refused (place_at (greeting_size w - length w.peer)) reason.SameNonce) else Hello (party_by w.own w.peer)) ≡ 0) [ true ↦ refl | false ↦ refl ]

smaller_peer : (w : SideTerms) (given d : ℕ) (n : RunSide) (items : List EndItem) → AreAllowed w.version items → Joined w (run_side (mux_of w.version items) d) n → AtBoundary w (mux_of w.version items) d
    → is_running (mux_of w.version items) ≡ true → IfItem (IsSmaller w given items) (next_of_peer w given (mux_of w.version items) n)
smaller_peer w given d n items a j b runs = peer_if (IsSmaller w given items) w given m n frame hello
  where
    m : List Item
    m = mux_of w.version items

    here : applied_bytes w m ≡ d
    here = sym (b.at runs)

    frame : is_ready w.version m ≡ true → (f : ChannelFrame) (fs : List ChannelFrame) → next_frames w given (length (got m)) n ≡ f ∷ fs → IsSmaller w given items (Mux (frame_item w.version (place_after w (length (got m)) n) f m))
    frame ready f fs e =
        let place = place_after w (length (got m)) n in
        let size = length (frame_text w.version f) in
        let is = next_is w given m n (ahead w.version m n.items) f fs j.into.applied e in
        let at = at_ready w m d b runs ready in
        let on = subst (λ ms. AtBoundary w ms (d + size)) (frame_item_is w.version place f m) (frame_boundary w place m d f b runs ready) in
        smaller_mux w given items (frame_item w.version place f m) size a runs (frame_shorter w.version place f m) (omega (arith, is.within, at, here)) (λ r. sym (on.at r) ∙ ap (λ x. x + size) (sym here))

    hello : is_ready w.version m ≡ false → greeting_size w ≤ given → IsSmaller w given items (Mux (greet w))
    hello unready fits =
        let none = at_start w m d b runs unready in
        let on = greet_boundary w m d b runs unready in
        smaller_mux w given items (greet w) (greeting_size w) a runs (omega (arith, greet_content w, greeting_bytes w m unready)) (omega (arith, none, here, fits)) (λ r. sym (on.at r) ∙ omega (arith, here, none))

pub smaller_next : (w : SideTerms) (given d : ℕ) (n : RunSide) (items : List EndItem) → AreAllowed w.version items → Joined w (run_side (mux_of w.version items) d) n → AtBoundary w (mux_of w.version items) d
    → IfItem (IsSmaller w given items) (next_item w given n items)
smaller_next w given d n items a j b = next_if (IsSmaller w given items) w given n items (λ runs. smaller_first w given items (in_order (attached_keys items)) runs) (λ runs. smaller_peer w given d n items a j b runs)
