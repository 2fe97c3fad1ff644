-- The multiplexing end reaches what each item of its end makes of it.
use Rattle.std.specs.Prelude.{if◌then◌else◌, not, Bool, true, false}
use Rattle.std.proofs.Common.{◌≡◌, ℕ, ◌≤◌, List, [], ◌∷◌, length, refl, sym, subst, Some, None}
use Rattle.wire_base.specs.declared.frame.Version.{Version}
use Rattle.wire_base.specs.declared.state.Cause.TheVariants as cause
use Rattle.mux_items.specs.declared.call.Call.TheVariants as call
use Rattle.mux_items.specs.declared.channel.ChannelKey.{ChannelKey}
use Rattle.mux_items.specs.Due.{got}
use Rattle.mux_items.specs.Items.{Item, End, is_running}
use Rattle.mux_items.specs.Limits.{most_bytes}
use Rattle.mux_items.specs.Views.{in_order}
use Rattle.mux_run.specs.Run.{RunSide, SideTerms, place_after, greet}
use Rattle.mux_run.specs.declared.steps.Side.{Side}
use Rattle.rpc_items.specs.Items as rpc
use Rattle.rpc_items.specs.Saying.{said}
use Rattle.rpc_end.specs.Arrivals.{Arrival, Applies, Waits, Refuses}
use Rattle.endpoint_items.specs.Items.{EndItem, Mux, Attach, DidCall, GotMessage, RefusedMessage, terms_of, attached_keys}
use Rattle.endpoint_items.specs.Connections.{is_attached, items_of}
use Rattle.endpoint_items.specs.Following.{follow_ups, write_said}
use Rattle.endpoint_items.specs.Layers.{mux_of, rpc_of}
use Rattle.endpoint_items.specs.Arriving.{lacks_room, arrival_on, item_of_arrival, message_on, first_message, next_message}
use Rattle.endpoint_run.specs.Next.{frame_item, next_of_peer, next_item, settled_in}
use Rattle.endpoint_run.proofs.Reaching.{Reach, reach_same, reach_more, reach_calls, reach_spend}
use Rattle.endpoint_run.proofs.Heard.{reach_frame, reach_greet}
use Rattle.endpoint_run.proofs.Turns.{IfItem, either_if, if_every, peer_if, next_if, settled_if}

-- items that are messages, or the end in place of one
abbrev pub IsByMessage : EndItem → Type 0
IsByMessage (Mux item) = item ≡ End cause.Spent
IsByMessage (Attach c terms) = ⊥
IsByMessage (DidCall c call) = ⊥
IsByMessage (GotMessage c place size message) = Unit {0}
IsByMessage (RefusedMessage c place reason) = Unit {0}

by_arrival : (c : ChannelKey) (arrival : Arrival) → IfItem IsByMessage (item_of_arrival c arrival)
by_arrival c (Applies place message size) = tt
by_arrival c Waits = tt
by_arrival c (Refuses place reason) = tt

by_message_on : (v : Version) (c : ChannelKey) (items : List EndItem) → IfItem IsByMessage (message_on v c items)
by_message_on v c items = by (is_attached (rpc_of v c items)) (lacks_room v c items)
  where
    by : (attached lacks : Bool) → IfItem IsByMessage (if not attached then None else if lacks then Some (Mux (End cause.Spent)) else item_of_arrival c (arrival_on v c items))
    by true true = refl
    by true false = by_arrival c (arrival_on v c items)
    by false lacks = tt

pub by_first : (v : Version) (items : List EndItem) (cs : List ChannelKey) → IfItem IsByMessage (first_message v items cs)
by_first v items [] = tt
by_first v items (c ∷ cs) = either_if IsByMessage (message_on v c items) (first_message v items cs) (by_message_on v c items) (by_first v items cs)

-- the multiplexing end reaches what one more item of its end makes of it
abbrev pub Comes : Side → SideTerms → RunSide → List EndItem → EndItem → Type 0
Comes side w n items item = Reach side w n (mux_of w.version items) (mux_of w.version (item ∷ items))

-- an item of the multiplexing end and what follows it
pub comes_mux : (side : Side) (w : SideTerms) (n : RunSide) (items : List EndItem) (item : Item) → Reach side w n (mux_of w.version items) (item ∷ mux_of w.version items) → Comes side w n items (Mux item)
comes_mux side w n items item r =
    let m = mux_of w.version items in
    reach_more side w n m (item ∷ m) (mux_of w.version (Mux item ∷ items)) r (reach_calls side w n (item ∷ m) (follow_ups w.version (λ c. is_attached (rpc_of w.version c items)) item (item ∷ m)))

comes_message : (side : Side) (w : SideTerms) (n : RunSide) (items : List EndItem) (item : EndItem) → is_running (mux_of w.version items) ≡ true → IsByMessage item → Comes side w n items item
comes_message side w n items (Mux item) runs e =
    comes_mux side w n items item (subst (λ item. Reach side w n (mux_of w.version items) (item ∷ mux_of w.version items)) (sym e) (reach_spend side w n (mux_of w.version items) runs))
comes_message side w n items (Attach c terms) runs e = absurd e
comes_message side w n items (DidCall c call) runs e = absurd e
comes_message side w n items (GotMessage c place size message) runs e =
    reach_calls side w n (mux_of w.version items) (write_said c (terms_of c items) (said (rpc.Got place message) (items_of (rpc_of w.version c items))) (mux_of w.version items))
comes_message side w n items (RefusedMessage c place reason) runs e = reach_calls side w n (mux_of w.version items) (call.Terminate c ∷ [])

comes_peer : (side : Side) (w : SideTerms) (given : ℕ) (n : RunSide) (items : List EndItem) → given ≤ most_bytes → is_running (mux_of w.version items) ≡ true
    → IfItem (Comes side w n items) (next_of_peer w given (mux_of w.version items) n)
comes_peer side w given n items most runs =
    let m = mux_of w.version items in
    peer_if (Comes side w n items) w given m n
    (λ ready f fs e. comes_mux side w n items (frame_item w.version (place_after w (length (got m)) n) f m) (reach_frame side w n m given f fs most runs ready e))
    (λ unready fits. comes_mux side w n items (greet w) (reach_greet side w n m given most fits runs unready))

pub comes_next : (side : Side) (w : SideTerms) (given : ℕ) (n : RunSide) (items : List EndItem) → given ≤ most_bytes → IfItem (Comes side w n items) (next_item w given n items)
comes_next side w given n items most = next_if (Comes side w n items) w given n items
    (λ runs. if_every IsByMessage (Comes side w n items) (next_message w.version items) (λ item e. comes_message side w n items item runs e) (by_first w.version items (in_order (attached_keys items))))
    (λ runs. comes_peer side w given n items most runs)

-- so many turns

pub comes_settled : (side : Side) (w : SideTerms) (given : ℕ) (n : RunSide) (turns : ℕ) (items : List EndItem) → given ≤ most_bytes
    → Reach side w n (mux_of w.version items) (mux_of w.version (settled_in w given n turns items))
comes_settled side w given n turns items most =
    let m = mux_of w.version items in
    let Reaches : List EndItem → Type 0 = λ after. Reach side w n m (mux_of w.version after) in
    settled_if Reaches w given n
    (λ after r. if_every (Comes side w n after) (λ item. Reaches (item ∷ after)) (next_item w given n after) (λ item comes. reach_more side w n m (mux_of w.version after) (mux_of w.version (item ∷ after)) r comes) (comes_next side w given n after most))
    turns items (reach_same side w n m)
