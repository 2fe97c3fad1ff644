-- What a call that an end answered leaves of its side.
use Rattle.std.proofs.Common.{◌≡◌, List, ◌∷◌, refl, sym, ◌∙◌, ap, subst, Option, Some, None}
use Rattle.wire_base.specs.declared.frame.Version.{Version}
use Rattle.wire_base.specs.declared.refusal.Refusal.{Refusal}
use Rattle.mux_items.specs.declared.call.Call.{Call as MuxCall}
use Rattle.mux_items.specs.Calls.{item_of_call}
use Rattle.mux_items.specs.Calls as mux
use Rattle.mux_items.specs.Due.{got}
use Rattle.mux_items.specs.Items.{Item}
use Rattle.mux_items.specs.Refusals.{is_ready}
use Rattle.mux_run.specs.Run.{RunSide, SideTerms}
use Rattle.rpc_items.specs.Items as rpc
use Rattle.rpc_items.specs.Saying.{said}
use Rattle.endpoint_items.specs.declared.call.Call.{Call}
use Rattle.endpoint_items.specs.declared.reply.Reply.{Reply}
use Rattle.endpoint_items.specs.declared.reply.Reply.TheVariants as reply
use Rattle.endpoint_items.specs.Asked.{made_by, reply_to}
use Rattle.endpoint_items.specs.Calls.{EndCall, OfMux, Attaches, OfConnection, is_in_use, used_by, call_refusal, item_of, unless_refused}
use Rattle.endpoint_items.specs.Connections.{is_attached, items_of}
use Rattle.endpoint_items.specs.Following.{followed, follow_ups, attach_calls, write_said}
use Rattle.endpoint_items.specs.Items.{EndItem, terms_of}
use Rattle.endpoint_items.specs.Layers.{mux_of, rpc_of}
use Rattle.endpoint_run.specs.Run.{EndSide, mux_side}
use Rattle.endpoint_run.proofs.Beginning.{unless_in_use_ok}
use Rattle.endpoint_run.proofs.Boundary.{got_called, ready_called}
use Rattle.endpoint.specs.Applied.{item_unless, item_made, Leaves, Applies}
use Rattle.endpoint.specs.Value.{EndpointValue}
use Rattle.duo_world.specs.Holding.{place_of, rest_of, StandsForSide}
use Rattle.duo_world.specs.Ranges.{IsMadeInRange, IsCallInRange, AreInRange}
use Rattle.duo_world.specs.Settling.{side_with}
use Rattle.duo_world.specs.Stepping.{called_by, Calls}
use Rattle.duo_world.proofs.Ranging.{OwnInRange, call_in_range}
use Rattle.duo_world.proofs.Settling.{given_side}
use Rattle.duo_world.proofs.Standing.{got_followed, ready_followed, place_same, rest_at, stands_more}

-- the multiplexing end went from some items to others, and applied nothing
record AppliesNothing (v : Version) (m after : List Item) : Type 0 where
  got_is : got after ≡ got m
  ready_is : is_ready v after ≡ is_ready v m

followed_nothing : (v : Version) (calls : List MuxCall) (m : List Item) → AppliesNothing v m (followed v calls m)
followed_nothing v calls m = record { got_is = got_followed v calls m; ready_is = ready_followed v calls m }

-- the multiplexing end refuses none of its calls that its end makes
mux_made : (v : Version) (c : MuxCall) (items : List EndItem) → call_refusal v (OfMux c) items ≡ None → mux.call_refusal v c (mux_of v items) ≡ None
mux_made v c items e = unless_in_use_ok (is_in_use v (used_by c) items) (mux.call_refusal v c (mux_of v items)) e

-- an accepted call applies nothing
call_nothing : (v : Version) (c : EndCall) (items : List EndItem) → call_refusal v c items ≡ None → AppliesNothing v (mux_of v items) (mux_of v (item_of v c items ∷ items))
call_nothing v (OfMux c) items e =
    let m = mux_of v items in
    let after = item_of_call c m ∷ m in
    let now : mux.called v c m ≡ after = ap (λ r. mux.unless_refused r (item_of_call c m) m) (mux_made v c items e) in
    let follow = followed_nothing v (follow_ups v (λ c. is_attached (rpc_of v c items)) (item_of_call c m) after) after in
    record {
      got_is = follow.got_is ∙ (ap got (sym now) ∙ got_called v c m);
      ready_is = follow.ready_is ∙ (ap (is_ready v) (sym now) ∙ ready_called v c m);
    }
call_nothing v (Attaches c terms) items e = followed_nothing v (attach_calls v c (mux_of v items)) (mux_of v items)
call_nothing v (OfConnection c call) items e = followed_nothing v (write_said c (terms_of c items) (said (rpc.Did call) (items_of (rpc_of v c items))) (mux_of v items)) (mux_of v items)

-- and adds what is in range
made_in_range : (w : SideTerms) (c : EndCall) (items : List EndItem) → IsMadeInRange (Some c) → AreInRange w (mux_of w.version items) → call_refusal w.version c items ≡ None → OwnInRange w (item_of w.version c items) (mux_of w.version items)
made_in_range w (OfMux c) items parts s e = call_in_range w c (mux_of w.version items) parts s (mux_made w.version c items e)
made_in_range w (Attaches c terms) items parts s e = tt
made_in_range w (OfConnection c call) items parts s e = tt

-- what an end that stood for the side x answered of the item that a call adds
abbrev LeavesAt : SideTerms → (old new : EndpointValue) → EndSide → RunSide → Option EndItem → Type 0
LeavesAt w old new x y item = Leaves old new x.items (place_of w (mux_side w.version x) y) (rest_of w (mux_side w.version x) y) item

made : (w : SideTerms) (c : EndCall) (old new : EndpointValue) (x : EndSide) (y : RunSide) (r : Option Refusal) → call_refusal w.version c x.items ≡ r → IsMadeInRange (Some c) → StandsForSide w old x y
    → LeavesAt w old new x y (item_unless r (item_of w.version c x.items)) → StandsForSide w new (side_with (unless_refused r (item_of w.version c x.items) x.items) x.delivered) y
made w c old new x y (Some refusal) e parts h a = subst (λ end. StandsForSide w end x y) (sym a) h
made w c old new x y None e parts h a =
    let v = w.version in
    let item = item_of v c x.items in
    let m = mux_of v x.items in
    let after = mux_of v (item ∷ x.items) in
    let nothing = call_nothing v c x.items e in
    let at : place_of w (mux_side v x) y ≡ place_of w (given_side after x.delivered) y = sym (place_same w x.delivered m after y nothing.got_is nothing.ready_is) in
    stands_more w old new item x.items x.delivered y (place_of w (mux_side v x) y) (rest_of w (mux_side v x) y) h (made_in_range w c x.items parts h.in_range e) a at
    (rest_at w x.delivered (place_of w (mux_side v x) y) after y at)

leaves : (w : SideTerms) (o : Option EndCall) (old new : EndpointValue) (x : EndSide) (y : RunSide) → IsMadeInRange o → StandsForSide w old x y → LeavesAt w old new x y (item_made w.version o x.items)
    → StandsForSide w new (side_with (called_by w.version o x.items) x.delivered) y
leaves w (Some c) old new x y parts h a = made w c old new x y (call_refusal w.version c x.items) refl parts h a
leaves w None old new x y parts h a = subst (λ end. StandsForSide w end x y) (sym a) h

answered : (w : SideTerms) (c : Call) (old new : EndpointValue) (x : EndSide) (y : RunSide) (r : Reply) → IsCallInRange c → StandsForSide w old x y
    → (r ≡ reply_to old.mux.version c x.items) × LeavesAt w old new x y (item_made old.mux.version (made_by c) x.items) → Calls w c new x y r
answered w c old new x y r parts h a = (
  a.0 ∙ ap (λ v. reply_to v c x.items) h.version,
  leaves w (made_by c) old new x y parts h (subst (λ v. LeavesAt w old new x y (item_made v (made_by c) x.items)) h.version a.1),
)

-- a call that memory sufficed for
pub calls : (w : SideTerms) (c : Call) (old new : EndpointValue) (x : EndSide) (y : RunSide) (r : Reply) → IsCallInRange c → StandsForSide w old x y
    → Applies old new x.items (place_of w (mux_side w.version x) y) (rest_of w (mux_side w.version x) y) c r → (r ≡ reply.OutOfMemory → ⊥) → Calls w c new x y r
calls w c old new x y reply.OutOfMemory parts h a enough = absurd (enough refl)
calls w c old new x y reply.Done parts h a enough = answered w c old new x y reply.Done parts h a
calls w c old new x y (reply.Made key) parts h a enough = answered w c old new x y (reply.Made key) parts h a
calls w c old new x y (reply.Bytes bytes) parts h a enough = answered w c old new x y (reply.Bytes bytes) parts h a
calls w c old new x y (reply.Number n) parts h a enough = answered w c old new x y (reply.Number n) parts h a
calls w c old new x y (reply.Report value) parts h a enough = answered w c old new x y (reply.Report value) parts h a
calls w c old new x y (reply.Known outcome) parts h a enough = answered w c old new x y (reply.Known outcome) parts h a
calls w c old new x y reply.NotYet parts h a enough = answered w c old new x y reply.NotYet parts h a
calls w c old new x y (reply.Refused r) parts h a enough = answered w c old new x y (reply.Refused r) parts h a
