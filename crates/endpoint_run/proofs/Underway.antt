-- What a side keeps while it applies one item after the other.
use Rattle.std.specs.Prelude.{if◌then◌else◌, not, Bool, true, false}
use Rattle.std.proofs.Common.{◌≡◌, ℕ, ◌+◌, ◌-◌, ◌≤◌, List, [], ◌∷◌, length, map, refl, sym, ◌∙◌, ap, subst, arith, length-append, Option, Some, None}
use Rattle.std.proofs.lemmas.List.{length-map}
use Rattle.wire_base.specs.declared.refusal.Refusal.{Refusal}
use Rattle.wire_base.specs.declared.state.Cause.TheVariants as cause
use Rattle.mux_items.specs.declared.call.Call.{Call}
use Rattle.mux_items.specs.declared.call.Call.TheVariants as call
use Rattle.mux_items.specs.Bodies.{ChannelFrame, flip, frame_text}
use Rattle.mux_items.specs.Calls.{item_of_call}
use Rattle.mux_items.specs.Due.{sent, got}
use Rattle.mux_items.specs.Items.{Item, End, is_running}
use Rattle.mux_items.specs.Limits.{most_bytes}
use Rattle.mux_items.specs.Refusals.{is_ready}
use Rattle.mux_items.specs.Views.{in_order}
use Rattle.mux_run.specs.Between.{ahead}
use Rattle.mux_run.specs.Fed.{LieWithin}
use Rattle.mux_run.specs.Run.{RunSide, SideTerms, greeting_size, whole_frames, next_frames, place_after, greet, added, is_spent}
use Rattle.mux_run.specs.Linked.{Joined}
use Rattle.mux_run.specs.declared.steps.Side.TheVariants.{A}
use Rattle.mux_run.proofs.WholeFrames.{whole_more}
use Rattle.rpc_items.specs.Items as rpc
use Rattle.rpc_items.specs.Saying.{said}
use Rattle.endpoint_items.specs.Items.{EndItem, Mux, Attach, DidCall, GotMessage, RefusedMessage, terms_of, attached_keys}
use Rattle.endpoint_items.specs.Connections.{is_attached, items_of}
use Rattle.endpoint_items.specs.Following.{followed, follow_ups, attach_calls, write_said}
use Rattle.endpoint_items.specs.Layers.{mux_of, rpc_of}
use Rattle.endpoint_items.specs.Calls.{EndCall, OfMux, Attaches, OfConnection, call_refusal, item_of, unless_refused, called}
use Rattle.endpoint_items.specs.Arriving.{next_message}
use Rattle.endpoint_items.specs.Allowed.{AreAllowed}
use Rattle.endpoint_run.specs.Next.{frame_item, next_of_peer, next_item, applied_bytes, settled_in}
use Rattle.endpoint_run.specs.Run.{EndSide, EndStep, Calls, Delivers, Ends, mux_side, with_item, begun}
use Rattle.endpoint_run.proofs.Boundary.{run_side, AtBoundary, at_ready, whole_at}
use Rattle.endpoint_run.proofs.Delivering.{frame_boundary, greet_boundary}
use Rattle.endpoint_run.proofs.Reaching.{x_after_joined}
use Rattle.endpoint_run.proofs.Heard.{frame_item_is, next_is}
use Rattle.endpoint_run.proofs.Turns.{IfItem, if_every, if_found, if_some, peer_if, next_if, settled_if}
use Rattle.endpoint_run.proofs.Coming.{IsByMessage, by_first, Comes, comes_next}
use Rattle.endpoint_run.proofs.Beginning.{reach_begun, begun_bounded}
use Rattle.endpoint_run.proofs.Allowing.{Keeps, next_keeps, begun_keeps}
use Rattle.endpoint_run.proofs.Applied.{followed_applied, followed_running}
use Rattle.endpoint_run.proofs.Smaller.{IsSmaller, smaller_next}

-- what was applied lies in so many bytes, while the end runs
abbrev pub IsWithin : SideTerms → (given : ℕ) → List Item → Type 0
IsWithin w given m = is_running m ≡ true → applied_bytes w m ≤ given

-- a side applied these items of so many bytes that it was given, and the finer run gave its multiplexing end just what it applied
pub record HasApplied (w : SideTerms) (given fine : ℕ) (items : List EndItem) : Type 0 where
  pub boundary : AtBoundary w (mux_of w.version items) fine
  pub within : IsWithin w given (mux_of w.version items)
  pub allowed : AreAllowed w.version items
  pub most : given ≤ most_bytes

-- a side with these items, which was given so many bytes of y, may apply more of them
pub record IsUnderway (w : SideTerms) (given : ℕ) (y : RunSide) (items : List EndItem) : Type 0 where
  pub fine : ℕ
  pub joined : Joined w (run_side (mux_of w.version items) fine) y
  pub applied : HasApplied w given fine items

-- what calls leave

within_calls : (w : SideTerms) (given : ℕ) (calls : List Call) (m : List Item) → IsWithin w given m → IsWithin w given (followed w.version calls m)
within_calls w given calls m h = λ r. (let before = h (sym (followed_running w calls m) ∙ r) in omega (arith, before, followed_applied w calls m))

within_mux : (w : SideTerms) (given : ℕ) (items : List EndItem) (item : Item) → IsWithin w given (item ∷ mux_of w.version items) → IsWithin w given (mux_of w.version (Mux item ∷ items))
within_mux w given items item h =
    let m = mux_of w.version items in
    within_calls w given (follow_ups w.version (λ c. is_attached (rpc_of w.version c items)) item (item ∷ m)) (item ∷ m) h

-- the next item

abbrev WithinNext : SideTerms → (given : ℕ) → List EndItem → EndItem → Type 0
WithinNext w given items item = IsWithin w given (mux_of w.version (item ∷ items))

within_message : (w : SideTerms) (given : ℕ) (items : List EndItem) (item : EndItem) → IsWithin w given (mux_of w.version items) → IsByMessage item → WithinNext w given items item
within_message w given items (Mux item) h e = within_mux w given items item (λ r. (let stops : is_running (item ∷ mux_of w.version items) ≡ false = ap (λ i. is_running (i ∷ mux_of w.version items)) e in cc (stops, r)))
within_message w given items (Attach c terms) h e = absurd e
within_message w given items (DidCall c call) h e = absurd e
within_message w given items (GotMessage c place size message) h e =
    within_calls w given (write_said c (terms_of c items) (said (rpc.Got place message) (items_of (rpc_of w.version c items))) (mux_of w.version items)) (mux_of w.version items) h
within_message w given items (RefusedMessage c place reason) h e = within_calls w given (call.Terminate c ∷ []) (mux_of w.version items) h

within_peer : (w : SideTerms) (given d : ℕ) (y : RunSide) (items : List EndItem) → Joined w (run_side (mux_of w.version items) d) y → AtBoundary w (mux_of w.version items) d → is_running (mux_of w.version items) ≡ true
    → IfItem (WithinNext w given items) (next_of_peer w given (mux_of w.version items) y)
within_peer w given d y items j b runs = peer_if (WithinNext w given items) w given m y frame hello
  where
    m : List Item
    m = mux_of w.version items

    frame : is_ready w.version m ≡ true → (f : ChannelFrame) (fs : List ChannelFrame) → next_frames w given (length (got m)) y ≡ f ∷ fs → WithinNext w given items (Mux (frame_item w.version (place_after w (length (got m)) y) f m))
    frame ready f fs e =
        let place = place_after w (length (got m)) y in
        let size = length (frame_text w.version f) in
        let is = next_is w given m y (ahead w.version m y.items) f fs j.into.applied e in
        let at = at_ready w m d b runs ready in
        let on = subst (λ ms. AtBoundary w ms (d + size)) (frame_item_is w.version place f m) (frame_boundary w place m d f b runs ready) in
        within_mux w given items (frame_item w.version place f m) (λ r. (let now = on.at r in omega (arith, now, at, is.within)))

    hello : is_ready w.version m ≡ false → greeting_size w ≤ given → WithinNext w given items (Mux (greet w))
    hello unready fits =
        let on = greet_boundary w m d b runs unready in
        within_mux w given items (greet w) (λ r. (let now = on.at r in omega (arith, now, fits)))

within_next : (w : SideTerms) (given d : ℕ) (y : RunSide) (items : List EndItem) → Joined w (run_side (mux_of w.version items) d) y → AtBoundary w (mux_of w.version items) d → IsWithin w given (mux_of w.version items)
    → IfItem (WithinNext w given items) (next_item w given y items)
within_next w given d y items j b h = next_if (WithinNext w given items) w given y items
    (λ runs. if_every IsByMessage (WithinNext w given items) (next_message w.version items) (λ item e. within_message w given items item h e) (by_first w.version items (in_order (attached_keys items))))
    (λ runs. within_peer w given d y items j b runs)

-- one more item, and less is left
pub record GoesOnWith (w : SideTerms) (given : ℕ) (y : RunSide) (items : List EndItem) (item : EndItem) : Type 0 where
  pub underway : IsUnderway w given y (item ∷ items)
  pub smaller : IsSmaller w given items item

pub underway_next : (w : SideTerms) (given : ℕ) (y : RunSide) (items : List EndItem) → IsUnderway w given y items → IfItem (GoesOnWith w given y items) (next_item w given y items)
underway_next w given y items h =
    let s = h.applied in
    let next = next_item w given y items in
    let m = mux_of w.version items in
    if_found (GoesOnWith w given y items) next (λ item e.
    let on = if_some (Comes A w y items) next item e (comes_next A w given y items s.most) h.fine h.joined s.boundary in
    record {
      underway = record {
        fine = on.given;
        joined = subst (λ x. Joined w x y) on.reaches (x_after_joined w on.steps (run_side m h.fine) y h.joined);
        applied = record {
          boundary = on.boundary;
          within = if_some (WithinNext w given items) next item e (within_next w given h.fine y items h.joined s.boundary s.within);
          allowed = if_some (Keeps w items) next item e (next_keeps w given y items s.allowed);
          most = s.most;
        };
      };
      smaller = if_some (IsSmaller w given items) next item e (smaller_next w given h.fine y items s.allowed h.joined s.boundary);
    })

pub underway_settled : (w : SideTerms) (given : ℕ) (y : RunSide) (turns : ℕ) (items : List EndItem) → IsUnderway w given y items → IsUnderway w given y (settled_in w given y turns items)
underway_settled w given y turns items h =
    settled_if (IsUnderway w given y) w given y
    (λ items h. if_every (GoesOnWith w given y items) (λ item. IsUnderway w given y (item ∷ items)) (next_item w given y items) (λ item on. on.underway) (underway_next w given y items h)) turns items h

-- the begin of a step

within_item : (w : SideTerms) (given : ℕ) (c : Call) (m : List Item) → IsWithin w given m → IsWithin w given (item_of_call c m ∷ m)
within_item w given (call.Offer name size) m h = h
within_item w given (call.Accept c size) m h = h
within_item w given (call.Write c bytes) m h = h
within_item w given (call.Read c max) m h = h
within_item w given (call.Complete c) m h = h
within_item w given (call.Terminate c) m h = h

within_called : (w : SideTerms) (given : ℕ) (c : EndCall) (items : List EndItem) → IsWithin w given (mux_of w.version items) → IsWithin w given (mux_of w.version (called w.version c items))
within_called w given c items h = by (call_refusal w.version c items)
  where
    m : List Item
    m = mux_of w.version items

    made : (c : EndCall) → IsWithin w given (mux_of w.version (item_of w.version c items ∷ items))
    made (OfMux c) = within_mux w given items (item_of_call c m) (within_item w given c m h)
    made (Attaches c terms) = within_calls w given (attach_calls w.version c m) m h
    made (OfConnection c call) = within_calls w given (write_said c (terms_of c items) (said (rpc.Did call) (items_of (rpc_of w.version c items))) m) m h

    by : (r : Option Refusal) → IsWithin w given (mux_of w.version (unless_refused r (item_of w.version c items) items))
    by None = made c
    by (Some refusal) = h

within_begun : (w : SideTerms) (s : EndStep) (x y : EndSide) → IsWithin w x.delivered (mux_of w.version x.items) → IsWithin w (begun w s x y).delivered (mux_of w.version (begun w s x y).items)
within_begun w (Calls side c) x y h = within_called w x.delivered c x.items h
within_begun w (Delivers side n) x y h = by (is_running (mux_of w.version x.items)) (is_spent w n (mux_side w.version x) (mux_side w.version y))
  where
    more : ℕ
    more = added w n (mux_side w.version x) (mux_side w.version y)

    given : (running spent : Bool) → EndSide
    given running spent = if not running then x else if spent then with_item (Mux (End cause.Spent)) x else record { items = x.items; delivered = x.delivered + more }

    by : (running spent : Bool) → IsWithin w (given running spent).delivered (mux_of w.version (given running spent).items)
    by true true = λ r. cc
    by true false = λ r. (let before = h r in omega (arith, before))
    by false spent = h
within_begun w (Ends side) x y h = by (is_running (mux_of w.version x.items))
  where
    ended : Bool → EndSide
    ended running = if running then with_item (Mux (End cause.InputEnded)) x else x

    by : (running : Bool) → IsWithin w (ended running).delivered (mux_of w.version (ended running).items)
    by true = λ r. cc
    by false = h

pub underway_begun : (w : SideTerms) (s : EndStep) (x y : EndSide) (e : ℕ) → IsUnderway w x.delivered (run_side (mux_of w.version y.items) e) x.items
    → IsUnderway w (begun w s x y).delivered (run_side (mux_of w.version y.items) e) (begun w s x y).items
underway_begun w s x y e h =
    let o = run_side (mux_of w.version y.items) e in
    let m = mux_of w.version x.items in
    let on = reach_begun A w s o x y h.fine h.joined h.applied.boundary in
    record {
      fine = on.given;
      joined = subst (λ x. Joined w x o) on.reaches (x_after_joined w on.steps (run_side m h.fine) o h.joined);
      applied = record {
        boundary = on.boundary;
        within = within_begun w s x y h.applied.within;
        allowed = begun_keeps w s x y h.applied.allowed;
        most = begun_bounded w s x y h.applied.most;
      };
    }

-- what was applied are the first frames and the handshake of what was given

pub underway_lies : (w : SideTerms) (given : ℕ) (y : RunSide) (items : List EndItem) → IsUnderway w given y items → is_running (mux_of w.version items) ≡ true → LieWithin w given (mux_of w.version items) y
underway_lies w given y items h runs = by (is_ready w.version m) refl
  where
    m : List Item
    m = mux_of w.version items

    at : h.fine ≡ applied_bytes w m
    at = h.applied.boundary.at runs

    fits : applied_bytes w m ≤ given
    fits = h.applied.within runs

    by : (t : Bool) → is_ready w.version m ≡ t → LieWithin w given m y
    by true ready =
        let gs = map flip (got m) in
        let here = at_ready w m h.fine h.applied.boundary runs ready in
        let room = h.fine - greeting_size w in
        let frames = sent w.version y.items in
        let first : whole_frames w.version room frames ≡ gs = ap (whole_frames w.version room) h.joined.into.applied ∙ whole_at w.version room gs (ahead w.version m y.items) (omega (arith, here)) in
        let more = whole_more w.version room (given - greeting_size w) frames (omega (arith, at, fits)) in
        record {
          greeted = λ r. omega (arith, at, fits, here);
          waits = λ u. cc (ready, u);
          within = omega (arith, ap length more.1, length-append (whole_frames w.version room frames) more.0, ap length first, length-map (got m) flip);
        }
    by false unready = record {
      greeted = λ r. cc (unready, r);
      waits = λ u. h.applied.boundary.waits unready;
      within = omega (arith, ap length (h.applied.boundary.waits unready));
    }
