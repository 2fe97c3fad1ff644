-- What a side emitted only grows, and no more is delivered than that.
use Rattle.std.specs.Prelude.{if◌then◌else◌, not, Bool, true, false}
use Rattle.std.proofs.Common.{◌≡◌, ℕ, ◌+◌, ◌≤◌, List, [], ◌∷◌, ◌++◌, length, refl, sym, ◌∙◌, ap, arith, length-append, append_assoc}
use Rattle.mux_items.specs.declared.call.Call.{Call}
use Rattle.mux_items.specs.declared.call.Call.TheVariants as call
use Rattle.mux_items.specs.Bodies.{ChannelFrame, frame_texts}
use Rattle.mux_items.specs.Calls.{called}
use Rattle.mux_items.specs.Due.{sent}
use Rattle.mux_items.specs.Items.{Item, End, is_running}
use Rattle.mux_items.proofs.Newer.{sent-newer}
use Rattle.mux_run.specs.Run.{SideTerms, out, added, is_spent}
use Rattle.mux_run.proofs.Growing.{out-more, called_grown}
use Rattle.mux_run.proofs.Links.{delivery_bound}
use Rattle.rpc_items.specs.Items as rpc
use Rattle.rpc_items.specs.Saying.{said}
use Rattle.wire_base.specs.declared.frame.Version.{Version}
use Rattle.wire_base.specs.declared.state.Cause.TheVariants as cause
use Rattle.endpoint_items.specs.Items.{EndItem, Mux, Attach, DidCall, GotMessage, RefusedMessage, terms_of}
use Rattle.endpoint_items.specs.Connections.{is_attached, items_of}
use Rattle.endpoint_items.specs.Following.{followed, follow_ups, attach_calls, write_said}
use Rattle.endpoint_items.specs.Layers.{mux_of, rpc_of}
use Rattle.endpoint_run.specs.Run.{EndSide, EndStep, Calls, Delivers, Ends, mux_side, with_item, begun}
use Rattle.endpoint_run.specs.Moments.{IsNewer}

-- older items of the multiplexing end, with newer ones before them
abbrev IsNewerMux : (before after : List Item) → Type 0
IsNewerMux before after = (newer : List Item) × (after ≡ newer ++ before)

newer_more : (xs ys zs : List Item) → IsNewerMux xs ys → IsNewerMux ys zs → IsNewerMux xs zs
newer_more xs ys zs p q = (q.0 ++ p.0, q.1 ∙ (ap (λ ys. q.0 ++ ys) p.1 ∙ sym (append_assoc q.0 p.0 xs)))

followed_newer : (v : Version) (calls : List Call) (m : List Item) → IsNewerMux m (followed v calls m)
followed_newer v [] m = ([], refl)
followed_newer v (c ∷ calls) m =
    let one = called_grown v c m in
    newer_more m (called v c m) (followed v calls (called v c m)) (one.newer, one.is) (followed_newer v calls (called v c m))

item_newer : (v : Version) (item : EndItem) (items : List EndItem) → IsNewerMux (mux_of v items) (mux_of v (item ∷ items))
item_newer v (Mux item) items =
    let m = mux_of v items in
    newer_more m (item ∷ m) (mux_of v (Mux item ∷ items)) (item ∷ [], refl) (followed_newer v (follow_ups v (λ c. is_attached (rpc_of v c items)) item (item ∷ m)) (item ∷ m))
item_newer v (Attach c terms) items = followed_newer v (attach_calls v c (mux_of v items)) (mux_of v items)
item_newer v (DidCall c call) items = followed_newer v (write_said c (terms_of c items) (said (rpc.Did call) (items_of (rpc_of v c items))) (mux_of v items)) (mux_of v items)
item_newer v (GotMessage c place size message) items = followed_newer v (write_said c (terms_of c items) (said (rpc.Got place message) (items_of (rpc_of v c items))) (mux_of v items)) (mux_of v items)
item_newer v (RefusedMessage c place reason) items = followed_newer v (call.Terminate c ∷ []) (mux_of v items)

mux_newer : (v : Version) (newer items : List EndItem) → IsNewerMux (mux_of v items) (mux_of v (newer ++ items))
mux_newer v [] items = ([], refl)
mux_newer v (item ∷ newer) items = newer_more (mux_of v items) (mux_of v (newer ++ items)) (mux_of v (item ∷ newer ++ items)) (mux_newer v newer items) (item_newer v item (newer ++ items))

-- more frames were due
pub frames_grow : (v : Version) (before after : List EndItem) → IsNewer before after → (more : List ChannelFrame) × (sent v (mux_of v after) ≡ sent v (mux_of v before) ++ more)
frames_grow v before after g =
    let on = mux_newer v g.0 before in
    let due = sent-newer v on.0 (mux_of v before) in
    (due.0, ap (λ items. sent v (mux_of v items)) g.1 ∙ (ap (sent v) on.1 ∙ due.1))

-- and no fewer bytes went out
pub out_grows : (v : Version) (nonce : List ℕ) (before after : List EndItem) → IsNewer before after → length (out v nonce (mux_of v before)) ≤ length (out v nonce (mux_of v after))
out_grows v nonce before after g =
    let m = mux_of v before in
    let more = frames_grow v before after g in
    omega (arith, ap length (out-more v nonce m (mux_of v after) more.0 more.1), length-append (out v nonce m) (frame_texts v more.0))

-- a step delivers no more than went out
pub begun_emitted : (w : SideTerms) (s : EndStep) (x y : EndSide) → x.delivered ≤ length (out w.version w.peer (mux_of w.version y.items)) → (begun w s x y).delivered ≤ length (out w.version w.peer (mux_of w.version y.items))
begun_emitted w (Calls side c) x y h = h
begun_emitted w (Delivers side n) x y h = by (is_running (mux_of w.version x.items)) (is_spent w n (mux_side w.version x) (mux_side w.version y))
  where
    more : ℕ
    more = added w n (mux_side w.version x) (mux_side w.version y)

    by : (running spent : Bool) → (if not running then x else if spent then with_item (Mux (End cause.Spent)) x else record { items = x.items; delivered = x.delivered + more }).delivered ≤ length (out w.version w.peer (mux_of w.version y.items))
    by true true = h
    by true false = delivery_bound w n (mux_side w.version x) (mux_side w.version y) h
    by false spent = h
begun_emitted w (Ends side) x y h =
    elim (is_running (mux_of w.version x.items)) as (λ b. (if b then with_item (Mux (End cause.InputEnded)) x else x).delivered ≤ length (out w.version w.peer (mux_of w.version y.items))) [ true ↦ h | false ↦ h ]
