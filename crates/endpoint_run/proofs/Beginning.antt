-- The multiplexing end reaches what a step's call, delivery or end makes of it.
use Rattle.std.specs.Prelude.{if◌then◌else◌, not, ◌&&◌, Bool, true, false}
use Rattle.std.proofs.Common.{◌≡◌, ℕ, ◌+◌, ◌≤◌, List, refl, ap, subst, Option, Some, None}
use Rattle.std.proofs.lemmas.Bool.{ltb-false}
use Rattle.wire_base.specs.declared.refusal.Refusal.{Refusal}
use Rattle.wire_base.specs.declared.refusal.Refusal.TheVariants as refusal
use Rattle.wire_base.specs.declared.state.Cause.TheVariants as cause
use Rattle.mux_items.specs.declared.call.Call.{Call}
use Rattle.mux_items.specs.Calls.{item_of_call}
use Rattle.mux_items.specs.Calls as mux
use Rattle.mux_items.specs.Items.{Item, End, is_running}
use Rattle.mux_items.specs.Limits.{most_bytes}
use Rattle.mux_run.specs.Run.{RunSide, SideTerms, added, is_spent}
use Rattle.mux_run.specs.declared.steps.Side.{Side}
use Rattle.rpc_items.specs.Items as rpc
use Rattle.rpc_items.specs.Saying.{said}
use Rattle.endpoint_items.specs.Items.{EndItem, Mux, terms_of}
use Rattle.endpoint_items.specs.Connections.{items_of}
use Rattle.endpoint_items.specs.Following.{attach_calls, write_said}
use Rattle.endpoint_items.specs.Layers.{mux_of, rpc_of}
use Rattle.endpoint_items.specs.Calls.{EndCall, OfMux, Attaches, OfConnection, comes_first, unless_in_use, is_in_use, used_by, call_refusal, item_of, unless_refused, called}
use Rattle.endpoint_run.specs.Run.{EndSide, EndStep, Calls, Delivers, Ends, mux_side, with_item, stopped, given_to, begun, side_in}
use Rattle.endpoint_run.proofs.Boundary.{run_side}
use Rattle.endpoint_run.proofs.Reaching.{Reach, reach_same, reach_more, reach_call, reach_calls, reach_end, reach_spend}
use Rattle.endpoint_run.proofs.Coming.{Comes, comes_mux, comes_settled}

-- a call

pub unless_in_use_ok : (in_use : Bool) (r : Option Refusal) → unless_in_use in_use r ≡ None → r ≡ None
unless_in_use_ok in_use r = by (in_use && not (comes_first r))
  where
    by : (b : Bool) → (if b then Some refusal.Attached else r) ≡ None → r ≡ None
    by true e = cc
    by false e = e

comes_of_mux : (side : Side) (w : SideTerms) (n : RunSide) (items : List EndItem) (c : Call) → mux.call_refusal w.version c (mux_of w.version items) ≡ None
    → Comes side w n items (Mux (item_of_call c (mux_of w.version items)))
comes_of_mux side w n items c e =
    let m = mux_of w.version items in
    comes_mux side w n items (item_of_call c m) (subst (Reach side w n m) (ap (λ r. mux.unless_refused r (item_of_call c m) m) e) (reach_call side w n m c))

pub comes_called : (side : Side) (w : SideTerms) (n : RunSide) (c : EndCall) (items : List EndItem) → Reach side w n (mux_of w.version items) (mux_of w.version (called w.version c items))
comes_called side w n c items = by (call_refusal w.version c items) refl
  where
    m : List Item
    m = mux_of w.version items

    made : (c : EndCall) → call_refusal w.version c items ≡ None → Comes side w n items (item_of w.version c items)
    made (OfMux c) e = comes_of_mux side w n items c (unless_in_use_ok (is_in_use w.version (used_by c) items) (mux.call_refusal w.version c m) e)
    made (Attaches c terms) e = reach_calls side w n m (attach_calls w.version c m)
    made (OfConnection c call) e = reach_calls side w n m (write_said c (terms_of c items) (said (rpc.Did call) (items_of (rpc_of w.version c items))) m)

    by : (r : Option Refusal) → call_refusal w.version c items ≡ r → Reach side w n m (mux_of w.version (unless_refused r (item_of w.version c items) items))
    by None e = made c e
    by (Some refusal) e = reach_same side w n m

-- a delivery, before anything of it is applied

given_bounded : (w : SideTerms) (n : ℕ) (x y : EndSide) → x.delivered ≤ most_bytes → (given_to w n x y).delivered ≤ most_bytes
given_bounded w n x y h = by (is_running (mux_of w.version x.items)) (is_spent w n (mux_side w.version x) (mux_side w.version y)) refl
  where
    sum : ℕ
    sum = x.delivered + added w n (mux_side w.version x) (mux_side w.version y)

    by : (r b : Bool) → is_spent w n (mux_side w.version x) (mux_side w.version y) ≡ b → (if not r then x
        else if b then with_item (Mux (End cause.Spent)) x
        else record { items = x.items; delivered = sum }).delivered ≤ most_bytes
    by true true e = h
    by true false e = ltb-false most_bytes sum e
    by false b e = h

reach_given : (side : Side) (w : SideTerms) (n : ℕ) (o : RunSide) (x y : EndSide) → Reach side w o (mux_of w.version x.items) (mux_of w.version (given_to w n x y).items)
reach_given side w n o x y = by (is_running m) refl (is_spent w n (mux_side w.version x) (mux_side w.version y))
  where
    m : List Item
    m = mux_of w.version x.items

    by : (r : Bool) → is_running m ≡ r → (b : Bool) → Reach side w o m (mux_of w.version (if not r then x
        else if b then with_item (Mux (End cause.Spent)) x
        else record { items = x.items; delivered = x.delivered + added w n (mux_side w.version x) (mux_side w.version y) }).items)
    by true runs true = reach_spend side w o m runs
    by true runs false = reach_same side w o m
    by false stops b = reach_same side w o m

-- the end of the stream

reach_ended : (side : Side) (w : SideTerms) (o : RunSide) (x : EndSide) → Reach side w o (mux_of w.version x.items) (mux_of w.version (stopped w.version cause.InputEnded x).items)
reach_ended side w o x = by (is_running m) refl
  where
    m : List Item
    m = mux_of w.version x.items

    by : (r : Bool) → is_running m ≡ r → Reach side w o m (mux_of w.version (if r then with_item (Mux (End cause.InputEnded)) x else x).items)
    by true runs = reach_end side w o m runs
    by false stops = reach_same side w o m

-- a step of x

pub begun_bounded : (w : SideTerms) (s : EndStep) (x y : EndSide) → x.delivered ≤ most_bytes → (begun w s x y).delivered ≤ most_bytes
begun_bounded w (Calls side c) x y h = h
begun_bounded w (Delivers side n) x y h = given_bounded w n x y h
begun_bounded w (Ends side) x y h = elim (is_running (mux_of w.version x.items)) as (λ b. (if b then with_item (Mux (End cause.InputEnded)) x else x).delivered ≤ most_bytes) [ true ↦ h | false ↦ h ]

pub reach_begun : (side : Side) (w : SideTerms) (s : EndStep) (o : RunSide) (x y : EndSide) → Reach side w o (mux_of w.version x.items) (mux_of w.version (begun w s x y).items)
reach_begun side w (Calls to c) o x y = comes_called side w o c x.items
reach_begun side w (Delivers to n) o x y = reach_given side w n o x y
reach_begun side w (Ends to) o x y = reach_ended side w o x

-- a moment in it; what the other side was given doesn't matter
pub reach_step : (side : Side) (w : SideTerms) (turns : ℕ) (s : EndStep) (x y : EndSide) (e : ℕ) → x.delivered ≤ most_bytes
    → Reach side w (run_side (mux_of w.version y.items) e) (mux_of w.version x.items) (mux_of w.version (side_in w turns s x y).items)
reach_step side w turns s x y e h =
    let o = run_side (mux_of w.version y.items) e in
    let b = begun w s x y in
    reach_more side w o (mux_of w.version x.items) (mux_of w.version b.items) (mux_of w.version (side_in w turns s x y).items)
    (reach_begun side w s o x y) (comes_settled side w b.delivered o turns b.items (begun_bounded w s x y h))
