-- A side that is given turns enough applies all that is whole, and what the other side does brings no more of what was delivered.
use Rattle.std.specs.Prelude.{if◌then◌else◌, nat_le, Bool, true, false, zero, suc}
use Rattle.std.proofs.Common.{◌≡◌, ℕ, ◌-◌, ◌≤◌, List, [], ◌∷◌, ◌++◌, length, drop, refl, ◌∙◌, ap, arith, length-append, Option, Some, None}
use Rattle.wire_base.specs.declared.frame.Version.{Version}
use Rattle.frame_text.specs.Hello.{hello}
use Rattle.mux_items.specs.Bodies.{ChannelFrame, frame_texts}
use Rattle.mux_items.specs.Due.{sent, got}
use Rattle.mux_items.specs.Items.{Item, is_running}
use Rattle.mux_items.specs.Refusals.{is_ready}
use Rattle.mux_run.specs.Run.{RunSide, SideTerms, out, greeting_size, whole_frames, next_frames, place_after, greet}
use Rattle.mux_run.proofs.WholeFrames.{whole_same}
use Rattle.endpoint_items.specs.Items.{EndItem, Mux}
use Rattle.endpoint_items.specs.Layers.{mux_of}
use Rattle.endpoint_items.specs.Arriving.{either, next_message}
use Rattle.endpoint_run.specs.Next.{first_frame, next_of_peer, next_item, with_next, settled_in, bytes_left}
use Rattle.endpoint_run.proofs.Turns.{IfItem}
use Rattle.endpoint_run.proofs.Underway.{IsUnderway, GoesOnWith, underway_next}

-- after as many turns as bytes are left nothing is next
pub settles : (w : SideTerms) (given : ℕ) (y : RunSide) (turns : ℕ) (items : List EndItem) → IsUnderway w given y items → bytes_left w given items ≤ turns → next_item w given y (settled_in w given y turns items) ≡ None
settles w given y zero items h b = none_left (next_item w given y items) (underway_next w given y items h)
  where
    none_left : (next : Option EndItem) → IfItem (GoesOnWith w given y items) next → next ≡ None
    none_left (Some item) on = (let less = on.smaller in absurd (omega (arith, less, b)))
    none_left None on = refl
settles w given y (suc turns) items h b = by (next_item w given y items) refl (underway_next w given y items h) (λ item on. settles w given y turns (item ∷ items) on.underway (let less = on.smaller in omega (arith, less, b)))
  where
    by : (next : Option EndItem) → next_item w given y items ≡ next → IfItem (GoesOnWith w given y items) next
        → ((item : EndItem) → GoesOnWith w given y items item → next_item w given y (settled_in w given y turns (item ∷ items)) ≡ None)
        → next_item w given y (with_next next items (λ item. settled_in w given y turns (item ∷ items))) ≡ None
    by (Some item) e on more = more item on
    by None e on more = e

-- where nothing is next turns change nothing
pub stays : (w : SideTerms) (given : ℕ) (y : RunSide) (turns : ℕ) (items : List EndItem) → next_item w given y items ≡ None → settled_in w given y turns items ≡ items
stays w given y zero items e = refl
stays w given y (suc turns) items e = ap (λ next. with_next next items (λ item. settled_in w given y turns (item ∷ items))) e

pub turns_enough : (w : SideTerms) (given : ℕ) (y : RunSide) (fewer turns : ℕ) (items : List EndItem) → fewer ≤ turns → next_item w given y (settled_in w given y fewer items) ≡ None
    → settled_in w given y turns items ≡ settled_in w given y fewer items
turns_enough w given y zero turns items h e = stays w given y turns items e
turns_enough w given y (suc fewer) zero items h e = absurd (omega (arith, h))
turns_enough w given y (suc fewer) (suc turns) items h e = by (next_item w given y items) (λ item. turns_enough w given y fewer turns (item ∷ items) (omega (arith, h))) e
  where
    by : (next : Option EndItem) → ((item : EndItem) → next_item w given y (settled_in w given y fewer (item ∷ items)) ≡ None → settled_in w given y turns (item ∷ items) ≡ settled_in w given y fewer (item ∷ items))
        → next_item w given y (with_next next items (λ item. settled_in w given y fewer (item ∷ items))) ≡ None
        → with_next next items (λ item. settled_in w given y turns (item ∷ items)) ≡ with_next next items (λ item. settled_in w given y fewer (item ∷ items))
    by (Some item) more e = more item e
    by None more e = refl

-- more frames of the other side bring nothing of what was delivered before

pub either_none : (a b : Option EndItem) → either a b ≡ None → (a ≡ None) × (b ≡ None)
either_none (Some item) b e = cc
either_none None b e = (refl, e)

pub none_first : (v : Version) (place : ℕ) (m : List Item) (fs : List ChannelFrame) → first_frame v place m fs ≡ None → fs ≡ []
none_first v place m [] e = refl
none_first v place m (f ∷ fs) e = cc

peer_none : (w : SideTerms) (given : ℕ) (m : List Item) (y after : RunSide) (more : List ChannelFrame) → sent w.version after.items ≡ sent w.version y.items ++ more → given ≤ length (out w.version w.peer y.items)
    → next_of_peer w given m y ≡ None → next_of_peer w given m after ≡ None
peer_none w given m y after more e h = by (is_ready w.version m)
  where
    room : ℕ
    room = given - greeting_size w

    same : next_frames w given (length (got m)) after ≡ next_frames w given (length (got m)) y
    same = ap (λ fs. drop (length (got m)) (whole_frames w.version room fs)) e
        ∙ ap (drop (length (got m))) (whole_same w.version room (sent w.version y.items) more (omega (arith, h, length-append (hello w.version w.peer) (frame_texts w.version (sent w.version y.items)))))

    by : (b : Bool) → (if b then first_frame w.version (place_after w (length (got m)) y) m (next_frames w given (length (got m)) y) else if nat_le (greeting_size w) given then Some (Mux (greet w)) else None) ≡ None
        → (if b then first_frame w.version (place_after w (length (got m)) after) m (next_frames w given (length (got m)) after) else if nat_le (greeting_size w) given then Some (Mux (greet w)) else None) ≡ None
    by true g = ap (first_frame w.version (place_after w (length (got m)) after) m) (same ∙ none_first w.version (place_after w (length (got m)) y) m (next_frames w given (length (got m)) y) g)
    by false g = g

pub still_none : (w : SideTerms) (given : ℕ) (items : List EndItem) (y after : RunSide) (more : List ChannelFrame) → sent w.version after.items ≡ sent w.version y.items ++ more → given ≤ length (out w.version w.peer y.items)
    → next_item w given y items ≡ None → next_item w given after items ≡ None
still_none w given items y after more e h = by (is_running m)
  where
    m : List Item
    m = mux_of w.version items

    by : (b : Bool) → (if b then either (next_message w.version items) (next_of_peer w given m y) else None) ≡ None → (if b then either (next_message w.version items) (next_of_peer w given m after) else None) ≡ None
    by true g =
        let both = either_none (next_message w.version items) (next_of_peer w given m y) g in
        ap (λ first. either first (next_of_peer w given m after)) both.0 ∙ peer_none w given m y after more e h both.1
    by false g = refl
