-- What is so of the next item, and what so many turns keep.
use Rattle.std.specs.Prelude.{if◌then◌else◌, nat_le, Bool, true, false, zero, suc}
use Rattle.std.proofs.Common.{◌≡◌, ℕ, ◌≤◌, List, [], ◌∷◌, length, refl, subst, leb-true, Option, Some, None}
use Rattle.mux_items.specs.Bodies.{ChannelFrame}
use Rattle.mux_items.specs.Due.{got}
use Rattle.mux_items.specs.Items.{Item, is_running}
use Rattle.mux_items.specs.Refusals.{is_ready}
use Rattle.mux_run.specs.Run.{RunSide, SideTerms, greeting_size, next_frames, place_after, greet}
use Rattle.endpoint_items.specs.Items.{EndItem, Mux}
use Rattle.endpoint_items.specs.Layers.{mux_of}
use Rattle.endpoint_items.specs.Arriving.{either, next_message}
use Rattle.endpoint_run.specs.Next.{frame_item, first_frame, next_of_peer, next_item, with_next, settled_in}

-- what is so of an item, where there is one
abbrev pub IfItem : (EndItem → Type 0) → Option EndItem → Type 0
IfItem P (Some item) = P item
IfItem P None = Unit {0}

pub either_if : (P : EndItem → Type 0) (a b : Option EndItem) → IfItem P a → IfItem P b → IfItem P (either a b)
either_if P (Some item) b p q = p
either_if P None b p q = q

pub if_every : (P Q : EndItem → Type 0) (item : Option EndItem) → ((item : EndItem) → P item → Q item) → IfItem P item → IfItem Q item
if_every P Q (Some item) h p = h item p
if_every P Q None h p = tt

pub if_found : (P : EndItem → Type 0) (next : Option EndItem) → ((item : EndItem) → next ≡ Some item → P item) → IfItem P next
if_found P (Some item) h = h item refl
if_found P None h = tt

pub if_some : (P : EndItem → Type 0) (next : Option EndItem) (item : EndItem) → next ≡ Some item → IfItem P next → P item
if_some P next item e p = subst (IfItem P) e p

-- a frame or the handshake
pub peer_if : (P : EndItem → Type 0) (w : SideTerms) (given : ℕ) (m : List Item) (y : RunSide)
    → (is_ready w.version m ≡ true → (f : ChannelFrame) (fs : List ChannelFrame) → next_frames w given (length (got m)) y ≡ f ∷ fs → P (Mux (frame_item w.version (place_after w (length (got m)) y) f m)))
    → (is_ready w.version m ≡ false → greeting_size w ≤ given → P (Mux (greet w)))
    → IfItem P (next_of_peer w given m y)
peer_if P w given m y frame hello = by (is_ready w.version m) refl
  where
    place : ℕ
    place = place_after w (length (got m)) y

    framed : is_ready w.version m ≡ true → (fs : List ChannelFrame) → next_frames w given (length (got m)) y ≡ fs → IfItem P (first_frame w.version place m fs)
    framed ready [] e = tt
    framed ready (f ∷ fs) e = frame ready f fs e

    greeted : is_ready w.version m ≡ false → (b : Bool) → nat_le (greeting_size w) given ≡ b → IfItem P (if b then Some (Mux (greet w)) else None)
    greeted unready true e = hello unready (leb-true (greeting_size w) given e)
    greeted unready false e = tt

    by : (b : Bool) → is_ready w.version m ≡ b → IfItem P (if b then first_frame w.version place m (next_frames w given (length (got m)) y) else if nat_le (greeting_size w) given then Some (Mux (greet w)) else None)
    by true e = framed e (next_frames w given (length (got m)) y) refl
    by false e = greeted e (nat_le (greeting_size w) given) refl

-- a message, a frame or the handshake, of an end that runs
pub next_if : (P : EndItem → Type 0) (w : SideTerms) (given : ℕ) (y : RunSide) (items : List EndItem)
    → (is_running (mux_of w.version items) ≡ true → IfItem P (next_message w.version items)) → (is_running (mux_of w.version items) ≡ true → IfItem P (next_of_peer w given (mux_of w.version items) y))
    → IfItem P (next_item w given y items)
next_if P w given y items message peer = by (is_running (mux_of w.version items)) refl
  where
    by : (b : Bool) → is_running (mux_of w.version items) ≡ b → IfItem P (if b then either (next_message w.version items) (next_of_peer w given (mux_of w.version items) y) else None)
    by true runs = either_if P (next_message w.version items) (next_of_peer w given (mux_of w.version items) y) (message runs) (peer runs)
    by false stops = tt

-- what the next item keeps
pub settled_if : (P : List EndItem → Type 0) (w : SideTerms) (given : ℕ) (y : RunSide) → ((items : List EndItem) → P items → IfItem (λ item. P (item ∷ items)) (next_item w given y items))
    → (turns : ℕ) (items : List EndItem) → P items → P (settled_in w given y turns items)
settled_if P w given y keeps zero items p = p
settled_if P w given y keeps (suc turns) items p = by (next_item w given y items) (keeps items p) (λ item q. settled_if P w given y keeps turns (item ∷ items) q)
  where
    by : (next : Option EndItem) → IfItem (λ item. P (item ∷ items)) next → ((item : EndItem) → P (item ∷ items) → P (settled_in w given y turns (item ∷ items)))
        → P (with_next next items (λ item. settled_in w given y turns (item ∷ items)))
    by (Some item) q more = more item q
    by None q more = p
