-- What stands in the bytes of a multiplexing end that applies its peer's handshake and frames.
use Rattle.std.specs.Prelude.{if◌then◌else◌, Bool, true, false}
use Rattle.mux_items.specs.declared.channel.ChannelKey.{ChannelKey}
use Rattle.std.proofs.Common.{◌≡◌, ℕ, ◌+◌, ◌-◌, List, [], ◌∷◌, ◌++◌, length, take, drop, refl, sym, ◌∙◌, ap, subst, length-append}
use Rattle.std.proofs.lemmas.List.{take-append-drop, drop-append-le, drop-drop}
use Rattle.wire_base.specs.declared.frame.Version.{Version}
use Rattle.frame_text.specs.Front.{Whole, Short}
use Rattle.frame_text.specs.Reading.{front}
use Rattle.mux_items.specs.Bodies.{FrameBody, ChannelFrame, frame_on, frame_of, flip, taken_frame, frame_text}
use Rattle.mux_items.specs.Items.{Item, Got, Rejected, greeting, party_of}
use Rattle.mux_items.specs.Due.{sent, got}
use Rattle.mux_items.specs.Refusals.{is_ready}
use Rattle.mux_items.specs.Applying.{item_of_frame, lacks_room}
use Rattle.mux_run.proofs.Cuts.{IsCut}
use Rattle.mux_run.specs.Fed.{LieWithin}
use Rattle.mux_run.specs.Run.{RunSide, SideTerms, turned, out, greeting_size, whole_frames, next_frames, place_after}
use Rattle.mux_run.proofs.Fed.{ready_same}
use Rattle.mux_run.proofs.Streams.{stream_cut, place_after_more}
use Rattle.mux_run.proofs.WholeFrames.{whole_front}
use Rattle.duo_world.specs.Ranges.{IsKeyInRange, IsInRange, AreInRange}
use Rattle.duo_world.specs.Holding.{place_of, rest_of, HaveNonces}
use Rattle.duo_world.proofs.Frames.{IsWritable, AreWritable, writable-back, sent_writable, ready_party, turned_key, taken_flip}
use Rattle.duo_world.proofs.Fronts.{front_none, front_some}

-- a multiplexing end with these items, to which so many bytes were delivered
abbrev pub given_side : List Item → (delivered : ℕ) → RunSide
given_side items delivered = record { items = items; delivered = delivered }

-- a multiplexing end whose items lie in the bytes that were delivered to it from y; more of these may be whole
pub record MayApply (w : SideTerms) (delivered : ℕ) (items : List Item) (y : RunSide) : Type 0 where
  pub nonces : HaveNonces w
  pub lie : LieWithin w delivered items y
  pub in_range : AreInRange w items
  pub peer_in_range : AreInRange (turned w) y.items

-- an end that is ready, and one that waits for its peer's handshake

pub place_ready : (w : SideTerms) (x y : RunSide) → is_ready w.version x.items ≡ true → place_of w x y ≡ place_after w (length (got x.items)) y
place_ready w x y e = ap (λ b. if b then place_after w (length (got x.items)) y else 0) e

pub place_unready : (w : SideTerms) (x y : RunSide) → is_ready w.version x.items ≡ false → place_of w x y ≡ 0
place_unready w x y e = ap (λ b. if b then place_after w (length (got x.items)) y else 0) e

-- the bytes that a ready end didn't apply

rest_cut : (w : SideTerms) (d : ℕ) (items : List Item) (y : RunSide) → MayApply w d items y → is_ready w.version items ≡ true
    → IsCut w.version (rest_of w (given_side items d) y) (next_frames w d (length (got items)) y) (drop (length (whole_frames w.version (d - greeting_size w) (sent w.version y.items))) (sent w.version y.items))
rest_cut w d items y s ready =
    subst (λ n. IsCut w.version (drop n (take d (out w.version w.peer y.items))) (next_frames w d (length (got items)) y) (drop (length (whole_frames w.version (d - greeting_size w) (sent w.version y.items))) (sent w.version y.items)))
    (sym (place_ready w (given_side items d) y ready)) (stream_cut w d (length (got items)) y (s.lie.greeted ready) s.lie.within)

peer_writable : (w : SideTerms) (d : ℕ) (items : List Item) (y : RunSide) → MayApply w d items y → AreWritable (turned w) (sent w.version y.items)
peer_writable w d items y s = sent_writable (turned w) y.items s.peer_in_range

-- where all is applied that is whole, what is left is short
pub front_short : (w : SideTerms) (d : ℕ) (items : List Item) (y : RunSide) → MayApply w d items y → is_ready w.version items ≡ true → next_frames w d (length (got items)) y ≡ [] → front w.version (rest_of w (given_side items d) y) ≡ Short
front_short w d items y s ready e =
    let frames = sent w.version y.items in
    let whole = whole_frames w.version (d - greeting_size w) frames in
    let others = drop (length whole) frames in
    let said = writable-back (turned w) whole others (subst (AreWritable (turned w)) (sym (whole_front w.version (d - greeting_size w) frames)) (peer_writable w d items y s)) in
    front_none (turned w) (rest_of w (given_side items d) y) others said (subst (λ fs. IsCut w.version (rest_of w (given_side items d) y) fs others) e (rest_cut w d items y s ready))

-- the frames after those that were applied
behind : (w : SideTerms) (d : ℕ) (items : List Item) (y : RunSide) (f : ChannelFrame) (fs : List ChannelFrame) → MayApply w d items y → next_frames w d (length (got items)) y ≡ f ∷ fs
    → (more : List ChannelFrame) × (drop (length (got items)) (sent w.version y.items) ≡ f ∷ more)
behind w d items y f fs s e =
    let frames = sent w.version y.items in
    let whole = whole_frames w.version (d - greeting_size w) frames in
    let k = length (got items) in
    let tail = drop (length whole) frames in
    (fs ++ tail, ap (drop k) (sym (whole_front w.version (d - greeting_size w) frames)) ∙ (drop-append-le k whole tail s.lie.within ∙ ap (λ gs. gs ++ tail) e))

next_writable : (w : SideTerms) (d : ℕ) (items : List Item) (y : RunSide) (f : ChannelFrame) (fs : List ChannelFrame) → MayApply w d items y → next_frames w d (length (got items)) y ≡ f ∷ fs → IsWritable (turned w) f
next_writable w d items y f fs s e =
    let frames = sent w.version y.items in
    let k = length (got items) in
    let b = behind w d items y f fs s e in
    let all : take k frames ++ f ∷ b.0 ≡ frames = ap (λ gs. take k frames ++ gs) (sym b.1) ∙ take-append-drop k frames in
    (writable-back (turned w) (take k frames) (f ∷ b.0) (subst (AreWritable (turned w)) (sym all) (peer_writable w d items y s))).0

-- the next frame stands at the front
pub front_frame : (w : SideTerms) (d : ℕ) (items : List Item) (y : RunSide) (f : ChannelFrame) (fs : List ChannelFrame) → MayApply w d items y → is_ready w.version items ≡ true → next_frames w d (length (got items)) y ≡ f ∷ fs
    → front w.version (rest_of w (given_side items d) y) ≡ Whole (frame_of w.version f) (length (frame_text w.version f))
front_frame w d items y f fs s ready e =
    let frames = sent w.version y.items in
    let others = drop (length (whole_frames w.version (d - greeting_size w) frames)) frames in
    front_some (turned w) (rest_of w (given_side items d) y) f fs others (next_writable w d items y f fs s e)
    (subst (λ gs. IsCut w.version (rest_of w (given_side items d) y) gs others) e (rest_cut w d items y s ready))

-- and is taken for what it is
pub next_taken_as : (w : SideTerms) (d : ℕ) (items : List Item) (y : RunSide) (f : ChannelFrame) (fs : List ChannelFrame) → MayApply w d items y → is_ready w.version items ≡ true → next_frames w d (length (got items)) y ≡ f ∷ fs
    → taken_frame (party_of items) (frame_of w.version f) ≡ flip f
next_taken_as w d items y f fs s ready e = taken_flip w (party_of items) f s.nonces (ready_party w items s.in_range ready) (next_writable w d items y f fs s e).key

-- the key of the next frame is in the range of the end that takes it
pub next_key_in_range : (w : SideTerms) (d : ℕ) (items : List Item) (y : RunSide) (f : ChannelFrame) (fs : List ChannelFrame) → MayApply w d items y → is_ready w.version items ≡ true → next_frames w d (length (got items)) y ≡ f ∷ fs → IsKeyInRange w (flip f).key
next_key_in_range w d items y f fs s ready e =
    turned_key w f.key s.nonces (λ two. (ready_party w items s.in_range ready two).differ) (next_writable w d items y f fs s e).key

-- the item of a frame that isn't refused

pub record TakesFrame (v : Version) (f : ChannelFrame) (item : Item) (items : List Item) : Type 0 where
  pub got_is : got (item ∷ items) ≡ got items ++ f ∷ []
  pub greeting_is : greeting (item ∷ items) ≡ greeting items
  pub in_range : (w : SideTerms) → IsKeyInRange w f.key → IsInRange w item items

pub takes_frame : (v : Version) (place : ℕ) (c : ChannelKey) (body : FrameBody) (items : List Item) → TakesFrame v (frame_on c body) (item_of_frame v place c body items) items
takes_frame v place c body items = by (lacks_room v body items)
  where
    by : (b : Bool) → TakesFrame v (frame_on c body) (if b then Rejected place c body else Got place c body) items
    by true = record { got_is = refl; greeting_is = refl; in_range = λ w s. s }
    by false = record { got_is = refl; greeting_is = refl; in_range = λ w s. s }

got_more : (v : Version) (f : ChannelFrame) (item : Item) (items : List Item) → TakesFrame v f item items → length (got (item ∷ items)) ≡ length (got items) + 1
got_more v f item items t = ap length t.got_is ∙ length-append (got items) (f ∷ [])

pub still_ready : (v : Version) (f : ChannelFrame) (item : Item) (items : List Item) → TakesFrame v f item items → is_ready v items ≡ true → is_ready v (item ∷ items) ≡ true
still_ready v f item items t e = ready_same v items (item ∷ items) t.greeting_is ∙ e

pub place_got : (w : SideTerms) (d : ℕ) (item : Item) (items : List Item) (y : RunSide) (f : ChannelFrame) (fs : List ChannelFrame) → next_frames w d (length (got items)) y ≡ f ∷ fs → TakesFrame w.version (flip f) item items
    → place_after w (length (got (item ∷ items))) y ≡ place_after w (length (got items)) y + length (frame_text w.version f)
place_got w d item items y f fs e t = ap (λ k. place_after w k y) (got_more w.version (flip f) item items t) ∙ place_after_more w d (length (got items)) y f fs e

pub rest_moved : (w : SideTerms) (d size : ℕ) (before after : List Item) (y : RunSide) → place_of w (given_side before d) y + size ≡ place_of w (given_side after d) y
    → drop size (rest_of w (given_side before d) y) ≡ rest_of w (given_side after d) y
rest_moved w d size before after y e =
    let bytes = take d (out w.version w.peer y.items) in
    drop-drop size (place_of w (given_side before d) y) bytes ∙ ap (λ n. drop n bytes) e
