-- The frames that an end sends can be written, and are taken for what they are.
use Rattle.std.specs.Prelude.{if◌then◌else◌, ◌==◌, not, ◌&&◌, ◌||◌, min, zero, suc, Bool, true, false}
use Rattle.std.specs.List.{list_any}
use Rattle.std.specs.Str.{bytes_eq}
use Rattle.std.proofs.Common.{◌≡◌, ℕ, ◌<◌, List, [], ◌∷◌, ◌++◌, length, take, drop, map, refl, sym, ◌∙◌, ap, subst, inl, inr, arith, length-take}
use Rattle.std.proofs.lemmas.Bool.{cases_Bool}
use Rattle.wire_base.specs.declared.limits.TheConstants.{COUNT_LIMIT}
use Rattle.wire_base.specs.declared.frame.Version.{Version}
use Rattle.wire_base.specs.declared.frame.Version.TheVariants as version
use Rattle.wire_base.specs.declared.frame.Origin.TheVariants as origin
use Rattle.frame_text.specs.Frames.{fits, is_empty}
use Rattle.mux_items.specs.declared.channel.ChannelKey.{ChannelKey}
use Rattle.mux_items.specs.declared.party.Party.{Party}
use Rattle.mux_items.specs.Bodies.{FrameBody, Offer, OfferAccepted, Content, ContentWritingCompleted, ChannelTerminated, ContentProcessed, ChannelFrame, frame_on, frame_of, flip, other_key, taken_frame, origin_of, has_parity, is_own, same_key, is_one, is_three}
use Rattle.mux_items.specs.Items.{Item, Hello, DidOffer, DidAccept, DidWrite, DidRead, DidComplete, DidTerminate, Got, Rejected, End, is_running, greeting, party_of}
use Rattle.mux_items.specs.Kept.{keys, is_known}
use Rattle.mux_items.specs.Lists.{unread, is_live}
use Rattle.mux_items.specs.Limits.{piece_size}
use Rattle.mux_items.specs.Due.{pieces_in, content_frames, newly_emitted, completes, terminates, due_on, written_window, acknowledgement, due, sent}
use Rattle.mux_items.specs.Parties.{party_by}
use Rattle.mux_items.specs.Refusals.{is_greeted, is_ready}
use Rattle.mux_items.proofs.Keys.{same_key_true}
use Rattle.mux_run.specs.Run.{SideTerms, turned}
use Rattle.mux_end.proofs.Fits.{fits_offer, fits_accepted, fits_content, fits_completed, fits_terminated, fits_processed}
use Rattle.duo_world.specs.Ranges.{IsKeyInRange, IsPartyOfNonces, IsInRange, AreInRange}
use Rattle.duo_world.specs.Holding.{HaveNonces}
use Rattle.duo_world.proofs.Sides.{other_parity}

-- a frame of a side can be written, and its id tells its channel
pub record IsWritable (w : SideTerms) (f : ChannelFrame) : Type 0 where
  pub fits : fits w.version (frame_of w.version f) ≡ true
  pub key : IsKeyInRange w f.key

abbrev pub AreWritable : SideTerms → List ChannelFrame → Type 0
AreWritable w [] = Unit {0}
AreWritable w (f ∷ fs) = IsWritable w f × AreWritable w fs

writable-append : (w : SideTerms) (fs gs : List ChannelFrame) → AreWritable w fs → AreWritable w gs → AreWritable w (fs ++ gs)
writable-append w [] gs a b = b
writable-append w (f ∷ fs) gs a b = (a.0, writable-append w fs gs a.1 b)

pub writable-back : (w : SideTerms) (fs gs : List ChannelFrame) → AreWritable w (fs ++ gs) → AreWritable w gs
writable-back w [] gs a = a
writable-back w (f ∷ fs) gs a = writable-back w fs gs a.1

-- frames on a channel

pieces_writable : (w : SideTerms) (c : ChannelKey) (turns : ℕ) (bytes : List ℕ) → IsKeyInRange w c → AreWritable w (map (λ piece. frame_on c (Content piece)) (pieces_in turns bytes))
pieces_writable w c zero bytes s = tt
pieces_writable w c (suc turns) bytes s = elim (cases_Bool (is_empty bytes)) [
  | inl e ↦ rw e tt
  | inr e ↦ rw e (
    record { fits = fits_content w.version c (take piece_size bytes) s.id (omega (arith, length-take piece_size bytes)); key = s },
    pieces_writable w c turns (drop piece_size bytes) s,
  )
]

if_writable : (w : SideTerms) (b : Bool) (f : ChannelFrame) → IsWritable w f → AreWritable w (if b then f ∷ [] else [])
if_writable w true f s = (s, tt)
if_writable w false f s = tt

due_on_writable : (w : SideTerms) (c : ChannelKey) (first : List ChannelFrame) (item : Item) (items : List Item) → IsKeyInRange w c → AreWritable w first → AreWritable w (due_on w.version c first item items)
due_on_writable w c first item items s f =
    let v = w.version in
    let bytes = newly_emitted v c item items in
    let last = if terminates v c item items then frame_on c ChannelTerminated ∷ [] else [] in
    let third = if completes v c item items then frame_on c ContentWritingCompleted ∷ [] else [] in
    writable-append w (first ++ content_frames c bytes ++ third) last
    (writable-append w (first ++ content_frames c bytes) third
    (writable-append w first (content_frames c bytes) f (pieces_writable w c (length bytes) bytes s))
    (if_writable w (completes v c item items) (frame_on c ContentWritingCompleted) (record { fits = fits_completed v c s.id; key = s })))
    (if_writable w (terminates v c item items) (frame_on c ChannelTerminated) (record { fits = fits_terminated v c s.id; key = s }))

if_none_writable : (w : SideTerms) (b : Bool) (fs : List ChannelFrame) → (b ≡ false → AreWritable w fs) → AreWritable w (if b then [] else fs)
if_none_writable w true fs s = tt
if_none_writable w false fs s = s refl

acknowledgement_writable : (w : SideTerms) (c : ChannelKey) (count : ℕ) (items : List Item) → IsKeyInRange w c → count < COUNT_LIMIT → AreWritable w (acknowledgement w.version c count items)
acknowledgement_writable w c count items s small =
    if_none_writable w (is_one w.version) _ (λ two. if_none_writable w (count == 0) _ (λ some.
    if_writable w (is_running items && is_live w.version c items) (frame_on c (ContentProcessed count)) (record { fits = fits_processed w.version c count s.id two small; key = s })))

due_writable : (w : SideTerms) (item : Item) (items : List Item) → IsInRange w item items → AreWritable w (due w.version item items)
due_writable w (Hello party) items s = tt
due_writable w (DidOffer c name size) items s =
    due_on_writable w c (frame_on c (Offer name (written_window w.version size)) ∷ []) (DidOffer c name size) items s.0
    (record { fits = fits_offer w.version c name size s.0.id s.1.utf8 s.1.short s.2; key = s.0 }, tt)
due_writable w (DidAccept c size) items s =
    due_on_writable w c (frame_on c (OfferAccepted (written_window w.version size)) ∷ []) (DidAccept c size) items s.0
    (record { fits = fits_accepted w.version c size s.0.id s.1; key = s.0 }, tt)
due_writable w (DidWrite c bytes) items s = due_on_writable w c [] (DidWrite c bytes) items s tt
due_writable w (DidRead c max) items s = acknowledgement_writable w c (min max (length (unread w.version c items))) items s.0 s.1
due_writable w (DidComplete c) items s = due_on_writable w c [] (DidComplete c) items s tt
due_writable w (DidTerminate c) items s = due_on_writable w c [] (DidTerminate c) items s tt
due_writable w (Got place c body) items s = due_on_writable w c [] (Got place c body) items s tt
due_writable w (Rejected place c body) items s = (record { fits = fits_terminated w.version c s.id; key = s }, tt)
due_writable w (End cause) items s = tt

-- each frame that was sent can be written
pub sent_writable : (w : SideTerms) (items : List Item) → AreInRange w items → AreWritable w (sent w.version items)
sent_writable w [] s = tt
sent_writable w (item ∷ items) s = writable-append w (sent w.version items) (due w.version item items) (sent_writable w items s.1) (due_writable w item items s.0)

-- the handshake that was applied

told : (w : SideTerms) (items : List Item) → AreInRange w items → is_greeted (greeting items) ≡ true → IsPartyOfNonces w (party_of items)
told w [] s e = absurd cc
told w (Hello party ∷ items) s e = s.0
told w (item ∷ items) s e = told w items s.1 e

-- an end of version 1 or 2 that is ready has its party by the nonces
pub ready_party : (w : SideTerms) (items : List Item) → AreInRange w items → is_ready w.version items ≡ true → is_three w.version ≡ false → IsPartyOfNonces w (party_of items)
ready_party w items s ready two = told w items s (ap (λ b. b || is_greeted (greeting items)) (sym two) ∙ ready)

-- a channel of one side is the other's too

turned_side : (w : SideTerms) (c : ChannelKey) → HaveNonces w → bytes_eq w.own w.peer ≡ false → IsKeyInRange (turned w) c → is_three w.version ≡ false → not c.own ≡ has_parity (party_by w.own w.peer) c.id
turned_side w c n differ s two =
    ap not (s.source two) ∙ sym (other_parity w.own w.peer c.id (n.own ∙ sym n.peer) differ)

pub turned_key : (w : SideTerms) (c : ChannelKey) → HaveNonces w → (is_three w.version ≡ false → bytes_eq w.own w.peer ≡ false) → IsKeyInRange (turned w) c → IsKeyInRange w (other_key c)
turned_key w c n differ s = record { id = s.id; source = λ two. turned_side w c n (differ two) s two }

-- a frame is taken for what it is at the other end

taken_own : (party : Party) (own : Bool) (id : ℕ) → is_own party (if own then origin.Sender else origin.Receiver) id ≡ not own
taken_own party true id = refl
taken_own party false id = refl

taken_side : (v : Version) (party : Party) (c : ChannelKey) → (is_three v ≡ false → not c.own ≡ has_parity party c.id) → is_own party (origin_of v c) c.id ≡ not c.own
taken_side version.One party c h = sym (h refl)
taken_side version.Two party c h = sym (h refl)
taken_side version.Three party c h = taken_own party c.own c.id

taken_body : (v : Version) (party : Party) (c : ChannelKey) (body : FrameBody) → is_own party (origin_of v c) c.id ≡ not c.own → taken_frame party (frame_of v (frame_on c body)) ≡ flip (frame_on c body)
taken_body v party c (Offer name window) e = ap (λ own. record { key = record { id = c.id; own = own }; body = Offer name window }) e
taken_body v party c (OfferAccepted window) e = ap (λ own. record { key = record { id = c.id; own = own }; body = OfferAccepted window }) e
taken_body v party c (Content bytes) e = ap (λ own. record { key = record { id = c.id; own = own }; body = Content bytes }) e
taken_body v party c ContentWritingCompleted e = ap (λ own. record { key = record { id = c.id; own = own }; body = ContentWritingCompleted }) e
taken_body v party c ChannelTerminated e = ap (λ own. record { key = record { id = c.id; own = own }; body = ChannelTerminated }) e
taken_body v party c (ContentProcessed count) e = ap (λ own. record { key = record { id = c.id; own = own }; body = ContentProcessed count }) e

pub taken_flip : (w : SideTerms) (party : Party) (f : ChannelFrame) → HaveNonces w → (is_three w.version ≡ false → IsPartyOfNonces w party) → IsKeyInRange (turned w) f.key → taken_frame party (frame_of w.version f) ≡ flip f
taken_flip w party f n p s =
    taken_body w.version party f.key f.body
    (taken_side w.version party f.key (λ two. turned_side w f.key n (p two).differ s two ∙ ap (λ party. has_parity party f.key.id) (sym (p two).party_is)))

-- a known channel is one that some item names
abbrev AreKeysInRange : SideTerms → List ChannelKey → Type 0
AreKeysInRange w [] = Unit {0}
AreKeysInRange w (c ∷ cs) = IsKeyInRange w c × AreKeysInRange w cs

keys_in_range : (w : SideTerms) (items : List Item) → AreInRange w items → AreKeysInRange w (keys items)
keys_in_range w [] s = tt
keys_in_range w (DidOffer key name size ∷ items) s = (s.0.0, keys_in_range w items s.1)
keys_in_range w (Got place key (Offer name size) ∷ items) s = (s.0, keys_in_range w items s.1)
keys_in_range w (item ∷ items) s = keys_in_range w items s.1

any_in_range : (w : SideTerms) (c : ChannelKey) (cs : List ChannelKey) → AreKeysInRange w cs → list_any (same_key c) cs ≡ true → IsKeyInRange w c
any_in_range w c [] s e = absurd cc
any_in_range w c (d ∷ ds) s e = elim (cases_Bool (same_key c d)) [
  | inl h ↦ subst (IsKeyInRange w) (sym (same_key_true c d h)) s.0
  | inr h ↦ any_in_range w c ds s.1 (sym (ap (λ b. b || list_any (same_key c) ds) h) ∙ e)
]

pub known_in_range : (w : SideTerms) (c : ChannelKey) (items : List Item) → AreInRange w items → is_known c items ≡ true → IsKeyInRange w c
known_in_range w c items s e = any_in_range w c (keys items) (keys_in_range w items s) e
