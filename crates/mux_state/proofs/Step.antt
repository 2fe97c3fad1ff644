-- What calls and heeded frames make of a channel, by its state.
use Rattle.std.specs.Prelude.{ℕ, List, [], ◌∷◌, ◌++◌, length, drop, Bool, true, false, not, ◌&&◌, ◌||◌, if◌then◌else◌, Option}
use Rattle.std.proofs.Common.{◌≡◌, inl, inr, refl, sym, ◌∙◌, ap, length-append}
use Rattle.std.proofs.lemmas.Bool.{cases_Bool, true≢false}
use Rattle.std.proofs.lemmas.List.{drop-append-le}
use Rattle.wire_base.specs.declared.frame.Version.{Version}
use Rattle.mux_items.specs.declared.channel.ChannelKey.{ChannelKey}
use Rattle.mux_items.specs.Bodies.{FrameBody, OfferAccepted, Content, ContentWritingCompleted, ChannelTerminated, ContentProcessed}
use Rattle.mux_items.specs.Items.{Item, DidAccept, DidWrite, DidComplete, Got, is_running}
use Rattle.mux_items.specs.Lists.{written, is_cut, before_cut, emitted_in, emitted, has_terminated, is_terminated_by_peer, is_rejected, completion_in, is_finished, termination_emitted, taken, is_accepted, handed}
use Rattle.mux_items.specs.Applying.{Allowed}
use Rattle.mux_items.proofs.Keys.{same_key_refl}
use Rattle.mux_items.proofs.Open.{unterminated, heard_uncut}
use Rattle.mux_items.proofs.Emission.{emitted_bound}
use Rattle.mux_items.proofs.Taking.{handed_bound}
use Rattle.mux_state.specs.State.{ChannelState, pending_bytes, channel_at}
use Rattle.mux_state.specs.Next.{accepted_state, written_state, completing_state, closed_state, framed_state, settled}
use Rattle.mux_state.proofs.Fields.{same_state, closed_drop}
use Rattle.mux_state.proofs.Open.{unsent, channel_open}

-- nothing is sent or cut
pub record IsOpen (v : Version) (c : ChannelKey) (items : List Item) : Type 0 where
  pub heard : termination_emitted v c items ≡ false
  pub here : has_terminated c items ≡ false
  pub peer : is_terminated_by_peer c items ≡ false
  pub unrejected : is_rejected c items ≡ false
  pub uncut : is_cut c items ≡ false

pub is_open : (v : Version) (c : ChannelKey) (items : List Item) → is_running items ≡ true → termination_emitted v c items ≡ false → IsOpen v c items
is_open v c items running heard =
    let parts = unterminated v c items heard in
    record { heard = heard; here = parts.here; peer = parts.peer; unrejected = parts.unrejected; uncut = heard_uncut v c items running heard }

-- the state of such a channel
abbrev pub plain : Version → ChannelKey → List Item → ChannelState
plain v c items = record (channel_at v c items) { pending = drop (emitted v c items) (written c items); unread = drop (handed v c items) (taken v c items); termination_sent = false; peer_terminated = false }

pub plain_is : (v : Version) (c : ChannelKey) (items : List Item) → IsOpen v c items → channel_at v c items ≡ plain v c items
plain_is v c items o =
    same_state (channel_at v c items) (plain v c items) refl refl refl refl refl (ap (λ b. pending_bytes b (emitted v c items) (written c items)) o.uncut) refl refl refl refl refl refl
    (rw (o.here, o.peer) refl) refl refl o.heard o.peer

unread_open : (h p a : Bool) (bytes : List ℕ) → h ≡ false → p ≡ false → (if h || (p && not a) then [] else bytes) ≡ bytes
unread_open true p a bytes e f = absurd (true≢false e)
unread_open false true a bytes e f = absurd (true≢false f)
unread_open false false a bytes e f = refl

pub absorbed_accept : (v : Version) (c : ChannelKey) (size : ℕ) (items : List Item) → IsOpen v c items → unsent v c (DidAccept c size) items ≡ accepted_state size (channel_at v c items)
absorbed_accept v c size items o =
    let item = DidAccept c size in
    let told : unsent v c item items ≡ accepted_state size (plain v c items) =
    same_state (unsent v c item items) (accepted_state size (plain v c items)) refl refl (rw (same_key_refl c) refl) (rw (same_key_refl c) refl) refl refl refl refl refl refl refl refl
    (unread_open (has_terminated c items) (is_terminated_by_peer c items) (is_accepted v c (item ∷ items)) (drop (handed v c items) (taken v c items)) o.here o.peer) refl refl refl refl in
    told ∙ ap (λ s. accepted_state size s) (sym (plain_is v c items o))

pub channel_accept : (v : Version) (c : ChannelKey) (size : ℕ) (items : List Item) → Allowed v (DidAccept c size ∷ items) → IsOpen v c items → channel_at v c (DidAccept c size ∷ items) ≡ settled (accepted_state size (channel_at v c items))
channel_accept v c size items ok o = channel_open v c (DidAccept c size) items ok o.heard o.uncut o.unrejected ∙ ap settled (absorbed_accept v c size items o)

pub absorbed_write : (v : Version) (c : ChannelKey) (bytes : List ℕ) (items : List Item) → IsOpen v c items → unsent v c (DidWrite c bytes) items ≡ written_state bytes (channel_at v c items)
absorbed_write v c bytes items o =
    let item = DidWrite c bytes in
    let grown : written c (item ∷ items) ≡ written c items ++ bytes = rw (same_key_refl c) refl in
    let told : unsent v c item items ≡ written_state bytes (plain v c items) =
    same_state (unsent v c item items) (written_state bytes (plain v c items)) refl refl refl refl (ap length grown ∙ length-append (written c items) bytes)
    (ap (drop (emitted v c items)) grown ∙ drop-append-le (emitted v c items) (written c items) bytes (emitted_bound v c items)) refl refl refl refl refl refl
    (unread_open (has_terminated c items) (is_terminated_by_peer c items) (is_accepted v c items) (drop (handed v c items) (taken v c items)) o.here o.peer) refl refl refl refl in
    told ∙ ap (λ s. written_state bytes s) (sym (plain_is v c items o))

pub channel_write : (v : Version) (c : ChannelKey) (bytes : List ℕ) (items : List Item) → Allowed v (DidWrite c bytes ∷ items) → IsOpen v c items → channel_at v c (DidWrite c bytes ∷ items) ≡ settled (written_state bytes (channel_at v c items))
channel_write v c bytes items ok o = channel_open v c (DidWrite c bytes) items ok o.heard o.uncut o.unrejected ∙ ap settled (absorbed_write v c bytes items o)

pub absorbed_complete : (v : Version) (c : ChannelKey) (items : List Item) → IsOpen v c items → unsent v c (DidComplete c) items ≡ completing_state (channel_at v c items)
absorbed_complete v c items o =
    let item = DidComplete c in
    let told : unsent v c item items ≡ completing_state (plain v c items) =
    same_state (unsent v c item items) (completing_state (plain v c items)) refl refl refl refl refl refl refl (rw (same_key_refl c) refl) refl refl refl refl
    (unread_open (has_terminated c items) (is_terminated_by_peer c items) (is_accepted v c items) (drop (handed v c items) (taken v c items)) o.here o.peer) refl refl refl refl in
    told ∙ ap (λ s. completing_state s) (sym (plain_is v c items o))

pub channel_complete : (v : Version) (c : ChannelKey) (items : List Item) → Allowed v (DidComplete c ∷ items) → IsOpen v c items → channel_at v c (DidComplete c ∷ items) ≡ settled (completing_state (channel_at v c items))
channel_complete v c items ok o = channel_open v c (DidComplete c) items ok o.heard o.uncut o.unrejected ∙ ap settled (absorbed_complete v c items o)

-- frames that are heeded
pub heard_frame : (v : Version) (place : ℕ) (c : ChannelKey) (body : FrameBody) (items : List Item) → Allowed v (Got place c body ∷ items) → IsOpen v c items → is_cut c (Got place c body ∷ items) ≡ false
    → unsent v c (Got place c body) items ≡ framed_state body (channel_at v c items) → channel_at v c (Got place c body ∷ items) ≡ settled (framed_state body (channel_at v c items))
heard_frame v place c body items ok o uncut told = channel_open v c (Got place c body) items ok o.heard uncut o.unrejected ∙ ap settled told

pub absorbed_answer : (v : Version) (place : ℕ) (c : ChannelKey) (size : Option ℕ) (items : List Item) → IsOpen v c items → unsent v c (Got place c (OfferAccepted size)) items ≡ framed_state (OfferAccepted size) (channel_at v c items)
absorbed_answer v place c size items o =
    let item = Got place c (OfferAccepted size) in
    (same_state (unsent v c item items) (framed_state (OfferAccepted size) (plain v c items)) refl refl refl (rw (same_key_refl c, o.heard) refl) refl refl refl refl refl (rw (same_key_refl c, o.heard) refl) refl refl
    (unread_open (has_terminated c items) (is_terminated_by_peer c items) (is_accepted v c (item ∷ items)) (drop (handed v c items) (taken v c items)) o.here o.peer) refl refl refl refl) ∙ ap (λ s. framed_state (OfferAccepted size) s) (sym (plain_is v c items o))

pub heard_answer : (v : Version) (place : ℕ) (c : ChannelKey) (size : Option ℕ) (items : List Item) → Allowed v (Got place c (OfferAccepted size) ∷ items) → IsOpen v c items → channel_at v c (Got place c (OfferAccepted size) ∷ items) ≡ settled (framed_state (OfferAccepted size) (channel_at v c items))
heard_answer v place c size items ok o = heard_frame v place c (OfferAccepted size) items ok o o.uncut (absorbed_answer v place c size items o)

pub absorbed_content : (v : Version) (place : ℕ) (c : ChannelKey) (bytes : List ℕ) (items : List Item) → IsOpen v c items → unsent v c (Got place c (Content bytes)) items ≡ framed_state (Content bytes) (channel_at v c items)
absorbed_content v place c bytes items o =
    let item = Got place c (Content bytes) in
    let grown : taken v c (item ∷ items) ≡ taken v c items ++ bytes = rw (same_key_refl c, o.heard) refl in
    (same_state (unsent v c item items) (framed_state (Content bytes) (plain v c items)) refl refl refl refl refl refl refl refl refl refl refl (ap length grown ∙ length-append (taken v c items) bytes)
    (unread_open (has_terminated c items) (is_terminated_by_peer c items) (is_accepted v c items) (drop (handed v c items) (taken v c (item ∷ items))) o.here o.peer
    ∙ (ap (drop (handed v c items)) grown ∙ drop-append-le (handed v c items) (taken v c items) bytes (handed_bound v c items))) refl refl refl refl) ∙ ap (λ s. framed_state (Content bytes) s) (sym (plain_is v c items o))

pub heard_content : (v : Version) (place : ℕ) (c : ChannelKey) (bytes : List ℕ) (items : List Item) → Allowed v (Got place c (Content bytes) ∷ items) → IsOpen v c items → channel_at v c (Got place c (Content bytes) ∷ items) ≡ settled (framed_state (Content bytes) (channel_at v c items))
heard_content v place c bytes items ok o = heard_frame v place c (Content bytes) items ok o o.uncut (absorbed_content v place c bytes items o)

pub absorbed_completion : (v : Version) (place : ℕ) (c : ChannelKey) (items : List Item) → IsOpen v c items → unsent v c (Got place c ContentWritingCompleted) items ≡ framed_state ContentWritingCompleted (channel_at v c items)
absorbed_completion v place c items o =
    let item = Got place c ContentWritingCompleted in
    (same_state (unsent v c item items) (framed_state ContentWritingCompleted (plain v c items)) refl refl refl refl refl refl refl refl refl refl refl refl
    (unread_open (has_terminated c items) (is_terminated_by_peer c items) (is_accepted v c items) (drop (handed v c items) (taken v c items)) o.here o.peer) refl (rw (same_key_refl c, o.heard) refl) refl refl) ∙ ap (λ s. framed_state ContentWritingCompleted s) (sym (plain_is v c items o))

pub heard_completion : (v : Version) (place : ℕ) (c : ChannelKey) (items : List Item) → Allowed v (Got place c ContentWritingCompleted ∷ items) → IsOpen v c items → channel_at v c (Got place c ContentWritingCompleted ∷ items) ≡ settled (framed_state ContentWritingCompleted (channel_at v c items))
heard_completion v place c items ok o = heard_frame v place c ContentWritingCompleted items ok o o.uncut (absorbed_completion v place c items o)

pub absorbed_credit : (v : Version) (place : ℕ) (c : ChannelKey) (count : ℕ) (items : List Item) → IsOpen v c items → unsent v c (Got place c (ContentProcessed count)) items ≡ framed_state (ContentProcessed count) (channel_at v c items)
absorbed_credit v place c count items o =
    let item = Got place c (ContentProcessed count) in
    (same_state (unsent v c item items) (framed_state (ContentProcessed count) (plain v c items)) refl refl refl refl refl refl refl refl refl (rw (same_key_refl c, o.heard) refl) (rw (same_key_refl c, o.heard) refl) refl
    (unread_open (has_terminated c items) (is_terminated_by_peer c items) (is_accepted v c items) (drop (handed v c items) (taken v c items)) o.here o.peer) refl refl refl refl) ∙ ap (λ s. framed_state (ContentProcessed count) s) (sym (plain_is v c items o))

pub heard_credit : (v : Version) (place : ℕ) (c : ChannelKey) (count : ℕ) (items : List Item) → Allowed v (Got place c (ContentProcessed count) ∷ items) → IsOpen v c items → channel_at v c (Got place c (ContentProcessed count) ∷ items) ≡ settled (framed_state (ContentProcessed count) (channel_at v c items))
heard_credit v place c count items ok o = heard_frame v place c (ContentProcessed count) items ok o o.uncut (absorbed_credit v place c count items o)

-- the peer's termination
pub settled_closed : (s : ChannelState) → settled (closed_state s) ≡ record (closed_state s) { termination_sent = true }
settled_closed s = elim (cases_Bool s.termination_sent) [
  | inl e ↦ rw e refl
  | inr e ↦ rw e refl
]

pub or_second : (a r b : Bool) → (a || true || r || b) ≡ true
or_second true r b = refl
or_second false r b = refl

pub channel_closed : (v : Version) (place : ℕ) (c : ChannelKey) (items : List Item) → channel_at v c (Got place c ChannelTerminated ∷ items) ≡ settled (closed_state (channel_at v c items))
channel_closed v place c items =
    let item = Got place c ChannelTerminated in
    let cut : is_cut c (item ∷ items) ≡ true = rw (same_key_refl c) refl in
    let peer : is_terminated_by_peer c (item ∷ items) ≡ true = rw (same_key_refl c) refl in
    let before : before_cut c (item ∷ items) ≡ before_cut c items = rw cut refl in
    same_state (channel_at v c (item ∷ items)) (record (closed_state (channel_at v c items)) { termination_sent = true }) refl refl refl refl refl
    (ap (λ b. pending_bytes b (emitted v c (item ∷ items)) (written c items)) cut) (ap (emitted_in v c) before) refl (ap (completion_in v c) before) refl refl refl
    (ap (λ b. if has_terminated c items || (b && not (is_accepted v c items)) then [] else drop (handed v c items) (taken v c items)) peer ∙ closed_drop (has_terminated c items) (is_accepted v c items) (is_terminated_by_peer c items) (drop (handed v c items) (taken v c items)))
    refl refl (ap (λ b. has_terminated c items || b || is_rejected c items || is_finished v c (item ∷ items)) peer ∙ or_second (has_terminated c items) (is_rejected c items) (is_finished v c (item ∷ items))) peer
    ∙ sym (settled_closed (channel_at v c items))
