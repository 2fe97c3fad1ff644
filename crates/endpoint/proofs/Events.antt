-- What the peer's frames do to connections, by their events.
use Rattle.std.specs.Prelude.{if◌then◌else◌, not, ◌&&◌, ◌||◌, Bool, true, false}
use Rattle.std.proofs.Common.{◌≡◌, ℕ, List, [], ◌∷◌, length, refl, sym, ◌∙◌, ap, subst, Option, Some, None}
use Rattle.std.proofs.lemmas.Bool.{or_right, true≢false}
use Rattle.wire_base.specs.declared.frame.Version.{Version}
use Rattle.wire_base.specs.declared.state.Cause.{Cause}
use Rattle.mux_items.specs.declared.channel.ChannelKey.{ChannelKey}
use Rattle.mux_items.specs.declared.channel.MuxEvent.{MuxEvent}
use Rattle.mux_items.specs.declared.channel.MuxEvent.TheVariants as event
use Rattle.mux_items.specs.Applying.{event_of, frame_event}
use Rattle.mux_items.specs.Bodies.{FrameBody, Offer, OfferAccepted, Content, ContentWritingCompleted, ChannelTerminated, ContentProcessed, same_key}
use Rattle.mux_items.specs.Items.{Item, Hello, Got, Rejected}
use Rattle.mux_items.specs.Kept.{is_known}
use Rattle.mux_items.specs.Lists.{heeds, has_terminated, is_accepted, is_finished, is_rejected, is_terminated_by_peer, termination_emitted}
use Rattle.mux_items.proofs.Keys.{same_key_true}
use Rattle.rpc_items.specs.Items as rpc
use Rattle.endpoint_items.specs.Allowed.{AreAllowed, used_in}
use Rattle.endpoint_items.specs.Bytes.{is_read_on}
use Rattle.endpoint_items.specs.Connections.{Connection, is_attached, end_for, end_by, end_by_frame, with_item}
use Rattle.endpoint_items.specs.Following.{follow_ups}
use Rattle.endpoint_items.specs.Items.{EndItem, Mux}
use Rattle.endpoint_items.specs.Layers.{mux_of, rpc_of}
use Rattle.endpoint_items.proofs.Attached.{attached_going, attached_open}
use Rattle.endpoint_items.proofs.Opens.{IsGoing, going_usable}

-- whether a frame neither completes nor terminates its channel
abbrev pub leaves_going : FrameBody → Bool
leaves_going ContentWritingCompleted = false
leaves_going ChannelTerminated = false
leaves_going body = true

accepted_with : (own accepted now : Bool) → (not own && not accepted) ≡ false → (not own && not (if now then true else accepted)) ≡ false
accepted_with true accepted now e = refl
accepted_with false accepted true e = refl
accepted_with false accepted false e = e

pub still_going : (v : Version) (c : ChannelKey) (place : ℕ) (key : ChannelKey) (body : FrameBody) (m : List Item) → leaves_going body ≡ true → IsGoing v c m → IsGoing v c (Got place key body ∷ m)
still_going v c place key (Offer name size) m e o = ((o.0.0, or_right (same_key c key) (is_known c m) o.0.1, o.0.2, o.0.3, o.0.4, o.0.5), o.1)
still_going v c place key (OfferAccepted size) m e o = ((o.0.0, o.0.1, o.0.2, o.0.3, o.0.4, accepted_with c.own (is_accepted v c m) (heeds v key c m) o.0.5), o.1)
still_going v c place key (Content bytes) m e o = o
still_going v c place key (ContentProcessed count) m e o = o
still_going v c place key ContentWritingCompleted m e o = cc
still_going v c place key ChannelTerminated m e o = cc

-- such a frame ends no connection
unended : (v : Version) (c : ChannelKey) (place : ℕ) (key : ChannelKey) (body : FrameBody) (m : List Item) → leaves_going body ≡ true → IsGoing v c m → end_by v c (Got place key body) (Got place key body ∷ m) ≡ None
unended v c place key body m e o = by (same_key key c)
  where
    now : List Item
    now = Got place key body ∷ m

    heard : termination_emitted v c now ≡ false
    heard = (going_usable v c now (still_going v c place key body m e o)).heard

    cause_none : (body : FrameBody) → leaves_going body ≡ true → end_by_frame v c body now ≡ None
    cause_none ContentWritingCompleted h = cc
    cause_none (Offer name size) h = rw heard refl
    cause_none (OfferAccepted size) h = rw heard refl
    cause_none (Content bytes) h = rw heard refl
    cause_none ChannelTerminated h = cc
    cause_none (ContentProcessed count) h = rw heard refl

    by : (b : Bool) → (if b then end_by_frame v c body now else None) ≡ None
    by true = cause_none body e
    by false = refl

-- a connection without a cause stays, and so does one that has ended
pub unchanged : (why : Option Cause) (x : Connection) → (is_attached x ≡ true → why ≡ None) → end_for why x ≡ x
unchanged None x h = refl
unchanged (Some why) x h = by (is_attached x) refl
  where
    by : (b : Bool) → is_attached x ≡ b → (if b then with_item (rpc.End why) x else x) ≡ x
    by true e = absurd (let none : Some why ≡ None = h e in cc)
    by false e = refl

-- so a frame that leaves its channel going leaves every connection as it was
pub going_stays : (v : Version) (items : List EndItem) (place : ℕ) (key : ChannelKey) (body : FrameBody) → AreAllowed v items → leaves_going body ≡ true → (c : ChannelKey) → rpc_of v c (Mux (Got place key body) ∷ items) ≡ rpc_of v c items
going_stays v items place key body a e c =
    let m = mux_of v items in
    unchanged (end_by v c (Got place key body) (Got place key body ∷ m)) (rpc_of v c items) (λ attached. unended v c place key body m e (attached_going v c items a attached))

-- the peer's termination stands
pub by_peer_emitted : (v : Version) (c : ChannelKey) (m : List Item) → is_terminated_by_peer c m ≡ true → termination_emitted v c m ≡ true
by_peer_emitted v c m e = rw e (or_true (has_terminated c m) (is_rejected c m) (is_finished v c m))
  where
    or_true : (a b d : Bool) → (a || true || b || d) ≡ true
    or_true true b d = refl
    or_true false b d = refl

-- what an item makes of connections whose event asks for nothing
pub record IsQuiet (v : Version) (items : List EndItem) (item : Item) : Type 0 where
  pub calls : follow_ups v (λ c. is_attached (rpc_of v c items)) item (item ∷ mux_of v items) ≡ []
  pub stays : (c : ChannelKey) → rpc_of v c (Mux item ∷ items) ≡ rpc_of v c items
  pub unread : (c : ChannelKey) → is_read_on c (is_attached (rpc_of v c items)) item ≡ false
  pub unused : used_in item ≡ None

-- a frame on a channel without a running connection
pub unattached_quiet : (v : Version) (items : List EndItem) (place : ℕ) (key : ChannelKey) (body : FrameBody) → is_attached (rpc_of v key items) ≡ false → IsQuiet v items (Got place key body)
unattached_quiet v items place key body e = record {
  calls = no_calls body;
  stays = λ c. unchanged (end_by v c (Got place key body) now) (rpc_of v c items) (λ attached. other c (same_key key c) refl attached);
  unread = λ c. not_read c body;
  unused = refl;
}
  where
    now : List Item
    now = Got place key body ∷ mux_of v items

    no_calls : (body : FrameBody) → follow_ups v (λ c. is_attached (rpc_of v c items)) (Got place key body) (Got place key body ∷ mux_of v items) ≡ []
    no_calls (Content bytes) = rw e refl
    no_calls ContentWritingCompleted = rw e refl
    no_calls (Offer name size) = refl
    no_calls (OfferAccepted size) = refl
    no_calls ChannelTerminated = refl
    no_calls (ContentProcessed count) = refl

    here : (c : ChannelKey) → same_key key c ≡ true → is_attached (rpc_of v c items) ≡ false
    here c same = ap (λ k. is_attached (rpc_of v k items)) (sym (same_key_true key c same)) ∙ e

    other : (c : ChannelKey) (b : Bool) → same_key key c ≡ b → is_attached (rpc_of v c items) ≡ true → (if b then end_by_frame v c body now else None) ≡ None
    other c true same attached = absurd (true≢false (sym attached ∙ here c same))
    other c false same attached = refl

    not_read : (c : ChannelKey) (body : FrameBody) → is_read_on c (is_attached (rpc_of v c items)) (Got place key body) ≡ false
    not_read c (Content bytes) = and_false (same_key key c) (is_attached (rpc_of v c items)) (here c)
      where
        and_false : (a b : Bool) → (a ≡ true → b ≡ false) → (a && b) ≡ false
        and_false true b h = h refl
        and_false false b h = refl
    not_read c (Offer name size) = refl
    not_read c (OfferAccepted size) = refl
    not_read c ContentWritingCompleted = refl
    not_read c ChannelTerminated = refl
    not_read c (ContentProcessed count) = refl

-- offers, acceptances and credit
abbrev is_plain : FrameBody → Bool
is_plain (Content bytes) = false
is_plain body = leaves_going body

plain_leaves : (body : FrameBody) → is_plain body ≡ true → leaves_going body ≡ true
plain_leaves (Content bytes) e = refl
plain_leaves (Offer name size) e = e
plain_leaves (OfferAccepted size) e = e
plain_leaves ContentWritingCompleted e = e
plain_leaves ChannelTerminated e = e
plain_leaves (ContentProcessed count) e = e

plain_quiet : (v : Version) (items : List EndItem) (place : ℕ) (key : ChannelKey) (body : FrameBody) → AreAllowed v items → is_plain body ≡ true → IsQuiet v items (Got place key body)
plain_quiet v items place key body a e = record {
  calls = no_calls body e;
  stays = going_stays v items place key body a (plain_leaves body e);
  unread = λ c. not_read c body e;
  unused = refl;
}
  where
    no_calls : (body : FrameBody) → is_plain body ≡ true → follow_ups v (λ c. is_attached (rpc_of v c items)) (Got place key body) (Got place key body ∷ mux_of v items) ≡ []
    no_calls (Content bytes) h = cc
    no_calls ContentWritingCompleted h = cc
    no_calls (Offer name size) h = refl
    no_calls (OfferAccepted size) h = refl
    no_calls ChannelTerminated h = refl
    no_calls (ContentProcessed count) h = refl

    not_read : (c : ChannelKey) (body : FrameBody) → is_plain body ≡ true → is_read_on c (is_attached (rpc_of v c items)) (Got place key body) ≡ false
    not_read c (Content bytes) h = cc
    not_read c (Offer name size) h = refl
    not_read c (OfferAccepted size) h = refl
    not_read c ContentWritingCompleted h = refl
    not_read c ChannelTerminated h = refl
    not_read c (ContentProcessed count) h = refl

-- what an event tells of its item

pub record IsContent (item : Item) (key : ChannelKey) : Type 0 where
  pub place : ℕ
  pub bytes : List ℕ
  pub is : item ≡ Got place key (Content bytes)

pub record IsFrame (item : Item) (key : ChannelKey) (body : FrameBody) : Type 0 where
  pub place : ℕ
  pub is : item ≡ Got place key body

abbrev pub Tells : Version → List EndItem → Item → MuxEvent → Type 0
Tells v items item (event.Content key count) = IsContent item key
Tells v items item (event.Completed key) = IsFrame item key ContentWritingCompleted
Tells v items item (event.Closed key) = IsFrame item key ChannelTerminated
Tells v items item e = IsQuiet v items item

-- a channel whose termination was emitted has no running connection
heard_unattached : (v : Version) (items : List EndItem) (key : ChannelKey) → AreAllowed v items → termination_emitted v key (mux_of v items) ≡ true → is_attached (rpc_of v key items) ≡ false
heard_unattached v items key a e = by (is_attached (rpc_of v key items)) refl
  where
    by : (b : Bool) → is_attached (rpc_of v key items) ≡ b → b ≡ false
    by true h = absurd (true≢false (sym e ∙ (attached_open v key items a h).heard))
    by false h = refl

frame_tells : (v : Version) (items : List EndItem) (place : ℕ) (key : ChannelKey) (body : FrameBody) → AreAllowed v items → Tells v items (Got place key body) (frame_event v key body (mux_of v items))
frame_tells v items place key (Offer name size) a = plain_quiet v items place key (Offer name size) a refl
frame_tells v items place key (OfferAccepted size) a = by (termination_emitted v key (mux_of v items))
  where
    by : (b : Bool) → Tells v items (Got place key (OfferAccepted size)) (if b then event.Ignored key else event.Accepted key)
    by true = plain_quiet v items place key (OfferAccepted size) a refl
    by false = plain_quiet v items place key (OfferAccepted size) a refl
frame_tells v items place key (Content bytes) a = by (termination_emitted v key (mux_of v items)) refl
  where
    by : (b : Bool) → termination_emitted v key (mux_of v items) ≡ b → Tells v items (Got place key (Content bytes)) (if b then event.Ignored key else event.Content key (length bytes))
    by true e = unattached_quiet v items place key (Content bytes) (heard_unattached v items key a e)
    by false e = record { place = place; bytes = bytes; is = refl }
frame_tells v items place key ContentWritingCompleted a = by (termination_emitted v key (mux_of v items)) refl
  where
    by : (b : Bool) → termination_emitted v key (mux_of v items) ≡ b → Tells v items (Got place key ContentWritingCompleted) (if b then event.Ignored key else event.Completed key)
    by true e = unattached_quiet v items place key ContentWritingCompleted (heard_unattached v items key a e)
    by false e = record { place = place; is = refl }
frame_tells v items place key ChannelTerminated a = by (is_rejected key (mux_of v items)) refl (is_terminated_by_peer key (mux_of v items)) refl
  where
    m : List Item
    m = mux_of v items

    emitted : (b d : Bool) → is_rejected key m ≡ b → is_terminated_by_peer key m ≡ d → (b || d) ≡ true → termination_emitted v key m ≡ true
    emitted true d r t e = rw r (or_last (has_terminated key m) (is_terminated_by_peer key m) (is_finished v key m))
      where
        or_last : (a b c : Bool) → (a || b || true || c) ≡ true
        or_last true b c = refl
        or_last false true c = refl
        or_last false false c = refl
    emitted false true r t e = by_peer_emitted v key m t
    emitted false false r t e = cc

    by : (b : Bool) → is_rejected key m ≡ b → (d : Bool) → is_terminated_by_peer key m ≡ d → Tells v items (Got place key ChannelTerminated) (if b || d then event.Ignored key else event.Closed key)
    by true r d t = unattached_quiet v items place key ChannelTerminated (heard_unattached v items key a (emitted true d r t refl))
    by false r true t = unattached_quiet v items place key ChannelTerminated (heard_unattached v items key a (emitted false true r t refl))
    by false r false t = record { place = place; is = refl }
frame_tells v items place key (ContentProcessed count) a = by (termination_emitted v key (mux_of v items))
  where
    by : (b : Bool) → Tells v items (Got place key (ContentProcessed count)) (if b then event.Ignored key else event.Credit key count)
    by true = plain_quiet v items place key (ContentProcessed count) a refl
    by false = plain_quiet v items place key (ContentProcessed count) a refl

same_event : (v : Version) (items : List EndItem) (item : Item) (e f : MuxEvent) → Some e ≡ Some f → Tells v items item e → Tells v items item f
same_event v items item e f h t = let same : e ≡ f = cc h in subst (Tells v items item) same t

quiet_item : (v : Version) (items : List EndItem) (item : Item) → follow_ups v (λ c. is_attached (rpc_of v c items)) item (item ∷ mux_of v items) ≡ [] → ((c : ChannelKey) → rpc_of v c (Mux item ∷ items) ≡ rpc_of v c items) → ((c : ChannelKey) → is_read_on c (is_attached (rpc_of v c items)) item ≡ false) → used_in item ≡ None → IsQuiet v items item
quiet_item v items item calls stays unread unused = record { calls = calls; stays = stays; unread = unread; unused = unused }

pub event_tells : (v : Version) (items : List EndItem) (item : Item) (e : MuxEvent) → AreAllowed v items → event_of v item (mux_of v items) ≡ Some e → Tells v items item e
event_tells v items (Hello party) e a h = same_event v items (Hello party) event.Ready e h (quiet_item v items (Hello party) refl (λ c. refl) (λ c. refl) refl)
event_tells v items (Got place key body) e a h = same_event v items (Got place key body) (frame_event v key body (mux_of v items)) e h (frame_tells v items place key body a)
event_tells v items (Rejected place key body) e a h = same_event v items (Rejected place key body) (event.Rejected key) e h (quiet_item v items (Rejected place key body) refl (λ c. refl) (λ c. refl) refl)
event_tells v items item e a h = absurd (cc h)

-- events other than content, completions and terminations
pub other_tells : (v : Version) (items : List EndItem) (item : Item) (e : MuxEvent) → ((key : ChannelKey) (count : ℕ) → e ≡ event.Content key count → ⊥) → ((key : ChannelKey) → e ≡ event.Completed key → ⊥) → ((key : ChannelKey) → e ≡ event.Closed key → ⊥)
    → Tells v items item e → IsQuiet v items item
other_tells v items item (event.Content key count) content completed closed t = absurd (content key count refl)
other_tells v items item (event.Completed key) content completed closed t = absurd (completed key refl)
other_tells v items item (event.Closed key) content completed closed t = absurd (closed key refl)
other_tells v items item e content completed closed t = t
