-- The frames that an item makes due, and its event, by what an end keeps.
use Rattle.std.specs.Prelude.{ℕ, List, [], ◌∷◌, Bool, true, false, not, ◌||◌, if◌then◌else◌, Some, None}
use Rattle.std.proofs.Common.{◌≡◌, inl, inr, refl, sym, ◌∙◌, ap}
use Rattle.std.proofs.lemmas.Bool.{cases_Bool, and_parts, or_left, or_right}
use Rattle.wire_base.specs.declared.frame.Version.{Version}
use Rattle.mux_items.specs.declared.channel.ChannelKey.{ChannelKey}
use Rattle.mux_items.specs.declared.channel.MuxEvent.TheVariants as event
use Rattle.mux_items.specs.Bodies.{FrameBody, Offer, OfferAccepted, Content, ContentWritingCompleted, ChannelTerminated, ContentProcessed, frame_on}
use Rattle.mux_items.specs.Items.{Item, Hello, DidOffer, DidAccept, DidWrite, DidRead, DidComplete, DidTerminate, Got, Rejected, End, is_running}
use Rattle.mux_items.specs.Lists.{is_offered, is_rejected, termination_emitted, is_terminated_by_peer}
use Rattle.mux_items.specs.Kept.{is_known, is_kept}
use Rattle.mux_items.specs.Due.{due}
use Rattle.mux_items.specs.Applying.{Allowed, frame_event}
use Rattle.mux_items.proofs.Keys.{same_key_refl}
use Rattle.mux_items.proofs.Offered.{heard_first, offered_first}
use Rattle.mux_items.proofs.Open.{rejected_terminated}
use Rattle.mux_items.proofs.Permits.{accept_permits, complete_permits, later_permits, read_permits, terminate_permits, write_permits}
use Rattle.mux_state.specs.State.{ChannelState, channel_at}
use Rattle.mux_state.specs.Next.{frames_due, framed_state}
use Rattle.mux_state.specs.Tests.{due_in, tally_in}
use Rattle.mux_state.specs.Book.{Kept, Gone, standing_of, book_of, found, due_found, due_of_book, event_found, event_in}
use Rattle.mux_state.proofs.Sending.{channel_sends, frames_sent, due_quiet, closed_frames}
use Rattle.mux_state.proofs.Refusing.{event_by_state}
use Rattle.mux_state.proofs.Books.{known_unrejected, unoffered_unrejected, or_last, gone_is, found_is, offered_is}

kept_known : (v : Version) (c : ChannelKey) (items : List Item) → is_kept v c items ≡ true → is_known c items ≡ true
kept_known v c items e = (and_parts (is_known c items) _ e).0

-- a kept channel, one that is gone, and one that is unknown
found_kept : (v : Version) (c : ChannelKey) (items : List Item) → is_kept v c items ≡ true → found c (book_of v items) ≡ Some (Kept (channel_at v c items))
found_kept v c items e = found_is v c items ∙ (λ i. if kept_known v c items e i then Some (if e i then Kept (channel_at v c items) else Gone (tally_in (channel_at v c items))) else None)

found_gone : (v : Version) (c : ChannelKey) (items : List Item) → is_known c items ≡ true → is_kept v c items ≡ false → found c (book_of v items) ≡ Some (Gone (tally_in (channel_at v c items)))
found_gone v c items known e = found_is v c items ∙ (λ i. if known i then Some (if e i then Kept (channel_at v c items) else Gone (tally_in (channel_at v c items))) else None)

found_none : (v : Version) (c : ChannelKey) (items : List Item) → is_known c items ≡ false → found c (book_of v items) ≡ None
found_none v c items e = found_is v c items ∙ (λ i. if e i then Some (standing_of v c items) else None)

due_kept : (v : Version) (c : ChannelKey) (item : Item) (items : List Item) → Allowed v items → is_kept v c items ≡ true → due v item items ≡ due_in c (is_running items) item (channel_at v c items) → due v item items ≡ due_found c (is_running items) item (found c (book_of v items))
due_kept v c item items ok kept e = e ∙ sym (ap (due_found c (is_running items) item) (found_kept v c items kept))

quiet_sent : (c : ChannelKey) (running : Bool) (place : ℕ) (body : FrameBody) (s : ChannelState) → s.termination_sent ≡ true → frames_due c (framed_state body s) ≡ []
quiet_sent c running place (Offer name size) s e = rw e refl
quiet_sent c running place (OfferAccepted size) s e = frames_sent c s _ e
quiet_sent c running place (Content bytes) s e = frames_sent c s _ e
quiet_sent c running place ContentWritingCompleted s e = frames_sent c s _ e
quiet_sent c running place ChannelTerminated s e = closed_frames c s ∙ ap (λ b. if not b then frame_on c ChannelTerminated ∷ [] else []) e
quiet_sent c running place (ContentProcessed count) s e = frames_sent c s _ e

frame_found : (v : Version) (place : ℕ) (c : ChannelKey) (body : FrameBody) (items : List Item) → Allowed v (Got place c body ∷ items) → is_offered c items ≡ true
    → due_in c (is_running items) (Got place c body) (channel_at v c items) ≡ frames_due c (framed_state body (channel_at v c items))
    → due v (Got place c body) items ≡ due_found c (is_running items) (Got place c body) (found c (book_of v items))
frame_found v place c body items ok offered told = elim (cases_Bool (is_known c items)) [
  | inl known ↦
      let sends = channel_sends v c (Got place c body) items (same_key_refl c) ok (known_unrejected v c items ok.2 known) in
      elim (cases_Bool (is_kept v c items)) [
        | inl kept ↦ due_kept v c (Got place c body) items ok.2 kept sends
        | inr gone ↦ sends ∙ (told ∙ (quiet_sent c (is_running items) place body (channel_at v c items) (gone_is v c items known gone).sent ∙ sym (ap (due_found c (is_running items) (Got place c body)) (found_gone v c items known gone))))
      ]
  | inr unknown ↦ due_quiet v c (Got place c body) items ok (rejected_terminated v c items (or_last (is_known c items) (is_rejected c items) unknown (offered_is c items ∙ offered)))
      ∙ sym (ap (due_found c (is_running items) (Got place c body)) (found_none v c items unknown))
]

-- the frames of any item, by what an end keeps
pub due_by_book : (v : Version) (item : Item) (items : List Item) → Allowed v (item ∷ items) → due v item items ≡ due_of_book item (book_of v items)
due_by_book v (Hello party) items ok = refl
due_by_book v (DidOffer key name size) items ok = channel_sends v key (DidOffer key name size) items (same_key_refl key) ok (unoffered_unrejected key items (offered_first v key name size items ok).1)
due_by_book v (DidAccept key size) items ok =
    let kept = (accept_permits v key size items ok.0).kept in
    due_kept v key (DidAccept key size) items ok.1 kept (channel_sends v key (DidAccept key size) items (same_key_refl key) ok (known_unrejected v key items ok.1 (kept_known v key items kept)))
due_by_book v (DidWrite key bytes) items ok =
    let kept = (write_permits v key bytes items ok.0).call.kept in
    due_kept v key (DidWrite key bytes) items ok.1 kept (channel_sends v key (DidWrite key bytes) items (same_key_refl key) ok (known_unrejected v key items ok.1 (kept_known v key items kept)))
due_by_book v (DidRead key max) items ok =
    let kept = read_permits v key items ok.0 in
    due_kept v key (DidRead key max) items ok.1 kept (channel_sends v key (DidRead key max) items (same_key_refl key) ok (known_unrejected v key items ok.1 (kept_known v key items kept)))
due_by_book v (DidComplete key) items ok =
    let kept = (complete_permits v key items ok.0).call.kept in
    due_kept v key (DidComplete key) items ok.1 kept (channel_sends v key (DidComplete key) items (same_key_refl key) ok (known_unrejected v key items ok.1 (kept_known v key items kept)))
due_by_book v (DidTerminate key) items ok =
    let kept = (terminate_permits v key items ok.0).kept in
    due_kept v key (DidTerminate key) items ok.1 kept (channel_sends v key (DidTerminate key) items (same_key_refl key) ok (known_unrejected v key items ok.1 (kept_known v key items kept)))
due_by_book v (Got place key (Offer name size)) items ok = channel_sends v key (Got place key (Offer name size)) items (same_key_refl key) ok (unoffered_unrejected key items (heard_first v key name size items ok.0.unrefused).1)
due_by_book v (Got place key (OfferAccepted size)) items ok = frame_found v place key (OfferAccepted size) items ok (later_permits v key (OfferAccepted size) items ok.0.unrefused).0 refl
due_by_book v (Got place key (Content bytes)) items ok = frame_found v place key (Content bytes) items ok (later_permits v key (Content bytes) items ok.0.unrefused).0 refl
due_by_book v (Got place key ContentWritingCompleted) items ok = frame_found v place key ContentWritingCompleted items ok (later_permits v key ContentWritingCompleted items ok.0.unrefused).0 refl
due_by_book v (Got place key ChannelTerminated) items ok = frame_found v place key ChannelTerminated items ok (later_permits v key ChannelTerminated items ok.0.unrefused).0 refl
due_by_book v (Got place key (ContentProcessed count)) items ok = frame_found v place key (ContentProcessed count) items ok (later_permits v key (ContentProcessed count) items ok.0.unrefused).0 refl
due_by_book v (Rejected place key body) items ok = refl
due_by_book v (End cause) items ok = refl

-- a frame that isn't an offer is ignored on a channel that isn't kept
event_kept : (v : Version) (c : ChannelKey) (body : FrameBody) (items : List Item) → Allowed v items → is_offered c items ≡ true → (termination_emitted v c items ≡ true → (is_rejected c items || is_terminated_by_peer c items) ≡ true → frame_event v c body items ≡ event.Ignored c)
    → frame_event v c body items ≡ event_found c body (found c (book_of v items))
event_kept v c body items ok offered ignored = elim (cases_Bool (is_known c items)) [
  | inl known ↦ elim (cases_Bool (is_kept v c items)) [
    | inl kept ↦ event_by_state v c body items (known_unrejected v c items ok known) ∙ sym (ap (event_found c body) (found_kept v c items kept))
    | inr gone ↦ let g = gone_is v c items known gone in ignored g.sent (or_right (is_rejected c items) (is_terminated_by_peer c items) g.peer) ∙ sym (ap (event_found c body) (found_gone v c items known gone))
  ]
  | inr unknown ↦
      let rejected = or_last (is_known c items) (is_rejected c items) unknown (offered_is c items ∙ offered) in
      ignored (rejected_terminated v c items rejected) (or_left (is_rejected c items) (is_terminated_by_peer c items) rejected) ∙ sym (ap (event_found c body) (found_none v c items unknown))
]

-- the event of a frame that no rule refuses
pub event_by_book : (v : Version) (place : ℕ) (c : ChannelKey) (body : FrameBody) (items : List Item) → Allowed v (Got place c body ∷ items) → frame_event v c body items ≡ event_in c body (book_of v items)
event_by_book v place c (Offer name size) items ok = refl
event_by_book v place c (OfferAccepted size) items ok = event_kept v c (OfferAccepted size) items ok.2 (later_permits v c (OfferAccepted size) items ok.0.unrefused).0 (λ e f. rw e refl)
event_by_book v place c (Content bytes) items ok = event_kept v c (Content bytes) items ok.2 (later_permits v c (Content bytes) items ok.0.unrefused).0 (λ e f. rw e refl)
event_by_book v place c ContentWritingCompleted items ok = event_kept v c ContentWritingCompleted items ok.2 (later_permits v c ContentWritingCompleted items ok.0.unrefused).0 (λ e f. rw e refl)
event_by_book v place c ChannelTerminated items ok = event_kept v c ChannelTerminated items ok.2 (later_permits v c ChannelTerminated items ok.0.unrefused).0 (λ e f. ap (λ b. if b then event.Ignored c else event.Closed c) f)
event_by_book v place c (ContentProcessed count) items ok = event_kept v c (ContentProcessed count) items ok.2 (later_permits v c (ContentProcessed count) items ok.0.unrefused).0 (λ e f. rw e refl)
