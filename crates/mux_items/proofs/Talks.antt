-- Content and completions are sent on accepted channels alone.
use Rattle.std.specs.Prelude.{ℕ, ◌≤◌, min, List, [], ◌∷◌, ◌++◌, length, map, Bool, true, false, not, if◌then◌else◌}
use Rattle.std.proofs.Common.{◌≡◌, inl, inr, refl, sym, ◌∙◌, ap, arith}
use Rattle.std.proofs.lemmas.Bool.{cases_Bool, true≢false, false≢true, and_left, false_from_ne_true}
use Rattle.wire_base.specs.declared.frame.Version.{Version}
use Rattle.mux_items.specs.declared.channel.ChannelKey.{ChannelKey}
use Rattle.mux_items.specs.Bodies.{FrameBody, Offer, OfferAccepted, Content, ContentWritingCompleted, ChannelTerminated, ChannelFrame, frame_on, same_key}
use Rattle.mux_items.specs.Items.{Item, Hello, DidOffer, DidAccept, DidWrite, DidRead, DidComplete, DidTerminate, Got, Rejected, End}
use Rattle.mux_items.specs.Lists.{before_cut, is_accepted_in, emitted, completion_emitted, is_accepted, unread}
use Rattle.mux_items.specs.Due.{pieces, content_frames, newly_emitted, completes, terminates, due_on, written_window, due, sent, got}
use Rattle.mux_items.specs.Applying.{Allowed}
use Rattle.mux_items.proofs.Keys.{key_cases}
use Rattle.mux_items.proofs.Emission.{accepted_in_more, emitted_more}
use Rattle.mux_items.proofs.Applied.{allowed_tail}
use Rattle.mux_items.specs.Sums.{amount_on, total}
use Rattle.mux_items.proofs.Totals.{IsPlainAmount, total-append, total-push, total_due, total_if, none_on, acknowledgement_none}
use Rattle.mux_items.proofs.Emits.{none_emitted, completion_in_all}
use Rattle.mux_items.proofs.Stages.{accepted_before}
use Rattle.mux_items.proofs.Permits.{accept_permits}
use Rattle.mux_items.proofs.Newer.{unaccepted_before}
use Rattle.mux_items.proofs.Offered.{peer_key, offered_else}

-- whether a frame is content or a completion, and whether it is an acceptance, counted
abbrev pub talk_in : FrameBody → ℕ
talk_in (Content bytes) = 1
talk_in ContentWritingCompleted = 1
talk_in body = 0

abbrev pub acceptance_in : FrameBody → ℕ
acceptance_in (OfferAccepted size) = 1
acceptance_in body = 0

-- frames on another channel count nothing
off_one : (amount : FrameBody → ℕ) (c key : ChannelKey) (body : FrameBody) → same_key key c ≡ false → amount_on amount c (frame_on key body) ≡ 0
off_one amount c key body e = ap (λ b. if b then amount body else 0) e

off_pieces : (amount : FrameBody → ℕ) (c key : ChannelKey) (bodies : List (List ℕ)) → same_key key c ≡ false → total amount c (map (λ piece. frame_on key (Content piece)) bodies) ≡ 0
off_pieces amount c key [] e = refl
off_pieces amount c key (body ∷ bodies) e = omega (arith, off_one amount c key (Content body) e, off_pieces amount c key bodies e)

off_if : (amount : FrameBody → ℕ) (c key : ChannelKey) (body : FrameBody) (b : Bool) → same_key key c ≡ false → total amount c (if b then frame_on key body ∷ [] else []) ≡ 0
off_if amount c key body true e = omega (arith, off_one amount c key body e)
off_if amount c key body false e = refl

-- the talk of an item's frames on the channel: none where nothing is emitted and no completion
talk_parts : (v : Version) (c key : ChannelKey) (first : List ChannelFrame) (item : Item) (items : List Item) → total talk_in c first ≡ 0
    → total talk_in c (content_frames key (newly_emitted v key item items)) ≡ 0 → total talk_in c (if completes v key item items then frame_on key ContentWritingCompleted ∷ [] else []) ≡ 0 → total talk_in c (due_on v key first item items) ≡ 0
talk_parts v c key first item items none content completion =
    let f = content_frames key (newly_emitted v key item items) in
    let a : List ChannelFrame = if completes v key item items then frame_on key ContentWritingCompleted ∷ [] else [] in
    let b : List ChannelFrame = if terminates v key item items then frame_on key ChannelTerminated ∷ [] else [] in
    omega (
      arith,
      none,
      content,
      completion,
      total-append talk_in c (first ++ f ++ a) b,
      total-append talk_in c (first ++ f) a,
      total-append talk_in c first f,
      total_if talk_in c key ChannelTerminated (terminates v key item items) refl,
    )

unaccepted_emits : (v : Version) (c : ChannelKey) (item : Item) (items : List Item) → is_accepted_in c (item ∷ items) ≡ false → (newly_emitted v c item items ≡ []) × (completes v c item items ≡ false)
unaccepted_emits v c item items e =
    let before : is_accepted_in c (before_cut c (item ∷ items)) ≡ false = false_from_ne_true (is_accepted_in c (before_cut c (item ∷ items))) (λ a. false≢true (sym e ∙ accepted_before c (item ∷ items) a)) in
    let none : emitted v c (item ∷ items) ≡ 0 = zero_if (is_accepted_in c (before_cut c (item ∷ items))) _ before in
    let undone : completion_emitted v c (item ∷ items) ≡ false = false_from_ne_true (completion_emitted v c (item ∷ items)) (λ done. false≢true (sym before ∙ (completion_in_all v c (before_cut c (item ∷ items)) done).0)) in
    (none_emitted v c item items (omega (arith, none, emitted_more v c item items)), and_left (completion_emitted v c (item ∷ items)) (not (completion_emitted v c items)) undone)
  where
    zero_if : (b : Bool) (n : ℕ) → b ≡ false → (if b then n else 0) ≡ 0
    zero_if true n e = absurd (true≢false e)
    zero_if false n e = refl

talk_due_on : (v : Version) (c key : ChannelKey) (first : List ChannelFrame) (item : Item) (items : List Item) → total talk_in c first ≡ 0 → is_accepted_in c (item ∷ items) ≡ false → total talk_in c (due_on v key first item items) ≡ 0
talk_due_on v c key first item items none e = elim (key_cases key c) [
  | inl same ↦
      let on = unaccepted_emits v key item items (ap (λ k. is_accepted_in k (item ∷ items)) same ∙ e) in
      talk_parts v c key first item items none (ap (λ bs. total talk_in c (content_frames key bs)) on.0) (ap (λ b. total talk_in c (if b then frame_on key ContentWritingCompleted ∷ [] else [])) on.1)
  | inr differ ↦ talk_parts v c key first item items none (off_pieces talk_in c key (pieces (newly_emitted v key item items)) differ) (off_if talk_in c key ContentWritingCompleted (completes v key item items) differ)
]

talk_due : (v : Version) (c : ChannelKey) (item : Item) (items : List Item) → is_accepted_in c (item ∷ items) ≡ false → total talk_in c (due v item items) ≡ 0
talk_due v c (Hello party) items e = refl
talk_due v c (DidOffer key name size) items e = talk_due_on v c key (frame_on key (Offer name (written_window v size)) ∷ []) (DidOffer key name size) items (omega (arith, none_on (same_key key c) 0 refl)) e
talk_due v c (DidAccept key size) items e = talk_due_on v c key (frame_on key (OfferAccepted (written_window v size)) ∷ []) (DidAccept key size) items (omega (arith, none_on (same_key key c) 0 refl)) e
talk_due v c (DidWrite key bytes) items e = talk_due_on v c key [] (DidWrite key bytes) items refl e
talk_due v c (DidRead key max) items e = acknowledgement_none talk_in v c key (min max (length (unread v key items))) items refl
talk_due v c (DidComplete key) items e = talk_due_on v c key [] (DidComplete key) items refl e
talk_due v c (DidTerminate key) items e = talk_due_on v c key [] (DidTerminate key) items refl e
talk_due v c (Got place key body) items e = talk_due_on v c key [] (Got place key body) items refl e
talk_due v c (Rejected place key body) items e = total_if talk_in c key ChannelTerminated true refl
talk_due v c (End cause) items e = refl

-- no content and no completion is sent on a channel that isn't accepted
pub talk_sent : (v : Version) (c : ChannelKey) (items : List Item) → is_accepted_in c items ≡ false → total talk_in c (sent v items) ≡ 0
talk_sent v c [] e = refl
talk_sent v c (item ∷ items) e = omega (arith, talk_sent v c items (false_from_ne_true (is_accepted_in c items) (λ a. false≢true (sym e ∙ accepted_in_more c item items a))), talk_due v c item items e, total-append talk_in c (sent v items) (due v item items))

-- an acceptance is sent by the call alone

acceptance_plain : IsPlainAmount acceptance_in
acceptance_plain = record { content = λ bytes. refl; completion = refl; termination = refl }

unaccepted_key : (same x : Bool) → (if same then true else x) ≡ false → same ≡ false
unaccepted_key true x e = absurd (true≢false e)
unaccepted_key false x e = refl

acceptance_due : (v : Version) (c : ChannelKey) (item : Item) (items : List Item) → is_accepted v c (item ∷ items) ≡ false → total acceptance_in c (due v item items) ≡ 0
acceptance_due v c (DidOffer key name size) items e = omega (arith, total_due acceptance_in v c (DidOffer key name size) items acceptance_plain, none_on (same_key key c) 0 refl)
acceptance_due v c (DidAccept key size) items e = omega (arith, total_due acceptance_in v c (DidAccept key size) items acceptance_plain, ap {B = ℕ} (λ b. if b then 1 else 0) (unaccepted_key (same_key key c) (is_accepted v c items) e))
acceptance_due v c (DidRead key max) items e = acknowledgement_none acceptance_in v c key (min max (length (unread v key items))) items refl
acceptance_due v c item items e = total_due acceptance_in v c item items acceptance_plain

pub acceptance_sent : (v : Version) (c : ChannelKey) (items : List Item) → is_accepted v c items ≡ false → total acceptance_in c (sent v items) ≡ 0
acceptance_sent v c [] e = refl
acceptance_sent v c (item ∷ items) e =
    omega (arith, acceptance_sent v c items (unaccepted_before v c item items e), acceptance_due v c item items e, total-append acceptance_in c (sent v items) (due v item items))

-- an own channel is accepted by such a frame
pub acceptance_got : (v : Version) (c : ChannelKey) (items : List Item) → Allowed v items → c.own ≡ true → is_accepted_in c items ≡ true → 1 ≤ total acceptance_in c (got items)
acceptance_got v c [] ok own e = absurd (false≢true e)
acceptance_got v c (DidAccept key size ∷ items) ok own e = acceptance_got v c items ok.1 own (offered_else (same_key key c) (is_accepted_in c items) (peer_key c key own (accept_permits v key size items ok.0).peer) e)
acceptance_got v c (Got place key (OfferAccepted size) ∷ items) ok own e = elim (cases_Bool (same_key key c)) [
  | inl same ↦ omega (arith, total-push acceptance_in c key (OfferAccepted size) (got items), ap {B = ℕ} (λ b. if b then 1 else 0) same)
  | inr differ ↦ omega (arith, total-push acceptance_in c key (OfferAccepted size) (got items), acceptance_got v c items ok.2 own (sym (ap (λ b. if b then true else is_accepted_in c items) differ) ∙ e))
]
acceptance_got v c (Got place key body ∷ items) ok own e = omega (arith, total-push acceptance_in c key body (got items), acceptance_got v c items ok.2 own e)
acceptance_got v c (Rejected place key body ∷ items) ok own e = omega (arith, total-push acceptance_in c key body (got items), acceptance_got v c items ok.2 own e)
acceptance_got v c (item ∷ items) ok own e = acceptance_got v c items (allowed_tail v item items ok) own e
