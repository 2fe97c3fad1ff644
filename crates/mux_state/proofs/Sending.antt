-- The frames that an item makes due, by the state of its channel.
use Rattle.std.specs.Prelude.{ℕ, List, [], ◌∷◌, ◌++◌, take, Bool, true, false, not, ◌&&◌, ◌||◌, if◌then◌else◌}
use Rattle.std.proofs.Common.{◌≡◌, inl, inr, refl, sym, ◌∙◌, ap, subst, append_assoc}
use Rattle.std.proofs.lemmas.Bool.{cases_Bool, true≢false, false≢true}
use Rattle.std.proofs.lemmas.List.{drop-take}
use Rattle.wire_base.specs.declared.frame.Version.{Version}
use Rattle.mux_items.specs.declared.channel.ChannelKey.{ChannelKey}
use Rattle.mux_items.specs.Bodies.{FrameBody, Offer, OfferAccepted, Content, ContentWritingCompleted, ChannelTerminated, ContentProcessed, ChannelFrame, frame_on}
use Rattle.mux_items.specs.Items.{Item, Hello, DidOffer, DidAccept, DidWrite, DidRead, DidComplete, DidTerminate, Got, Rejected, End, names, is_running}
use Rattle.mux_items.specs.Lists.{written, is_cut, emitted_in, emitted, has_terminated, is_terminated_by_peer, is_rejected, is_finished, completion_in, completion_emitted, termination_emitted}
use Rattle.mux_items.specs.Due.{content_frames, span, newly_emitted, completes, terminates, due_on, due}
use Rattle.mux_items.specs.Applying.{Allowed}
use Rattle.mux_items.proofs.Emission.{cut_there}
use Rattle.mux_items.proofs.Emits.{none_emitted}
use Rattle.mux_items.proofs.Keys.{same_key_refl, same_key_true}
use Rattle.mux_items.proofs.Permits.{accept_permits, complete_permits, terminate_permits, write_permits}
use Rattle.mux_state.specs.State.{ChannelState, channel_at}
use Rattle.mux_state.specs.Next.{sendable, is_done, frames_due, closed_state}
use Rattle.mux_state.specs.Tests.{first_frame, due_in}
use Rattle.mux_state.proofs.Open.{unsent, emitted_open, done_open, terminated_open}
use Rattle.mux_state.proofs.Step.{IsOpen, is_open, or_second, absorbed_accept, absorbed_write, absorbed_complete, absorbed_answer, absorbed_content, absorbed_completion, absorbed_credit}
use Rattle.mux_state.proofs.Ignored.{StaysSent, stays_sent}
use Rattle.mux_state.proofs.Law.{open_offered, absorbed_offered, open_heard, absorbed_heard, heard_or_sent}

four_right : {A : Type 0} (a b x y : List A) → a ++ b ++ x ++ y ≡ a ++ (b ++ x ++ y)
four_right a b x y = append_assoc (a ++ b) x y ∙ (append_assoc a b (x ++ y) ∙ ap (λ l. a ++ l) (sym (append_assoc b x y)))

and_not_false : (x y : Bool) → y ≡ false → (x && not y) ≡ x
and_not_false true true e = absurd (true≢false e)
and_not_false true false e = refl
and_not_false false y e = refl

and_not_self : (x : Bool) → (x && not x) ≡ false
and_not_self true = refl
and_not_self false = refl

-- what an item makes due on an open channel
due_open : (v : Version) (c : ChannelKey) (first : List ChannelFrame) (item : Item) (items : List Item) → Allowed v (item ∷ items) → IsOpen v c items → is_cut c (item ∷ items) ≡ false → is_rejected c (item ∷ items) ≡ false
    → due_on v c first item items ≡ first ++ frames_due c (unsent v c item items)
due_open v c first item items ok o uncut unrejected =
    let u = unsent v c item items in
    let content : newly_emitted v c item items ≡ take (sendable u) u.pending =
    ap (λ n. span (emitted v c items) n (written c (item ∷ items))) (emitted_open v c item items ok o.heard uncut) ∙ drop-take (emitted v c items) (sendable u) (written c (item ∷ items)) in
    let completion : completes v c item items ≡ (is_done u && not u.completion_sent) = ap (λ b. b && not (completion_emitted v c items)) (done_open v c item items ok o.heard uncut) in
    let termination : terminates v c item items ≡ (is_done u && u.completed) = and_not_false (termination_emitted v c (item ∷ items)) (termination_emitted v c items) o.heard ∙ terminated_open v c item items ok o.heard uncut unrejected in
    four_right first (content_frames c (newly_emitted v c item items)) (if completes v c item items then frame_on c ContentWritingCompleted ∷ [] else []) (if terminates v c item items then frame_on c ChannelTerminated ∷ [] else [])
    ∙ (λ i. first ++ (content_frames c (content i) ++ (if completion i then frame_on c ContentWritingCompleted ∷ [] else []) ++ (if termination i then frame_on c ChannelTerminated ∷ [] else [])))

-- the same, by what the item makes of the state
due_absorbed : (v : Version) (c : ChannelKey) (first : List ChannelFrame) (item : Item) (items : List Item) (s : ChannelState) → Allowed v (item ∷ items) → IsOpen v c items → is_cut c (item ∷ items) ≡ false → is_rejected c (item ∷ items) ≡ false → unsent v c item items ≡ s
    → due_on v c first item items ≡ first ++ frames_due c s
due_absorbed v c first item items s ok o uncut unrejected told = due_open v c first item items ok o uncut unrejected ∙ ap (λ u. first ++ frames_due c u) told

-- an item that emits nothing more
due_still : (v : Version) (c : ChannelKey) (item : Item) (items : List Item) (b : Bool) → StaysSent v c item items → terminates v c item items ≡ b → due_on v c [] item items ≡ (if b then frame_on c ChannelTerminated ∷ [] else [])
due_still v c item items b stays e =
    let content : newly_emitted v c item items ≡ [] = none_emitted v c item items stays.emitted in
    let completion : completes v c item items ≡ false = ap (λ x. x && not (completion_emitted v c items)) stays.completion ∙ and_not_self (completion_emitted v c items) in
    λ i. [] ++ content_frames c (content i) ++ (if completion i then frame_on c ContentWritingCompleted ∷ [] else []) ++ (if e i then frame_on c ChannelTerminated ∷ [] else [])

nothing_ends : (x y : Bool) → y ≡ true → (x && not y) ≡ false
nothing_ends true true e = refl
nothing_ends false true e = refl
nothing_ends x false e = absurd (false≢true e)

pub frames_sent : (c : ChannelKey) (s next : ChannelState) → s.termination_sent ≡ true → frames_due c (if s.termination_sent then s else next) ≡ []
frames_sent c s next e = rw e refl

-- an ignored frame makes nothing due
pub due_quiet : (v : Version) (c : ChannelKey) (item : Item) (items : List Item) → Allowed v (item ∷ items) → termination_emitted v c items ≡ true → due_on v c [] item items ≡ []
due_quiet v c item items ok sent = due_still v c item items false (stays_sent v c item items ok sent) (nothing_ends (termination_emitted v c (item ∷ items)) (termination_emitted v c items) sent)

due_ignored : (v : Version) (c : ChannelKey) (item : Item) (items : List Item) (next : ChannelState) → Allowed v (item ∷ items) → termination_emitted v c items ≡ true
    → due_on v c [] item items ≡ frames_due c (if termination_emitted v c items then channel_at v c items else next)
due_ignored v c item items next ok sent = due_quiet v c item items ok sent ∙ sym (frames_sent c (channel_at v c items) next sent)

cut_stays : (v : Version) (c : ChannelKey) (item : Item) (items : List Item) → is_cut c (item ∷ items) ≡ true → StaysSent v c item items
cut_stays v c item items e =
    let before = cut_there c item items e in
    record { emitted = ap (emitted_in v c) before; completion = ap (completion_in v c) before }

-- the peer's termination
pub closed_frames : (c : ChannelKey) (s : ChannelState) → frames_due c (closed_state s) ≡ (if not s.termination_sent then frame_on c ChannelTerminated ∷ [] else [])
closed_frames c s = elim (cases_Bool s.termination_sent) [
  | inl e ↦ rw e refl
  | inr e ↦ rw e refl
]

due_closed : (v : Version) (place : ℕ) (c : ChannelKey) (items : List Item) → due_on v c [] (Got place c ChannelTerminated) items ≡ frames_due c (closed_state (channel_at v c items))
due_closed v place c items =
    let item = Got place c ChannelTerminated in
    let peer : is_terminated_by_peer c (item ∷ items) ≡ true = rw (same_key_refl c) refl in
    let sent : termination_emitted v c (item ∷ items) ≡ true = ap (λ b. has_terminated c items || b || is_rejected c items || is_finished v c (item ∷ items)) peer ∙ or_second (has_terminated c items) (is_rejected c items) (is_finished v c (item ∷ items)) in
    due_still v c item items (not (termination_emitted v c items)) (cut_stays v c item items (rw (same_key_refl c) refl)) (ap (λ b. b && not (termination_emitted v c items)) sent)
    ∙ sym (closed_frames c (channel_at v c items))

-- the own termination
due_terminated : (v : Version) (c : ChannelKey) (items : List Item) → termination_emitted v c items ≡ false → due_on v c [] (DidTerminate c) items ≡ frame_on c ChannelTerminated ∷ []
due_terminated v c items heard =
    let item = DidTerminate c in
    let here : has_terminated c (item ∷ items) ≡ true = rw (same_key_refl c) refl in
    due_still v c item items true (cut_stays v c item items (rw (same_key_refl c) refl))
    (ap (λ b. (b || is_terminated_by_peer c items || is_rejected c items || is_finished v c (item ∷ items)) && not (termination_emitted v c items)) here ∙ ap not heard)

frame_due : (v : Version) (place : ℕ) (c : ChannelKey) (body : FrameBody) (items : List Item) → Allowed v (Got place c body ∷ items) → is_rejected c items ≡ false → due v (Got place c body) items ≡ due_in c (is_running items) (Got place c body) (channel_at v c items)
frame_due v place c (Offer name size) items ok unrejected = let o = open_heard v place c name size items ok in due_absorbed v c [] (Got place c (Offer name size)) items _ ok o o.uncut unrejected (absorbed_heard v place c name size items ok)
frame_due v place c (OfferAccepted size) items ok unrejected = heard_or_sent v c items ok.0.running
    (λ o. due_absorbed v c [] (Got place c (OfferAccepted size)) items _ ok o o.uncut unrejected (absorbed_answer v place c size items o))
    (λ sent. due_ignored v c (Got place c (OfferAccepted size)) items _ ok sent)
frame_due v place c (Content bytes) items ok unrejected = heard_or_sent v c items ok.0.running
    (λ o. due_absorbed v c [] (Got place c (Content bytes)) items _ ok o o.uncut unrejected (absorbed_content v place c bytes items o))
    (λ sent. due_ignored v c (Got place c (Content bytes)) items _ ok sent)
frame_due v place c ContentWritingCompleted items ok unrejected = heard_or_sent v c items ok.0.running
    (λ o. due_absorbed v c [] (Got place c ContentWritingCompleted) items _ ok o o.uncut unrejected (absorbed_completion v place c items o))
    (λ sent. due_ignored v c (Got place c ContentWritingCompleted) items _ ok sent)
frame_due v place c ChannelTerminated items ok unrejected = due_closed v place c items
frame_due v place c (ContentProcessed count) items ok unrejected = heard_or_sent v c items ok.0.running
    (λ o. due_absorbed v c [] (Got place c (ContentProcessed count)) items _ ok o o.uncut unrejected (absorbed_credit v place c count items o))
    (λ sent. due_ignored v c (Got place c (ContentProcessed count)) items _ ok sent)

-- the frames of an item on the channel
pub channel_sends : (v : Version) (c : ChannelKey) (item : Item) (items : List Item) → names c item ≡ true → Allowed v (item ∷ items) → is_rejected c items ≡ false → due v item items ≡ due_in c (is_running items) item (channel_at v c items)
channel_sends v c (Hello party) items named ok unrejected = refl
channel_sends v c (DidOffer key name size) items named ok unrejected =
    subst (λ k. Allowed v (DidOffer k name size ∷ items) → due v (DidOffer k name size) items ≡ due_in c (is_running items) (DidOffer c name size) (channel_at v c items)) (sym (same_key_true key c named))
    (λ now. let o = open_offered v c name size items now in due_absorbed v c (first_frame v c (DidOffer c name size)) (DidOffer c name size) items _ now o o.uncut unrejected (absorbed_offered v c name size items now)) ok
channel_sends v c (DidAccept key size) items named ok unrejected =
    subst (λ k. Allowed v (DidAccept k size ∷ items) → due v (DidAccept k size) items ≡ due_in c (is_running items) (DidAccept c size) (channel_at v c items)) (sym (same_key_true key c named))
    (λ now. let told = accept_permits v c size items now.0 in let o = is_open v c items told.running told.heard in due_absorbed v c (first_frame v c (DidAccept c size)) (DidAccept c size) items _ now o o.uncut unrejected (absorbed_accept v c size items o)) ok
channel_sends v c (DidWrite key bytes) items named ok unrejected =
    subst (λ k. Allowed v (DidWrite k bytes ∷ items) → due v (DidWrite k bytes) items ≡ due_in c (is_running items) (DidWrite c bytes) (channel_at v c items)) (sym (same_key_true key c named))
    (λ now. let told = (write_permits v c bytes items now.0).call in let o = is_open v c items told.running told.heard in due_absorbed v c [] (DidWrite c bytes) items _ now o o.uncut unrejected (absorbed_write v c bytes items o)) ok
channel_sends v c (DidRead key max) items named ok unrejected =
    subst (λ k. due v (DidRead k max) items ≡ due_in c (is_running items) (DidRead c max) (channel_at v c items)) (sym (same_key_true key c named)) refl
channel_sends v c (DidComplete key) items named ok unrejected =
    subst (λ k. Allowed v (DidComplete k ∷ items) → due v (DidComplete k) items ≡ due_in c (is_running items) (DidComplete c) (channel_at v c items)) (sym (same_key_true key c named))
    (λ now. let told = (complete_permits v c items now.0).call in let o = is_open v c items told.running told.heard in due_absorbed v c [] (DidComplete c) items _ now o o.uncut unrejected (absorbed_complete v c items o)) ok
channel_sends v c (DidTerminate key) items named ok unrejected =
    subst (λ k. Allowed v (DidTerminate k ∷ items) → due v (DidTerminate k) items ≡ due_in c (is_running items) (DidTerminate c) (channel_at v c items)) (sym (same_key_true key c named))
    (λ now. due_terminated v c items (terminate_permits v c items now.0).heard) ok
channel_sends v c (Got place key body) items named ok unrejected =
    subst (λ k. Allowed v (Got place k body ∷ items) → due v (Got place k body) items ≡ due_in c (is_running items) (Got place c body) (channel_at v c items)) (sym (same_key_true key c named))
    (λ now. frame_due v place c body items now unrejected) ok ∙ got_key place c key body (is_running items) (channel_at v c items)
  where
    got_key : (place : ℕ) (c key : ChannelKey) (body : FrameBody) (running : Bool) (s : ChannelState) → due_in c running (Got place c body) s ≡ due_in c running (Got place key body) s
    got_key place c key (Offer name size) running s = refl
    got_key place c key (OfferAccepted size) running s = refl
    got_key place c key (Content bytes) running s = refl
    got_key place c key ContentWritingCompleted running s = refl
    got_key place c key ChannelTerminated running s = refl
    got_key place c key (ContentProcessed count) running s = refl
channel_sends v c (Rejected place key body) items named ok unrejected = ap (λ k. frame_on k ChannelTerminated ∷ []) (same_key_true key c named)
channel_sends v c (End cause) items named ok unrejected = refl
