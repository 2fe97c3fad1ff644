-- One more item makes of a channel what it makes of its state.
use Rattle.std.specs.Prelude.{ℕ, List, [], ◌∷◌, drop, Bool, true, false, if◌then◌else◌, Option}
use Rattle.std.proofs.Common.{◌≡◌, inl, inr, refl, sym, ◌∙◌, ap, subst, arith}
use Rattle.std.proofs.lemmas.Bool.{cases_Bool, true≢false}
use Rattle.wire_base.specs.declared.frame.Version.{Version}
use Rattle.mux_items.specs.declared.channel.ChannelKey.{ChannelKey}
use Rattle.mux_items.specs.Bodies.{FrameBody, Offer, OfferAccepted, Content, ContentWritingCompleted, ChannelTerminated, ContentProcessed, window_of}
use Rattle.mux_items.specs.Items.{Item, Hello, DidOffer, DidAccept, DidWrite, DidRead, DidComplete, DidTerminate, Got, Rejected, End, names, ended, is_running}
use Rattle.mux_items.specs.Lists.{written, is_offered, is_rejected, is_cut, emitted, termination_emitted}
use Rattle.mux_items.specs.Applying.{Allowed}
use Rattle.mux_items.proofs.Keys.{same_key_refl, same_key_true}
use Rattle.mux_items.proofs.Offered.{heard_first, offered_first}
use Rattle.mux_items.proofs.Permits.{accept_permits, complete_permits, unless_none, write_permits}
use Rattle.mux_state.specs.State.{ChannelState, pending_bytes, channel_at, blank}
use Rattle.mux_state.specs.Next.{offered_state, heard_state, settled, next_state, next_on}
use Rattle.mux_state.proofs.Fields.{same_state, channel_unnamed, channel_hello, channel_end, channel_read, channel_terminated}
use Rattle.mux_state.proofs.Open.{unsent, channel_open}
use Rattle.mux_state.proofs.Step.{IsOpen, is_open, channel_accept, channel_write, channel_complete, heard_answer, heard_content, heard_completion, heard_credit, channel_closed}
use Rattle.mux_state.proofs.Known.{blank_before}
use Rattle.mux_state.proofs.Ignored.{ignored_answer, ignored_content, ignored_completion, ignored_credit}

-- a first offer, by what is said of the channel before it
offered_open : (v : Version) (c : ChannelKey) (items : List Item) → Allowed v items → is_running items ≡ true → is_offered c items ≡ false → (channel_at v c items ≡ blank v c.own) × IsOpen v c items
offered_open v c items ok running e =
    let nothing = blank_before v c items ok e in
    (nothing, is_open v c items running (ap (λ s. s.termination_sent) nothing))

pending_open : (cut : Bool) (sent : ℕ) (bytes : List ℕ) → cut ≡ false → pending_bytes cut sent bytes ≡ [] → drop sent bytes ≡ []
pending_open true sent bytes uncut e = absurd (true≢false uncut)
pending_open false sent bytes uncut e = e

pub open_offered : (v : Version) (c : ChannelKey) (name : List ℕ) (size : ℕ) (items : List Item) → Allowed v (DidOffer c name size ∷ items) → IsOpen v c items
open_offered v c name size items ok = (offered_open v c items ok.2 (unless_none (ended items) _ ok.0).0 (offered_first v c name size items ok).1).1

pub absorbed_offered : (v : Version) (c : ChannelKey) (name : List ℕ) (size : ℕ) (items : List Item) → Allowed v (DidOffer c name size ∷ items) → unsent v c (DidOffer c name size) items ≡ offered_state v size
absorbed_offered v c name size items ok =
    let item = DidOffer c name size in
    let fresh = offered_first v c name size items ok in
    let o = offered_open v c items ok.2 (unless_none (ended items) _ ok.0).0 fresh.1 in
    same_state (unsent v c item items) (offered_state v size) refl fresh.0 (rw (same_key_refl c) (omega (arith, ap (λ s. s.window) o.0))) (ap (λ s. s.accepted) o.0) (ap (λ s. s.written) o.0)
    (pending_open (is_cut c items) (emitted v c items) (written c items) o.1.uncut (ap (λ s. s.pending) o.0)) (ap (λ s. s.emitted) o.0) (ap (λ s. s.completing) o.0) (ap (λ s. s.completion_sent) o.0) (ap (λ s. s.granted) o.0) (ap (λ s. s.acknowledged) o.0)
    (ap (λ s. s.taken) o.0) (ap (λ s. s.unread) o.0) (ap (λ s. s.handed) o.0) (ap (λ s. s.completed) o.0) refl refl

pub channel_offered : (v : Version) (c : ChannelKey) (name : List ℕ) (size : ℕ) (items : List Item) → Allowed v (DidOffer c name size ∷ items) → channel_at v c (DidOffer c name size ∷ items) ≡ settled (offered_state v size)
channel_offered v c name size items ok =
    let o = open_offered v c name size items ok in
    channel_open v c (DidOffer c name size) items ok o.heard o.uncut o.unrejected ∙ ap settled (absorbed_offered v c name size items ok)

pub open_heard : (v : Version) (place : ℕ) (c : ChannelKey) (name : List ℕ) (size : Option ℕ) (items : List Item) → Allowed v (Got place c (Offer name size) ∷ items) → IsOpen v c items
open_heard v place c name size items ok = (offered_open v c items ok.2 ok.0.running (heard_first v c name size items ok.0.unrefused).1).1

pub absorbed_heard : (v : Version) (place : ℕ) (c : ChannelKey) (name : List ℕ) (size : Option ℕ) (items : List Item) → Allowed v (Got place c (Offer name size) ∷ items) → unsent v c (Got place c (Offer name size)) items ≡ heard_state v (window_of size)
absorbed_heard v place c name size items ok =
    let item = Got place c (Offer name size) in
    let fresh = heard_first v c name size items ok.0.unrefused in
    let o = offered_open v c items ok.2 ok.0.running fresh.1 in
    same_state (unsent v c item items) (heard_state v (window_of size)) refl fresh.0 (ap (λ s. s.window) o.0) (ap (λ s. s.accepted) o.0) (ap (λ s. s.written) o.0)
    (pending_open (is_cut c items) (emitted v c items) (written c items) o.1.uncut (ap (λ s. s.pending) o.0)) (ap (λ s. s.emitted) o.0) (ap (λ s. s.completing) o.0) (ap (λ s. s.completion_sent) o.0)
    (rw (same_key_refl c, o.1.heard) (omega (arith, ap (λ s. s.granted) o.0))) (ap (λ s. s.acknowledged) o.0)
    (ap (λ s. s.taken) o.0) (ap (λ s. s.unread) o.0) (ap (λ s. s.handed) o.0) (ap (λ s. s.completed) o.0) refl refl

pub channel_heard : (v : Version) (place : ℕ) (c : ChannelKey) (name : List ℕ) (size : Option ℕ) (items : List Item) → Allowed v (Got place c (Offer name size) ∷ items) → channel_at v c (Got place c (Offer name size) ∷ items) ≡ settled (heard_state v (window_of size))
channel_heard v place c name size items ok =
    let o = open_heard v place c name size items ok in
    channel_open v c (Got place c (Offer name size)) items ok o.heard o.uncut o.unrejected ∙ ap settled (absorbed_heard v place c name size items ok)

pub heard_or_sent : {A : Type 0} (v : Version) (c : ChannelKey) (items : List Item) → is_running items ≡ true → (IsOpen v c items → A) → (termination_emitted v c items ≡ true → A) → A
heard_or_sent v c items running f g = elim (cases_Bool (termination_emitted v c items)) [
  | inl sent ↦ g sent
  | inr heard ↦ f (is_open v c items running heard)
]

frame_step : (v : Version) (place : ℕ) (c : ChannelKey) (body : FrameBody) (items : List Item) → Allowed v (Got place c body ∷ items) → is_rejected c items ≡ false → channel_at v c (Got place c body ∷ items) ≡ next_state (Got place c body) (channel_at v c items)
frame_step v place c (Offer name size) items ok unrejected = channel_heard v place c name size items ok
frame_step v place c (OfferAccepted size) items ok unrejected = heard_or_sent v c items ok.0.running (λ o. heard_answer v place c size items ok o) (λ sent. ignored_answer v place c size items ok sent)
frame_step v place c (Content bytes) items ok unrejected = heard_or_sent v c items ok.0.running (λ o. heard_content v place c bytes items ok o) (λ sent. ignored_content v place c bytes items ok sent)
frame_step v place c ContentWritingCompleted items ok unrejected = heard_or_sent v c items ok.0.running (λ o. heard_completion v place c items ok o) (λ sent. ignored_completion v place c items ok sent)
frame_step v place c ChannelTerminated items ok unrejected = channel_closed v place c items
frame_step v place c (ContentProcessed count) items ok unrejected = heard_or_sent v c items ok.0.running (λ o. heard_credit v place c count items ok o) (λ sent. ignored_credit v place c count items ok sent)

terminated_settled : (v : Version) (c : ChannelKey) (items : List Item) → channel_at v c (DidTerminate c ∷ items) ≡ next_state (DidTerminate c) (channel_at v c items)
terminated_settled v c items = channel_terminated v c items

named_step : (v : Version) (c : ChannelKey) (item : Item) (items : List Item) → names c item ≡ true → Allowed v (item ∷ items) → is_rejected c (item ∷ items) ≡ false → channel_at v c (item ∷ items) ≡ next_state item (channel_at v c items)
named_step v c (Hello party) items named ok unrejected = channel_hello v c party items
named_step v c (DidOffer key name size) items named ok unrejected = subst (λ k. Allowed v (DidOffer k name size ∷ items) → channel_at v c (DidOffer k name size ∷ items) ≡ settled (offered_state v size)) (sym (same_key_true key c named)) (channel_offered v c name size items) ok
named_step v c (DidAccept key size) items named ok unrejected = subst (λ k. Allowed v (DidAccept k size ∷ items) → channel_at v c (DidAccept k size ∷ items) ≡ next_state (DidAccept k size) (channel_at v c items)) (sym (same_key_true key c named))
    (λ now. let told = accept_permits v c size items now.0 in channel_accept v c size items now (is_open v c items told.running told.heard)) ok
named_step v c (DidWrite key bytes) items named ok unrejected = subst (λ k. Allowed v (DidWrite k bytes ∷ items) → channel_at v c (DidWrite k bytes ∷ items) ≡ next_state (DidWrite k bytes) (channel_at v c items)) (sym (same_key_true key c named))
    (λ now. let told = (write_permits v c bytes items now.0).call in channel_write v c bytes items now (is_open v c items told.running told.heard)) ok
named_step v c (DidRead key max) items named ok unrejected = subst (λ k. channel_at v c (DidRead k max ∷ items) ≡ next_state (DidRead k max) (channel_at v c items)) (sym (same_key_true key c named)) (channel_read v c max items)
named_step v c (DidComplete key) items named ok unrejected = subst (λ k. Allowed v (DidComplete k ∷ items) → channel_at v c (DidComplete k ∷ items) ≡ next_state (DidComplete k) (channel_at v c items)) (sym (same_key_true key c named))
    (λ now. let told = (complete_permits v c items now.0).call in channel_complete v c items now (is_open v c items told.running told.heard)) ok
named_step v c (DidTerminate key) items named ok unrejected = subst (λ k. channel_at v c (DidTerminate k ∷ items) ≡ next_state (DidTerminate k) (channel_at v c items)) (sym (same_key_true key c named)) (terminated_settled v c items)
named_step v c (Got place key body) items named ok unrejected = subst (λ k. Allowed v (Got place k body ∷ items) → channel_at v c (Got place k body ∷ items) ≡ next_state (Got place c body) (channel_at v c items)) (sym (same_key_true key c named))
    (λ now. frame_step v place c body items now unrejected) ok ∙ got_key place c key body (channel_at v c items)
  where
    got_key : (place : ℕ) (c key : ChannelKey) (body : FrameBody) (s : ChannelState) → next_state (Got place c body) s ≡ next_state (Got place key body) s
    got_key place c key (Offer name size) s = refl
    got_key place c key (OfferAccepted size) s = refl
    got_key place c key (Content bytes) s = refl
    got_key place c key ContentWritingCompleted s = refl
    got_key place c key ChannelTerminated s = refl
    got_key place c key (ContentProcessed count) s = refl
named_step v c (Rejected place key body) items named ok unrejected = absurd (true≢false (sym (ap (λ b. if b then true else is_rejected c items) named) ∙ unrejected))
named_step v c (End cause) items named ok unrejected = channel_end v c cause items

pub channel_step : (v : Version) (c : ChannelKey) (item : Item) (items : List Item) → Allowed v (item ∷ items) → is_rejected c (item ∷ items) ≡ false → channel_at v c (item ∷ items) ≡ next_on c item (channel_at v c items)
channel_step v c item items ok unrejected = elim (cases_Bool (names c item)) [
  | inl named ↦ named_step v c item items named ok unrejected ∙ sym (ap (λ b. if b then next_state item (channel_at v c items) else channel_at v c items) named)
  | inr other ↦ channel_unnamed v c item items other ∙ sym (ap (λ b. if b then next_state item (channel_at v c items) else channel_at v c items) other)
]
