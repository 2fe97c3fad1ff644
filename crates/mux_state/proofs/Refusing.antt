-- What the rules say of a channel, by its state.
use Rattle.std.specs.Prelude.{ℕ, ◌+◌, ◌-◌, nat_lt, Option, List, length, Bool, true, false, ◌||◌, if◌then◌else◌, Some, None}
use Rattle.std.proofs.Common.{◌≡◌, inl, inr, refl, sym, ◌∙◌, ap}
use Rattle.std.proofs.lemmas.Bool.{cases_Bool}
use Rattle.wire_base.specs.declared.frame.Version.{Version}
use Rattle.wire_base.specs.declared.refusal.Refusal.{Refusal}
use Rattle.wire_base.specs.declared.refusal.Refusal.TheVariants as refusal
use Rattle.wire_base.specs.Options.{or_else}
use Rattle.mux_items.specs.declared.channel.ChannelKey.{ChannelKey}
use Rattle.mux_items.specs.Bodies.{FrameBody, Offer, OfferAccepted, Content, ContentWritingCompleted, ChannelTerminated, ContentProcessed}
use Rattle.mux_items.specs.Items.{Item, ended}
use Rattle.mux_items.specs.Lists.{written, emitted, has_terminated, is_terminated_by_peer, is_cut, is_finished, is_offered, is_rejected, is_accepted, termination_emitted}
use Rattle.mux_items.specs.Kept.{is_known, is_kept, own_windows}
use Rattle.mux_items.specs.Limits.{most_windows}
use Rattle.mux_items.specs.Refusals.{is_bad_window, unless_ended, accept_refusal, write_refusal, read_refusal, complete_refusal, terminate_refusal, later_refusal, heeded_refusal}
use Rattle.mux_items.specs.Views.{view_of, tally_of}
use Rattle.mux_items.specs.Applying.{frame_event}
use Rattle.std.proofs.lemmas.List.{length-drop}
use Rattle.mux_state.specs.State.{pending_bytes, channel_at, state_of, kept_state}
use Rattle.mux_state.specs.Tests.{accept_test, write_test, writing_test, read_test, open_test, on_kept, frame_test, heeded_test, event_on, stays_kept, view_in, view_on, tally_on}

or_again : (h p r f : Bool) → (((h || p || r || f) || p)) ≡ (h || p || r || f)
or_again true p r f = refl
or_again false true r f = refl
or_again false false true f = refl
or_again false false false true = refl
or_again false false false false = refl

-- after the peer's termination the own one is sent
peer_sent : (v : Version) (c : ChannelKey) (items : List Item) → (termination_emitted v c items || is_terminated_by_peer c items) ≡ termination_emitted v c items
peer_sent v c items = or_again (has_terminated c items) (is_terminated_by_peer c items) (is_rejected c items) (is_finished v c items)

pub write_by_state : (v : Version) (c : ChannelKey) (bytes : List ℕ) (items : List Item) → write_refusal v c bytes items ≡ unless_ended (ended items) (on_kept (kept_state v c items) (write_test bytes))
write_by_state v c bytes items = elim (cases_Bool (is_kept v c items)) [
  | inl e ↦ rw (e, peer_sent v c items) refl
  | inr e ↦ rw e refl
]

pub complete_by_state : (v : Version) (c : ChannelKey) (items : List Item) → complete_refusal v c items ≡ unless_ended (ended items) (on_kept (kept_state v c items) writing_test)
complete_by_state v c items = elim (cases_Bool (is_kept v c items)) [
  | inl e ↦ rw (e, peer_sent v c items) refl
  | inr e ↦ rw e refl
]

pub terminate_by_state : (v : Version) (c : ChannelKey) (items : List Item) → terminate_refusal v c items ≡ unless_ended (ended items) (on_kept (kept_state v c items) open_test)
terminate_by_state v c items = elim (cases_Bool (is_kept v c items)) [
  | inl e ↦ rw (e, peer_sent v c items) refl
  | inr e ↦ rw e refl
]

pub read_by_state : (v : Version) (c : ChannelKey) (items : List Item) → read_refusal v c items ≡ on_kept (kept_state v c items) read_test
read_by_state v c items = elim (cases_Bool (is_kept v c items)) [
  | inl e ↦ rw e refl
  | inr e ↦ rw e refl
]

accept_in_turn : (sent accepted : Bool) (rest : Option Refusal) → (if sent then Some refusal.NotOpen else if accepted then Some refusal.AlreadyAccepted else rest)
    ≡ or_else (or_else (if sent then Some refusal.NotOpen else None) (if accepted then Some refusal.AlreadyAccepted else None)) rest
accept_in_turn true accepted rest = refl
accept_in_turn false true rest = refl
accept_in_turn false false rest = refl

pub accept_by_state : (v : Version) (c : ChannelKey) (size : ℕ) (items : List Item) → accept_refusal v c size items ≡ unless_ended (ended items) (on_kept (kept_state v c items) (accept_test (own_windows v items) size))
accept_by_state v c size items = elim (cases_Bool (is_kept v c items)) [
  | inl e ↦ rw (e, peer_sent v c items)
      (ap (λ r. unless_ended (ended items) (if c.own then Some refusal.WrongSide else r)) (accept_in_turn (termination_emitted v c items) (is_accepted v c items) (if is_bad_window size then Some refusal.BadWindow else if nat_lt most_windows (own_windows v items + size) then Some refusal.WindowsSpent else None)))
  | inr e ↦ rw e refl
]

heeded_by_state : (v : Version) (c : ChannelKey) (body : FrameBody) (items : List Item) → heeded_refusal v c body items ≡ heeded_test body (channel_at v c items)
heeded_by_state v c (Offer name size) items = refl
heeded_by_state v c (OfferAccepted size) items = refl
heeded_by_state v c (Content bytes) items = refl
heeded_by_state v c ContentWritingCompleted items = refl
heeded_by_state v c ChannelTerminated items = refl
heeded_by_state v c (ContentProcessed count) items = refl

-- a frame that isn't an offer, on a channel that was offered
pub frame_by_state : (v : Version) (c : ChannelKey) (body : FrameBody) (items : List Item) → is_offered c items ≡ true → later_refusal v c body items ≡ frame_test body (channel_at v c items)
frame_by_state v c body items e = rw e (ap (λ r. if termination_emitted v c items then None else r) (heeded_by_state v c body items))

pub event_by_state : (v : Version) (c : ChannelKey) (body : FrameBody) (items : List Item) → is_rejected c items ≡ false → frame_event v c body items ≡ event_on c body (channel_at v c items)
event_by_state v c ChannelTerminated items e = rw e refl
event_by_state v c (Offer name size) items e = refl
event_by_state v c (OfferAccepted size) items e = refl
event_by_state v c (Content bytes) items e = refl
event_by_state v c ContentWritingCompleted items e = refl
event_by_state v c (ContentProcessed count) items e = refl

-- whether a known channel is kept
pub kept_by_state : (v : Version) (c : ChannelKey) (items : List Item) → is_known c items ≡ true → is_kept v c items ≡ stays_kept (channel_at v c items)
kept_by_state v c items e = rw e refl

pending_length : (cut : Bool) (sent : ℕ) (bytes : List ℕ) → (if cut then 0 else length bytes - sent) ≡ length (pending_bytes cut sent bytes)
pending_length true sent bytes = refl
pending_length false sent bytes = sym (length-drop sent bytes)

view_same : (v : Version) (c : ChannelKey) (items : List Item) → view_of v c items ≡ (if is_kept v c items then Some (view_in (channel_at v c items)) else None)
view_same v c items = ap (λ n. if is_kept v c items then Some (record (view_in (channel_at v c items)) { pending = n }) else None) (pending_length (is_cut c items) (emitted v c items) (written c items))

pub view_by_state : (v : Version) (c : ChannelKey) (items : List Item) → view_of v c items ≡ view_on (kept_state v c items)
view_by_state v c items = view_same v c items ∙ elim (cases_Bool (is_kept v c items)) [
  | inl e ↦ rw e refl
  | inr e ↦ rw e refl
]

pub tally_by_state : (v : Version) (c : ChannelKey) (items : List Item) → tally_of v c items ≡ tally_on (state_of v c items)
tally_by_state v c items = elim (cases_Bool (is_known c items)) [
  | inl e ↦ rw e refl
  | inr e ↦ rw e refl
]
