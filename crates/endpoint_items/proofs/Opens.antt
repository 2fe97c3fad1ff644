-- A channel stays open with an item that ends no connection of it.
use Rattle.std.specs.Prelude.{if◌then◌else◌, not, ◌&&◌, ◌||◌, Bool, true, false}
use Rattle.std.proofs.Common.{◌≡◌, ℕ, List, ◌∷◌, refl, ◌∙◌, ap, inl, inr, Some, None}
use Rattle.std.proofs.lemmas.Bool.{cases_Bool, or_right}
use Rattle.wire_base.specs.declared.frame.Version.{Version}
use Rattle.wire_base.specs.declared.state.Cause.{Cause}
use Rattle.wire_base.specs.declared.state.Cause.TheVariants as cause
use Rattle.mux_items.specs.declared.channel.ChannelKey.{ChannelKey}
use Rattle.mux_items.specs.Applying.{Allowed}
use Rattle.mux_items.specs.Bodies.{Offer, OfferAccepted, ContentWritingCompleted, ChannelTerminated, same_key}
use Rattle.mux_items.specs.Items.{Item, DidOffer, DidAccept, DidTerminate, Got, Rejected, End}
use Rattle.mux_items.specs.Kept.{is_known}
use Rattle.mux_items.specs.Lists.{has_terminated, is_terminated_by_peer, is_rejected, is_completed_in, is_offered, is_finished, termination_emitted, heeds, is_accepted}
use Rattle.mux_items.proofs.Keys.{same_key_true}
use Rattle.mux_items.proofs.Offered.{known_offered, rejected_first}
use Rattle.endpoint_items.specs.Connections.{end_by}
use Rattle.endpoint_items.proofs.Usable.{IsThere, IsUsable, usable, unfinished_open}

-- the channel is there, and the peer didn't complete
abbrev pub IsGoing : Version → ChannelKey → List Item → Type 0
IsGoing v c m = IsThere v c m × (is_completed_in c m ≡ false)

pub going_usable : (v : Version) (c : ChannelKey) (m : List Item) → IsGoing v c m → IsUsable v c m
going_usable v c m o = usable v c m o.0 (unfinished_open v c m o.1)

accepted_with : (own accepted now : Bool) → (not own && not accepted) ≡ false → (not own && not (if now then true else accepted)) ≡ false
accepted_with true accepted now e = refl
accepted_with false accepted true e = refl
accepted_with false accepted false e = e

apart : (now was : Bool) → now ≡ false → was ≡ false → (if now then true else was) ≡ false
apart true was e g = e
apart false was e g = g

-- an item on c with a cause would end its connection
other : (same : Bool) (why : Cause) → (if same then Some why else None) ≡ None → same ≡ false
other true why e = cc
other false why e = refl

-- and so would one that lets the termination be emitted
other_end : (same emitted : Bool) → (if same then (if emitted then Some cause.ChannelClosed else None) else None) ≡ None → (same ≡ true → emitted ≡ true) → same ≡ false
other_end true emitted e h = cc (other emitted cause.ChannelClosed e, h refl)
other_end false emitted e h = refl

by_peer_emitted : (v : Version) (c : ChannelKey) (m : List Item) → is_terminated_by_peer c m ≡ true → termination_emitted v c m ≡ true
by_peer_emitted v c m e = rw e (or_true (has_terminated c m) (is_rejected c m) (is_finished v c m))
  where
    or_true : (a b d : Bool) → (a || true || b || d) ≡ true
    or_true true b d = refl
    or_true false b d = refl

terminated_other : (v : Version) (c : ChannelKey) (place : ℕ) (key : ChannelKey) (m : List Item) → end_by v c (Got place key ChannelTerminated) (Got place key ChannelTerminated ∷ m) ≡ None → same_key key c ≡ false
terminated_other v c place key m e =
    let now = Got place key ChannelTerminated ∷ m in
    other_end (same_key key c) (termination_emitted v c now) e (λ same. by_peer_emitted v c now (ap (λ b. if b then true else is_terminated_by_peer c m) same))

-- a channel that wasn't offered is none that is known
unoffered_other : (c key : ChannelKey) (m : List Item) → is_known c m ≡ true → is_offered key m ≡ false → same_key key c ≡ false
unoffered_other c key m known new = elim (cases_Bool (same_key key c)) [
  | inl same ↦ (let was : is_offered key m ≡ true = ap (λ k. is_offered k m) (same_key_true key c same) ∙ known_offered c m known in cc (was, new))
  | inr differ ↦ differ
]

pub going_more : (v : Version) (c : ChannelKey) (item : Item) (m : List Item) → IsGoing v c m → Allowed v (item ∷ m) → end_by v c item (item ∷ m) ≡ None → IsGoing v c (item ∷ m)
going_more v c (DidOffer key name size) m o a e = ((o.0.0, or_right (same_key c key) (is_known c m) o.0.1, o.0.2, o.0.3, o.0.4, o.0.5), o.1)
going_more v c (DidAccept key size) m o a e = ((o.0.0, o.0.1, o.0.2, o.0.3, o.0.4, accepted_with c.own (is_accepted v c m) (same_key key c) o.0.5), o.1)
going_more v c (DidTerminate key) m o a e = ((o.0.0, o.0.1, apart (same_key key c) (has_terminated c m) (other (same_key key c) cause.ChannelClosed e) o.0.2, o.0.3, o.0.4, o.0.5), o.1)
going_more v c (Got place key (Offer name size)) m o a e = ((o.0.0, or_right (same_key c key) (is_known c m) o.0.1, o.0.2, o.0.3, o.0.4, o.0.5), o.1)
going_more v c (Got place key (OfferAccepted size)) m o a e = ((o.0.0, o.0.1, o.0.2, o.0.3, o.0.4, accepted_with c.own (is_accepted v c m) (heeds v key c m) o.0.5), o.1)
going_more v c (Got place key ContentWritingCompleted) m o a e = (o.0, apart (same_key key c) (is_completed_in c m) (other (same_key key c) cause.PeerCompleted e) o.1)
going_more v c (Got place key ChannelTerminated) m o a e = ((o.0.0, o.0.1, o.0.2, apart (same_key key c) (is_terminated_by_peer c m) (terminated_other v c place key m e) o.0.3, o.0.4, o.0.5), o.1)
going_more v c (Rejected place key body) m o a e =
    let new = (rejected_first v key body m a.0.unrefused a.1).1 in
    ((o.0.0, o.0.1, o.0.2, o.0.3, apart (same_key key c) (is_rejected c m) (unoffered_other c key m o.0.1 new) o.0.4, o.0.5), o.1)
going_more v c (End why) m o a e = cc
going_more v c item m o a e = o
