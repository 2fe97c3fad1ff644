-- A live channel has a window, and a running end emits on it all that it may.
use Rattle.std.specs.Prelude.{ℕ, ◌+◌, ◌-◌, min, ◌≤◌, List, [], ◌∷◌, length, Bool, true, false, not, ◌&&◌, if◌then◌else◌}
use Rattle.std.proofs.Common.{◌≡◌, inl, inr, refl, sym, ◌∙◌, ap, arith}
use Rattle.std.proofs.lemmas.Bool.{cases_Bool, true≢false, false≢true, and_parts, not-true}
use Rattle.wire_base.specs.declared.frame.Version.{Version}
use Rattle.mux_items.specs.declared.channel.ChannelKey.{ChannelKey}
use Rattle.mux_items.specs.Bodies.{Offer, OfferAccepted, same_key, is_one}
use Rattle.mux_items.specs.Items.{Item, DidOffer, DidAccept, Got, Rejected, is_running}
use Rattle.mux_items.specs.Lists.{written, window, is_offered, within_grant, granted_in, emitted_in, emitted, termination_emitted, is_accepted, granted, heeds, is_live}
use Rattle.mux_items.specs.Applying.{Allowed}
use Rattle.mux_items.proofs.Keys.{same_key_true}
use Rattle.mux_items.proofs.Emission.{no_cut}
use Rattle.mux_items.proofs.Permits.{offer_permits, accept_permits, acceptance_permits}
use Rattle.mux_items.proofs.Applied.{allowed_tail}
use Rattle.mux_items.proofs.Window.{window_grows}
use Rattle.mux_items.proofs.Open.{heard_uncut, accepted_heard, granted_heard}
use Rattle.mux_items.proofs.Offered.{peer_key, offered_else, heard_first, rejected_first, accepted_offered}

-- an offered own channel has a window, and so has an accepted one of the peer

given : (b : Bool) (n m : ℕ) → b ≡ true → 1 ≤ m → 1 ≤ (if b then n + m else n)
given true n m e h = omega arith
given false n m e h = absurd (false≢true e)

own_window : (v : Version) (c : ChannelKey) (items : List Item) → Allowed v items → c.own ≡ true → is_offered c items ≡ true → 1 ≤ window c items
own_window v c [] ok own e = absurd (false≢true e)
own_window v c (DidOffer key name size ∷ items) ok own e = elim (cases_Bool (same_key key c)) [
  | inl same ↦ given (same_key key c) (window c items) size same (offer_permits v name size items ok.0).not_empty
  | inr differ ↦ omega (arith, window_grows c (DidOffer key name size) items, own_window v c items ok.2 own (offered_else (same_key key c) (is_offered c items) differ e))
]
own_window v c (Got place key (Offer name size) ∷ items) ok own e = own_window v c items ok.2 own (offered_else (same_key key c) (is_offered c items) (peer_key c key own (heard_first v key name size items ok.0.unrefused).0) e)
own_window v c (Rejected place key body ∷ items) ok own e = own_window v c items ok.2 own (offered_else (same_key key c) (is_offered c items) (peer_key c key own (rejected_first v key body items ok.0.unrefused ok.1).0) e)
own_window v c (item ∷ items) ok own e = omega (arith, window_grows c item items, own_window v c items (allowed_tail v item items ok) own e)

peer_window : (v : Version) (c : ChannelKey) (items : List Item) → Allowed v items → c.own ≡ false → is_accepted v c items ≡ true → 1 ≤ window c items
peer_window v c [] ok peer e = absurd (false≢true e)
peer_window v c (DidAccept key size ∷ items) ok peer e = elim (cases_Bool (same_key key c)) [
  | inl same ↦ given (same_key key c) (window c items) size same (accept_permits v key size items ok.0).not_empty
  | inr differ ↦ omega (arith, window_grows c (DidAccept key size) items, peer_window v c items ok.1 peer (offered_else (same_key key c) (is_accepted v c items) differ e))
]
peer_window v c (Got place key (OfferAccepted size) ∷ items) ok peer e = elim (cases_Bool (heeds v key c items)) [
  | inl h ↦
      let both = and_parts (same_key key c) (not (termination_emitted v c items)) h in
      let same = same_key_true key c both.0 in
      let heard : termination_emitted v key items ≡ false = ap (λ k. termination_emitted v k items) same ∙ not-true (termination_emitted v c items) both.1 in
      absurd (true≢false (sym (acceptance_permits v key size items ok.0.unrefused heard) ∙ (ap (λ (k : ChannelKey). k.own) same ∙ peer)))
  | inr h ↦ peer_window v c items ok.2 peer (offered_else (heeds v key c items) (is_accepted v c items) h e)
]
peer_window v c (item ∷ items) ok peer e = omega (arith, window_grows c item items, peer_window v c items (allowed_tail v item items ok) peer e)

pub accepted_window : (v : Version) (c : ChannelKey) (items : List Item) → Allowed v items → is_accepted v c items ≡ true → 1 ≤ window c items
accepted_window v c items ok e = elim (cases_Bool c.own) [
  | inl own ↦ own_window v c items ok own (accepted_offered v c items ok e)
  | inr peer ↦ peer_window v c items ok peer e
]

-- what a live channel emits at a running end: all that was written, or all that is granted

pub live_parts : (over accepted : Bool) → (not over && accepted) ≡ true → (over ≡ false) × (accepted ≡ true)
live_parts true accepted e = absurd (false≢true e)
live_parts false accepted e = (refl, e)

live_emits : (v : Version) (c : ChannelKey) (items : List Item) → Allowed v items → is_running items ≡ true → is_live v c items ≡ true → emitted v c items ≡ within_grant v (granted v c items) (length (written c items))
live_emits v c items ok runs live =
    let parts = live_parts (termination_emitted v c items) (is_accepted v c items) live in
    ap (emitted_in v c) (no_cut c items (heard_uncut v c items runs parts.0))
    ∙ (ap (λ b. if b then within_grant v (granted_in c items) (length (written c items)) else 0) (accepted_heard v c items ok parts.0 ∙ parts.1)
    ∙ ap (λ n. within_grant v n (length (written c items))) (granted_heard v c items ok parts.0))

-- so all that was written, where more is granted than emitted
pub emits_all : (v : Version) (c : ChannelKey) (items : List Item) → Allowed v items → is_running items ≡ true → is_live v c items ≡ true → (is_one v ≡ false → 1 ≤ granted v c items - emitted v c items) → emitted v c items ≡ length (written c items)
emits_all v c items ok runs live more = elim (cases_Bool (is_one v)) [
  | inl one ↦ live_emits v c items ok runs live ∙ ap (λ b. if b then length (written c items) else min (granted v c items) (length (written c items))) one
  | inr two ↦
      let is : emitted v c items ≡ min (granted v c items) (length (written c items)) = live_emits v c items ok runs live ∙ ap (λ b. if b then length (written c items) else min (granted v c items) (length (written c items))) two in
      omega (arith, is, more two)
]
