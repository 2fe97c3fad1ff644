-- A channel until its own termination is emitted.
use Rattle.std.specs.Prelude.{◌+◌, List, [], ◌∷◌, Bool, true, false, not, ◌&&◌, ◌||◌, if◌then◌else◌}
use Rattle.std.proofs.Common.{◌≡◌, refl, sym, ◌∙◌, ap}
use Rattle.std.proofs.lemmas.Bool.{true≢false, false≢true, or_parts, or_left, or_right}
use Rattle.wire_base.specs.declared.frame.Version.{Version}
use Rattle.mux_items.specs.declared.channel.ChannelKey.{ChannelKey}
use Rattle.mux_items.specs.Bodies.{Offer, OfferAccepted, ContentWritingCompleted, ChannelTerminated, ContentProcessed, same_key, window_of}
use Rattle.mux_items.specs.Items.{Item, DidAccept, DidTerminate, Got, End, is_running}
use Rattle.mux_items.specs.Lists.{is_cut, is_accepted_in, granted_in, is_completed_in, has_terminated, is_terminated_by_peer, is_rejected, is_finished, termination_emitted, is_accepted, is_completed, granted, is_dropped}
use Rattle.mux_items.specs.Applying.{Allowed}
use Rattle.mux_items.proofs.Emission.{if_false}
use Rattle.mux_items.proofs.Applied.{allowed_tail}
use Rattle.mux_items.proofs.Newer.{heard_before}

-- cuts

-- without a cut neither side terminated the channel
pub uncut_both : (c : ChannelKey) (items : List Item) → is_cut c items ≡ false → (has_terminated c items ≡ false) × (is_terminated_by_peer c items ≡ false)
uncut_both c [] e = (refl, refl)
uncut_both c (DidTerminate key ∷ items) e =
    let parts = if_false (same_key key c) (is_cut c items) e in
    let before = uncut_both c items parts.1 in
    (ap (λ b. if b then true else has_terminated c items) parts.0 ∙ before.0, before.1)
uncut_both c (Got place key ChannelTerminated ∷ items) e =
    let parts = if_false (same_key key c) (is_cut c items) e in
    let before = uncut_both c items parts.1 in
    (before.0, ap (λ b. if b then true else is_terminated_by_peer c items) parts.0 ∙ before.1)
uncut_both c (End cause ∷ items) e = absurd (true≢false e)
uncut_both c (item ∷ items) e = uncut_both c items e

-- and where the end runs there is no other cut
running_uncut : (c : ChannelKey) (items : List Item) → is_running items ≡ true → has_terminated c items ≡ false → is_terminated_by_peer c items ≡ false → is_cut c items ≡ false
running_uncut c [] runs here peer = refl
running_uncut c (DidTerminate key ∷ items) runs here peer =
    let on = if_false (same_key key c) (has_terminated c items) here in
    ap (λ b. if b then true else is_cut c items) on.0 ∙ running_uncut c items runs on.1 peer
running_uncut c (Got place key ChannelTerminated ∷ items) runs here peer =
    let on = if_false (same_key key c) (is_terminated_by_peer c items) peer in
    ap (λ b. if b then true else is_cut c items) on.0 ∙ running_uncut c items runs here on.1
running_uncut c (End cause ∷ items) runs here peer = absurd (false≢true runs)
running_uncut c (item ∷ items) runs here peer = running_uncut c items runs here peer

-- neither side terminated the channel, and it wasn't rejected
pub record IsUnterminated (c : ChannelKey) (items : List Item) : Type 0 where
  pub here : has_terminated c items ≡ false
  pub peer : is_terminated_by_peer c items ≡ false
  pub unrejected : is_rejected c items ≡ false

pub unterminated : (v : Version) (c : ChannelKey) (items : List Item) → termination_emitted v c items ≡ false → IsUnterminated c items
unterminated v c items e =
    let three = or_parts (has_terminated c items || is_terminated_by_peer c items || is_rejected c items) (is_finished v c items) e in
    let two = or_parts (has_terminated c items || is_terminated_by_peer c items) (is_rejected c items) three.0 in
    let parts = or_parts (has_terminated c items) (is_terminated_by_peer c items) two.0 in
    record { here = parts.0; peer = parts.1; unrejected = two.1 }

pub heard_uncut : (v : Version) (c : ChannelKey) (items : List Item) → is_running items ≡ true → termination_emitted v c items ≡ false → is_cut c items ≡ false
heard_uncut v c items runs e =
    let parts = unterminated v c items e in
    running_uncut c items runs parts.here parts.peer

pub undropped : (v : Version) (c : ChannelKey) (items : List Item) → termination_emitted v c items ≡ false → is_dropped v c items ≡ false
undropped v c items e =
    let parts = unterminated v c items e in
    rw (parts.here, parts.peer) refl

pub rejected_terminated : (v : Version) (c : ChannelKey) (items : List Item) → is_rejected c items ≡ true → termination_emitted v c items ≡ true
rejected_terminated v c items e =
    or_left (has_terminated c items || is_terminated_by_peer c items || is_rejected c items) (is_finished v c items)
    (or_right (has_terminated c items || is_terminated_by_peer c items) (is_rejected c items) e)

-- every frame is heeded

heeded : {A : Type 0} (same over : Bool) (x y : A) → over ≡ false → (if same && not over then x else y) ≡ (if same then x else y)
heeded same true x y e = absurd (true≢false e)
heeded true false x y e = refl
heeded false false x y e = refl

pub accepted_step : (v : Version) (c : ChannelKey) (item : Item) (items : List Item) → termination_emitted v c items ≡ false → is_accepted_in c items ≡ is_accepted v c items → is_accepted_in c (item ∷ items) ≡ is_accepted v c (item ∷ items)
accepted_step v c (DidAccept key size) items e same = ap (λ b. if same_key key c then true else b) same
accepted_step v c (Got place key (OfferAccepted size)) items e same = ap (λ b. if same_key key c then true else b) same ∙ sym (heeded (same_key key c) (termination_emitted v c items) true (is_accepted v c items) e)
accepted_step v c item items e same = same

pub granted_step : (v : Version) (c : ChannelKey) (item : Item) (items : List Item) → termination_emitted v c items ≡ false → granted_in c items ≡ granted v c items → granted_in c (item ∷ items) ≡ granted v c (item ∷ items)
granted_step v c (Got place key (Offer name size)) items e same = ap (λ n. if same_key key c then n + window_of size else n) same ∙ sym (heeded (same_key key c) (termination_emitted v c items) (granted v c items + window_of size) (granted v c items) e)
granted_step v c (Got place key (OfferAccepted size)) items e same = ap (λ n. if same_key key c then n + window_of size else n) same ∙ sym (heeded (same_key key c) (termination_emitted v c items) (granted v c items + window_of size) (granted v c items) e)
granted_step v c (Got place key (ContentProcessed count)) items e same = ap (λ n. if same_key key c then n + count else n) same ∙ sym (heeded (same_key key c) (termination_emitted v c items) (granted v c items + count) (granted v c items) e)
granted_step v c item items e same = same

pub completed_step : (v : Version) (c : ChannelKey) (item : Item) (items : List Item) → termination_emitted v c items ≡ false → is_completed_in c items ≡ is_completed v c items → is_completed_in c (item ∷ items) ≡ is_completed v c (item ∷ items)
completed_step v c (Got place key ContentWritingCompleted) items e same = ap (λ b. if same_key key c then true else b) same ∙ sym (heeded (same_key key c) (termination_emitted v c items) true (is_completed v c items) e)
completed_step v c item items e same = same

pub accepted_heard : (v : Version) (c : ChannelKey) (items : List Item) → Allowed v items → termination_emitted v c items ≡ false → is_accepted_in c items ≡ is_accepted v c items
accepted_heard v c [] ok e = refl
accepted_heard v c (item ∷ items) ok e =
    let before = heard_before v c item items ok e in
    accepted_step v c item items before (accepted_heard v c items (allowed_tail v item items ok) before)

pub granted_heard : (v : Version) (c : ChannelKey) (items : List Item) → Allowed v items → termination_emitted v c items ≡ false → granted_in c items ≡ granted v c items
granted_heard v c [] ok e = refl
granted_heard v c (item ∷ items) ok e =
    let before = heard_before v c item items ok e in
    granted_step v c item items before (granted_heard v c items (allowed_tail v item items ok) before)

pub completed_heard : (v : Version) (c : ChannelKey) (items : List Item) → Allowed v items → termination_emitted v c items ≡ false → is_completed_in c items ≡ is_completed v c items
completed_heard v c [] ok e = refl
completed_heard v c (item ∷ items) ok e =
    let before = heard_before v c item items ok e in
    completed_step v c item items before (completed_heard v c items (allowed_tail v item items ok) before)
