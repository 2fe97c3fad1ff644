-- The items after a frame came are allowed, and of older items too.
use Rattle.std.specs.Prelude.{ℕ, List, [], ◌∷◌, ◌++◌, true, Option, Some, None}
use Rattle.std.proofs.Common.{◌≡◌, inl, inr, refl}
use Rattle.std.proofs.lemmas.Bool.{cases_Bool}
use Rattle.wire_base.specs.declared.frame.Version.{Version}
use Rattle.wire_base.specs.declared.reason.Reason.{Reason}
use Rattle.mux_items.specs.declared.channel.ChannelKey.{ChannelKey}
use Rattle.mux_items.specs.Bodies.{FrameBody, frame_on}
use Rattle.mux_items.specs.Items.{Item, Hello, DidOffer, DidAccept, DidWrite, DidRead, DidComplete, DidTerminate, Got, Rejected, End, is_running}
use Rattle.mux_items.specs.Due.{got}
use Rattle.mux_items.specs.Refusals.{is_ready, frame_refusal}
use Rattle.mux_items.specs.Applying.{Allowed, IsTaken, lacks_room, item_of_frame, after_frame, apply_frame}

pub allowed_tail : (v : Version) (item : Item) (items : List Item) → Allowed v (item ∷ items) → Allowed v items
allowed_tail v (Hello party) items ok = ok.1
allowed_tail v (DidOffer key name size) items ok = ok.2
allowed_tail v (DidAccept key size) items ok = ok.1
allowed_tail v (DidWrite key bytes) items ok = ok.1
allowed_tail v (DidRead key max) items ok = ok.1
allowed_tail v (DidComplete key) items ok = ok.1
allowed_tail v (DidTerminate key) items ok = ok.1
allowed_tail v (Got place key body) items ok = ok.2
allowed_tail v (Rejected place key body) items ok = ok.2
allowed_tail v (End cause) items ok = ok.1

allowed_frame : (v : Version) (place : ℕ) (c : ChannelKey) (body : FrameBody) (items : List Item) → Allowed v items → IsTaken v c body items → Allowed v (item_of_frame v place c body items ∷ items)
allowed_frame v place c body items ok taken = elim (cases_Bool (lacks_room v body items)) [
  | inl e ↦ rw e (taken, e, ok)
  | inr e ↦ rw e (taken, e, ok)
]

allowed_after : (v : Version) (place : ℕ) (c : ChannelKey) (body : FrameBody) (items : List Item) → Allowed v items → is_ready v items ≡ true → is_running items ≡ true → (refused : Option Reason) → frame_refusal v c body items ≡ refused → Allowed v (after_frame v place c body items refused)
allowed_after v place c body items ok ready running None e = allowed_frame v place c body items ok (record { ready = ready; running = running; unrefused = e })
allowed_after v place c body items ok ready running (Some reason) e = (running, ok)

pub allowed_apply : (v : Version) (place : ℕ) (c : ChannelKey) (body : FrameBody) (items : List Item) → Allowed v items → is_ready v items ≡ true → is_running items ≡ true → Allowed v (apply_frame v place c body items)
allowed_apply v place c body items ok ready running = allowed_after v place c body items ok ready running (frame_refusal v c body items) refl

got_frame : (v : Version) (place : ℕ) (c : ChannelKey) (body : FrameBody) (items : List Item) → got (item_of_frame v place c body items ∷ items) ≡ got items ++ frame_on c body ∷ []
got_frame v place c body items = elim (cases_Bool (lacks_room v body items)) [
  | inl e ↦ rw e refl
  | inr e ↦ rw e refl
]

-- a frame that no rule refuses is applied
pub got_apply : (v : Version) (place : ℕ) (c : ChannelKey) (body : FrameBody) (items : List Item) → frame_refusal v c body items ≡ None → got (apply_frame v place c body items) ≡ got items ++ frame_on c body ∷ []
got_apply v place c body items e = rw e (got_frame v place c body items)
