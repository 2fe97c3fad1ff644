-- What an end knows of a channel by the frames that came on it.
use Rattle.std.specs.Prelude.{ℕ, List, [], ◌∷◌, ◌++◌, map, Bool, true, false, not, ◌&&◌, if◌then◌else◌, Option}
use Rattle.std.proofs.Common.{◌≡◌, inl, inr, refl, sym, ◌∙◌, ap}
use Rattle.std.proofs.lemmas.Bool.{cases_Bool, true≢false, false≢true}
use Rattle.wire_base.specs.declared.frame.Version.{Version}
use Rattle.mux_items.specs.declared.channel.ChannelKey.{ChannelKey}
use Rattle.mux_items.specs.Bodies.{FrameBody, Offer, OfferAccepted, ContentWritingCompleted, ChannelFrame, frame_on, other_key, flip, same_key}
use Rattle.mux_items.specs.Items.{Item, DidOffer, DidAccept, Got, Rejected, names}
use Rattle.mux_items.specs.Lists.{is_offered, termination_emitted, is_accepted, is_completed, heeds}
use Rattle.mux_items.specs.Due.{got}
use Rattle.mux_items.specs.Applying.{Allowed}
use Rattle.mux_items.proofs.Keys.{same_key_other, key_cases}
use Rattle.mux_items.proofs.Applied.{allowed_tail}
use Rattle.mux_items.proofs.Staging.{Stage, Fresh, Open, Done, Over, Wrong, next_stage, stage_after, heard_with, heard_after, is_fresh, is_talking, is_past}
use Rattle.mux_items.proofs.Permits.{accept_permits}
use Rattle.mux_items.proofs.Newer.{heard_before, accepted_more}
use Rattle.mux_items.proofs.Offered.{accepted_offered, never, peer_key, offered_else}

pub heard-flip : (c : ChannelKey) (s : Stage) (fs : List ChannelFrame) → stage_after (other_key c) s (map flip fs) ≡ heard_after c s fs
heard-flip c s [] = refl
heard-flip c s (f ∷ fs) = ap (λ b. stage_after (other_key c) (if b then next_stage (not c.own) s f.body else s) (map flip fs)) (same_key_other f.key c) ∙ heard-flip c (heard_with c s f) fs

heard_after-append : (c : ChannelKey) (s : Stage) (fs gs : List ChannelFrame) → heard_after c s (fs ++ gs) ≡ heard_after c (heard_after c s fs) gs
heard_after-append c s [] gs = refl
heard_after-append c s (f ∷ fs) gs = heard_after-append c (heard_with c s f) fs gs

abbrev pub heard_at : ChannelKey → List Item → Stage
heard_at c items = heard_after c Fresh (got items)

heard_push : (c key : ChannelKey) (body : FrameBody) (items : List Item) → heard_after c Fresh (got items ++ frame_on key body ∷ []) ≡ heard_with c (heard_at c items) (frame_on key body)
heard_push c key body items = heard_after-append c Fresh (got items) (frame_on key body ∷ [])

-- by the stage before
heard_same : (c key : ChannelKey) (body : FrameBody) (items : List Item) → same_key key c ≡ false → heard_after c Fresh (got items ++ frame_on key body ∷ []) ≡ heard_at c items
heard_same c key body items e = heard_push c key body items ∙ ap (λ b. if b then next_stage (not c.own) (heard_at c items) body else heard_at c items) e

heard_next : (c key : ChannelKey) (body : FrameBody) (items : List Item) → same_key key c ≡ true → heard_after c Fresh (got items ++ frame_on key body ∷ []) ≡ next_stage (not c.own) (heard_at c items) body
heard_next c key body items e = heard_push c key body items ∙ ap (λ b. if b then next_stage (not c.own) (heard_at c items) body else heard_at c items) e

first_not_fresh : (own : Bool) (body : FrameBody) → is_fresh (next_stage own Fresh body) ≡ false
first_not_fresh true (Offer name size) = refl
first_not_fresh false (OfferAccepted size) = refl
first_not_fresh own body = refl

pub next_not_fresh : (own : Bool) (s : Stage) (body : FrameBody) → is_fresh (next_stage own s body) ≡ false
next_not_fresh own Fresh body = first_not_fresh own body
next_not_fresh own Open (Offer name size) = refl
next_not_fresh own Done (Offer name size) = refl
next_not_fresh own s body = refl

-- what holds of each next stage where it held before
kept : (p : Stage → Bool) (b : Bool) (c key : ChannelKey) (body : FrameBody) (items : List Item) → ((own : Bool) (s : Stage) (body : FrameBody) → p s ≡ b → p (next_stage own s body) ≡ b) → p (heard_at c items) ≡ b → p (heard_after c Fresh (got items ++ frame_on key body ∷ [])) ≡ b
kept p b c key body items h e = elim (cases_Bool (same_key key c)) [
  | inl same ↦ ap p (heard_next c key body items same) ∙ h (not c.own) (heard_at c items) body e
  | inr differ ↦ ap p (heard_same c key body items differ) ∙ e
]

heard_more : (p : Stage → Bool) (b : Bool) (c : ChannelKey) (item : Item) (items : List Item) → ((own : Bool) (s : Stage) (body : FrameBody) → p s ≡ b → p (next_stage own s body) ≡ b) → p (heard_at c items) ≡ b → p (heard_at c (item ∷ items)) ≡ b
heard_more p b c (Got place key body) items h e = kept p b c key body items h e
heard_more p b c (Rejected place key body) items h e = kept p b c key body items h e
heard_more p b c item items h e = e

unfresh_more : (c : ChannelKey) (item : Item) (items : List Item) → is_fresh (heard_at c items) ≡ false → is_fresh (heard_at c (item ∷ items)) ≡ false
unfresh_more c item items e = heard_more is_fresh false c item items (λ own s body e. next_not_fresh own s body) e

unfresh_here : (c key : ChannelKey) (body : FrameBody) (items : List Item) → same_key key c ≡ true → is_fresh (heard_after c Fresh (got items ++ frame_on key body ∷ [])) ≡ false
unfresh_here c key body items e = ap is_fresh (heard_next c key body items e) ∙ next_not_fresh (not c.own) (heard_at c items) body

-- a peer's channel that was offered: a frame came on it
pub offered_came : (v : Version) (c : ChannelKey) (items : List Item) → Allowed v items → c.own ≡ false → is_offered c items ≡ true → is_fresh (heard_at c items) ≡ false
offered_came v c [] ok peer e = absurd (false≢true e)
offered_came v c (DidOffer key name size ∷ items) ok peer e = elim (key_cases key c) [
  | inl same ↦
      let own : c.own ≡ true = ap (λ (k : ChannelKey). k.own) (sym same ∙ ok.1) in
      absurd (true≢false (sym own ∙ peer))
  | inr differ ↦ offered_came v c items ok.2 peer (offered_else (same_key key c) (is_offered c items) differ e)
]
offered_came v c (Got place key (Offer name size) ∷ items) ok peer e = elim (cases_Bool (same_key key c)) [
  | inl same ↦ unfresh_here c key (Offer name size) items same
  | inr differ ↦ unfresh_more c (Got place key (Offer name size)) items (offered_came v c items ok.2 peer (offered_else (same_key key c) (is_offered c items) differ e))
]
offered_came v c (Rejected place key body ∷ items) ok peer e = elim (cases_Bool (same_key key c)) [
  | inl same ↦ unfresh_here c key body items same
  | inr differ ↦ unfresh_more c (Rejected place key body) items (offered_came v c items ok.2 peer (offered_else (same_key key c) (is_offered c items) differ e))
]
offered_came v c (item ∷ items) ok peer e = unfresh_more c item items (offered_came v c items (allowed_tail v item items ok) peer e)

-- no frame came on a channel that wasn't offered
heard_unnamed : (c : ChannelKey) (item : Item) (items : List Item) → names c item ≡ false → heard_at c (item ∷ items) ≡ heard_at c items
heard_unnamed c (Got place key body) items e = heard_same c key body items e
heard_unnamed c (Rejected place key body) items e = heard_same c key body items e
heard_unnamed c item items e = refl

pub never_came : (v : Version) (c : ChannelKey) (items : List Item) → Allowed v items → is_offered c items ≡ false → heard_at c items ≡ Fresh
never_came v c items ok e = never c (heard_at c) (heard_unnamed c) (λ party items e. e) (λ cause items e. e) v items ok e

-- an own channel is accepted by a frame
pub accepted_came : (v : Version) (c : ChannelKey) (items : List Item) → Allowed v items → c.own ≡ true → is_accepted v c items ≡ true → is_fresh (heard_at c items) ≡ false
accepted_came v c [] ok own e = absurd (false≢true e)
accepted_came v c (DidAccept key size ∷ items) ok own e =
    accepted_came v c items ok.1 own (offered_else (same_key key c) (is_accepted v c items) (peer_key c key own (accept_permits v key size items ok.0).peer) e)
accepted_came v c (Got place key (OfferAccepted size) ∷ items) ok own e = elim (cases_Bool (same_key key c)) [
  | inl same ↦ unfresh_here c key (OfferAccepted size) items same
  | inr differ ↦ unfresh_more c (Got place key (OfferAccepted size)) items (accepted_came v c items ok.2 own (offered_else (heeds v key c items) (is_accepted v c items) (ap (λ b. b && not (termination_emitted v c items)) differ) e))
]
accepted_came v c (item ∷ items) ok own e = unfresh_more c item items (accepted_came v c items (allowed_tail v item items ok) own e)

-- so on an accepted channel a frame came
pub accepted_unfresh : (v : Version) (c : ChannelKey) (items : List Item) → Allowed v items → is_accepted v c items ≡ true → is_fresh (heard_at c items) ≡ false
accepted_unfresh v c items ok e = elim (cases_Bool c.own) [
  | inl own ↦ accepted_came v c items ok own e
  | inr peer ↦ offered_came v c items ok peer (accepted_offered v c items ok e)
]

-- where the peer's acceptance came, an open own channel is accepted
talked_before : (s : Stage) (body : FrameBody) → is_talking (next_stage false s body) ≡ true → ((size : Option ℕ) → body ≡ OfferAccepted size → ⊥) → is_talking s ≡ true
talked_before Fresh (OfferAccepted size) e h = absurd (h size refl)
talked_before Fresh body e h = absurd (false≢true e)
talked_before Over body e h = absurd (false≢true e)
talked_before Wrong body e h = absurd (false≢true e)
talked_before s body e h = refl

heard_talking : (c key : ChannelKey) (body : FrameBody) (items : List Item) → c.own ≡ true → is_talking (heard_after c Fresh (got items ++ frame_on key body ∷ [])) ≡ true → ((size : Option ℕ) → body ≡ OfferAccepted size → ⊥) → is_talking (heard_at c items) ≡ true
heard_talking c key body items own e h = elim (cases_Bool (same_key key c)) [
  | inl same ↦ talked_before (heard_at c items) body (ap (λ o. is_talking (next_stage (not o) (heard_at c items) body)) (sym own) ∙ (sym (ap is_talking (heard_next c key body items same)) ∙ e)) h
  | inr differ ↦ sym (ap is_talking (heard_same c key body items differ)) ∙ e
]

accepts : (same over x : Bool) → same ≡ true → over ≡ false → (if same && not over then true else x) ≡ true
accepts true true x e f = absurd (true≢false f)
accepts true false x e f = refl
accepts false over x e f = absurd (false≢true e)

pub talking_accepted : (v : Version) (c : ChannelKey) (items : List Item) → Allowed v items → c.own ≡ true → termination_emitted v c items ≡ false → is_talking (heard_at c items) ≡ true → is_accepted v c items ≡ true
talking_accepted v c [] ok own heard e = absurd (false≢true e)
talking_accepted v c (Got place key (OfferAccepted size) ∷ items) ok own heard e =
    let before = heard_before v c (Got place key (OfferAccepted size)) items ok heard in
    elim (cases_Bool (same_key key c)) [
      | inl same ↦ accepts (same_key key c) (termination_emitted v c items) (is_accepted v c items) same before
      | inr differ ↦ accepted_more v c (Got place key (OfferAccepted size)) items (talking_accepted v c items ok.2 own before (sym (ap is_talking (heard_same c key (OfferAccepted size) items differ)) ∙ e))
    ]
talking_accepted v c (Rejected place key (OfferAccepted size) ∷ items) ok own heard e = absurd (false≢true (rejected_room ok.1))
  where
    rejected_room : (false && false) ≡ true → false ≡ true
    rejected_room e = e
talking_accepted v c (Rejected place key (Offer name size) ∷ items) ok own heard e =
    talking_accepted v c items ok.2 own (heard_before v c (Rejected place key (Offer name size)) items ok heard) (heard_talking c key (Offer name size) items own e (λ size e. cc))
talking_accepted v c (Rejected place key body ∷ items) ok own heard e = absurd (false≢true ok.1)
talking_accepted v c (Got place key body ∷ items) ok own heard e =
    accepted_more v c (Got place key body) items (talking_accepted v c items ok.2 own (heard_before v c (Got place key body) items ok heard) (heard_talking c key body items own e (λ size e. cc)))
talking_accepted v c (item ∷ items) ok own heard e = accepted_more v c item items (talking_accepted v c items (allowed_tail v item items ok) own (heard_before v c item items ok heard) e)

-- after the peer's completion no content comes

past_next : (own : Bool) (s : Stage) (body : FrameBody) → is_past s ≡ true → is_past (next_stage own s body) ≡ true
past_next own Fresh body e = absurd (false≢true e)
past_next own Open body e = absurd (false≢true e)
past_next own Done (Offer name size) e = refl
past_next own s body e = refl

past_completed : (own : Bool) (s : Stage) → is_past (next_stage own s ContentWritingCompleted) ≡ true
past_completed true Fresh = refl
past_completed false Fresh = refl
past_completed own s = refl

pub completed_came : (v : Version) (c : ChannelKey) (items : List Item) → is_completed v c items ≡ true → is_past (heard_at c items) ≡ true
completed_came v c [] e = absurd (false≢true e)
completed_came v c (Got place key ContentWritingCompleted ∷ items) e = elim (cases_Bool (same_key key c)) [
  | inl same ↦ ap is_past (heard_next c key ContentWritingCompleted items same) ∙ past_completed (not c.own) (heard_at c items)
  | inr differ ↦ ap is_past (heard_same c key ContentWritingCompleted items differ) ∙ completed_came v c items (offered_else (heeds v key c items) (is_completed v c items) (ap (λ b. b && not (termination_emitted v c items)) differ) e)
]
completed_came v c (item ∷ items) e = heard_more is_past true c item items past_next (completed_came v c items e)
