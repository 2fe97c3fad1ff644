-- What holds of a channel at an end until its own termination is emitted.
use Rattle.std.specs.Prelude.{ℕ, ◌+◌, ◌-◌, min, ◌≤◌, List, [], ◌∷◌, length, Bool, true, false, not, ◌==◌, ◌&&◌, ◌||◌, if◌then◌else◌}
use Rattle.std.proofs.Common.{◌≡◌, ◌⊎◌, inl, inr, refl, sym, ◌∙◌, ap, subst, arith}
use Rattle.std.proofs.lemmas.Bool.{cases_Bool, true≢false, false≢true, and_parts, and_from, or_left, or_right, eqb-true, eqb-false, not-true, false_from_ne_true}
use Rattle.wire_base.specs.declared.frame.Version.{Version}
use Rattle.mux_items.specs.declared.channel.ChannelKey.{ChannelKey}
use Rattle.mux_items.specs.Bodies.{FrameBody, Offer, OfferAccepted, Content, ContentProcessed, frame_on, same_key, is_one, window_of}
use Rattle.mux_items.specs.Items.{Item, DidRead, Got, Rejected, is_running}
use Rattle.mux_items.specs.Lists.{has_terminated, is_terminated_by_peer, is_rejected, is_finished, emitted, emitted_in, is_accepted_in, taken, handed, unread, unread_count, is_dropped, is_live, is_accepted, heeds, granted, granted_in, acknowledged, before_cut, termination_emitted}
use Rattle.mux_items.specs.Due.{acknowledgement, due, sent, got}
use Rattle.mux_items.specs.Applying.{Allowed}
use Rattle.mux_items.specs.Sums.{window_in, credit_in, windows, credits}
use Rattle.mux_items.proofs.Keys.{same_key_refl, same_key_true, key_cases}
use Rattle.mux_items.proofs.Emission.{granted_in_more, before_cut_cases}
use Rattle.mux_items.proofs.Permits.{content_permits}
use Rattle.mux_items.proofs.Applied.{allowed_tail}
use Rattle.mux_items.proofs.Newer.{running_before, heard_before, unaccepted_before}
use Rattle.mux_items.proofs.Open.{undropped}
use Rattle.mux_items.proofs.Totals.{total-append, total-push, credits_due}
use Rattle.mux_items.proofs.Window.{length-unread}

-- nothing is taken before the channel is accepted
pub taken_none : (v : Version) (c : ChannelKey) (items : List Item) → is_one v ≡ false → Allowed v items → is_accepted v c items ≡ false → taken v c items ≡ []
taken_none v c [] two ok e = refl
taken_none v c (Got place key (Content bytes) ∷ items) two ok e = elim (cases_Bool (heeds v key c items)) [
  | inl h ↦
      let both = and_parts (same_key key c) (not (termination_emitted v c items)) h in
      let same = same_key_true key c both.0 in
      let heard : termination_emitted v key items ≡ false = ap (λ k. termination_emitted v k items) same ∙ not-true (termination_emitted v c items) both.1 in
      absurd (true≢false (sym (content_permits v key bytes items two ok.0.unrefused heard).0 ∙ (ap (λ k. is_accepted v k items) same ∙ e)))
  | inr h ↦ rw h (taken_none v c items two ok.2 e)
]
taken_none v c (item ∷ items) two ok e = taken_none v c items two (allowed_tail v item items ok) (unaccepted_before v c item items e)

-- what is unread

pub unread_is : (v : Version) (c : ChannelKey) (items : List Item) → termination_emitted v c items ≡ false → length (unread v c items) ≡ length (taken v c items) - handed v c items
unread_is v c items e = length-unread v c items ∙ ap (λ d. unread_count d (length (taken v c items)) (handed v c items)) (undropped v c items e)

-- each byte that is handed over on an open channel is acknowledged

told : (c : ChannelKey) (count : ℕ) (one none live : Bool) → one ≡ false → none ≡ false → live ≡ true → credits c (if one then [] else if none then [] else if live then frame_on c (ContentProcessed count) ∷ [] else []) ≡ count
told c count one none live two some e = rw (two, some, e, same_key_refl c) (omega arith)

acknowledged_whole : (v : Version) (c : ChannelKey) (count : ℕ) (items : List Item) → is_one v ≡ false → (count ≡ 0) ⊎ ((is_running items && is_live v c items) ≡ true) → credits c (acknowledgement v c count items) ≡ count
acknowledged_whole v c count items two h = elim (cases_Bool (count == 0)) [
  | inl z ↦ rw (two, z) (sym (eqb-true count 0 z))
  | inr z ↦ elim h [
    | inl e ↦ absurd (eqb-false count 0 z e)
    | inr e ↦ told c count (is_one v) (count == 0) (is_running items && is_live v c items) two z e
  ]
]

read_acknowledged : (v : Version) (c : ChannelKey) (max : ℕ) (items : List Item) → is_one v ≡ false → Allowed v items → is_running items ≡ true → termination_emitted v c items ≡ false
    → credits c (due v (DidRead c max) items) + handed v c items ≡ handed v c (DidRead c max ∷ items)
read_acknowledged v c max items two ok runs heard =
    let count = min max (length (unread v c items)) in
    let moved : handed v c (DidRead c max ∷ items) ≡ handed v c items + count = rw (same_key_refl c, ← length-unread v c items) refl in
    let whole : credits c (acknowledgement v c count items) ≡ count = acknowledged_whole v c count items two (elim (cases_Bool (is_accepted v c items)) [
      | inl a ↦ inr (and_from (is_running items) (is_live v c items) runs (and_from (not (termination_emitted v c items)) (is_accepted v c items) (ap not heard) a))
      | inr a ↦ inl (omega (arith, unread_is v c items heard, ap length (taken_none v c items two ok a)))
    ]) in
    omega (arith, moved, whole)

item_acknowledged : (v : Version) (c : ChannelKey) (item : Item) (items : List Item) → is_one v ≡ false → Allowed v (item ∷ items) → is_running items ≡ true → termination_emitted v c items ≡ false → credits c (due v item items) + handed v c items ≡ handed v c (item ∷ items)
item_acknowledged v c (DidRead key max) items two ok runs heard = elim (key_cases key c) [
  | inl same ↦ subst (λ k. credits c (due v (DidRead k max) items) + handed v c items ≡ handed v c (DidRead k max ∷ items)) (sym same) (read_acknowledged v c max items two ok.1 runs heard)
  | inr differ ↦ omega (arith, credits_due v c (DidRead key max) items, ap (λ b. if b then handed v c items + min max (unread_count (is_dropped v c items) (length (taken v c items)) (handed v c items)) else handed v c items) differ)
]
item_acknowledged v c item items two ok runs heard = omega (arith, credits_due v c item items)

pub credits-sent : (v : Version) (c : ChannelKey) (items : List Item) → is_one v ≡ false → Allowed v items → is_running items ≡ true → termination_emitted v c items ≡ false → credits c (sent v items) ≡ handed v c items
credits-sent v c [] two ok runs heard = refl
credits-sent v c (item ∷ items) two ok runs heard =
    let ran = running_before item items runs in
    let open_before = heard_before v c item items ok heard in
    omega (arith, credits-sent v c items two (allowed_tail v item items ok) ran open_before, total-append credit_in c (sent v items) (due v item items), item_acknowledged v c item items two ok ran open_before)

-- what was heeded is what came

grows_by : (b : Bool) (n m k : ℕ) → m ≡ k → (if b then n + m else n) ≡ n + (if b then k else 0)
grows_by true n m k e = omega (arith, e)
grows_by false n m k e = omega arith

stays_by : (b : Bool) (n k : ℕ) → k ≡ 0 → n ≡ n + (if b then k else 0)
stays_by true n k e = omega (arith, e)
stays_by false n k e = omega arith

acknowledged_frame : (v : Version) (c : ChannelKey) (place : ℕ) (key : ChannelKey) (body : FrameBody) (items : List Item) → acknowledged v c (Got place key body ∷ items) ≡ acknowledged v c items + (if heeds v key c items then credit_in body else 0)
acknowledged_frame v c place key (ContentProcessed count) items = grows_by (heeds v key c items) (acknowledged v c items) count count refl
acknowledged_frame v c place key body items = stays_by (heeds v key c items) (acknowledged v c items) 0 refl

granted_frame : (v : Version) (c : ChannelKey) (place : ℕ) (key : ChannelKey) (body : FrameBody) (items : List Item) → granted v c (Got place key body ∷ items) ≡ granted v c items + (if heeds v key c items then window_in body + credit_in body else 0)
granted_frame v c place key (Offer name size) items = grows_by (heeds v key c items) (granted v c items) (window_of size) (window_of size + 0) (omega arith)
granted_frame v c place key (OfferAccepted size) items = grows_by (heeds v key c items) (granted v c items) (window_of size) (window_of size + 0) (omega arith)
granted_frame v c place key (ContentProcessed count) items = grows_by (heeds v key c items) (granted v c items) count (0 + count) (omega arith)
granted_frame v c place key body items = stays_by (heeds v key c items) (granted v c items) (0 + 0) refl

granted_in_frame : (c : ChannelKey) (place : ℕ) (key : ChannelKey) (body : FrameBody) (items : List Item) → granted_in c (Got place key body ∷ items) ≡ granted_in c items + (if same_key key c then window_in body + credit_in body else 0)
granted_in_frame c place key (Offer name size) items = grows_by (same_key key c) (granted_in c items) (window_of size) (window_of size + 0) (omega arith)
granted_in_frame c place key (OfferAccepted size) items = grows_by (same_key key c) (granted_in c items) (window_of size) (window_of size + 0) (omega arith)
granted_in_frame c place key (ContentProcessed count) items = grows_by (same_key key c) (granted_in c items) count (0 + count) (omega arith)
granted_in_frame c place key body items = stays_by (same_key key c) (granted_in c items) (0 + 0) refl

heeded_amount : (same over : Bool) (k : ℕ) → over ≡ false → (if same && not over then k else 0) ≡ (if same then k else 0)
heeded_amount same true k e = absurd (true≢false e)
heeded_amount true false k e = refl
heeded_amount false false k e = refl

both_amounts : (b : Bool) (m n : ℕ) → (if b then m + n else 0) ≡ (if b then m else 0) + (if b then n else 0)
both_amounts true m n = refl
both_amounts false m n = refl

pub rejected_over : (v : Version) (c : ChannelKey) (place : ℕ) (key : ChannelKey) (body : FrameBody) (items : List Item) → same_key key c ≡ true → termination_emitted v c (Rejected place key body ∷ items) ≡ true
rejected_over v c place key body items e =
    or_left (has_terminated c items || is_terminated_by_peer c items || is_rejected c (Rejected place key body ∷ items)) (is_finished v c (Rejected place key body ∷ items))
    (or_right (has_terminated c items || is_terminated_by_peer c items) (is_rejected c (Rejected place key body ∷ items)) (rw e refl))

other_rejected : (v : Version) (c : ChannelKey) (place : ℕ) (key : ChannelKey) (body : FrameBody) (items : List Item) → termination_emitted v c (Rejected place key body ∷ items) ≡ false → same_key key c ≡ false
other_rejected v c place key body items e = false_from_ne_true (same_key key c) (λ same. false≢true (sym e ∙ rejected_over v c place key body items same))

pub acknowledged-got : (v : Version) (c : ChannelKey) (items : List Item) → Allowed v items → termination_emitted v c items ≡ false → acknowledged v c items ≡ credits c (got items)
acknowledged-got v c [] ok heard = refl
acknowledged-got v c (Got place key body ∷ items) ok heard =
    let before = heard_before v c (Got place key body) items ok heard in
    omega (arith, acknowledged-got v c items ok.2 before, total-push credit_in c key body (got items), acknowledged_frame v c place key body items, heeded_amount (same_key key c) (termination_emitted v c items) (credit_in body) before)
acknowledged-got v c (Rejected place key body ∷ items) ok heard =
    let before = heard_before v c (Rejected place key body) items ok heard in
    omega (arith, acknowledged-got v c items ok.2 before, total-push credit_in c key body (got items), ap (λ b. if b then credit_in body else 0) (other_rejected v c place key body items heard))
acknowledged-got v c (item ∷ items) ok heard = acknowledged-got v c items (allowed_tail v item items ok) (heard_before v c item items ok heard)

pub granted-got : (v : Version) (c : ChannelKey) (items : List Item) → Allowed v items → termination_emitted v c items ≡ false → granted v c items ≡ windows c (got items) + credits c (got items)
granted-got v c [] ok heard = refl
granted-got v c (Got place key body ∷ items) ok heard =
    let before = heard_before v c (Got place key body) items ok heard in
    omega (
      arith,
      granted-got v c items ok.2 before,
      total-push window_in c key body (got items),
      total-push credit_in c key body (got items),
      granted_frame v c place key body items,
      heeded_amount (same_key key c) (termination_emitted v c items) (window_in body + credit_in body) before,
      both_amounts (same_key key c) (window_in body) (credit_in body),
    )
granted-got v c (Rejected place key body ∷ items) ok heard =
    let differ = other_rejected v c place key body items heard in
    omega (
      arith,
      granted-got v c items ok.2 (heard_before v c (Rejected place key body) items ok heard),
      total-push window_in c key body (got items),
      total-push credit_in c key body (got items),
      ap (λ b. if b then window_in body else 0) differ,
      ap (λ b. if b then credit_in body else 0) differ,
    )
granted-got v c (item ∷ items) ok heard = granted-got v c items (allowed_tail v item items ok) (heard_before v c item items ok heard)

-- no more is granted than came, whatever ended
granted_in_got : (c : ChannelKey) (items : List Item) → granted_in c items ≤ windows c (got items) + credits c (got items)
granted_in_got c [] = omega arith
granted_in_got c (Got place key body ∷ items) =
    omega (
      arith,
      granted_in_got c items,
      total-push window_in c key body (got items),
      total-push credit_in c key body (got items),
      granted_in_frame c place key body items,
      both_amounts (same_key key c) (window_in body) (credit_in body),
    )
granted_in_got c (Rejected place key body ∷ items) = omega (arith, granted_in_got c items, total-push window_in c key body (got items), total-push credit_in c key body (got items))
granted_in_got c (item ∷ items) = granted_in_got c items

granted_before : (c : ChannelKey) (items : List Item) → granted_in c (before_cut c items) ≤ granted_in c items
granted_before c [] = omega arith
granted_before c (item ∷ items) = elim (before_cut_cases c item items) [
  | inl e ↦ omega (arith, ap (granted_in c) e, granted_before c items, granted_in_more c item items)
  | inr e ↦ omega (arith, ap (granted_in c) e.0)
]

emitted_in_grant : (v : Version) (c : ChannelKey) (items : List Item) → is_one v ≡ false → emitted_in v c items ≤ granted_in c items
emitted_in_grant v c items two = elim (cases_Bool (is_accepted_in c items)) [
  | inl e ↦ rw (e, two) (omega arith)
  | inr e ↦ rw e (omega arith)
]

-- no more is emitted than came as credit
pub emitted_granted : (v : Version) (c : ChannelKey) (items : List Item) → is_one v ≡ false → emitted v c items ≤ windows c (got items) + credits c (got items)
emitted_granted v c items two = omega (arith, emitted_in_grant v c (before_cut c items) two, granted_before c items, granted_in_got c items)
