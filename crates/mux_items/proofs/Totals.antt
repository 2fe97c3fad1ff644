-- What one end's frames give and acknowledge.
use Rattle.std.specs.Prelude.{ℕ, ◌+◌, min, ◌≤◌, List, [], ◌∷◌, ◌++◌, length, map, Bool, true, false, ◌==◌, ◌&&◌, if◌then◌else◌}
use Rattle.std.proofs.Common.{◌≡◌, inl, inr, refl, sym, ◌∙◌, ap, subst, arith, length-append, length-take}
use Rattle.std.proofs.lemmas.Bool.{cases_Bool}
use Rattle.wire_base.specs.declared.frame.Version.{Version}
use Rattle.mux_items.specs.declared.channel.ChannelKey.{ChannelKey}
use Rattle.mux_items.specs.Bodies.{FrameBody, Offer, OfferAccepted, Content, ContentWritingCompleted, ChannelTerminated, ContentProcessed, ChannelFrame, frame_on, other_key, flip, same_key, is_one, window_of}
use Rattle.mux_items.specs.Items.{Item, Hello, DidOffer, DidAccept, DidWrite, DidRead, DidComplete, DidTerminate, Got, Rejected, End, is_running}
use Rattle.mux_items.specs.Lists.{written, window, emitted, taken, handed, unread, unread_count, is_dropped, is_live}
use Rattle.mux_items.specs.Due.{pieces, content_frames, newly_emitted, completes, terminates, due_on, written_window, acknowledgement, due, sent, got, contents}
use Rattle.mux_items.specs.Applying.{Allowed}
use Rattle.mux_items.proofs.Keys.{same_key_other, same_key_refl, key_cases}
use Rattle.mux_items.proofs.Emission.{sent_front, emitted_bound}
use Rattle.mux_items.proofs.Taking.{taken_front}
use Rattle.mux_items.proofs.Window.{length-unread}
use Rattle.mux_items.specs.Sums.{window_in, credit_in, amount_on, total, windows, credits}

pub total-append : (amount : FrameBody → ℕ) (c : ChannelKey) (fs gs : List ChannelFrame) → total amount c (fs ++ gs) ≡ total amount c fs + total amount c gs
total-append amount c [] gs = omega arith
total-append amount c (f ∷ fs) gs = omega (arith, total-append amount c fs gs)

pub total-push : (amount : FrameBody → ℕ) (c key : ChannelKey) (body : FrameBody) (fs : List ChannelFrame) → total amount c (fs ++ frame_on key body ∷ []) ≡ total amount c fs + (if same_key key c then amount body else 0)
total-push amount c key body fs = omega (arith, total-append amount c fs (frame_on key body ∷ []))

-- the same frames as the other end names them
pub total-flip : (amount : FrameBody → ℕ) (c : ChannelKey) (fs : List ChannelFrame) → total amount (other_key c) (map flip fs) ≡ total amount c fs
total-flip amount c [] = refl
total-flip amount c (f ∷ fs) =
    ap (λ b. (if b then amount f.body else 0) + total amount (other_key c) (map flip fs)) (same_key_other f.key c)
    ∙ ap (λ n. amount_on amount c f + n) (total-flip amount c fs)

-- an amount that content, completion and termination don't have
pub record IsPlainAmount (amount : FrameBody → ℕ) : Type 0 where
  pub content : (bytes : List ℕ) → amount (Content bytes) ≡ 0
  pub completion : amount ContentWritingCompleted ≡ 0
  pub termination : amount ChannelTerminated ≡ 0

pub windows_plain : IsPlainAmount window_in
windows_plain = record { content = λ bytes. refl; completion = refl; termination = refl }

pub credits_plain : IsPlainAmount credit_in
credits_plain = record { content = λ bytes. refl; completion = refl; termination = refl }

pub none_on : (b : Bool) (n : ℕ) → n ≡ 0 → (if b then n else 0) ≡ 0
none_on true n e = e
none_on false n e = refl

total_pieces : (amount : FrameBody → ℕ) (c key : ChannelKey) (bodies : List (List ℕ)) → IsPlainAmount amount → total amount c (map (λ piece. frame_on key (Content piece)) bodies) ≡ 0
total_pieces amount c key [] p = refl
total_pieces amount c key (body ∷ bodies) p = omega (arith, none_on (same_key key c) (amount (Content body)) (p.content body), total_pieces amount c key bodies p)

pub total_if : (amount : FrameBody → ℕ) (c key : ChannelKey) (body : FrameBody) (b : Bool) → amount body ≡ 0 → total amount c (if b then frame_on key body ∷ [] else []) ≡ 0
total_if amount c key body true e = omega (arith, none_on (same_key key c) (amount body) e)
total_if amount c key body false e = refl

pub total_due_on : (amount : FrameBody → ℕ) (v : Version) (c key : ChannelKey) (first : List ChannelFrame) (item : Item) (items : List Item) → IsPlainAmount amount → total amount c (due_on v key first item items) ≡ total amount c first
total_due_on amount v c key first item items p =
    let f = content_frames key (newly_emitted v key item items) in
    let a : List ChannelFrame = if completes v key item items then frame_on key ContentWritingCompleted ∷ [] else [] in
    let b : List ChannelFrame = if terminates v key item items then frame_on key ChannelTerminated ∷ [] else [] in
    omega (
      arith,
      total-append amount c (first ++ f ++ a) b,
      total-append amount c (first ++ f) a,
      total-append amount c first f,
      total_pieces amount c key (pieces (newly_emitted v key item items)) p,
      total_if amount c key ContentWritingCompleted (completes v key item items) p.completion,
      total_if amount c key ChannelTerminated (terminates v key item items) p.termination,
    )

pub plus_if : (b : Bool) (n m : ℕ) → (if b then n + m else n) ≡ n + (if b then m else 0)
plus_if true n m = refl
plus_if false n m = omega arith

written_window_is : (v : Version) (size : ℕ) → is_one v ≡ false → window_of (written_window v size) ≡ size
written_window_is v size two = rw two refl

pub acknowledgement_none : (amount : FrameBody → ℕ) (v : Version) (c key : ChannelKey) (count : ℕ) (items : List Item) → amount (ContentProcessed count) ≡ 0 → total amount c (acknowledgement v key count items) ≡ 0
acknowledgement_none amount v c key count items e = of_three (is_one v) (count == 0) (is_running items && is_live v key items)
  where
    of_three : (one none live : Bool) → total amount c (if one then [] else if none then [] else if live then frame_on key (ContentProcessed count) ∷ [] else []) ≡ 0
    of_three true none live = refl
    of_three false true live = refl
    of_three false false live = total_if amount c key (ContentProcessed count) live e

-- the frame that an item itself makes, before content, completion and termination
abbrev first_frames : Version → Item → List Item → List ChannelFrame
first_frames v (DidOffer key name size) items = frame_on key (Offer name (written_window v size)) ∷ []
first_frames v (DidAccept key size) items = frame_on key (OfferAccepted (written_window v size)) ∷ []
first_frames v (DidRead key max) items = acknowledgement v key (min max (length (unread v key items))) items
first_frames v item items = []

pub total_due : (amount : FrameBody → ℕ) (v : Version) (c : ChannelKey) (item : Item) (items : List Item) → IsPlainAmount amount → total amount c (due v item items) ≡ total amount c (first_frames v item items)
total_due amount v c (Hello party) items p = refl
total_due amount v c (DidOffer key name size) items p = total_due_on amount v c key (first_frames v (DidOffer key name size) items) (DidOffer key name size) items p
total_due amount v c (DidAccept key size) items p = total_due_on amount v c key (first_frames v (DidAccept key size) items) (DidAccept key size) items p
total_due amount v c (DidWrite key bytes) items p = total_due_on amount v c key [] (DidWrite key bytes) items p
total_due amount v c (DidRead key max) items p = refl
total_due amount v c (DidComplete key) items p = total_due_on amount v c key [] (DidComplete key) items p
total_due amount v c (DidTerminate key) items p = total_due_on amount v c key [] (DidTerminate key) items p
total_due amount v c (Got place key body) items p = total_due_on amount v c key [] (Got place key body) items p
total_due amount v c (Rejected place key body) items p = total_if amount c key ChannelTerminated true p.termination
total_due amount v c (End cause) items p = refl

-- an end tells its whole window

window_due : (v : Version) (c : ChannelKey) (item : Item) (items : List Item) → is_one v ≡ false → window c items + windows c (first_frames v item items) ≡ window c (item ∷ items)
window_due v c (DidOffer key name size) items two = omega (arith, ap (λ n. if same_key key c then n else 0) (written_window_is v size two), plus_if (same_key key c) (window c items) size)
window_due v c (DidAccept key size) items two = omega (arith, ap (λ n. if same_key key c then n else 0) (written_window_is v size two), plus_if (same_key key c) (window c items) size)
window_due v c (DidRead key max) items two = omega (arith, acknowledgement_none window_in v c key (min max (length (unread v key items))) items refl)
window_due v c item items two = omega arith

pub windows-sent : (v : Version) (c : ChannelKey) (items : List Item) → is_one v ≡ false → windows c (sent v items) ≡ window c items
windows-sent v c [] two = refl
windows-sent v c (item ∷ items) two = omega (arith, windows-sent v c items two, total-append window_in c (sent v items) (due v item items), total_due window_in v c item items windows_plain, window_due v c item items two)

-- what an item's frames acknowledge

read_due : (v : Version) (c key : ChannelKey) (max : ℕ) (items : List Item) → credits c (due v (DidRead key max) items) + handed v c items ≤ handed v c (DidRead key max ∷ items)
read_due v c key max items = elim (key_cases key c) [
  | inl same ↦ subst (λ k. credits c (due v (DidRead k max) items) + handed v c items ≤ handed v c (DidRead k max ∷ items)) (sym same)
      (rw (same_key_refl c) (let n : min max (length (unread v c items)) ≡ min max (unread_count (is_dropped v c items) (length (taken v c items)) (handed v c items)) = ap (min max) (length-unread v c items) in
      omega (arith, n, at_most c (min max (length (unread v c items))) (is_one v) (min max (length (unread v c items)) == 0) (is_running items && is_live v c items))))
  | inr differ ↦ rw differ (omega (arith, off key (min max (length (unread v key items))) (is_one v) (min max (length (unread v key items)) == 0) (is_running items && is_live v key items) differ))
]
  where
    at_most : (key : ChannelKey) (count : ℕ) (one none live : Bool) → credits c (if one then [] else if none then [] else if live then frame_on key (ContentProcessed count) ∷ [] else []) ≤ count
    at_most key count true none live = omega arith
    at_most key count false true live = omega arith
    at_most key count false false false = omega arith
    at_most key count false false true = elim (cases_Bool (same_key key c)) [ inl e ↦ rw e (omega arith) | inr e ↦ rw e (omega arith) ]

    off : (key : ChannelKey) (count : ℕ) (one none live : Bool) → same_key key c ≡ false → credits c (if one then [] else if none then [] else if live then frame_on key (ContentProcessed count) ∷ [] else []) ≡ 0
    off key count true none live e = refl
    off key count false true live e = refl
    off key count false false false e = refl
    off key count false false true e = rw e refl

pub credits_due : (v : Version) (c : ChannelKey) (item : Item) (items : List Item) → credits c (due v item items) + handed v c items ≤ handed v c (item ∷ items)
credits_due v c (DidRead key max) items = read_due v c key max items
credits_due v c (DidOffer key name size) items = omega (arith, total_due credit_in v c (DidOffer key name size) items credits_plain, none_on (same_key key c) 0 refl)
credits_due v c (DidAccept key size) items = omega (arith, total_due credit_in v c (DidAccept key size) items credits_plain, none_on (same_key key c) 0 refl)
credits_due v c item items = omega (arith, total_due credit_in v c item items credits_plain)

-- an end acknowledges no more than it handed over
pub credits-sent-le : (v : Version) (c : ChannelKey) (items : List Item) → credits c (sent v items) ≤ handed v c items
credits-sent-le v c [] = omega arith
credits-sent-le v c (item ∷ items) = omega (arith, credits-sent-le v c items, total-append credit_in c (sent v items) (due v item items), credits_due v c item items)

-- what was emitted is the content of what was sent
pub emitted_is_sent : (v : Version) (c : ChannelKey) (items : List Item) → length (contents c (sent v items)) ≡ emitted v c items
emitted_is_sent v c items = ap length (sent_front v c items) ∙ (length-take (emitted v c items) (written c items) ∙ omega (arith, emitted_bound v c items))

-- no more was taken than came
pub taken_came : (v : Version) (c : ChannelKey) (items : List Item) → Allowed v items → length (taken v c items) ≤ length (contents c (got items))
taken_came v c items ok =
    let front = taken_front v c items ok in
    omega (arith, ap length front.1, length-append (taken v c items) front.0)
