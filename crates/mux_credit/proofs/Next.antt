-- No end refuses the next frame of the other.
use Rattle.std.specs.Prelude.{ℕ, ◌+◌, ◌≤◌, List, [], ◌∷◌, ◌++◌, length, map, Bool, true, false, not, ◌&&◌, ◌||◌, nat_lt, if◌then◌else◌, Option, Some, None}
use Rattle.std.proofs.Common.{◌≡◌, inl, inr, refl, sym, ◌∙◌, ap, arith, length-append}
use Rattle.std.proofs.lemmas.Bool.{cases_Bool, cond-false, true≢false, false≢true, and_right, le-ltb, not-false, not-true}
use Rattle.wire_base.specs.declared.frame.Version.{Version}
use Rattle.wire_base.specs.declared.reason.Reason.{Reason}
use Rattle.wire_base.specs.declared.reason.Reason.TheVariants as reason
use Rattle.mux_items.specs.declared.channel.ChannelKey.{ChannelKey}
use Rattle.mux_items.specs.Bodies.{FrameBody, Offer, OfferAccepted, Content, ContentWritingCompleted, ChannelTerminated, ContentProcessed, ChannelFrame, frame_on, other_key, flip, is_one}
use Rattle.mux_items.specs.Items.{Item}
use Rattle.mux_items.specs.Lists.{is_accepted_in, window, is_offered, is_accepted, is_completed, emitted, acknowledged, unread, completion_emitted, termination_emitted}
use Rattle.mux_items.specs.Due.{sent, got, contents}
use Rattle.mux_items.specs.Refusals.{is_early, is_above_window, heeded_refusal, frame_refusal}
use Rattle.mux_items.proofs.Keys.{same_key_refl}
use Rattle.mux_items.specs.Sums.{total, credits}
use Rattle.mux_items.proofs.Flips.{other_other}
use Rattle.mux_items.proofs.Staging.{Stage, Fresh, Open, next_stage, stage_after, stage_at, is_open, is_fresh, is_wrong, is_talking, is_past}
use Rattle.mux_items.proofs.Stages.{never_stage, stage_after-append, sent_stage}
use Rattle.mux_items.proofs.Heard.{heard_at, heard-flip, next_not_fresh, offered_came, never_came, accepted_came, talking_accepted, completed_came}
use Rattle.mux_items.proofs.Talks.{talk_in, acceptance_in, talk_sent, acceptance_sent, acceptance_got}
use Rattle.mux_items.proofs.Order.{right_before, unfresh_stays, by_right, accepting}
use Rattle.mux_run.specs.Between.{ahead, Between}
use Rattle.mux_run.proofs.Between.{turned_between}
use Rattle.mux_credit.specs.Credit.{TakesNext, content_in_flight, acknowledgements_in_flight}
use Rattle.mux_credit.proofs.Sums.{room, owed, amounts_into, amounts_back}

-- what y sent leads from what x heard over what is ahead
pub stage_into : (v : Version) (c : ChannelKey) (x y : List Item) → Between v x y → stage_after (other_key c) (heard_at c x) (ahead v x y) ≡ stage_at v (other_key c) y
stage_into v c x y b =
    ap (λ s. stage_after (other_key c) s (ahead v x y)) (sym (heard-flip c Fresh (got x)))
    ∙ (sym (stage_after-append (other_key c) Fresh (map flip (got x)) (ahead v x y))
    ∙ (ap (stage_after (other_key c) Fresh) (sym b.into) ∙ sent_stage v (other_key c) y b.allowed_peer))

-- the next frame of y, as x names its channel
abbrev pub IsNext : Version → ChannelKey → FrameBody → List ChannelFrame → (x y : List Item) → Type 0
IsNext v c body rest x y = ahead v x y ≡ frame_on (other_key c) body ∷ rest

next_here : (c : ChannelKey) (s : Stage) (body : FrameBody) (rest : List ChannelFrame) → stage_after c s (frame_on c body ∷ rest) ≡ stage_after c (next_stage c.own s body) rest
next_here c s body rest = ap (λ b. stage_after c (if b then next_stage c.own s body else s) rest) (same_key_refl c)

stage_next : (v : Version) (c : ChannelKey) (body : FrameBody) (rest : List ChannelFrame) (x y : List Item) → Between v x y → IsNext v c body rest x y → stage_after (other_key c) (next_stage (not c.own) (heard_at c x) body) rest ≡ stage_at v (other_key c) y
stage_next v c body rest x y b is =
    sym (next_here (other_key c) (heard_at c x) body rest) ∙ (ap (stage_after (other_key c) (heard_at c x)) (sym is) ∙ stage_into v c x y b)

in_order : (v : Version) (c : ChannelKey) (body : FrameBody) (rest : List ChannelFrame) (x y : List Item) → Between v x y → IsNext v c body rest x y → is_wrong (next_stage (not c.own) (heard_at c x) body) ≡ false
in_order v c body rest x y b is =
    right_before (other_key c) (next_stage (not c.own) (heard_at c x) body) rest
    (ap is_wrong (stage_next v c body rest x y b is) ∙ by_right (termination_emitted v (other_key c) y) (completion_emitted v (other_key c) y) (is_open v (other_key c) y))

-- what each kind of frame needs

opening : (own : Bool) (s : Stage) (name : List ℕ) (size : Option ℕ) → is_wrong (next_stage own s (Offer name size)) ≡ false → (own ≡ true) × (is_fresh s ≡ true)
opening true Fresh name size e = (refl, refl)
opening false Fresh name size e = absurd (true≢false e)
opening own s name size e = absurd (true≢false e)

content_open : (own : Bool) (s : Stage) (bytes : List ℕ) → is_wrong (next_stage own s (Content bytes)) ≡ false → (is_talking s ≡ true) × (is_past s ≡ false)
content_open own Open bytes e = (refl, refl)
content_open true Fresh bytes e = absurd (true≢false e)
content_open false Fresh bytes e = absurd (true≢false e)
content_open own s bytes e = absurd (true≢false e)

completion_open : (own : Bool) (s : Stage) → is_wrong (next_stage own s ContentWritingCompleted) ≡ false → (is_talking s ≡ true) × (is_past s ≡ false)
completion_open own Open e = (refl, refl)
completion_open true Fresh e = absurd (true≢false e)
completion_open false Fresh e = absurd (true≢false e)
completion_open own s e = absurd (true≢false e)

-- where the peer offered, a frame that isn't its offer comes after it
abbrev is_other : FrameBody → Bool
is_other (Offer name size) = false
is_other body = true

later_than_offer : (s : Stage) (body : FrameBody) → is_other body ≡ true → is_wrong (next_stage true s body) ≡ false → is_fresh s ≡ false
later_than_offer Fresh (Offer name size) o e = absurd (false≢true o)
later_than_offer Fresh body o e = absurd (true≢false e)
later_than_offer s body o e = refl

-- a frame that isn't an offer comes on a channel that was offered
pub next_offered : (v : Version) (c : ChannelKey) (body : FrameBody) (rest : List ChannelFrame) (x y : List Item) → Between v x y → IsNext v c body rest x y → is_other body ≡ true → is_offered c x ≡ true
next_offered v c body rest x y b is other = elim (cases_Bool (is_offered c x)) [
  | inl e ↦ e
  | inr e ↦ elim (cases_Bool c.own) [
    | inl own ↦
        let unsent : stage_after c Fresh (sent v x) ≡ Fresh = sent_stage v c x b.allowed ∙ never_stage v c x b.allowed e in
        let over : stage_after c (heard_at (other_key c) y) (ahead v y x) ≡ Fresh =
        ap (λ k. stage_after k (heard_at (other_key c) y) (ahead v y x)) (sym (other_other c)) ∙ (stage_into v (other_key c) y x (turned_between v x y b) ∙ (ap (λ k. stage_at v k x) (other_other c) ∙ never_stage v c x b.allowed e)) in
        let unheard : is_fresh (heard_at (other_key c) y) ≡ true = elim (cases_Bool (is_fresh (heard_at (other_key c) y))) [
          | inl f ↦ f
          | inr f ↦ absurd (true≢false (sym (ap is_fresh over) ∙ unfresh_stays c (heard_at (other_key c) y) (ahead v y x) f))
        ] in
        let unoffered : is_offered (other_key c) y ≡ false = elim (cases_Bool (is_offered (other_key c) y)) [
          | inl o ↦ absurd (true≢false (sym unheard ∙ offered_came v (other_key c) y b.allowed_peer (ap not own) o))
          | inr o ↦ o
        ] in
        let quiet : stage_at v (other_key c) y ≡ Fresh = never_stage v (other_key c) y b.allowed_peer unoffered in
        absurd (true≢false (sym (ap is_fresh (stage_next v c body rest x y b is ∙ quiet)) ∙ unfresh_stays (other_key c) (next_stage (not c.own) (heard_at c x) body) rest (next_not_fresh (not c.own) (heard_at c x) body)))
    | inr peer ↦
        let later : is_fresh (heard_at c x) ≡ false = later_than_offer (heard_at c x) body other (ap (λ o. is_wrong (next_stage (not o) (heard_at c x) body)) (sym peer) ∙ in_order v c body rest x y b is) in
        absurd (true≢false (sym (ap is_fresh (never_came v c x b.allowed e)) ∙ later))
  ]
]

-- so only what is heeded may be refused
later_none : (offered over : Bool) (heeded : Option Reason) → offered ≡ true → (over ≡ false → heeded ≡ None) → (if not offered then Some reason.NoChannel else if over then None else heeded) ≡ None
later_none true true heeded e h = refl
later_none true false heeded e h = h refl
later_none false over heeded e h = absurd (false≢true e)

-- where the offerer y talks to x, x accepted the channel
pub talk_accepted : (v : Version) (c : ChannelKey) (x y : List Item) → Between v x y → c.own ≡ false → 1 ≤ total talk_in (other_key c) (sent v y) → is_accepted v c x ≡ true
talk_accepted v c x y b peer talks =
    let there : is_accepted_in (other_key c) y ≡ true = elim (cases_Bool (is_accepted_in (other_key c) y)) [
      | inl a ↦ a
      | inr a ↦ absurd (omega (arith, talk_sent v (other_key c) y a, talks))
    ] in
    let came = acceptance_got v (other_key c) y b.allowed_peer (ap not peer) there in
    elim (cases_Bool (is_accepted v c x)) [
      | inl a ↦ a
      | inr a ↦ absurd (omega (arith, acceptance_sent v c x a, amounts_back acceptance_in v c x y b, came))
    ]

talked : (v : Version) (c : ChannelKey) (body : FrameBody) (rest : List ChannelFrame) (x y : List Item) → Between v x y → IsNext v c body rest x y → talk_in body ≡ 1 → 1 ≤ total talk_in (other_key c) (sent v y)
talked v c body rest x y b is e =
    omega (arith, amounts_into talk_in v c x y b, ap (total talk_in (other_key c)) is, ap (λ b. if b then talk_in body else 0) (same_key_refl (other_key c)), e)

-- content and completion come on an accepted channel
next_accepted : (v : Version) (c : ChannelKey) (body : FrameBody) (rest : List ChannelFrame) (x y : List Item) → Between v x y → IsNext v c body rest x y → talk_in body ≡ 1 → is_talking (heard_at c x) ≡ true → termination_emitted v c x ≡ false → is_accepted v c x ≡ true
next_accepted v c body rest x y b is talk talks heard = elim (cases_Bool c.own) [
  | inl own ↦ talking_accepted v c x b.allowed own heard talks
  | inr peer ↦ talk_accepted v c x y b peer (talked v c body rest x y b is talk)
]

not_completed : (v : Version) (c : ChannelKey) (x : List Item) → is_past (heard_at c x) ≡ false → is_completed v c x ≡ false
not_completed v c x e = elim (cases_Bool (is_completed v c x)) [
  | inl f ↦ absurd (true≢false (sym (completed_came v c x f) ∙ e))
  | inr f ↦ f
]

not_early : (v : Version) (c : ChannelKey) (x : List Item) → is_accepted v c x ≡ true → is_early v c x ≡ false
not_early v c x e = and_right (c.own || not (is_one v)) (not (is_accepted v c x)) (ap not e)

within : (v : Version) (c : ChannelKey) (bytes : List ℕ) (rest : List ChannelFrame) (x y : List Item) → Between v x y → IsNext v c (Content bytes) rest x y → termination_emitted v c x ≡ false → is_above_window v c bytes x ≡ false
within v c bytes rest x y b is heard = elim (cases_Bool (is_one v)) [
  | inl one ↦ ap (λ b. not b && nat_lt (window c x) (length (unread v c x) + length bytes)) one
  | inr two ↦
      let size : content_in_flight v c x y ≡ length bytes + length (contents (other_key c) rest) =
      ap (λ fs. length (contents (other_key c) fs)) is ∙ (ap (λ b. length ((if b then bytes else []) ++ contents (other_key c) rest)) (same_key_refl (other_key c)) ∙ length-append bytes (contents (other_key c) rest)) in
      and_right (not (is_one v)) (nat_lt (window c x) (length (unread v c x) + length bytes)) (le-ltb (window c x) (length (unread v c x) + length bytes) (omega (arith, room v c x y two b heard, size)))
]

none_of_three : {A : Type 0} (first second third : Bool) (x y z : A) → first ≡ false → second ≡ false → third ≡ false → (if first then Some x else if second then Some y else if third then Some z else None) ≡ None
none_of_three first second third x y z e f g = rw (e, f, g) refl

none_of_two : {A : Type 0} (first second : Bool) (x y : A) → first ≡ false → second ≡ false → (if first then Some x else if second then Some y else None) ≡ None
none_of_two first second x y e f = rw (e, f) refl

unfresh_clash : (s : Stage) (b : Bool) → is_fresh s ≡ true → (b ≡ true → is_fresh s ≡ false) → b ≡ false
unfresh_clash s true e h = absurd (true≢false (sym e ∙ h refl))
unfresh_clash s false e h = refl

pub next_allowed : (v : Version) (c : ChannelKey) (body : FrameBody) (rest : List ChannelFrame) (x y : List Item) → Between v x y → IsNext v c body rest x y → frame_refusal v c body x ≡ None
next_allowed v c (Offer name size) rest x y b is =
    let on = opening (not c.own) (heard_at c x) name size (in_order v c (Offer name size) rest x y b is) in
    let peer = not-true c.own on.0 in
    none_of_two c.own (is_offered c x) reason.WrongSide reason.IdInUse peer (unfresh_clash (heard_at c x) (is_offered c x) on.1 (λ o. offered_came v c x b.allowed peer o))
next_allowed v c (OfferAccepted size) rest x y b is =
    let on = accepting (not c.own) (heard_at c x) size (in_order v c (OfferAccepted size) rest x y b is) in
    let own = not-false c.own on.0 in
    later_none (is_offered c x) (termination_emitted v c x) (heeded_refusal v c (OfferAccepted size) x) (next_offered v c (OfferAccepted size) rest x y b is refl)
    (λ heard. none_of_two (not c.own) (is_accepted v c x) reason.WrongSide reason.AlreadyAccepted on.0 (unfresh_clash (heard_at c x) (is_accepted v c x) on.1 (λ a. accepted_came v c x b.allowed own a)))
next_allowed v c (Content bytes) rest x y b is =
    let on = content_open (not c.own) (heard_at c x) bytes (in_order v c (Content bytes) rest x y b is) in
    later_none (is_offered c x) (termination_emitted v c x) (heeded_refusal v c (Content bytes) x) (next_offered v c (Content bytes) rest x y b is refl)
    (λ heard. none_of_three (is_early v c x) (is_completed v c x) (is_above_window v c bytes x) reason.NotAccepted reason.ContentAfterCompletion reason.WindowExceeded
    (not_early v c x (next_accepted v c (Content bytes) rest x y b is refl on.0 heard)) (not_completed v c x on.1) (within v c bytes rest x y b is heard))
next_allowed v c ContentWritingCompleted rest x y b is =
    let on = completion_open (not c.own) (heard_at c x) (in_order v c ContentWritingCompleted rest x y b is) in
    later_none (is_offered c x) (termination_emitted v c x) (heeded_refusal v c ContentWritingCompleted x) (next_offered v c ContentWritingCompleted rest x y b is refl)
    (λ heard. none_of_two (is_early v c x) (is_completed v c x) reason.NotAccepted reason.ContentAfterCompletion (not_early v c x (next_accepted v c ContentWritingCompleted rest x y b is refl on.0 heard)) (not_completed v c x on.1))
next_allowed v c ChannelTerminated rest x y b is =
    later_none (is_offered c x) (termination_emitted v c x) None (next_offered v c ChannelTerminated rest x y b is refl) (λ heard. refl)
next_allowed v c (ContentProcessed count) rest x y b is =
    later_none (is_offered c x) (termination_emitted v c x) (heeded_refusal v c (ContentProcessed count) x) (next_offered v c (ContentProcessed count) rest x y b is refl)
    (λ heard. cond-false (nat_lt (emitted v c x) (acknowledged v c x + count)) (Some reason.OverAcknowledged) None (le-ltb (emitted v c x) (acknowledged v c x + count) (paid heard)))
  where
    paid : termination_emitted v c x ≡ false → acknowledged v c x + count ≤ emitted v c x
    paid heard =
        let same = other_other c in
        let told = owed v (other_key c) y x (turned_between v x y b) (ap (λ k. termination_emitted v k x) same ∙ heard) in
        let flight : acknowledgements_in_flight v (other_key c) y x ≡ count + credits (other_key c) rest =
        ap (credits (other_key c)) is ∙ ap (λ b. (if b then count else 0) + credits (other_key c) rest) (same_key_refl (other_key c)) in
        omega (arith, told, flight, ap (λ k. acknowledged v k x) same, ap (λ k. emitted v k x) same)

pub takes_next : (v : Version) (x y : List Item) → Between v x y → TakesNext v x y
takes_next v x y b f rest e = next_allowed v (other_key f.key) f.body rest x y b (e ∙ ap (λ k. frame_on k f.body ∷ rest) (sym (other_other f.key)))
