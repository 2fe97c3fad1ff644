-- What arrives at a multiplexing end is what is next of its peer.
use Rattle.std.specs.Prelude.{if◌then◌else◌, nat_le, Bool, true, false}
use Rattle.std.specs.Str.{bytes_eq}
use Rattle.std.proofs.Common.{◌≡◌, ℕ, ◌+◌, ◌-◌, List, [], ◌∷◌, length, refl, sym, ◌∙◌, ap, subst, inl, inr, zero-add, Option, Some, None}
use Rattle.std.proofs.lemmas.Bool.{cases_Bool, cases_lt, le-leb, lt-leb}
use Rattle.wire_base.specs.declared.reason.Reason.{Reason}
use Rattle.wire_base.specs.declared.reason.Reason.TheVariants as reason
use Rattle.wire_base.specs.declared.state.Cause.TheVariants as cause
use Rattle.frame_text.specs.Reading.{front}
use Rattle.mux_items.specs.Applying.{item_of_frame, place_at}
use Rattle.mux_items.specs.Bodies.{ChannelFrame, flip, frame_text}
use Rattle.mux_items.specs.Due.{got}
use Rattle.mux_items.specs.Items.{Item, Hello, End}
use Rattle.mux_items.specs.Parties.{party_by}
use Rattle.mux_items.specs.Refusals.{frame_refusal, is_ready}
use Rattle.mux_handshake.specs.Handshake.{handshake}
use Rattle.mux_run.specs.Run.{RunSide, SideTerms, greeting_size, greet, next_frames, place_after}
use Rattle.mux_end.specs.Arrivals.{Arrival, Greets, Applies, Waits, Refuses, frame_arrival, taken_arrival, arrival_of_frame, arrival_of_handshake, arrival, refused_at}
use Rattle.endpoint_items.specs.Items.{Mux}
use Rattle.endpoint_run.specs.Next.{item_by_refusal, first_frame, next_of_peer}
use Rattle.duo_world.specs.Holding.{place_of, rest_of}
use Rattle.duo_world.proofs.Greetings.{greets_with, greets_same, greets_short}
use Rattle.duo_world.proofs.Settling.{given_side, MayApply, place_ready, place_unready, front_frame, front_short, next_taken_as}

-- what comes next, with its item: nothing is whole, the peer's handshake, a frame, or what is refused
pub data Comes (w : SideTerms) (d : ℕ) (items : List Item) (y : RunSide) : Arrival → Type 0 where
  waits : next_of_peer w d items y ≡ None → Comes w d items y Waits
  greets : is_ready w.version items ≡ false → bytes_eq w.own w.peer ≡ false → next_of_peer w d items y ≡ Some (Mux (Hello (party_by w.own w.peer))) → Comes w d items y (Greets (party_by w.own w.peer) (greeting_size w))
  applies : is_ready w.version items ≡ true → (f : ChannelFrame) (fs : List ChannelFrame) → next_frames w d (length (got items)) y ≡ f ∷ fs
      → next_of_peer w d items y ≡ Some (Mux (item_of_frame w.version (place_of w (given_side items d) y) (flip f).key f.body items))
      → Comes w d items y (Applies (flip f).key f.body (length (frame_text w.version f)))
  refuses : (place : ℕ) (r : Reason) → next_of_peer w d items y ≡ Some (Mux (End (refused_at place r))) → Comes w d items y (Refuses place r)

-- at an end that is ready

peer_ready : (w : SideTerms) (d : ℕ) (items : List Item) (y : RunSide) (fs : List ChannelFrame) → is_ready w.version items ≡ true → next_frames w d (length (got items)) y ≡ fs
    → next_of_peer w d items y ≡ first_frame w.version (place_of w (given_side items d) y) items fs
peer_ready w d items y fs ready e =
    ap (λ b. if b then first_frame w.version (place_after w (length (got items)) y) items (next_frames w d (length (got items)) y) else if nat_le (greeting_size w) d then Some (Mux (greet w)) else None) ready
    ∙ (ap (first_frame w.version (place_after w (length (got items)) y) items) e
    ∙ ap (λ place. first_frame w.version place items fs) (sym (place_ready w (given_side items d) y ready)))

next_arrival : (w : SideTerms) (d at : ℕ) (items : List Item) (y : RunSide) (f : ChannelFrame) (fs : List ChannelFrame) → MayApply w d items y → is_ready w.version items ≡ true → next_frames w d (length (got items)) y ≡ f ∷ fs
    → arrival_of_frame w.version items at (front w.version (rest_of w (given_side items d) y)) ≡ frame_arrival (flip f) at (length (frame_text w.version f)) (frame_refusal w.version (flip f).key f.body items)
next_arrival w d at items y f fs s ready e =
    let v = w.version in
    ap (arrival_of_frame v items at) (front_frame w d items y f fs s ready e)
    ∙ ap (λ g. taken_arrival v items g at (length (frame_text v f))) (next_taken_as w d items y f fs s ready e)

comes_frame : (w : SideTerms) (d : ℕ) (items : List Item) (y : RunSide) (f : ChannelFrame) (fs : List ChannelFrame) (r : Option Reason) → is_ready w.version items ≡ true → next_frames w d (length (got items)) y ≡ f ∷ fs
    → next_of_peer w d items y ≡ Some (Mux (item_by_refusal w.version (place_of w (given_side items d) y) (flip f).key f.body items r))
    → Comes w d items y (frame_arrival (flip f) (place_of w (given_side items d) y) (length (frame_text w.version f)) r)
comes_frame w d items y f fs None ready e is = applies ready f fs e is
comes_frame w d items y f fs (Some r) ready e is = refuses (place_of w (given_side items d) y) r is

comes_ready : (w : SideTerms) (d : ℕ) (items : List Item) (y : RunSide) → MayApply w d items y → is_ready w.version items ≡ true
    → Comes w d items y (arrival_of_frame w.version items (place_of w (given_side items d) y) (front w.version (rest_of w (given_side items d) y)))
comes_ready w d items y s ready = by (next_frames w d (length (got items)) y) refl
  where
    at : ℕ
    at = place_of w (given_side items d) y

    by : (fs : List ChannelFrame) → next_frames w d (length (got items)) y ≡ fs → Comes w d items y (arrival_of_frame w.version items at (front w.version (rest_of w (given_side items d) y)))
    by [] e = subst (Comes w d items y) (sym (ap (arrival_of_frame w.version items at) (front_short w d items y s ready e))) (waits (peer_ready w d items y [] ready e))
    by (f ∷ fs) e = subst (Comes w d items y) (sym (next_arrival w d at items y f fs s ready e)) (comes_frame w d items y f fs (frame_refusal w.version (flip f).key f.body items) ready e (peer_ready w d items y (f ∷ fs) ready e))

-- and at one that isn't

peer_unready : (w : SideTerms) (d : ℕ) (items : List Item) (y : RunSide) (whole : Bool) → is_ready w.version items ≡ false → nat_le (greeting_size w) d ≡ whole → next_of_peer w d items y ≡ (if whole then Some (Mux (greet w)) else None)
peer_unready w d items y whole unready e =
    ap (λ b. if b then first_frame w.version (place_after w (length (got items)) y) items (next_frames w d (length (got items)) y) else if nat_le (greeting_size w) d then Some (Mux (greet w)) else None) unready
    ∙ ap (λ b. if b then Some (Mux (greet w)) else None) e

greet_by : (w : SideTerms) (same : Bool) → bytes_eq w.own w.peer ≡ same → greet w ≡ (if same then End (cause.Refused (place_at (greeting_size w - length w.peer)) reason.SameNonce) else Hello (party_by w.own w.peer))
greet_by w same e = ap (λ b. if b then End (cause.Refused (place_at (greeting_size w - length w.peer)) reason.SameNonce) else Hello (party_by w.own w.peer)) e

comes_unready : (w : SideTerms) (d : ℕ) (items : List Item) (y : RunSide) → MayApply w d items y → is_ready w.version items ≡ false
    → Comes w d items y (arrival_of_handshake (place_of w (given_side items d) y) (handshake w.version w.own (rest_of w (given_side items d) y)))
comes_unready w d items y s unready = elim (cases_lt d (greeting_size w)) [
  | inl less ↦ subst (Comes w d items y) (sym (ap (arrival_of_handshake at) (greets_short w d items y s.nonces unready less))) (waits (peer_unready w d items y false unready (lt-leb (greeting_size w) d less)))
  | inr whole ↦
      let next = peer_unready w d items y true unready (le-leb (greeting_size w) d whole) in
      elim (cases_Bool (bytes_eq w.own w.peer)) [
        | inl same ↦ subst (Comes w d items y) (sym (ap (arrival_of_handshake at) (greets_same w d items y s.nonces unready whole same)))
            (refuses (at + (greeting_size w - length w.peer)) reason.SameNonce (next ∙ (ap (λ item. Some (Mux item)) (greet_by w true same)
            ∙ ap (λ n. Some (Mux (End (refused_at n reason.SameNonce)))) (sym (ap (λ n. n + (greeting_size w - length w.peer)) (place_unready w (given_side items d) y unready) ∙ zero-add (greeting_size w - length w.peer))))))
        | inr differ ↦ subst (Comes w d items y) (sym (ap (arrival_of_handshake at) (greets_with w d items y s.nonces unready whole differ)))
            (greets unready differ (next ∙ ap (λ item. Some (Mux item)) (greet_by w false differ)))
      ]
]
  where
    at : ℕ
    at = place_of w (given_side items d) y

pub comes : (w : SideTerms) (d : ℕ) (items : List Item) (y : RunSide) → MayApply w d items y
    → Comes w d items y (arrival w.version w.own items (place_of w (given_side items d) y) (rest_of w (given_side items d) y))
comes w d items y s = by (is_ready w.version items) refl
  where
    by : (b : Bool) → is_ready w.version items ≡ b
        → Comes w d items y (if b then arrival_of_frame w.version items (place_of w (given_side items d) y) (front w.version (rest_of w (given_side items d) y)) else arrival_of_handshake (place_of w (given_side items d) y) (handshake w.version w.own (rest_of w (given_side items d) y)))
    by true e = comes_ready w d items y s e
    by false e = comes_unready w d items y s e
