-- What was taken of a channel lies within the bytes that were applied.
use Rattle.std.specs.Prelude.{if◌then◌else◌, Bool, true, false}
use Rattle.std.proofs.Common.{◌≡◌, ℕ, ◌+◌, ◌≤◌, List, [], ◌∷◌, ◌++◌, length, take, refl, ap, subst, arith, length-append, Option, Some, None}
use Rattle.std.proofs.lemmas.List.{length-take-le}
use Rattle.wire_base.specs.declared.frame.Code.{Code}
use Rattle.wire_base.specs.declared.frame.Code.TheVariants as code
use Rattle.wire_base.specs.declared.frame.Frame.{Frame}
use Rattle.wire_base.specs.declared.frame.Payload.{Payload}
use Rattle.wire_base.specs.declared.frame.Payload.TheVariants as payload
use Rattle.wire_base.specs.declared.frame.Version.{Version}
use Rattle.wire_base.specs.declared.frame.Version.TheVariants as version
use Rattle.wire_base.specs.declared.reason.Reason.{Reason}
use Rattle.frame_text.specs.Front.{Front, Whole, Short, Broken}
use Rattle.frame_text.specs.Reading.{front}
use Rattle.frame_text.specs.Spelling.{Carries, CarriesPlain, IsElement, PackedFrameIs, PlainFrameIs, FrameIs}
use Rattle.frame_text.proofs.Every.{every_front_spelled}
use Rattle.frame_text.proofs.Within.{front_within}
use Rattle.mux_handshake.specs.Handshake.{Handshake, handshake}
use Rattle.mux_handshake.specs.Handshake as handshakes
use Rattle.mux_handshake.proofs.Steady as shakes
use Rattle.mux_items.specs.declared.channel.ChannelKey.{ChannelKey}
use Rattle.mux_items.specs.declared.party.Party.{Party}
use Rattle.mux_items.specs.Applying.{item_of_frame, lacks_room}
use Rattle.mux_items.specs.Bodies.{FrameBody, Content, ChannelFrame, body_of, body_without_payload, taken_frame}
use Rattle.mux_items.specs.Due.{content_of}
use Rattle.mux_items.specs.Items.{Item, Got, Rejected, party_of}
use Rattle.mux_items.specs.Lists.{heeds, taken}
use Rattle.mux_items.specs.Refusals.{frame_refusal, is_ready}
use Rattle.mux_end.specs.Arrivals.{Greets, Applies, arrival, arrival_of_frame, arrival_of_handshake, frame_arrival}

-- the content of a frame is no longer than its spelling

without_payload : (c : Code) → content_of (body_without_payload c) ≡ []
without_payload code.Offer = refl
without_payload code.OfferAccepted = refl
without_payload code.Content = refl
without_payload code.ContentWritingCompleted = refl
without_payload code.ChannelTerminated = refl
without_payload code.ContentProcessed = refl

carried : (c : Code) (p : Payload) (bytes : List ℕ) → Carries c p bytes → length (content_of (body_of c p)) ≤ length bytes
carried code.Content (payload.Content content) bytes e = omega (arith, ap length e)
carried c (payload.Content content) bytes e = absurd e
carried c (payload.Offer name window) bytes e = omega arith
carried c (payload.Accepted window) bytes e = omega arith
carried c (payload.Processed count) bytes e = omega arith
carried c payload.Nothing bytes e = rw (without_payload c) (omega arith)

carried_plain : (c : Code) (p : Payload) (bytes : List ℕ) → CarriesPlain c p bytes → length (content_of (body_of c p)) ≤ length bytes
carried_plain code.Content (payload.Content content) bytes e = omega (arith, ap length e)
carried_plain c (payload.Content content) bytes e = absurd e
carried_plain c (payload.Offer name window) bytes e = omega arith
carried_plain c (payload.Accepted window) bytes e = omega arith
carried_plain c (payload.Processed count) bytes e = omega arith
carried_plain c payload.Nothing bytes e = rw (without_payload c) (omega arith)

element_within : (present : Bool) (bytes b : List ℕ) → IsElement present bytes b → length bytes ≤ length b
element_within false bytes b e = omega (arith, ap length e.0)
element_within true bytes b e = omega (arith, ap length e.parts, length-append e.head bytes)

packed_content : (v : Version) (f : Frame) (b : List ℕ) → PackedFrameIs v f b → length (content_of (body_of f.code f.payload)) ≤ length b
packed_content v f b is =
    let fourth = is.third ++ is.last in
    let later = is.second ++ fourth in
    omega (
      arith,
      carried f.code f.payload is.bytes is.carries,
      element_within is.has_payload is.bytes is.last is.is_payload,
      ap length is.parts,
      length-append is.array (is.first ++ later),
      length-append is.first later,
      length-append is.second fourth,
      length-append is.third is.last,
    )

plain_content : (f : Frame) (b : List ℕ) → PlainFrameIs f b → length (content_of (body_of f.code f.payload)) ≤ length b
plain_content f b is = omega (arith, carried_plain f.code f.payload is.bytes is.carries, ap length is.parts, length-append is.id (is.size ++ is.bytes), length-append is.size is.bytes)

spelled_content : (v : Version) (f : Frame) (b : List ℕ) → FrameIs v f b → length (content_of (body_of f.code f.payload)) ≤ length b
spelled_content version.One f b is = plain_content f b is
spelled_content version.Two f b is = packed_content version.Two f b is
spelled_content version.Three f b is = packed_content version.Three f b is

-- a frame that is applied lies within the bytes that weren't, and its content within it

pub record LiesWithin (body : FrameBody) (size : ℕ) (rest : List ℕ) : Type 0 where
  pub content : length (content_of body) ≤ size
  pub frame : size ≤ length rest

front_lies : (v : Version) (rest : List ℕ) (f : Frame) (size : ℕ) (party : Party) → front v rest ≡ Whole f size → LiesWithin (taken_frame party f).body size rest
front_lies v rest f size party e =
    let within = (front_within v rest f size e).1 in
    record { content = omega (arith, spelled_content v f (take size rest) (every_front_spelled v rest f size e), length-take-le size rest within); frame = within }

unrefused : (f : ChannelFrame) (at n : ℕ) (refused : Option Reason) (c : ChannelKey) (body : FrameBody) (size : ℕ) → frame_arrival f at n refused ≡ Applies c body size → (f.body ≡ body) × (n ≡ size)
unrefused f at n None c body size e = (cc e, cc e)
unrefused f at n (Some r) c body size e = absurd (cc e)

pub applies_within : (v : Version) (own : List ℕ) (m : List Item) (at : ℕ) (rest : List ℕ) (c : ChannelKey) (body : FrameBody) (size : ℕ) → arrival v own m at rest ≡ Applies c body size → LiesWithin body size rest
applies_within v own m at rest c body size e = by (is_ready v m) e
  where
    by_frame : (f : Front) → front v rest ≡ f → arrival_of_frame v m at f ≡ Applies c body size → LiesWithin body size rest
    by_frame (Whole f n) whole h =
        let g = taken_frame (party_of m) f in
        let same = unrefused g at n (frame_refusal v g.key g.body m) c body size h in
        let lies : LiesWithin g.body n rest = front_lies v rest f n (party_of m) whole in
        subst (λ b. LiesWithin b size rest) same.0 (subst (λ k. LiesWithin g.body k rest) same.1 lies)
    by_frame Short whole h = absurd (cc h)
    by_frame (Broken offset r) whole h = absurd (cc h)

    by_handshake : (h : Handshake) → arrival_of_handshake at h ≡ Applies c body size → LiesWithin body size rest
    by_handshake (handshakes.Whole party n) h = absurd (cc h)
    by_handshake handshakes.Short h = absurd (cc h)
    by_handshake (handshakes.Broken offset r) h = absurd (cc h)

    by : (b : Bool) → (if b then arrival_of_frame v m at (front v rest) else arrival_of_handshake at (handshake v own rest)) ≡ Applies c body size → LiesWithin body size rest
    by true h = by_frame (front v rest) refl h
    by false h = by_handshake (handshake v own rest) h

pub greets_within : (v : Version) (own : List ℕ) (m : List Item) (at : ℕ) (rest : List ℕ) (party : Party) (size : ℕ) → arrival v own m at rest ≡ Greets party size → size ≤ length rest
greets_within v own m at rest party size e = by (is_ready v m) e
  where
    by_refusal : (f : ChannelFrame) (n : ℕ) (refused : Option Reason) → frame_arrival f at n refused ≡ Greets party size → size ≤ length rest
    by_refusal f n None h = absurd (cc h)
    by_refusal f n (Some r) h = absurd (cc h)

    by_frame : (f : Front) → arrival_of_frame v m at f ≡ Greets party size → size ≤ length rest
    by_frame (Whole f n) h = let g = taken_frame (party_of m) f in by_refusal g n (frame_refusal v g.key g.body m) h
    by_frame Short h = absurd (cc h)
    by_frame (Broken offset r) h = absurd (cc h)

    by_handshake : (h : Handshake) → handshake v own rest ≡ h → arrival_of_handshake at h ≡ Greets party size → size ≤ length rest
    by_handshake (handshakes.Whole other n) whole h = let same : n ≡ size = cc h in omega (arith, same, shakes.whole_within v own rest other n whole)
    by_handshake handshakes.Short whole h = absurd (cc h)
    by_handshake (handshakes.Broken offset r) whole h = absurd (cc h)

    by : (b : Bool) → (if b then arrival_of_frame v m at (front v rest) else arrival_of_handshake at (handshake v own rest)) ≡ Greets party size → size ≤ length rest
    by true h = by_frame (front v rest) h
    by false h = by_handshake (handshake v own rest) refl h

-- what is taken grows by content alone

got_taken : (v : Version) (c : ChannelKey) (place : ℕ) (key : ChannelKey) (body : FrameBody) (m : List Item) → length (taken v c (Got place key body ∷ m)) ≤ length (taken v c m) + length (content_of body)
got_taken v c place key (Content bytes) m = by (heeds v key c m)
  where
    by : (b : Bool) → length (if b then taken v c m ++ bytes else taken v c m) ≤ length (taken v c m) + length bytes
    by true = omega (arith, length-append (taken v c m) bytes)
    by false = omega arith
got_taken v c place key body m = omega arith

pub frame_taken : (v : Version) (c : ChannelKey) (place : ℕ) (key : ChannelKey) (body : FrameBody) (m : List Item) → length (taken v c (item_of_frame v place key body m ∷ m)) ≤ length (taken v c m) + length (content_of body)
frame_taken v c place key body m = by (lacks_room v body m)
  where
    by : (b : Bool) → length (taken v c ((if b then Rejected place key body else Got place key body) ∷ m)) ≤ length (taken v c m) + length (content_of body)
    by true = omega arith
    by false = got_taken v c place key body m
