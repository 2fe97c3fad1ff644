-- Frames of version 1: what is spelled is read, and what is read is spelled.
use Rattle.std.proofs.Common.{◌≡◌, ℕ, ◌+◌, ◌-◌, ◌≤◌, ◌<◌, true, false, ltb, List, [], ◌∷◌, ◌++◌, length, take, drop, Option, Some, None, Ok, Err, refl, sym, ap, subst, ◌∙◌, arith, length-append, append_assoc, inl, inr}
use Rattle.std.specs.Prelude.{◌&&◌, nat_lt, ◌==◌}
use Rattle.std.specs.Int.{Width, w8, w16, w32, byte_len, to_be_bytes, from_be_bytes}
use Rattle.std.specs.Str.{is_utf8}
use Rattle.std.proofs.lemmas.Nat.{from_be_bytes-to_be_bytes_2, from_be_bytes-to_be_bytes_4}
use Rattle.std.proofs.lemmas.Bool.{ltb-true, ltb-false, lt-ltb, leb-true, le-leb, eqb-false, ne_eqb, and_parts, and_from}
use Rattle.std.proofs.lemmas.List.{take_at, take-append-drop, length-take}
use Rattle.wire_base.specs.declared.limits.TheConstants.{MAX_PLAIN_PAYLOAD, PLAIN_ID_LIMIT}
use Rattle.wire_base.specs.declared.reason.Reason.{Reason}
use Rattle.wire_base.specs.declared.reason.Reason.TheVariants.{BadCode, BadShape, BadId, BadName}
use Rattle.wire_base.specs.declared.frame.Version.TheVariants as version
use Rattle.wire_base.specs.declared.frame.Code.{Code}
use Rattle.wire_base.specs.declared.frame.Code.TheVariants as code
use Rattle.wire_base.specs.declared.frame.Origin.{Origin}
use Rattle.wire_base.specs.declared.frame.Origin.TheVariants as origin
use Rattle.wire_base.specs.declared.frame.Payload.{Payload}
use Rattle.wire_base.specs.declared.frame.Payload.TheVariants as payload
use Rattle.wire_base.specs.declared.frame.Frame.{Frame}
use Rattle.wire_base.specs.declared.reading.Fault.TheVariants.{Ends, Breaks}
use Rattle.frame_text.specs.Frames.{code_number, plain_payload, fits_code, fits_id, fits_origin, fits_length, fits, text}
use Rattle.frame_text.specs.Front.{Whole}
use Rattle.wire_base.specs.ControlCode.{code_of}
use Rattle.frame_text.specs.Reading.{Reading, Reader, ◌>>=◌, follow, done, allowed, field_at, plain_of, plain_code, plain_id, bytes_at, plain_carried, placed, plain_content_at, plain_at, front}
use Rattle.wire_base.specs.Front.{front_of}
use Rattle.wire_base.proofs.TokenAgain.{field-again, bytes-again}
use Rattle.frame_text.specs.Spelling.{AreBytes, CarriesPlain, PlainFrameIs}
use Rattle.wire_base.proofs.TokenWithin.{tested}
use Rattle.frame_text.proofs.Again.{front_of-again}
use Rattle.frame_text.proofs.Found.{followed, read_as, pair_is, some_is, allowed-found, code_of-found, placed-found, whole, whole_is, whole_frame}
use Rattle.frame_text.proofs.Shortest.{bytes_left, bytes_right, below-2, below-4}

-- ---- what is spelled is read

code-again : (c : Code) (p : Payload) (bytes : List ℕ) → CarriesPlain c p bytes → plain_code (code_number c) ≡ Some c
code-again code.Offer p bytes is = refl
code-again code.OfferAccepted p bytes is = refl
code-again code.Content p bytes is = refl
code-again code.ContentWritingCompleted p bytes is = refl
code-again code.ChannelTerminated p bytes is = refl
code-again code.ContentProcessed p bytes is = absurd is

id-again : (n : ℕ) → 0 < n → plain_id n ≡ Some n
id-again n some = let other : n ≡ 0 → ⊥ = λ e. omega (arith, e) in rw (ne_eqb n 0 other) refl

plain_carried-again : (c : Code) (p : Payload) (bytes : List ℕ) → CarriesPlain c p bytes → plain_carried c bytes ≡ Ok p
unfolding plain_carried
plain_carried-again code.Offer (payload.Offer name None) bytes is = rw (is.0, is.1) refl
plain_carried-again code.OfferAccepted (payload.Accepted None) bytes is = refl
plain_carried-again code.Content (payload.Content content) bytes is = ap (λ (s : List ℕ). Ok (payload.Content s)) is
plain_carried-again code.ContentWritingCompleted payload.Nothing bytes is = refl
plain_carried-again code.ChannelTerminated payload.Nothing bytes is = refl
plain_carried-again c p bytes is = absurd is

plain_content-again : (c : Code) (p : Payload) (bytes rest : List ℕ) → CarriesPlain c p bytes → plain_content_at c (length bytes) (bytes ++ rest) ≡ Ok (p, rest)
unfolding plain_content_at
plain_content-again c p bytes rest carries =
    ap (λ r. follow r (λ s. placed (plain_carried c s))) (bytes-again bytes rest) ∙ ap (λ r. placed r rest) (plain_carried-again c p bytes carries)

framed-again : (f : Frame) (o : Origin) (rest : List ℕ) → f.origin ≡ o → read_as (record { code = f.code; id = f.id; origin = o; payload = f.payload }) rest ≡ read_as f rest
framed-again f o rest e = rw (← e) refl

plain_at-again : (f : Frame) (b rest : List ℕ) → PlainFrameIs f b → plain_at (b ++ rest) ≡ Ok (f, rest)
unfolding plain_at
plain_at-again f b rest is =
    let c = is.bytes ++ rest in
    let s = is.size ++ c in
    let a = is.id ++ s in
    let regrouped : b ++ rest ≡ (code_number f.code ∷ []) ++ a = rw is.parts (ap (λ (t : List ℕ). code_number f.code ∷ t) (simp append_assoc)) in
    let first : from_be_bytes w8 (code_number f.code ∷ []) ≡ code_number f.code = omega arith in
    ap plain_at regrouped
    ∙ rw (
      field-again w8 plain_code BadCode f.code (code_number f.code ∷ []) a refl (ap plain_code first ∙ code-again f.code f.payload is.bytes is.carries),
      field-again w32 plain_id BadId f.id is.id s is.id_len (ap plain_id is.is_id ∙ id-again f.id is.some_id),
      field-again w16 (λ n. Some n) BadShape (length is.bytes) is.size c is.size_len (ap (λ n. Some n) is.is_size),
      plain_content-again f.code f.payload is.bytes rest is.carries,
    ) (framed-again f origin.ByParity rest is.is_origin)

pub spelled_plain_front : (f : Frame) (b rest : List ℕ) → PlainFrameIs f b → front version.One (b ++ rest) ≡ Whole f (length b)
unfolding front
spelled_plain_front f b rest is = front_of-again f b rest (plain_at (b ++ rest)) (plain_at-again f b rest is)

-- ---- what is read is spelled

record Field {B : Type 0} (w : Width) (make : ℕ → Option B) (bytes : List ℕ) (y : B) (rest : List ℕ) : Type 0 where
  text : List ℕ
  len : length text ≡ byte_len w
  makes : make (from_be_bytes w text) ≡ Some y
  parts : bytes ≡ text ++ rest

field-found : {B : Type 0} (w : Width) (make : ℕ → Option B) (reason : Reason) (bytes : List ℕ) (y : B) (rest : List ℕ) → field_at w make reason bytes ≡ Ok (y, rest) → Field w make bytes y rest
unfolding field_at
field-found w make reason bytes y rest e =
    let k = byte_len w in
    elim (tested (ltb (length bytes) k)) [
      | inl t ↦ let f : Err Ends ≡ read_as y rest = rw t at e in absurd cc
      | inr t ↦
          let long : k ≤ length bytes = ltb-false (length bytes) k t in
          let f : allowed (length bytes) reason (make (from_be_bytes w (take k bytes))) (drop k bytes) ≡ read_as y rest = rw t at e in
          let a = allowed-found (length bytes) reason (make (from_be_bytes w (take k bytes))) (drop k bytes) y rest f in
          record {
            text = take k bytes;
            len = simp length-take (omega arith);
            makes = a.says;
            parts = sym (take-append-drop k bytes) ∙ ap (λ (s : List ℕ). take k bytes ++ s) a.after_is;
          }
    ]

record Cut (n : ℕ) (bytes x rest : List ℕ) : Type 0 where
  len : length x ≡ n
  parts : bytes ≡ x ++ rest

bytes-found : (n : ℕ) (bytes x rest : List ℕ) → bytes_at n bytes ≡ Ok (x, rest) → Cut n bytes x rest
unfolding bytes_at
bytes-found n bytes x rest e =
    elim (tested (ltb (length bytes) n)) [
      | inl t ↦ let f : Err Ends ≡ read_as x rest = rw t at e in absurd cc
      | inr t ↦
          let long : n ≤ length bytes = ltb-false (length bytes) n t in
          let f : read_as (take n bytes) (drop n bytes) ≡ read_as x rest = rw t at e in
          subst (λ (p : List ℕ × List ℕ). Cut n bytes p.0 p.1) (pair_is (take n bytes, drop n bytes) (x, rest) f)
          (record { len = simp length-take (omega arith); parts = sym (take-append-drop n bytes) })
    ]

pub not_plain : (o : Option Code) (c : Code) → plain_of o ≡ Some c → o ≡ Some c
not_plain None c e = absurd cc
not_plain (Some code.Offer) c e = e
not_plain (Some code.OfferAccepted) c e = e
not_plain (Some code.Content) c e = e
not_plain (Some code.ContentWritingCompleted) c e = e
not_plain (Some code.ChannelTerminated) c e = e
not_plain (Some code.ContentProcessed) c e = absurd cc

code-found : (n : ℕ) (c : Code) → plain_code n ≡ Some c → n ≡ code_number c
code-found n c e = code_of-found n c (not_plain (code_of n) c e)

id-found : (n m : ℕ) → plain_id n ≡ Some m → (n ≡ m) × (0 < m)
id-found n m e = elim (tested (n == 0)) [
  | inl t ↦ let f : None ≡ Some m = rw t at e in absurd cc
  | inr t ↦
      let f : n ≡ m = some_is n m (rw t at e) in
      let other = eqb-false n 0 t in
      (f, omega (arith, other, f))
]

plain_carried-found : (c : Code) (bytes : List ℕ) (p : Payload) → plain_code (code_number c) ≡ Some c → plain_carried c bytes ≡ Ok p → CarriesPlain c p bytes
unfolding plain_carried
plain_carried-found code.Offer bytes p is e = elim (tested (is_utf8 bytes)) [
  | inl t ↦ subst (λ q. CarriesPlain code.Offer q bytes) (whole_is (payload.Offer bytes None) p (rw t at e)) (refl, t)
  | inr t ↦ let f : Err (Breaks (length bytes) BadName) ≡ whole p = rw t at e in absurd cc
]
plain_carried-found code.OfferAccepted bytes p is e = subst (λ q. CarriesPlain code.OfferAccepted q bytes) (whole_is (payload.Accepted None) p e) tt
plain_carried-found code.Content bytes p is e = subst (λ q. CarriesPlain code.Content q bytes) (whole_is (payload.Content bytes) p e) refl
plain_carried-found code.ContentWritingCompleted bytes p is e = subst (λ q. CarriesPlain code.ContentWritingCompleted q bytes) (whole_is payload.Nothing p e) tt
plain_carried-found code.ChannelTerminated bytes p is e = subst (λ q. CarriesPlain code.ChannelTerminated q bytes) (whole_is payload.Nothing p e) tt
plain_carried-found code.ContentProcessed bytes p is e = absurd cc

abbrev framed : Code → ℕ → Payload → Reader Frame
framed c id p = done (record { code = c; id = id; origin = origin.ByParity; payload = p })

abbrev after_size : Code → ℕ → ℕ → Reader Frame
after_size c id size = plain_content_at c size >>= framed c id

abbrev after_id : Code → ℕ → Reader Frame
after_id c id = field_at w16 (λ n. Some n) BadShape >>= after_size c id

abbrev after_code : Code → Reader Frame
after_code c = field_at w32 plain_id BadId >>= after_id c

record FoundFrame (bytes : List ℕ) (f : Frame) (rest : List ℕ) : Type 0 where
  text : List ℕ
  is : PlainFrameIs f text
  parts : bytes ≡ text ++ rest

single : (s : List ℕ) (n : ℕ) → length s ≡ 1 → from_be_bytes w8 s ≡ n → s ≡ n ∷ []
single [] n len e = absurd (omega (arith, len))
single (x ∷ []) n len e = let same : x ≡ n = omega (arith, e) in ap (λ k. k ∷ []) same
single (x ∷ y ∷ s) n len e = absurd (omega (arith, len))

plain_at-found : (bytes : List ℕ) (f : Frame) (rest : List ℕ) → plain_at bytes ≡ Ok (f, rest) → FoundFrame bytes f rest
unfolding plain_at plain_content_at
plain_at-found bytes f rest e =
    let a = followed (field_at w8 plain_code BadCode bytes) after_code (f, rest) e in
    let b = followed (field_at w32 plain_id BadId a.rest) (after_id a.value) (f, rest) a.then in
    let c = followed (field_at w16 (λ n. Some n) BadShape b.rest) (after_size a.value b.value) (f, rest) b.then in
    let d = followed (plain_content_at a.value c.value c.rest) (framed a.value b.value) (f, rest) c.then in
    let next : List ℕ → Reader Payload = λ s. placed (plain_carried a.value s) in
    let g = followed (bytes_at c.value c.rest) next (d.value, d.rest) d.read in
    let q = placed-found (plain_carried a.value g.value) g.rest d.value d.rest g.then in
    let at = field-found w8 plain_code BadCode bytes a.value a.rest a.read in
    let bt = field-found w32 plain_id BadId a.rest b.value b.rest b.read in
    let ct = field-found w16 (λ n. Some n) BadShape b.rest c.value c.rest c.read in
    let gt = bytes-found c.value c.rest g.value g.rest g.read in
    let coded = code-found (from_be_bytes w8 at.text) a.value at.makes in
    let ided = id-found (from_be_bytes w32 bt.text) b.value bt.makes in
    let one : at.text ≡ code_number a.value ∷ [] = single at.text (code_number a.value) at.len coded in
    let text = code_number a.value ∷ (bt.text ++ (ct.text ++ g.value)) in
    subst (λ (p : Frame × List ℕ). FoundFrame bytes p.0 p.1) (pair_is (record { code = a.value; id = b.value; origin = origin.ByParity; payload = d.value }, d.rest) (f, rest) d.then)
    (record {
      text = text;
      is = record {
        id = bt.text;
        size = ct.text;
        bytes = g.value;
        is_id = ided.0;
        id_len = bt.len;
        some_id = ided.1;
        is_size = some_is (from_be_bytes w16 ct.text) c.value ct.makes ∙ sym gt.len;
        size_len = ct.len;
        is_origin = refl;
        carries = plain_carried-found a.value g.value d.value (rw coded at at.makes) q.read;
        parts = refl;
      };
      parts = at.parts ∙ ap (λ (s : List ℕ). s ++ a.rest) one
          ∙ ap (λ (s : List ℕ). code_number a.value ∷ s) (bt.parts ∙ ap (λ (s : List ℕ). bt.text ++ s) (ct.parts ∙ ap (λ (s : List ℕ). ct.text ++ s) (gt.parts ∙ ap (λ (s : List ℕ). g.value ++ s) q.after_is)) ∙ simp append_assoc);
    })

record FoundFront (bytes : List ℕ) (f : Frame) (size : ℕ) : Type 0 where
  rest : List ℕ
  found : FoundFrame bytes f rest
  size_is : size ≡ length found.text

front_of-found : (bytes : List ℕ) (r : Reading Frame) (f : Frame) (size : ℕ) → plain_at bytes ≡ r → front_of (length bytes) r ≡ Whole f size → FoundFront bytes f size
front_of-found bytes (Err Ends) f size r e = absurd cc
front_of-found bytes (Err (Breaks left reason)) f size r e = absurd cc
front_of-found bytes (Ok x) f size r e =
    let w = whole_frame x.0 f (length bytes - length x.1) size e in
    let p = plain_at-found bytes f x.1 (r ∙ ap (λ g. read_as g x.1) w.0) in
    let len : length bytes ≡ length p.text + length x.1 = ap length p.parts ∙ length-append p.text x.1 in
    record { rest = x.1; found = p; size_is = omega (arith, w.1, len) }

pub plain_front_spelled : (bytes : List ℕ) (f : Frame) (size : ℕ) → front version.One bytes ≡ Whole f size → PlainFrameIs f (take size bytes)
unfolding front
plain_front_spelled bytes f size e =
    let p = front_of-found bytes (plain_at bytes) f size refl e in
    let front_is : take size bytes ≡ p.found.text = ap (λ (s : List ℕ). take size s) p.found.parts ∙ take_at p.found.text p.rest size (sym p.size_is) in
    subst (λ (s : List ℕ). PlainFrameIs f s) (sym front_is) p.found.is

-- ---- the text is a spelling, and what is spelled fits

record Fitting (f : Frame) : Type 0 where
  code : fits_code version.One f.code f.payload ≡ true
  some_id : 0 < f.id
  id_below : f.id < PLAIN_ID_LIMIT
  origin : fits_origin version.One f.origin ≡ true
  most : length (plain_payload f.payload) ≤ MAX_PLAIN_PAYLOAD

fitting : (f : Frame) → fits version.One f ≡ true → Fitting f
fitting f e =
    let c = fits_code version.One f.code f.payload in
    let i = fits_id version.One f.id in
    let o = fits_origin version.One f.origin in
    let a = and_parts (c && i && o) (fits_length version.One f.payload) e in
    let b = and_parts (c && i) o a.0 in
    let d = and_parts c i b.0 in
    let n = and_parts (nat_lt 0 f.id) (nat_lt f.id PLAIN_ID_LIMIT) d.1 in
    record { code = d.0; some_id = ltb-true 0 f.id n.0; id_below = ltb-true f.id PLAIN_ID_LIMIT n.1; origin = b.1; most = leb-true (length (plain_payload f.payload)) MAX_PLAIN_PAYLOAD a.1 }

by_parity : (o : Origin) → fits_origin version.One o ≡ true → o ≡ origin.ByParity
by_parity origin.ByParity e = refl
by_parity origin.Sender e = absurd cc
by_parity origin.Receiver e = absurd cc

carries-text : (c : Code) (p : Payload) → fits_code version.One c p ≡ true → CarriesPlain c p (plain_payload p)
carries-text code.Offer (payload.Offer name None) fit = (refl, (and_parts (is_utf8 name) true fit).0)
carries-text code.Offer (payload.Offer name (Some window)) fit = let f = (and_parts (is_utf8 name) false fit).1 in absurd cc
carries-text code.OfferAccepted (payload.Accepted None) fit = tt
carries-text code.Content (payload.Content bytes) fit = refl
carries-text code.ContentWritingCompleted payload.Nothing fit = tt
carries-text code.ChannelTerminated payload.Nothing fit = tt
carries-text code.ContentProcessed (payload.Processed count) fit = absurd cc
carries-text c p fit = absurd cc

pub plain_text_is : (f : Frame) → fits version.One f ≡ true → PlainFrameIs f (text version.One f)
plain_text_is f e =
    let q = fitting f e in
    record {
      id = to_be_bytes w32 f.id;
      size = to_be_bytes w16 (length (plain_payload f.payload));
      bytes = plain_payload f.payload;
      is_id = from_be_bytes-to_be_bytes_4 f.id (omega (arith, q.id_below));
      id_len = refl;
      some_id = q.some_id;
      is_size = from_be_bytes-to_be_bytes_2 (length (plain_payload f.payload)) (omega (arith, q.most));
      size_len = refl;
      is_origin = by_parity f.origin q.origin;
      carries = carries-text f.code f.payload q.code;
      parts = refl;
    }

carries-fits : (c : Code) (p : Payload) (bytes : List ℕ) → CarriesPlain c p bytes → (fits_code version.One c p ≡ true) × (length (plain_payload p) ≤ length bytes)
carries-fits code.Offer (payload.Offer name None) bytes is = (and_from (is_utf8 name) true is.1 refl, omega (arith, ap length is.0))
carries-fits code.OfferAccepted (payload.Accepted None) bytes is = (refl, omega arith)
carries-fits code.Content (payload.Content content) bytes is = (refl, omega (arith, ap length is))
carries-fits code.ContentWritingCompleted payload.Nothing bytes is = (refl, omega arith)
carries-fits code.ChannelTerminated payload.Nothing bytes is = (refl, omega arith)
carries-fits c p bytes is = absurd is

origin-fits : (o : Origin) → o ≡ origin.ByParity → fits_origin version.One o ≡ true
origin-fits o e = rw e refl

pub spelled_plain_fits : (f : Frame) (b : List ℕ) → AreBytes b → PlainFrameIs f b → fits version.One f ≡ true
spelled_plain_fits f b h is =
    let c = fits_code version.One f.code f.payload in
    let i = fits_id version.One f.id in
    let o = fits_origin version.One f.origin in
    let s = is.size ++ is.bytes in
    let h1 : AreBytes (is.id ++ s) = bytes_right (code_number f.code ∷ []) (is.id ++ s) (subst AreBytes is.parts h) in
    let below : from_be_bytes w32 is.id < PLAIN_ID_LIMIT = below-4 is.id (bytes_left is.id s h1) in
    let few : from_be_bytes w16 is.size < 0x10000 = below-2 is.size (bytes_left is.size is.bytes (bytes_right is.id s h1)) in
    let p = carries-fits f.code f.payload is.bytes is.carries in
    let id_below : f.id < PLAIN_ID_LIMIT = omega (arith, below, is.is_id) in
    let most : length (plain_payload f.payload) ≤ MAX_PLAIN_PAYLOAD = omega (arith, few, is.is_size, p.1) in
    and_from (c && i && o) (fits_length version.One f.payload)
    (and_from (c && i) o
    (and_from c i p.0 (and_from (nat_lt 0 f.id) (nat_lt f.id PLAIN_ID_LIMIT) (lt-ltb 0 f.id is.some_id) (lt-ltb f.id PLAIN_ID_LIMIT id_below)))
    (origin-fits f.origin is.is_origin))
    (le-leb (length (plain_payload f.payload)) MAX_PLAIN_PAYLOAD most)

-- no spelling is shorter than the text
pub plain_text-shortest : (f : Frame) (b : List ℕ) → PlainFrameIs f b → length (text version.One f) ≤ length b
plain_text-shortest f b is =
    let p = carries-fits f.code f.payload is.bytes is.carries in
    let size = to_be_bytes w16 (length (plain_payload f.payload)) in
    let mine : length (text version.One f) ≡ 7 + length (plain_payload f.payload) = length-append ((code_number f.code ∷ to_be_bytes w32 f.id) ++ size) (plain_payload f.payload) in
    let given : length b ≡ length (code_number f.code ∷ (is.id ++ (is.size ++ is.bytes))) = ap length is.parts in
    omega (arith, p.1, mine, given, length-append is.id (is.size ++ is.bytes), length-append is.size is.bytes, is.id_len, is.size_len)
